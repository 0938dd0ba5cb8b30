-- `canopyrail::grid::canopyrail_grid` meets its contract.
-- Assumes nothing.
use mathlib.Core.Path.{sym}
use native.Mathlib.Omega.{arith}
use borrow.Author.Tests.{eqb-true}
use Rattle.canopyrail.proofs.CellLaws.{counts-few, counts-put, none-grid}
use Rattle.canopyrail.proofs.grid.canopyrail_grid.Goals as goal

pub returns-then-cells-lt-CELLS : goal.returns-then-cells-lt-CELLS
returns-then-cells-lt-CELLS c = counts-few _ _ c.if-cells-lt-CELLS.true c.refusal.ensures

pub returns-then-is_empty : goal.returns-then-is_empty
returns-then-is_empty c = let a = c.args in counts-put _ a.cells.now (omega arith) (none-grid (λ x. x.now) a.files.now (eqb-true _ 0 (sym c.if-is_empty.ensures))) c.put_grid.ensures
