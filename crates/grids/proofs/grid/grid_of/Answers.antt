-- `grids::grid::grid_of` meets its contract.
-- Assumes nothing.
use Prim.Native.Nat.{ℕ}
use mathlib.Core.List.{List}
use mathlib.Core.Path.{sym, ap, ◌∙◌}
use native.Mathlib.Omega.{arith}
use lib.Dec.{ltb}
use lib.ListN.{get_or}
use Rattle.laws.specs.Find.{any}
use Rattle.record.specs.Table.{file_count}
use Rattle.grids.specs.machinery.Counted.{column_of}
use Rattle.grids.proofs.GridLaws.{quiet-start, quiet-more, quiet-here, quiet-end}
use Rattle.grids.proofs.grid.grid_of.Goals as goal

pub loop-t-init : goal.loop-t-init
loop-t-init c = quiet-start _

pub returns-then-has_any : goal.returns-then-has_any
returns-then-has_any c = let l = c.loop-t in
    let e = c.count_ten-counts.ensures in
    c.column.ensures
    ∙ ap (column_of l.t) e
    ∙ quiet-here _ l.invariant (omega arith)
    (ap (λ (counts : List ℕ). any (λ i. ltb 0 (get_or counts i 0)) file_count) (sym e) ∙ sym c.has_any.ensures ∙ c.if-has_any.true)

pub loop-t-preserved : goal.loop-t-preserved
loop-t-preserved c = let l = c.loop-t in
    let e = c.count_ten-counts.ensures in
    quiet-more _ l.invariant (omega arith)
    (ap (λ (counts : List ℕ). any (λ i. ltb 0 (get_or counts i 0)) file_count) (sym e) ∙ sym c.has_any.ensures ∙ c.if-has_any.false)

pub returns : goal.returns
returns c = quiet-end _ c.loop-t.invariant (omega arith)
