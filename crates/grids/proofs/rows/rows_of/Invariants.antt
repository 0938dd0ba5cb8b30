-- `grids::rows::rows_of` meets its contract.
-- Assumes nothing.
use Rattle.grids.proofs.RowsLaws.{Writing}
use Rattle.grids.proofs.rows.rows_of.Given as goal

abbrev pub invariant-loop-g : goal.invariant-loop-g
invariant-loop-g l = Writing l.grid l.bytes l.at l.i l.g

abbrev pub invariant-loop-i : goal.invariant-loop-i
invariant-loop-i l = Writing l.grid l.bytes l.at l.i 0
