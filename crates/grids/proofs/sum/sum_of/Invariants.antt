-- `grids::sum::sum_of` meets its contract.
-- Assumes nothing.
use Rattle.grids.proofs.FillLaws.{Filling}
use Rattle.grids.proofs.SumLaws.{sum_cell}
use Rattle.grids.proofs.sum.sum_of.Given as goal

abbrev pub invariant-loop-g : goal.invariant-loop-g
invariant-loop-g l = Filling (sum_cell l.a l.b) l.sum l.i l.g

abbrev pub invariant-loop-i : goal.invariant-loop-i
invariant-loop-i l = Filling (sum_cell l.a l.b) l.sum l.i 0
