-- `grids::sum::sum_of` meets its contract.
-- Assumes nothing.
use mathlib.Core.Path.{refl}
use native.Mathlib.Omega.{arith}
use Rattle.grids.specs.Sum.{cell_at, plus}
use Rattle.grids.proofs.FillLaws.{fill-cell, fill_end}
use Rattle.grids.proofs.SumLaws.{fits-at}
use Rattle.grids.proofs.sum.sum_of.Goals as goal

pub overflow_add-sum : goal.overflow_add-sum
unfolding cell_at
overflow_add-sum c = omega (arith, fits-at c.args.a c.args.b c.loop-i.i c.loop-g.g c.requires (omega arith) (omega arith))

pub loop-g-preserved : goal.loop-g-preserved
unfolding cell_at
loop-g-preserved c = fill-cell (omega arith) (omega arith) c.loop-g.invariant refl

pub returns : goal.returns
unfolding plus
returns c = fill_end (omega arith) c.loop-i.invariant
