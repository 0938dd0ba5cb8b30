-- `grids::sum::too_many` meets its contract.
-- Assumes nothing.
use mathlib.Core.Path.{sym, ◌∙◌}
use native.Mathlib.Omega.{arith}
use borrow.Author.Tests.{ltb-true}
use Rattle.laws.proofs.FindLaws.{any-start, any_next, any-end}
use Rattle.grids.specs.Sum.{most_in_cell, cell_at, too_many}
use Rattle.grids.proofs.SumLaws.{over-is}
use Rattle.grids.proofs.sum.too_many.Goals as goal

pub loop-i-init : goal.loop-i-init
loop-i-init c = any-start _

pub loop-g-init : goal.loop-g-init
loop-g-init c = any-start _

pub returns-then-is_over : goal.returns-then-is_over
unfolding cell_at
returns-then-is_over c =
    sym (over-is c.args.a c.args.b c.loop-i.i c.loop-g.g (omega arith) (omega arith) (ltb-true most_in_cell _ (sym c.is_over.ensures ∙ c.if-is_over.true)))

pub loop-g-preserved : goal.loop-g-preserved
unfolding cell_at
loop-g-preserved c = any_next _ c.loop-g.invariant (sym c.is_over.ensures ∙ c.if-is_over.false)

pub loop-i-preserved : goal.loop-i-preserved
loop-i-preserved c = any_next _ c.loop-i.invariant (any-end _ (omega arith) (omega arith) c.loop-g.invariant)

pub returns : goal.returns
unfolding too_many
returns c = sym (any-end _ (omega arith) (omega arith) c.loop-i.invariant)
