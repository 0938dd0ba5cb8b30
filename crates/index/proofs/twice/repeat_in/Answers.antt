-- `index::twice::repeat_in` meets its contract. The invariants: none of the first `r` equals an earlier one; and none of the first `e` equals the key in hand.
-- Nothing is found while the scan goes on.
-- Assumes nothing.
use Rattle.laws.proofs.FindLaws.{index-start, index-more, index-here, index-end, any_here}
use Rattle.index.specs.Keys.{found_of}
use Rattle.index.proofs.TwiceLaws.{scanned, span-under}
use mathlib.Core.Path.{refl, sym, ap, ◌∙◌}
use native.Mathlib.Omega.{arith}
use borrow.Author.Tests.{eq-eqb, ne_eqb}
use Rattle.index.proofs.twice.repeat_in.Goals as goal

pub later-init : goal.later-init
later-init c = (index-start _, refl)

pub loop-e-init : goal.loop-e-init
loop-e-init c = (index-start _, c.later.invariant.1)

pub loop-e-preserved : goal.loop-e-preserved
loop-e-preserved c = (index-more _ c.loop-e.invariant.0 (ne_eqb _ _ c.if-keys-e.false), c.loop-e.invariant.1)

pub later-preserved : goal.later-preserved
later-preserved c = (index-more _ c.later.invariant.0 (scanned c.args.keys.now c.later.r _ c.requires.2 c.later-test.true c.span-end.ensures (index-end _ _ refl c.loop-e.auto.e-end c.loop-e-test.false c.loop-e.invariant.0)), c.loop-e.invariant.1)

pub returns-after-later : goal.returns-after-later
returns-after-later c = c.later.invariant.1 ∙ ap found_of (sym (index-end _ _ refl c.later.auto.r-end c.later-test.false c.later.invariant.0))

pub returns-then-keys-e : goal.returns-then-keys-e
returns-then-keys-e c = ap found_of (sym (index-here _ _ c.later.invariant.0 c.later-test.true (any_here _ _ c.loop-e.invariant.0 (omega (arith, span-under c.args.marks.now c.later.r c.span-end.ensures)) (eq-eqb _ _ c.if-keys-e.true))))
