-- `field::number::put_number` meets its contract. The loop's invariant: the digits of what is left, before the digits that stand from k on, are the digits of n.
-- Assumes nothing.
use mathlib.Core.Path.{◌≡◌, ◌∙◌}
use native.Mathlib.Omega.{arith}
use Rattle.field.specs.Digits.{digits}
use Rattle.field.proofs.NumberLoops.{digits-turn}
use Rattle.field.proofs.number.put_number.Goals as goal

pub loop-k-preserved : goal.loop-k-preserved
loop-k-preserved c = let l = c.loop-k in
    digits-turn l.k l.left l.part (omega arith) (omega arith) ∙ l.invariant

pub returns : goal.returns
unfolding digits
returns c = let e : c.loop-k.k ≡ 0 = omega arith in
    rw e at c.loop-k.invariant
