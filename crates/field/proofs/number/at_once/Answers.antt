-- `field::number::at_once` meets its contract: low is at most each byte passed; sum is that of the bytes passed, and least what as many zeros
-- sum up to.
-- Assumes nothing.
use mathlib.Core.Path.{◌≡◌}
use native.Mathlib.Omega.{arith}
use Rattle.field.proofs.AtOnceLaws.{summed-none, summed-more, at_once}
use Rattle.field.proofs.number.at_once.Goals as goal

pub loop-k-init : goal.loop-k-init
loop-k-init g c = summed-none _ _

pub loop-k-preserved : goal.loop-k-preserved
loop-k-preserved g c = rw c.from.ensures (summed-more c.loop-k.invariant (omega (arith, c.type_inv.t c.loop-k.k)))

pub returns-else-low-lt48 : goal.returns-else-low-lt48
returns-else-low-lt48 g c =
    let e : c.loop-k.k ≡ g.row.W = omega arith in
    at_once (rw e at c.loop-k.invariant) c.requires.width c.requires.few.0 c.requires.few.1 c.if-low-lt48.false
