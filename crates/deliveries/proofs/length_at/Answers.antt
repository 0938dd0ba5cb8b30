-- `deliveries::length_at` is safe and meets its contract.
-- Assumes nothing.
use native.Mathlib.Omega.{arith}
use Rattle.deliveries.proofs.LengthLaws.{length-small}
use Rattle.deliveries.proofs.length_at.Goals as goal

pub returns-in_default-clause-few : goal.returns-in_default-clause-few
returns-in_default-clause-few c = let l = c.loop-i in length-small l.n l.i (omega arith, l.invariant)
