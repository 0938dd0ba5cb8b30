-- `deliveries::length_at` is safe and meets its contract. The loop's invariant: a number of i digits.
-- Assumes nothing.
use Prim.Native.Nat.{◌^◌, ◌<◌}
use Rattle.deliveries.proofs.length_at.Given as goal

abbrev pub invariant-loop-i : goal.invariant-loop-i
invariant-loop-i l = l.n < 10 ^ l.i
