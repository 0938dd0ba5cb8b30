-- `deliveries::after_lengths` is safe and answers a later place: a length takes a byte to eight.
-- Assumes nothing.
use Prim.Native.Nat.{◌+◌, ◌*◌, ◌≤◌}
use Rattle.deliveries.proofs.after_lengths.Given as goal

abbrev pub invariant-loop : goal.invariant-loop
invariant-loop l = (l.at + l.counter ≤ l.next) × (l.next ≤ l.at + 8 * l.counter)
