-- `field::number::get_number` meets its contract. The loop's invariant: n is the number of the k bytes passed, and is small.
-- Assumes nothing.
use Prim.Native.Nat.{◌≤◌, ◌+◌, ◌*◌, ◌^◌}
use mathlib.Core.Path.{◌≡◌}
use Rattle.field.specs.Digits.{digits_number}
use Rattle.field.proofs.number.get_number.Given as goal

abbrev pub invariant-loop-k : goal.invariant-loop-k
invariant-loop-k l = (l.n ≡ digits_number l.k l.part) × (l.n + 23 ≤ 23 * 10 ^ l.k)
