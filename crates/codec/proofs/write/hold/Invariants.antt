-- `codec::write::hold` meets its contract.
-- Assumes nothing.
use Rattle.codec.proofs.StoreLaws.{Laying}
use Prim.Native.Nat.{ℕ, ◌+◌, ◌<◌}
use mathlib.Core.Path.{◌≡◌}
use lib.ListN.{length}
use Rattle.record.specs.Table.{widest}
use Rattle.codec.specs.Values.{value_at}
use Rattle.codec.proofs.write.hold.Given as goal

abbrev pub invariant-loop-i : goal.invariant-loop-i
invariant-loop-i l = Laying l.k l.v l.initial.numbers l.initial.coordinates l.initial.lengths l.initial.texts l.numbers l.coordinates l.lengths l.texts l.i × ((j : ℕ) → j < l.i → length (value_at l.v (j + 1)).text ≡ widest)
