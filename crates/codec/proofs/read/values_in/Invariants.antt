-- `codec::read::values_in` meets its contract.
-- Assumes nothing.
use mathlib.Core.Path.{◌≡◌}
use lib.ListN.{length, take}
use Rattle.laws.specs.Row.{row}
use Rattle.codec.proofs.ReadLaws.{value_no}
use Rattle.codec.proofs.read.values_in.Given as goal

abbrev pub invariant-loop-i : goal.invariant-loop-i
invariant-loop-i l = (length l.at ≡ 14) × (take l.i l.at ≡ row (value_no l.rec l.k) l.i)
