-- `record::count::count_true` meets its contract. The loop's invariant: `many` of the tests passed hold.
-- Assumes nothing.
use Prim.Native.Nat.{◌≤◌}
use mathlib.Core.Bool.{false}
use mathlib.Core.Path.{◌≡◌}
use lib.ListN.{get_or}
use Rattle.laws.specs.Count.{how_many}
use Rattle.record.proofs.count.count_true.Given as goal

abbrev pub invariant-loop-holds : goal.invariant-loop-holds
invariant-loop-holds l = (l.many ≤ l.holds-index) × (l.many ≡ how_many (λ u. get_or l.t u false) l.holds-index)
