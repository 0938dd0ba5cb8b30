-- `record::count::count_record` meets its contract. The loop's invariant: the first `f` places have `many` breaks.
-- Assumes nothing.
use Prim.Native.Nat.{◌≤◌, ◌*◌}
use mathlib.Core.Path.{◌≡◌}
use Rattle.laws.specs.Count.{sum_of}
use Rattle.record.specs.machinery.Counts.{place_many}
use Rattle.record.proofs.count.count_record.Given as goal

abbrev pub invariant-loop-f : goal.invariant-loop-f
invariant-loop-f l = (l.many ≤ l.f * 6) × (l.many ≡ sum_of (place_many l.rec l.k) l.f)
