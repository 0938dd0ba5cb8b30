-- `record::count::count_fields` meets its contract. The loop's invariant: the first `i` records have `many` breaks.
-- Assumes nothing.
use Prim.Native.Nat.{◌≤◌, ◌*◌}
use mathlib.Core.Path.{◌≡◌}
use Rattle.laws.specs.Count.{sum_of}
use Rattle.record.specs.Cut.{record_of}
use Rattle.record.specs.machinery.Counts.{record_many}
use Rattle.record.proofs.count.count_fields.Given as goal

abbrev pub invariant-loop-i : goal.invariant-loop-i
invariant-loop-i l = (l.many ≤ l.i * 90) × (l.many ≡ sum_of (λ j. record_many (record_of l.s l.k j) l.k) l.i)
