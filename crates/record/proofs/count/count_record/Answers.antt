-- `record::count::count_record` meets its contract. The loop's invariant: the first `f` places have `many` breaks.
-- Assumes nothing.
use Prim.Native.Nat.{◌+◌}
use mathlib.Core.Path.{refl}
use native.Mathlib.Omega.{arith}
use Rattle.laws.specs.Count.{sum_of}
use Rattle.laws.proofs.SumLaws.{sum_more, sum-end}
use Rattle.record.specs.machinery.Counts.{record_many}
use Rattle.record.proofs.CountingLaws.{fine-many}
use Rattle.record.proofs.count.count_record.Goals as goal

pub returns-then-plainly_lawful-clause-value : goal.returns-then-plainly_lawful-clause-value
returns-then-plainly_lawful-clause-value c = let a = c.args in fine-many a.rec.now a.k 0 (c.plainly_lawful.ensures c.if-plainly_lawful.true 0)

pub loop-f-init : goal.loop-f-init
unfolding sum_of
loop-f-init c = (omega arith, refl)

pub loop-f-preserved : goal.loop-f-preserved
loop-f-preserved c = let l = c.loop-f in (
  omega (arith, l.invariant.0, c.count_place-many.ensures.most),
  rw (sum_more, ← l.invariant.1, c.count_place-many.ensures.value),
)

pub returns-else-plainly_lawful-2-clause-value : goal.returns-else-plainly_lawful-2-clause-value
unfolding record_many
returns-else-plainly_lawful-2-clause-value c = let l = c.loop-f in
    sum-end _ {i = l.f + 1} (omega arith) (omega arith) (rw (sum_more, ← l.invariant.1, c.count_place-many.ensures.value))
