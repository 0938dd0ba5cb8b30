-- `record::count::count_fields` meets its contract. The loop's invariant: the first `i` records have `many` breaks.
-- Assumes nothing.
use mathlib.Core.Path.{refl}
use native.Mathlib.Omega.{arith}
use Rattle.laws.specs.Count.{sum_of}
use Rattle.laws.proofs.SumLaws.{sum_more, sum-end}
use Rattle.record.specs.machinery.Counts.{fields_many}
use Rattle.record.proofs.count.count_fields.Goals as goal

pub loop-i-init : goal.loop-i-init
unfolding sum_of
loop-i-init c = (omega arith, refl)

pub loop-i-preserved : goal.loop-i-preserved
loop-i-preserved c = let l = c.loop-i in (
  omega (arith, l.invariant.0, c.count_record-many.ensures.most),
  rw (sum_more, ← l.invariant.1, c.count_record-many.ensures.value, c.record_bytes.ensures),
)

pub returns : goal.returns
unfolding fields_many
returns c = let l = c.loop-i in
    sum-end _ {i = l.i} (omega (arith, c.rows-i-end.ensures.value)) (omega (arith, c.rows-i-end.ensures.value)) l.invariant.1
