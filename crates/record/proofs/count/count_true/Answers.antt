-- `record::count::count_true` meets its contract. The loop's invariant: `many` of the tests passed hold.
-- Assumes nothing.
use mathlib.Core.Path.{refl, ◌∙◌}
use mathlib.Core.Bool.{false}
use lib.ListN.{get_or}
use native.Mathlib.Omega.{arith}
use Rattle.laws.specs.Count.{how_many}
use Rattle.laws.proofs.CountLaws.{count-more, bit-most}
use Rattle.record.proofs.CountingLaws.{bool-bit}
use Rattle.record.proofs.count.count_true.Goals as goal

pub loop-holds-init : goal.loop-holds-init
unfolding how_many
loop-holds-init c = (omega arith, refl)

pub loop-holds-preserved : goal.loop-holds-preserved
loop-holds-preserved c = let l = c.loop-holds in
    let e = c.from-many.ensures ∙ bool-bit _ in
    (omega (arith, e, bit-most (get_or c.args.t.now l.holds-index false)), rw (count-more, ← l.invariant.1, e))
