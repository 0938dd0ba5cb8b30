-- `index::way::Lookup::of_none` meets its contract. Of no keys each has its place, and no two are equal.
-- Assumes nothing.
use mathlib.Core.Path.{refl}
use native.Mathlib.Omega.{arith}
use Rattle.laws.proofs.FindLaws.{index-start}
use Rattle.index.specs.Way.{Complete}
use Rattle.index.proofs.WayLaws.{way-hinted}
use Rattle.index.proofs.way.Lookup.of_none.Goals as goal

pub invariant_of-result : goal.invariant_of-result
unfolding Complete
invariant_of-result c =
    record { ready = way-hinted c.args.keys.now c.args.order.now c.args.hints.now (omega arith) (omega arith) refl (λ i l. absurd (omega arith)) (λ _. index-start _) }
