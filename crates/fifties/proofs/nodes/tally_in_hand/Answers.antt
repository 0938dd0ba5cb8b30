-- `fifties::nodes::tally_in_hand` meets its contract. Each file's tally, in the order of their numbers.
-- Assumes nothing.
use native.Mathlib.Omega.{arith}
use Rattle.record.specs.declared.kind.Kind.TheVariants.{ObPun, ObLin, Tramo}
use Rattle.fifties.proofs.FiftyTallies.{all-tallies}
use Rattle.fifties.proofs.nodes.tally_in_hand.Goals as goal

pub tally_points-points-requires : goal.tally_points-points-requires
tally_points-points-requires g c = let p = c.requires in
    let r = c.args.room.now.long in
    (p.2, p.3 ObPun, omega (arith, r), omega (arith, r), omega (arith, r), omega (arith, r), omega (arith, c.args.nodes.now.ids.ready.small))

pub tally_objects-objects-requires : goal.tally_objects-objects-requires
tally_objects-objects-requires g c = let p = c.requires in
    let r = c.args.room.now in (
      omega (arith, p.3 ObLin, r.long, c.tally_points-points.auto.wanted),
      omega (arith, p.3 ObLin, r.long),
      omega (arith, p.3 ObLin, r.sizes),
      omega (arith, p.3 ObLin, r.long, c.tally_points-points.auto.marks),
      omega (arith, p.3 Tramo, r.long, c.tally_points-points.auto.xs),
    )

pub returns : goal.returns
returns g c = let p = c.requires in
    all-tallies _ c.no_tally.ensures c.tally_points-points.ensures.value c.no_tally-2.ensures c.tally_objects-objects.ensures p.0 p.1 c.tally_nodes-nodes_tally.ensures c.no_tally-3.ensures
