-- `topology::places::node_at` meets its contract. No node has a name that was not found. The node found by it may be there; where ids differ it is the only one.
-- Assumes nothing.
use native.Mathlib.Omega.{arith}
use Rattle.topology.specs.Rules.{node_in}
use Rattle.topology.proofs.LentLaws.{lent_at, lent_none, lent-here, lent-apart}
use Rattle.topology.proofs.SpotLaws.{x-stands, y-stands, place-stands}
use Rattle.topology.proofs.places.node_at.Goals as goal

pub offset_bounds-nodes-j : goal.offset_bounds-nodes-j
offset_bounds-nodes-j c = let p = c.args.nodes.now in
    omega (arith, x-stands p.placed (lent_at p.named _ c.requires c.in-Some.is).0)

pub bounds-nodes-j : goal.bounds-nodes-j
bounds-nodes-j c = let p = c.args.nodes.now in
    x-stands p.placed (lent_at p.named _ c.requires c.in-Some.is).0

pub offset_bounds-nodes-j-in-Some : goal.offset_bounds-nodes-j-in-Some
offset_bounds-nodes-j-in-Some c = let p = c.args.nodes.now in
    omega (arith, y-stands p.placed (lent_at p.named _ c.requires c.in-Some.is).0)

pub bounds-nodes-j-in-Some : goal.bounds-nodes-j-in-Some
bounds-nodes-j-in-Some c = let p = c.args.nodes.now in
    y-stands p.placed (lent_at p.named _ c.requires c.in-Some.is).0

pub returns-then-nodes-j : goal.returns-then-nodes-j
unfolding node_in
returns-then-nodes-j c = let p = c.args.nodes.now in
    let here = c.in-Some.is in
    lent-here p.named _ c.requires _ here (place-stands p.placed (lent_at p.named _ c.requires here).0 _ _ c.if-nodes-j.true)

pub returns-then-nodes : goal.returns-then-nodes
unfolding node_in
returns-then-nodes c = let p = c.args.nodes.now in
    let here = c.in-Some.is in
    lent-apart p.named _ c.requires _ (p.ids.ready.apart c.if-nodes.true) here (place-stands p.placed (lent_at p.named _ c.requires here).0 _ _ c.if-nodes-j.false)

pub returns-in-None : goal.returns-in-None
unfolding node_in
returns-in-None c = lent_none c.args.nodes.now.named _ c.requires _ c.in-None.is
