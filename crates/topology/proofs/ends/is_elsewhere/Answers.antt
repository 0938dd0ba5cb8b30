-- `topology::ends::is_elsewhere` meets its contract. A vertex that is found decides where it meets the node, and where keys differ; else the scan does.
-- Assumes nothing.
use native.Mathlib.Omega.{arith}
use Rattle.topology.proofs.EndLaws.{elsewhere-none, elsewhere-found, elsewhere-met, elsewhere-apart}
use Rattle.topology.proofs.LentLaws.{lent_at}
use Rattle.topology.proofs.SpotLaws.{x-stands, y-stands}
use Rattle.topology.proofs.ends.is_elsewhere.Goals as goal

pub offset_bounds-vertices-j : goal.offset_bounds-vertices-j
offset_bounds-vertices-j c = let p = c.args.vertices.now in
    omega (arith, (lent_at p.keyed _ c.look-found.ensures.sought c.in-Some.is).0, p.placed.x.small)

pub bounds-vertices-j : goal.bounds-vertices-j
bounds-vertices-j c = let p = c.args.vertices.now in
    x-stands p.placed (lent_at p.keyed _ c.look-found.ensures.sought c.in-Some.is).0

pub offset_bounds-vertices-j-in-Some : goal.offset_bounds-vertices-j-in-Some
offset_bounds-vertices-j-in-Some c = let p = c.args.vertices.now in
    omega (arith, (lent_at p.keyed _ c.look-found.ensures.sought c.in-Some.is).0, p.placed.x.small)

pub bounds-vertices-j-in-Some : goal.bounds-vertices-j-in-Some
bounds-vertices-j-in-Some c = let p = c.args.vertices.now in
    y-stands p.placed (lent_at p.keyed _ c.look-found.ensures.sought c.in-Some.is).0

pub returns-then-node_at : goal.returns-then-node_at
returns-then-node_at c = let p = c.args.vertices.now in
    let said = c.look-found.ensures.sought in
    let here = c.in-Some.is in
    let l = (lent_at p.keyed _ said here).0 in
    elsewhere-met _ _ _ _ p.keyed said here (p.placed.x.holds _ l) (p.placed.y.holds _ l) c.node_at.ensures c.if-node_at.true

pub returns-then-vertices : goal.returns-then-vertices
returns-then-vertices c = let p = c.args.vertices.now in
    let said = c.look-found.ensures.sought in
    let here = c.in-Some.is in
    let l = (lent_at p.keyed _ said here).0 in
    elsewhere-apart _ _ _ _ p.keyed said (p.keys.ready.apart c.if-vertices.true) here (p.placed.x.holds _ l) (p.placed.y.holds _ l) c.node_at.ensures c.if-node_at.false

pub returns-in-None : goal.returns-in-None
returns-in-None c = elsewhere-none _ _ _ _ c.args.vertices.now.keyed c.look-found.ensures.sought c.in-None.is

pub returns-else-vertices : goal.returns-else-vertices
returns-else-vertices c = elsewhere-found _ _ _ _ c.args.vertices.now.keyed c.look-found.ensures.sought c.in-Some.is c.scan_meets.ensures
