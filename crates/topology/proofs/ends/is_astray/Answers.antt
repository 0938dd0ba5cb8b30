-- `topology::ends::is_astray` meets its contract. It names no node, or the node is looked up.
-- Assumes nothing.
use Rattle.topology.proofs.EndLaws.{astray-free, astray-named}
use Rattle.topology.proofs.ends.is_astray.Goals as goal

pub returns-then-wanted-eq0 : goal.returns-then-wanted-eq0
returns-then-wanted-eq0 c = astray-free _ _ _ _ c.if-wanted-eq0.true

pub returns : goal.returns
returns c = astray-named _ _ _ _ c.if-wanted-eq0.false c.node_at.ensures
