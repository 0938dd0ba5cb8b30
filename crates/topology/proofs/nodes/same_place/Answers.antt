-- `topology::nodes::same_place` meets its contract.
-- Assumes nothing.
use Rattle.topology.specs.Rules.{same_place}
use Rattle.topology.proofs.nodes.same_place.Goals as goal

pub returns : goal.returns
unfolding same_place
returns c = simp (c.z_at-2.ensures.value, c.z_at.ensures.value, c.y_at-2.ensures.value, c.y_at.ensures.value, c.x_at-2.ensures.value, c.x_at.ensures.value)
