-- `topology::orders::is_gap` meets its contract. The order is 0, over 1 or 1.
-- Assumes nothing.
use Rattle.topology.proofs.OrderRules.{gap-zero, gap-over, gap-one}
use Rattle.topology.proofs.orders.is_gap.Goals as goal

pub returns-then-x-eq0 : goal.returns-then-x-eq0
returns-then-x-eq0 c = gap-zero _ _ _ c.if-x-eq0.true

pub returns-then-x-gt1 : goal.returns-then-x-gt1
returns-then-x-gt1 c = gap-over _ _ _ c.if-x-eq0.false c.if-x-gt1.true c.is_there.ensures

pub returns : goal.returns
returns c = gap-one _ _ _ c.if-x-eq0.false c.if-x-gt1.false
