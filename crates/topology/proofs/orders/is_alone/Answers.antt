-- `topology::orders::is_alone` meets its contract. The order is 1 or another.
-- Assumes nothing.
use Rattle.topology.proofs.OrderRules.{alone-one, alone-other}
use Rattle.topology.proofs.orders.is_alone.Goals as goal

pub returns-then-x-eq1 : goal.returns-then-x-eq1
returns-then-x-eq1 c = alone-one _ _ _ c.if-x-eq1.true c.is_there.ensures

pub returns : goal.returns
returns c = alone-other _ _ _ c.if-x-eq1.false
