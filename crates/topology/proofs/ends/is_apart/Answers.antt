-- `topology::ends::is_apart` meets its contract. An end that is gone is nowhere; another's vertex is looked up.
-- Assumes nothing.
use Rattle.topology.proofs.EndLaws.{apart-gone, apart-there}
use Rattle.topology.proofs.ends.is_apart.Goals as goal

pub returns-then-is_gone : goal.returns-then-is_gone
returns-then-is_gone c = apart-gone _ _ _ _ _ c.is_gone.ensures c.if-is_gone.true

pub returns : goal.returns
returns c = apart-there _ _ _ _ _ c.is_gone.ensures c.if-is_gone.false c.key.ensures c.is_elsewhere.ensures
