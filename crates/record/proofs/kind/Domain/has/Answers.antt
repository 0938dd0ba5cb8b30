-- `record::kind::Domain::has` meets its contract.
-- Assumes nothing.
use Rattle.record.specs.Rules.{in_domain}
use Rattle.record.proofs.kind.Domain.has.Goals as goal

pub returns-then-is_n : goal.returns-then-is_n
unfolding in_domain
returns-then-is_n c = simp (c.has_number.ensures, c.get_number.ensures.value, ← c.is_n.ensures, c.if-is_n.true)

pub returns-else-is_n : goal.returns-else-is_n
unfolding in_domain
returns-else-is_n c = simp (c.has_word.ensures, ← c.is_n.ensures, c.if-is_n.false)
