-- `record::kind::Domain::has_word` meets its contract.
-- Assumes nothing.
use Rattle.record.specs.Rules.{word_within}
use Rattle.record.proofs.kind.Domain.has_word.Goals as goal

pub returns-in-Any : goal.returns-in-Any
unfolding word_within
returns-in-Any c = simp c.in-Any.is

pub returns-in-ObjectType : goal.returns-in-ObjectType
unfolding word_within
returns-in-ObjectType c = simp (c.in-ObjectType.is, c.byte-b.ensures)

pub returns-in-PlusMinus : goal.returns-in-PlusMinus
unfolding word_within
returns-in-PlusMinus c = simp (c.in-PlusMinus.is, c.is_sign_byte.ensures, c.byte-b.ensures)

pub returns-in-NodeType : goal.returns-in-NodeType
unfolding word_within
returns-in-NodeType c = simp (c.in-NodeType.is, c.byte-b.ensures)

pub returns-in-Orientation : goal.returns-in-Orientation
unfolding word_within
returns-in-Orientation c = simp c.in-Orientation.is

pub returns-in-Justification : goal.returns-in-Justification
unfolding word_within
returns-in-Justification c = simp c.in-Justification.is
