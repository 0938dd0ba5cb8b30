-- `record::kind::Domain::has_number` meets its contract.
-- Assumes nothing.
use Rattle.record.specs.Rules.{number_within}
use Rattle.record.proofs.kind.Domain.has_number.Goals as goal

pub returns-in-Any : goal.returns-in-Any
unfolding number_within
returns-in-Any c = simp c.in-Any.is

pub returns-in-ObjectType : goal.returns-in-ObjectType
unfolding number_within
returns-in-ObjectType c = simp c.in-ObjectType.is

pub returns-in-PlusMinus : goal.returns-in-PlusMinus
unfolding number_within
returns-in-PlusMinus c = simp c.in-PlusMinus.is

pub returns-in-NodeType : goal.returns-in-NodeType
unfolding number_within
returns-in-NodeType c = simp c.in-NodeType.is

pub returns-in-Orientation : goal.returns-in-Orientation
unfolding number_within
returns-in-Orientation c = simp c.in-Orientation.is

pub returns-in-Justification : goal.returns-in-Justification
unfolding number_within
returns-in-Justification c = simp c.in-Justification.is
