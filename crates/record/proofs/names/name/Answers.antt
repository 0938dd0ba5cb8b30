-- `name` meets its contract: a field's key, or the record's own where that stands for it.
-- Assumes nothing.
use Rattle.record.proofs.NameLaws.{name-said}
use Rattle.record.proofs.names.name.Goals as goal

pub returns-then-own_stands : goal.returns-then-own_stands
returns-then-own_stands c = record { value = name-said _ _ _ _ c.own_stands.ensures c.if-own_stands.true c.key.ensures.value; narrow = λ _ n. c.key.ensures.narrow n }

pub returns-else-own_stands : goal.returns-else-own_stands
returns-else-own_stands c = record { value = name-said _ _ _ _ c.own_stands.ensures c.if-own_stands.false c.key-else-own_stands.ensures.value; narrow = λ n _. c.key-else-own_stands.ensures.narrow n }
