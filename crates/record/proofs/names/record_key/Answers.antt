-- `record::names::record_key` meets its contract.
-- Assumes nothing.
use mathlib.Core.Path.{◌∙◌}
use Rattle.record.proofs.NameLaws.{key-name}
use Rattle.record.proofs.names.record_key.Goals as goal

pub returns-else-keys-eq2 : goal.returns-else-keys-eq2
returns-else-keys-eq2 c = c.name.ensures.value ∙ key-name _ _ _ (λ e. c.if-keys-eq2.false (c.keys.ensures ∙ e))
