-- `record::fill::fill_keys` meets its contract.
-- Assumes nothing.
use mathlib.Core.Path.{◌∙◌}
use Rattle.record.proofs.ColumnLaws.{keys-names}
use Rattle.record.proofs.fill.fill_keys.Goals as goal

pub returns-else-keys-eq2 : goal.returns-else-keys-eq2
returns-else-keys-eq2 c = keys-names _ _ (λ e. c.if-keys-eq2.false (c.keys.ensures ∙ e)) c.fill_names.ensures
