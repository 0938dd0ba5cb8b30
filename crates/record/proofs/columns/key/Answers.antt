-- `record::columns::key` meets its contract.
-- Assumes nothing.
use mathlib.Core.Path.{ap, ◌∙◌}
use Rattle.record.specs.Table.{is_n}
use Rattle.record.specs.Says.{said_in}
use Rattle.record.proofs.SaysLaws.{key-before}
use Rattle.record.proofs.columns.key.Goals as goal

pub returns : goal.returns
unfolding said_in
returns c = record { value = simp (c.key_in.ensures.value, c.field.ensures, c.record_bytes.ensures, c.form.ensures) (key-before _ _ _ _); narrow = λ n. c.key_in.ensures.narrow (ap is_n c.form.ensures ∙ n) }
