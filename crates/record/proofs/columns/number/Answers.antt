-- `record::columns::number` meets its contract.
-- Assumes nothing.
use Rattle.record.specs.Says.{said_in}
use Rattle.record.proofs.SaysLaws.{number-before}
use Rattle.record.proofs.columns.number.Goals as goal

pub returns : goal.returns
unfolding said_in
returns c = record { value = simp (c.number_in.ensures.value, c.field.ensures, c.record_bytes.ensures, c.form.ensures) (number-before _ _ _ _); small = c.number_in.ensures.small }
