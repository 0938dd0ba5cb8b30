-- `record::columns::is_missing` meets its contract.
-- Assumes nothing.
use Rattle.record.specs.Says.{said_in}
use Rattle.record.proofs.SaysLaws.{missing-before}
use Rattle.record.proofs.columns.is_missing.Goals as goal

pub returns : goal.returns
unfolding said_in
returns c = simp (c.is_missing_in.ensures, c.field.ensures, c.record_bytes.ensures, c.form.ensures) (missing-before _ _ _ _)
