-- `record::columns::letter` meets its contract.
-- Assumes nothing.
use Rattle.record.specs.Says.{said_in}
use Rattle.record.proofs.SaysLaws.{letter-before}
use Rattle.record.proofs.columns.letter.Goals as goal

pub returns : goal.returns
unfolding said_in
returns c = simp (c.letter_in.ensures, c.field.ensures, c.record_bytes.ensures, c.form.ensures) (letter-before _ _ _ _)
