-- `record::columns::place` meets its contract.
-- Assumes nothing.
use Rattle.record.specs.Says.{said_in}
use Rattle.record.proofs.columns.place.Goals as goal

pub returns : goal.returns
unfolding said_in
returns c = record { value = simp (c.place_in.ensures.value, c.field_before.ensures, c.field.ensures, c.form.ensures, c.record_bytes-rec.ensures); narrow = c.place_in.ensures.narrow }
