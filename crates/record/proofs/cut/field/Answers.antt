-- `record::cut::field` meets its contract.
-- Assumes nothing.
use Rattle.record.specs.Cut.{text_of}
use Rattle.record.proofs.cut.field.Goals as goal

pub returns : goal.returns
unfolding text_of
returns c = simp (c.part.ensures, c.width.ensures.value, c.offset.ensures.value)
