-- `record::rules::no_bar` meets its contract.
-- Assumes nothing.
use Rattle.record.specs.Rules.{breaks21}
use Rattle.record.proofs.rules.no_bar.Goals as goal

pub returns : goal.returns
unfolding breaks21
returns c = simp (c.byte.ensures, c.fields.ensures, c.width.ensures.value, c.offset.ensures.value)
