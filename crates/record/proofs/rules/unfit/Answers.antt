-- `record::rules::unfit` meets its contract.
-- Assumes nothing.
use Rattle.record.specs.Rules.{outside}
use Rattle.record.proofs.rules.unfit.Goals as goal

pub returns-then-sound : goal.returns-then-sound
unfolding outside
returns-then-sound c = simp (c.if-sound.true, c.minus_zero.ensures, c.has.ensures, c.domain.ensures)
