-- `canopyrail::answer::refusal` meets its contract.
-- Assumes nothing.
use mathlib.Core.Path.{◌∙◌}
use Rattle.canopyrail.specs.Answers.{refusal_word}
use Rattle.canopyrail.proofs.answer.refusal.Goals as goal

pub returns : goal.returns
unfolding refusal_word
returns c = c.word_of.ensures ∙ rw c.number.ensures
