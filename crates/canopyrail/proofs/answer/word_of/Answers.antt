-- `canopyrail::answer::word_of` meets its contract.
-- Assumes nothing.
use mathlib.Core.Path.{refl}
use Rattle.canopyrail.specs.Answers.{answer_number}
use Rattle.canopyrail.proofs.answer.word_of.Goals as goal

pub returns : goal.returns
unfolding answer_number
returns c = refl
