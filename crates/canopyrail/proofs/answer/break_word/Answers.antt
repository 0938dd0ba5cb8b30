-- `canopyrail::answer::break_word` meets its contract.
-- Assumes nothing.
use mathlib.Core.Path.{◌∙◌}
use Rattle.canopyrail.specs.Answers.{break_word}
use Rattle.canopyrail.proofs.answer.break_word.Goals as goal

pub returns : goal.returns
unfolding break_word
returns c = c.word_of.ensures ∙ rw (c.number.ensures, c.other_of.ensures)
