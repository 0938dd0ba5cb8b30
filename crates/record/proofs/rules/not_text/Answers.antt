-- `record::rules::not_text` meets its contract.
-- Assumes nothing.
use mathlib.Core.Path.{◌∙◌, sym}
use Rattle.record.specs.Rules.{not_text}
use Rattle.record.proofs.rules.not_text.Goals as goal

pub returns-then-is_n : goal.returns-then-is_n
unfolding not_text
returns-then-is_n c = simp (sym c.is_n.ensures ∙ c.if-is_n.true)

pub returns-else-is_n : goal.returns-else-is_n
unfolding not_text
returns-else-is_n c = simp (c.lawful_text.ensures, sym c.is_n.ensures ∙ c.if-is_n.false)
