-- `record::rules::says_not_given` meets its contract.
-- Assumes nothing.
use mathlib.Core.Path.{◌∙◌, sym}
use Rattle.record.proofs.RuleLaws.{not-given-trimmed}
use Rattle.record.proofs.rules.says_not_given.Goals as goal

pub returns-then-is_code : goal.returns-then-is_code
returns-then-is_code c = simp (sym c.is_code.ensures ∙ c.if-is_code.true, c.not_given.ensures, not-given-trimmed c.args.t.now c.trimmed_len.ensures)
