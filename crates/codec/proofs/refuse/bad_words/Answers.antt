-- `codec::refuse::bad_words` meets its contract.
-- Assumes nothing.
use mathlib.Core.Path.{◌∙◌}
use Rattle.codec.proofs.RefuseLaws.{bad-none, bad-some}
use Rattle.codec.proofs.refuse.bad_words.Goals as goal

pub returns-then-len-eq0 : goal.returns-then-len-eq0
returns-then-len-eq0 c = bad-none c.args.w c.args.len c.args.text.now c.if-len-eq0.true

pub returns-else-len-eq0 : goal.returns-else-len-eq0
returns-else-len-eq0 c = c.bad_text.ensures ∙ bad-some c.args.w c.args.len c.args.text.now c.if-len-eq0.false
