-- `codec::refuse::unfit_words` meets its contract.
-- Assumes nothing.
use Rattle.codec.proofs.RefuseLaws.{outside-gone, outside-text}
use Rattle.codec.proofs.refuse.unfit_words.Goals as goal

pub returns-then-len-eq0 : goal.returns-then-len-eq0
returns-then-len-eq0 c = outside-gone c.args.domain c.args.len c.args.text.now c.if-len-eq0.true

pub returns-else-len-eq0 : goal.returns-else-len-eq0
returns-else-len-eq0 c = outside-text c.args.domain c.args.len c.args.text.now c.if-len-eq0.false c.part.ensures c.has_word.ensures
