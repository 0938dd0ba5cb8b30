-- `codec::write::put_digits` meets its contract.
-- Assumes nothing.
use borrow.Author.Tests.{ne_eqb}
use Rattle.codec.proofs.write.put_digits.Goals as goal

pub returns-then-len-eq0 : goal.returns-then-len-eq0
returns-then-len-eq0 c = rw c.if-len-eq0.true c.put_blanks.ensures

pub returns-else-len-eq0 : goal.returns-else-len-eq0
returns-else-len-eq0 c = rw (ne_eqb _ 0 c.if-len-eq0.false) c.put_number.ensures
