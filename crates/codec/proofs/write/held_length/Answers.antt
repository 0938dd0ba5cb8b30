-- `codec::write::held_length` meets its contract.
-- Assumes nothing.
use Rattle.codec.proofs.WriteLaws.{length-given, length-missing}
use borrow.Enum.Refused.{opened}
use Rattle.codec.proofs.write.held_length.Goals as goal

pub returns-then-v : goal.returns-then-v
returns-then-v c = length-given c.args.form c.args.v (opened c.in_default.in_default-own.keys3) c.if-v.true

pub returns-else-v : goal.returns-else-v
returns-else-v c = length-missing c.args.form c.args.v (opened c.in_default.in_default-own.keys3) c.if-v.false
