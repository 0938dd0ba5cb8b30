-- `codec::read::number_as` meets its contract.
-- Assumes nothing.
use Rattle.codec.proofs.ReadLaws.{number-there, number-none}
use borrow.Enum.Refused.{opened}
use Rattle.codec.proofs.read.number_as.Goals as goal

pub returns-in-Number : goal.returns-in-Number
returns-in-Number c = λ b. number-there c.args.t.now b c.args.form c.in-Number.is c.number_in.ensures.value

pub returns-in_default : goal.returns-in_default
returns-in_default c = λ b. number-none c.args.t.now b c.args.form (opened c.in_default.in_default-own.keys2)
