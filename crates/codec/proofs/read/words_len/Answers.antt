-- `codec::read::words_len` meets its contract.
-- Assumes nothing.
use Rattle.codec.proofs.ReadLaws.{length_none}
use borrow.Enum.Refused.{opened}
use Rattle.codec.proofs.read.words_len.Goals as goal

pub returns-in-Words : goal.returns-in-Words
returns-in-Words c = rw c.in-Words.is

pub returns-in-Code : goal.returns-in-Code
returns-in-Code c = rw c.in-Code.is

pub returns-in_default : goal.returns-in_default
returns-in_default c = length_none c.args.form c.args.held (opened c.in_default.in_default-own.keys3)
