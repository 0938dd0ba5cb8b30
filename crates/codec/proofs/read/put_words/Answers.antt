-- `codec::read::put_words` meets its contract.
-- Assumes nothing.
use mathlib.Core.Path.{◌∙◌}
use Rattle.codec.proofs.ReadLaws.{put-none}
use borrow.Enum.Refused.{opened}
use Rattle.codec.proofs.read.put_words.Goals as goal

pub returns-in-Words : goal.returns-in-Words
returns-in-Words c = rw c.in-Words.is c.put_text.ensures

pub returns-in-Code : goal.returns-in-Code
returns-in-Code c = rw c.in-Code.is c.put_text-in-Code.ensures

pub returns-in_default : goal.returns-in_default
returns-in_default c = c.put_text-in_default.ensures ∙ put-none _ _ c.args.form _ (opened c.in_default.in_default-own.keys3)
