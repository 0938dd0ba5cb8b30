-- `codec::refuse::bad_text` meets its contract.
-- Assumes nothing.
use Rattle.codec.proofs.RefuseLaws.{text-long, text-past, text-short}
use Rattle.codec.proofs.refuse.bad_text.Goals as goal

pub returns-then-w-len : goal.returns-then-w-len
returns-then-w-len c = let a = c.args in text-long a.w a.len a.text.now c.if-w-len.true

pub returns-then-text-len : goal.returns-then-text-len
returns-then-text-len c = let a = c.args in
    text-past a.w a.len a.text.now c.if-text-len.true

pub returns : goal.returns
returns c = let a = c.args in
    text-short a.w a.len a.text.now c.if-w-len.false c.if-text-len.false c.part.ensures c.all.ensures c.edged_by.ensures c.edged_by-2.ensures
