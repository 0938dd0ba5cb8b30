-- `judge::line::put_word` meets its contract.
-- Assumes nothing.
use native.Mathlib.Omega.{arith}
use lib.ListN.{length-set}
use Rattle.judge.proofs.LineLaws.{word_keeps, word-put, word-rest}
use Rattle.judge.proofs.line.put_word.Goals as goal

pub slice_bounds-put_number-end : goal.slice_bounds-put_number-end
slice_bounds-put_number-end c = simp length-set (omega arith)

pub shape_of-buf : goal.shape_of-buf
shape_of-buf c = word_keeps c.args.at c.args.w c.args.buf.now c.requires c.put_number.new.part c.put_number.auto.part

pub returns : goal.returns
returns c = let p = c.put_number in (
  omega arith,
  word-put c.args.at c.args.w c.args.buf.now c.requires c.put_number.new.part c.put_number.auto.part c.args.n p.ensures,
  word-rest c.args.at c.args.w c.args.buf.now c.requires c.put_number.new.part c.put_number.auto.part,
)
