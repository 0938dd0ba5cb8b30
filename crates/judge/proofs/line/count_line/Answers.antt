-- `judge::line::count_line` meets its contract: the loop's invariant says what is left of the line.
-- Assumes nothing.
use mathlib.Core.Path.{refl}
use borrow.Author.Rules.{rules}
use Rattle.judge.proofs.LineLaws.{counting_more, counting-end}
use Rattle.judge.proofs.line.count_line.Goals as goal

pub loop-count-init : goal.loop-count-init
loop-count-init c = record { few = search rules; all = search rules; place = search rules; so_far = record { room = refl; written = refl; rest = refl } }

pub loop-count-preserved : goal.loop-count-preserved
loop-count-preserved c = let w = c.put_word-at in
    counting_more c.loop-count.invariant c.loop-count-test.true c.put_word-at.auto.buf w.ensures

pub returns : goal.returns
returns c = counting-end c.loop-count.invariant c.loop-count-test.false
