-- `judge::line::big_line` meets its contract.
-- Assumes nothing.
use Rattle.judge.proofs.LineLaws.{big-line-start, word_more, line-end}
use borrow.Author.Rules.{rules}
use Rattle.judge.proofs.line.big_line.Goals as goal

pub returns : goal.returns
returns c = let w = c.put_word-at in
    line-end 6 (word_more 1 _ _ (big-line-start c.args.file) c.put_word-at.auto.buf w.ensures) (search rules) (search rules)
