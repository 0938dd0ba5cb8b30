-- `judge::line::break_line` meets its contract.
-- Assumes nothing.
use Rattle.judge.proofs.LineLaws.{break-start, word_more, line-end}
use borrow.Author.Rules.{rules}
use Rattle.judge.proofs.line.break_line.Goals as goal

pub returns : goal.returns
returns c = let l₁ = word_more 2 _ _ (break-start c.args.b _ c.number.ensures) c.put_word-at.auto.buf c.put_word-at.ensures in
    let l₂ = word_more 1 _ _ l₁ c.put_word-at-2.auto.buf c.put_word-at-2.ensures in
    let l₃ = word_more 5 _ _ l₂ c.put_word-at-3.auto.buf c.put_word-at-3.ensures in
    line-end 17 (word_more 2 _ _ l₃ c.put_word-at-4.auto.buf c.put_word-at-4.ensures) (search rules) (search rules)
