-- `metadata::words::is_word` meets its contract.
-- Assumes nothing.
use mathlib.Core.Path.{sym, ◌∙◌}
use native.Mathlib.Omega.{arith}
use lib.ListN.{get_or}
use borrow.Author.Tests.{eq-eqb, ne_eqb}
use Rattle.metadata.specs.Words.{small}
use Rattle.metadata.proofs.LineLaws.{word_more, word-stop, word_end, word-long}
use Rattle.metadata.proofs.words.is_word.Goals as goal

pub returns-then-t-word : goal.returns-then-t-word
returns-then-t-word c = word-long c.args.word.now c.args.t.now c.if-t-word.true

pub returns-then-small_of-w : goal.returns-then-small_of-w
returns-then-small_of-w c = let a = c.args in
    let l = c.loop-i in
    word-stop a.word.now a.t.now l.i (omega arith) (omega (arith, c.if-t-word.false)) (ne_eqb (small (get_or a.t.now l.i 0)) _ (λ e. c.if-small_of-w.true (c.small_of.ensures ∙ e))) ∙ l.invariant

pub loop-i-preserved : goal.loop-i-preserved
loop-i-preserved c = let a = c.args in
    let l = c.loop-i in
    word_more a.word.now a.t.now l.i (omega arith) (omega (arith, c.if-t-word.false)) (eq-eqb (small (get_or a.t.now l.i 0)) _ (sym c.small_of.ensures ∙ c.if-small_of-w.false)) ∙ l.invariant

pub returns : goal.returns
returns c = let a = c.args in
    let l = c.loop-i in
    word_end a.word.now a.t.now l.i (omega arith) (omega (arith, c.if-t-word.false)) ∙ l.invariant
