-- `codec::read::length_as` meets its contract.
-- Assumes nothing.
use mathlib.Core.Path.{sym, ◌∙◌}
use Rattle.codec.proofs.ReadLaws.{length-words, length-code, length-sign, length-blank, length-given}
use Rattle.codec.proofs.read.length_as.Goals as goal

pub returns-in-Words : goal.returns-in-Words
returns-in-Words c = λ b. length-words c.args.t.now b c.args.form c.in-Words.is c.trimmed_len.ensures

pub returns-in-Code : goal.returns-in-Code
returns-in-Code c = λ b. length-code c.args.t.now b c.args.form c.in-Code.is c.trimmed_len-in-Code.ensures

pub returns-in-Sign : goal.returns-in-Sign
returns-in-Sign c = λ b. length-sign c.args.t.now b c.args.form c.in-Sign.is

pub returns-then-all : goal.returns-then-all
returns-then-all c = λ b. length-blank c.args.t.now b c.args.form c.in_default.in_default-own.keys4 (sym c.all.ensures ∙ c.if-all.true)

pub returns-else-all : goal.returns-else-all
returns-else-all c = λ b. length-given c.args.t.now b c.args.form c.in_default.in_default-own.keys4 (sym c.all.ensures ∙ c.if-all.false)
