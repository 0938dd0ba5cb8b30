-- `record::rules::partners_blank` meets its contract: the loop stops at the first partner that is not blank.
-- Assumes nothing.
use native.Mathlib.Omega.{arith}
use Rattle.laws.proofs.RowLaws.{left-all, left-more, left-stop, left-none}
use Rattle.field.specs.declared.class.Class.TheVariants.{Blank}
use Rattle.field.specs.Bytes.{all_of}
use Rattle.record.specs.Cut.{text_of}
use Rattle.record.specs.Rules.{partners_blank}
use Rattle.record.proofs.rules.partners_blank.Goals as goal

pub loop-j-init : goal.loop-j-init
unfolding partners_blank
loop-j-init c = let a = c.args in
    left-all (all_of Blank) (text_of a.rec.now a.k) (omega arith) (omega arith)

pub loop-j-preserved : goal.loop-j-preserved
loop-j-preserved c = left-more c.loop-j.invariant c.blank_field.ensures (omega arith) c.if-not-blank_field.false

pub returns-then-not-blank_field : goal.returns-then-not-blank_field
returns-then-not-blank_field c = left-stop c.loop-j.invariant c.blank_field.ensures (omega arith) c.if-not-blank_field.true

pub returns-else-not-blank_field : goal.returns-else-not-blank_field
returns-else-not-blank_field c = left-none (left-more c.loop-j.invariant c.blank_field.ensures (omega arith) c.if-not-blank_field.false) (omega arith)
