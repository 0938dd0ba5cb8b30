-- `canopyrail::one::lend_record` meets its contract.
-- Assumes nothing.
use native.Mathlib.Omega.{arith}
use Rattle.record.specs.Cut.{text_of}
use Rattle.codec.proofs.StoreLaws.{storing-start}
use Rattle.canopyrail.proofs.LentLaws.{lending-more, lending-none, lending-end}
use mathlib.Core.Path.{refl}
use borrow.Author.Rules.{rules}
use Rattle.canopyrail.proofs.one.lend_record.Goals as goal
use Rattle.canopyrail.proofs.one.lend_record.Goals.{then-i-n, else-i-n}

pub loop-i-init : goal.loop-i-init
loop-i-init c = storing-start _ _ _ _ _ _ _ _ c.requires

pub loop-i-preserved : goal.loop-i-preserved
loop-i-preserved c = let a = c.args in
    elim c.if-i-n.branch [
      | then-i-n w ↦
          let b = text_of a.rec.now a.k c.loop-i.i in
          rw (w.numbers-is, w.coordinates-is, w.lengths-is, w.texts-is)
          (lending-more a.rec.now a.k _ _ _ _ {ys = w.put_words.new.part} w.form-form.result w.field-t.result.now b c.loop-i.invariant (search rules) w.form-form.ensures w.field-t.ensures refl (w.number_as.ensures b) (search rules) (w.length_as-len.ensures b) w.put_words.auto.part w.put_words.ensures)
      | else-i-n w ↦
          rw (w.numbers-is, w.coordinates-is, w.lengths-is, w.texts-is)
          (lending-none a.rec.now a.k _ _ _ _ {ys = w.put_text.new.part} _ c.loop-i.invariant (search rules) (omega (arith, c.fields-n.ensures)) w.put_text.auto.part w.put_text.ensures)
    ]

pub returns : goal.returns
returns c = lending-end _ _ _ _ _ _ c.loop-i.invariant (omega arith)
