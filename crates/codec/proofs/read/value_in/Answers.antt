-- `codec::read::value_in` meets its contract.
-- Assumes nothing.
use mathlib.Core.Path.{refl, ap, ◌∙◌}
use mir.Syntax.{w64}
use mir.Val.{SFits}
use mir.Facts.{to_z-of_z}
use Rattle.record.specs.Cut.{text_of}
use Rattle.codec.specs.Values.{value_of}
use Rattle.codec.proofs.ReadLaws.{read-field, words-as, value-whole}
use borrow.Author.Rules.{rules}
use Rattle.codec.proofs.read.value_in.Goals as goal

pub returns : goal.returns
returns c = let a = c.args in
    let t = c.field-t.result.now in
    let b = text_of a.rec.now a.k a.i in
    let held = c.length_as-held.ensures b in
    let f : SFits w64 c.coordinate_as-coordinate.result = search rules in
    value-whole t b c.form-form.result held (c.number_as-number.ensures b) (to_z-of_z f ∙ c.coordinate_as-coordinate.ensures) c.words_len.ensures (c.put_words.ensures ∙ words-as t b c.form-form.result held) ∙ ap value_of (read-field a.rec.now a.k a.i c.form-form.ensures c.field-t.ensures refl)
