-- `codec::write::put_field` meets its contract.
-- Assumes nothing.
use mathlib.Core.Path.{◌∙◌}
use lib.ListN.{length}
use mir.Syntax.{w64}
use mir.Val.{SFits}
use mir.Facts.{to_z-of_z}
use Rattle.codec.proofs.WriteLaws.{sign-held, number-held, size-held, text-held}
use borrow.Author.Rules.{rules}
use Rattle.codec.proofs.write.put_field.Goals as goal

pub returns-in-Sign : goal.returns-in-Sign
returns-in-Sign c = let a = c.args in
    let b : SFits w64 c.coordinate.result = search rules in
    sign-held a.h.now.numbers.now a.h.now.coordinates.now a.h.now.lengths.now a.h.now.texts.now _ a.form (length a.part.now) _ _ c.in-Sign.is c.length.ensures (to_z-of_z b ∙ c.coordinate.ensures) c.put_sign.ensures

pub returns-in-Number : goal.returns-in-Number
returns-in-Number c = let a = c.args in
    c.put_digits.ensures ∙ number-held a.h.now.numbers.now a.h.now.coordinates.now a.h.now.lengths.now a.h.now.texts.now a.f a.form (length a.part.now) _ c.in-Number.is c.length-in-Number.ensures c.number.ensures

pub returns-in-Size : goal.returns-in-Size
returns-in-Size c = let a = c.args in
    let b : SFits w64 c.coordinate-in-Size.result = search rules in
    c.put_digits-in-Size.ensures ∙ size-held a.h.now.numbers.now a.h.now.coordinates.now a.h.now.lengths.now a.h.now.texts.now a.f a.form (length a.part.now) _ c.in-Size.is c.length-in-Size.ensures (to_z-of_z b ∙ c.coordinate-in-Size.ensures) c.magnitude.ensures

pub returns-in_default : goal.returns-in_default
returns-in_default c = let a = c.args in
    c.put_text.ensures ∙ text-held a.h.now.numbers.now a.h.now.coordinates.now a.h.now.lengths.now a.h.now.texts.now a.f a.form (length a.part.now) _ c.in_default.in_default-own.keys4 c.length-in_default.ensures c.text.ensures
