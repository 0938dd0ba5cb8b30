-- `codec::refuse::tests` meets its contract.
-- Assumes nothing.
use mathlib.Core.Path.{◌∙◌}
use mir.Syntax.{w64}
use mir.Val.{SFits}
use mir.Facts.{to_z-of_z}
use Rattle.codec.proofs.RefuseLaws.{sign-tests, number-tests, size-tests, text-tests}
use borrow.Author.Rules.{rules}
use Rattle.codec.proofs.refuse.tests.Goals as goal

pub returns-in-Sign : goal.returns-in-Sign
returns-in-Sign c = let a = c.args in
    sign-tests a.k a.h.now.numbers.now a.h.now.coordinates.now a.h.now.lengths.now a.h.now.texts.now a.f c.form-form.result c.form-form.ensures c.in-Sign.is c.length-next.ensures c.lacking.ensures

pub returns-in-Number : goal.returns-in-Number
returns-in-Number c = let a = c.args in
    number-tests a.k a.h.now.numbers.now a.h.now.coordinates.now a.h.now.lengths.now a.h.now.texts.now a.f c.form-form.result c.form-form.ensures c.in-Number.is c.width.ensures.value c.domain.ensures c.length-len.ensures c.number-number.ensures c.has_digits.ensures c.has_number.ensures c.lacking-in-Number.ensures

pub returns-in-Size : goal.returns-in-Size
returns-in-Size c = let a = c.args in
    let b : SFits w64 c.coordinate.result = search rules in
    size-tests a.k a.h.now.numbers.now a.h.now.coordinates.now a.h.now.lengths.now a.h.now.texts.now a.f c.form-form.result c.form-form.ensures c.in-Size.is c.width-in-Size.ensures.value c.length-len-in-Size.ensures (to_z-of_z b ∙ c.coordinate.ensures) c.magnitude-size.ensures c.has_digits-in-Size.ensures

pub returns-in_default : goal.returns-in_default
returns-in_default c = let a = c.args in
    text-tests a.k a.h.now.numbers.now a.h.now.coordinates.now a.h.now.lengths.now a.h.now.texts.now a.f c.form-form.result c.form-form.ensures c.in_default.in_default-own.keys4 c.width-in_default.ensures.value c.domain-in_default.ensures c.length-len-in_default.ensures c.text-text.ensures c.is_code.ensures c.not_given.ensures c.bad_words.ensures c.unfit_words.ensures c.lacking-in_default.ensures
