-- `record::check::check_place` meets its contract: the break is that of the first test that holds.
-- Assumes nothing.
use mathlib.Core.Path.{◌≡◌, ◌∙◌}
use lib.ListN.{length}
use Rattle.record.specs.Rules.{twenties}
use Rattle.record.specs.Breaks.{index_of, twenty_reasons}
use Rattle.record.proofs.FindingLaws.{place-broken, place-fine}
use Rattle.record.proofs.check.check_place.Goals as goal

pub returns-then-j-lt6 : goal.returns-then-j-lt6
returns-then-j-lt6 c =
    let a = c.args in
    let t = twenties a.rec.now a.k a.f in
    -- the first of the tests that holds
    let first : c.first_true-j.result ≡ index_of t (length t) = c.first_true-j.ensures ∙ rw c.tests-t.ensures in
    place-broken (twenties a.rec.now a.k a.f) twenty_reasons a.k a.i a.f first c.if-j-lt6.true
    (c.break_of.ensures ∙ rw c.twenty_reason.ensures)

pub returns-else-j-lt6 : goal.returns-else-j-lt6
returns-else-j-lt6 c =
    let a = c.args in
    let t = twenties a.rec.now a.k a.f in
    -- the first of the tests that holds
    let first : c.first_true-j.result ≡ index_of t (length t) = c.first_true-j.ensures ∙ rw c.tests-t.ensures in
    place-fine (twenties a.rec.now a.k a.f) twenty_reasons a.k a.i a.f first c.if-j-lt6.false
