-- `codec::refuse::check_value` meets its contract: the break is that of the first test that holds.
-- Assumes nothing.
use mathlib.Core.Path.{◌∙◌}
use Rattle.record.proofs.FindingLaws.{place-broken, place-fine}
use Rattle.codec.specs.Refusals.{sixties, sixty_reasons}
use Rattle.codec.specs.machinery.Held.{held_at, say_by}
use Rattle.codec.proofs.refuse.check_value.Goals as goal

pub returns-then-j-lt4 : goal.returns-then-j-lt4
returns-then-j-lt4 c = let a = c.args in
    let t = sixties a.k (say_by a.k (held_at a.h.now.numbers.now a.h.now.coordinates.now a.h.now.lengths.now a.h.now.texts.now)) a.f in
    place-broken t sixty_reasons a.k 0 a.f (c.first_true-j.ensures ∙ rw c.tests-tests.ensures) c.if-j-lt4.true (c.break_of.ensures ∙ rw c.sixty_reason.ensures)

pub returns-else-j-lt4 : goal.returns-else-j-lt4
returns-else-j-lt4 c = let a = c.args in
    let t = sixties a.k (say_by a.k (held_at a.h.now.numbers.now a.h.now.coordinates.now a.h.now.lengths.now a.h.now.texts.now)) a.f in
    place-fine t sixty_reasons a.k 0 a.f (c.first_true-j.ensures ∙ rw c.tests-tests.ensures) c.if-j-lt4.false
