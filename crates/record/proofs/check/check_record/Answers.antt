-- `record::check::check_record` meets its contract: where a glance is not enough, the loop stops at the first place that is broken.
-- Assumes nothing.
use Prim.Native.Nat.{◌+◌}
use mathlib.Core.Path.{◌≡◌, ◌∙◌, sym}
use native.Mathlib.Omega.{arith}
use Rattle.laws.proofs.FindLaws.{first-start}
use Rattle.std.proofs.lemmas.Result.{err_from_is_err_and}
use Rattle.record.specs.Table.{fields_of}
use Rattle.record.proofs.FindingLaws.{record_is, place-turn, finding-more, finding-here, finding-end}
use Rattle.record.proofs.check.check_record.Goals as goal

pub loop-f-init : goal.loop-f-init
loop-f-init c = first-start _

pub loop-f-preserved : goal.loop-f-preserved
loop-f-preserved c = finding-more _ c.loop-f.f (c.in_ok-check_place.ensures ∙ place-turn _ _ _ _) c.loop-f.invariant

pub returns-in_err-check_place : goal.returns-in_err-check_place
returns-in_err-check_place c =
    let a = c.args in
    let p = err_from_is_err_and c.from_residual.result c.from_residual.ensures.1 in
    rw (p.1, p.2)
    (finding-here _ (fields_of a.k + 1) (c.in_err-check_place.ensures ∙ place-turn _ _ _ _) c.loop-f.invariant (omega (arith, c.fields-f-end.ensures)) ∙ sym (record_is a.rec.now a.k a.i))

pub returns : goal.returns
returns c =
    let a = c.args in
    finding-end _ (fields_of a.k + 1) (omega (arith, c.fields-f-end.ensures)) c.loop-f.auto.f-end c.loop-f-test.false c.loop-f.invariant
    ∙ sym (record_is a.rec.now a.k a.i)
