-- `record::check::check_fields` meets its contract: the loop stops at the first record that is broken.
-- Assumes nothing.
use mathlib.Core.Path.{◌≡◌, ◌∙◌, sym}
use native.Mathlib.Omega.{arith}
use Rattle.laws.proofs.FindLaws.{first-start}
use Rattle.std.proofs.lemmas.Result.{err_from_is_err_and}
use Rattle.record.specs.Cut.{count_of}
use Rattle.record.specs.Breaks.{finding_of}
use Rattle.record.proofs.FindingLaws.{in_file, fields-is, record-turn, finding-more, finding-here, finding-end}
use Rattle.record.proofs.check.check_fields.Goals as goal

pub loop-i-init : goal.loop-i-init
loop-i-init c = first-start _

pub loop-i-preserved : goal.loop-i-preserved
loop-i-preserved c = finding-more _ c.loop-i.i (c.in_ok-check_record.ensures ∙ rw c.record_bytes.ensures (record-turn _ _ _)) c.loop-i.invariant

pub returns-in_err-check_record : goal.returns-in_err-check_record
returns-in_err-check_record c =
    let a = c.args in
    let p = err_from_is_err_and c.from_residual.result c.from_residual.ensures.1 in
    rw (p.1, p.2)
    (finding-here _ (count_of a.s.now a.k) (c.in_err-check_record.ensures ∙ rw c.record_bytes.ensures (record-turn _ _ _)) c.loop-i.invariant (omega (arith, c.records-i-end.ensures))
    ∙ sym (fields-is a.s.now a.k))

pub returns : goal.returns
returns c =
    let a = c.args in
    finding-end _ (count_of a.s.now a.k) c.records-i-end.ensures c.loop-i.auto.i-end c.loop-i-test.false c.loop-i.invariant ∙ sym (fields-is a.s.now a.k)
