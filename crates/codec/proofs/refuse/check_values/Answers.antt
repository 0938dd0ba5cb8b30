-- `codec::refuse::check_values` meets its contract: the loop stops at the first field that is refused.
-- Assumes nothing.
use Prim.Native.Nat.{◌+◌}
use mathlib.Core.Path.{◌∙◌, sym}
use native.Mathlib.Omega.{arith}
use Rattle.laws.proofs.FindLaws.{first-start}
use Rattle.std.proofs.lemmas.Result.{err_from_is_err_and}
use Rattle.record.specs.Table.{fields_of}
use Rattle.record.proofs.TableLaws.{sane}
use Rattle.record.proofs.FindingLaws.{finding-more, finding-here, finding-end}
use Rattle.codec.proofs.RefuseLaws.{values-is, value-turn}
use Rattle.codec.proofs.refuse.check_values.Goals as goal

pub loop-f-init : goal.loop-f-init
loop-f-init c = first-start _

pub check_value-requires : goal.check_value-requires
check_value-requires c = omega (arith, c.fields-f-end.ensures, sane c.args.k)

pub loop-f-preserved : goal.loop-f-preserved
loop-f-preserved c = finding-more _ c.loop-f.f (c.in_ok-check_value.ensures ∙ value-turn _ _ _) c.loop-f.invariant

pub returns-in_err-check_value : goal.returns-in_err-check_value
returns-in_err-check_value c =
    let p = err_from_is_err_and c.from_residual.result c.from_residual.ensures.1 in
    rw (p.1, p.2)
    (finding-here _ (fields_of c.args.k + 1) (c.in_err-check_value.ensures ∙ value-turn _ _ _) c.loop-f.invariant (omega (arith, c.fields-f-end.ensures)) ∙ sym (values-is c.args.k _))

pub returns : goal.returns
returns c = finding-end _ (fields_of c.args.k + 1) (omega (arith, c.fields-f-end.ensures)) c.loop-f.auto.f-end c.loop-f-test.false c.loop-f.invariant ∙ sym (values-is c.args.k _)
