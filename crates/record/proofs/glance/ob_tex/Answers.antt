-- `record::glance::ob_tex` meets its contract.
-- Assumes nothing.
use mathlib.Core.Path.{refl}
use Rattle.record.specs.declared.kind.Kind.TheVariants.{ObTex}
use Rattle.record.specs.declared.kind.Form.TheVariants.{Number}
use Rattle.record.specs.declared.kind.Domain.TheVariants.{Orientation, Justification}
use Rattle.record.specs.Table.{col_at, offset_at}
use Rattle.record.proofs.GlanceLaws.{seen_end, seen-fine, seen_none}
use Rattle.record.proofs.GlanceSeen.{seen-need, seen-may, seen-need-in, seen-may-in, seen-code, seen-words, seen-position}
use Rattle.record.proofs.glance.ob_tex.Goals as goal

pub returns-then-rec-ne144 : goal.returns-then-rec-ne144
returns-then-rec-ne144 c = seen_none _ ObTex

pub returns : goal.returns
unfolding col_at offset_at
returns c = let s = c.args.rec.now in
    let p0 = seen_end s ObTex c.ends.ensures in
    let p1 = seen-need s ObTex 1 p0 10 refl c.need.ensures in
    let p2 = seen-may s ObTex 2 p1 10 refl c.may.ensures in
    let p3 = seen-code s ObTex 3 p2 refl c.code.ensures in
    let p4 = seen-words s ObTex 4 p3 60 refl c.may-2.ensures in
    let p5 = seen-need s ObTex 5 p4 3 refl c.need-2.ensures in
    let p6 = seen-may s ObTex 6 p5 3 refl c.may-3.ensures in
    let p7 = seen-may-in s ObTex 7 p6 Number Orientation 5 refl refl refl c.may_in.ensures in
    let p8 = seen-need-in s ObTex 8 p7 Number Justification 1 refl refl refl c.need_in.ensures in
    seen-fine s ObTex (seen-position s ObTex 9 p8 refl c.position.ensures)
