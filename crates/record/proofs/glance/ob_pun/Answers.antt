-- `record::glance::ob_pun` meets its contract.
-- Assumes nothing.
use mathlib.Core.Path.{refl}
use Rattle.record.specs.declared.kind.Kind.TheVariants.{ObPun}
use Rattle.record.specs.declared.kind.Form.TheVariants.{Number}
use Rattle.record.specs.declared.kind.Domain.TheVariants.{Orientation}
use Rattle.record.specs.Table.{col_at, offset_at}
use Rattle.record.proofs.GlanceLaws.{seen_end, seen-fine, seen_none}
use Rattle.record.proofs.GlanceSeen.{seen-need, seen-may, seen-may-in, seen-code, seen-words, seen-position}
use Rattle.record.proofs.glance.ob_pun.Goals as goal

pub returns-then-rec-ne149 : goal.returns-then-rec-ne149
returns-then-rec-ne149 c = seen_none _ ObPun

pub returns : goal.returns
unfolding col_at offset_at
returns c = let s = c.args.rec.now in
    let p0 = seen_end s ObPun c.ends.ensures in
    let p1 = seen-need s ObPun 1 p0 10 refl c.need.ensures in
    let p2 = seen-may s ObPun 2 p1 10 refl c.may.ensures in
    let p3 = seen-may s ObPun 3 p2 10 refl c.may-2.ensures in
    let p4 = seen-code s ObPun 4 p3 refl c.code.ensures in
    let p5 = seen-words s ObPun 5 p4 60 refl c.may-3.ensures in
    let p6 = seen-may-in s ObPun 6 p5 Number Orientation 5 refl refl refl c.may_in.ensures in
    let p7 = seen-may s ObPun 7 p6 3 refl c.may-4.ensures in
    seen-fine s ObPun (seen-position s ObPun 8 p7 refl c.position.ensures)
