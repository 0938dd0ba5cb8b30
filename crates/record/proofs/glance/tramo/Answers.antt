-- `record::glance::tramo` meets its contract.
-- Assumes nothing.
use mathlib.Core.Path.{refl, ap, ◌∙◌}
use Rattle.record.specs.declared.kind.Kind.TheVariants.{Tramo}
use Rattle.record.specs.declared.kind.Form.TheVariants.{Words}
use Rattle.record.specs.declared.kind.Domain.TheVariants.{PlusMinus}
use Rattle.record.specs.Table.{col_at, offset_at}
use Rattle.record.specs.machinery.Glance.{in_or_blank}
use Rattle.record.proofs.GlanceLaws.{seen_end, seen-fine, seen_none}
use Rattle.record.proofs.GlanceSeen.{seen-need, seen-may, seen-code, seen-last-in}
use Rattle.record.proofs.glance.tramo.Goals as goal

pub returns-then-rec-ne77 : goal.returns-then-rec-ne77
returns-then-rec-ne77 c = seen_none _ Tramo

pub returns : goal.returns
unfolding col_at offset_at
returns c = let s = c.args.rec.now in
    let p0 = seen_end s Tramo c.ends.ensures in
    let p1 = seen-need s Tramo 1 p0 10 refl c.need.ensures in
    let p2 = seen-need s Tramo 2 p1 10 refl c.need-2.ensures in
    let p3 = seen-may s Tramo 3 p2 10 refl c.may.ensures in
    let p4 = seen-may s Tramo 4 p3 10 refl c.may-2.ensures in
    let p5 = seen-code s Tramo 5 p4 refl c.code.ensures in
    let p6 = seen-need s Tramo 6 p5 10 refl c.need-3.ensures in
    let p7 = seen-need s Tramo 7 p6 10 refl c.need-4.ensures in
    seen-fine s Tramo (seen-last-in s Tramo 8 p7 Words PlusMinus 1 refl refl refl refl (c.is_in_or_blank.ensures ∙ ap (in_or_blank Words PlusMinus) c.part.ensures))
