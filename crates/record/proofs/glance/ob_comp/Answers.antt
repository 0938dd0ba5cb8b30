-- `record::glance::ob_comp` meets its contract.
-- Assumes nothing.
use mathlib.Core.Path.{refl}
use Rattle.record.specs.declared.kind.Kind.TheVariants.{ObComp}
use Rattle.record.specs.Table.{col_at, offset_at}
use Rattle.record.proofs.GlanceLaws.{seen_end, seen-fine, seen_none}
use Rattle.record.proofs.GlanceSeen.{seen-need, seen-code, seen-words, seen-centroid}
use Rattle.record.proofs.glance.ob_comp.Goals as goal

pub returns-then-rec-ne117 : goal.returns-then-rec-ne117
returns-then-rec-ne117 c = seen_none _ ObComp

pub returns : goal.returns
unfolding col_at offset_at
returns c = let s = c.args.rec.now in
    let p0 = seen_end s ObComp c.ends.ensures in
    let p1 = seen-need s ObComp 1 p0 10 refl c.need.ensures in
    let p2 = seen-code s ObComp 2 p1 refl c.code.ensures in
    let p3 = seen-words s ObComp 3 p2 60 refl c.may.ensures in
    seen-fine s ObComp (seen-centroid s ObComp 4 p3 refl c.position.ensures c.nowhere.ensures)
