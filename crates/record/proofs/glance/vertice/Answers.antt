-- `record::glance::vertice` meets its contract.
-- Assumes nothing.
use mathlib.Core.Path.{refl}
use Rattle.record.specs.declared.kind.Kind.TheVariants.{Vertice}
use Rattle.record.specs.Table.{col_at, offset_at}
use Rattle.record.proofs.GlanceLaws.{seen_end, seen-fine, seen_none}
use Rattle.record.proofs.GlanceSeen.{seen-need, seen-position}
use Rattle.record.proofs.glance.vertice.Goals as goal

pub returns-then-rec-ne54 : goal.returns-then-rec-ne54
returns-then-rec-ne54 c = seen_none _ Vertice

pub returns : goal.returns
unfolding col_at offset_at
returns c = let s = c.args.rec.now in
    let p0 = seen_end s Vertice c.ends.ensures in
    let p1 = seen-need s Vertice 1 p0 10 refl c.need.ensures in
    let p2 = seen-need s Vertice 2 p1 5 refl c.need-2.ensures in
    seen-fine s Vertice (seen-position s Vertice 3 p2 refl c.position.ensures)
