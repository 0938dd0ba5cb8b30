-- `record::glance::ob_lin` meets its contract.
-- Assumes nothing.
use mathlib.Core.Path.{refl}
use Rattle.record.specs.declared.kind.Kind.TheVariants.{ObLin}
use Rattle.record.specs.Table.{col_at, offset_at}
use Rattle.record.proofs.GlanceLaws.{seen_end, seen-fine, seen_none}
use Rattle.record.proofs.GlanceSeen.{seen-need, seen-may, seen-code, seen-words, seen-centroid}
use Rattle.record.proofs.glance.ob_lin.Goals as goal

pub returns-then-rec-ne128 : goal.returns-then-rec-ne128
returns-then-rec-ne128 c = seen_none _ ObLin

pub returns : goal.returns
unfolding col_at offset_at
returns c = let s = c.args.rec.now in
    let p0 = seen_end s ObLin c.ends.ensures in
    let p1 = seen-need s ObLin 1 p0 10 refl c.need.ensures in
    let p2 = seen-may s ObLin 2 p1 10 refl c.may.ensures in
    let p3 = seen-code s ObLin 3 p2 refl c.code.ensures in
    let p4 = seen-words s ObLin 4 p3 60 refl c.may-2.ensures in
    seen-fine s ObLin (seen-centroid s ObLin 5 p4 refl c.position.ensures c.nowhere.ensures)
