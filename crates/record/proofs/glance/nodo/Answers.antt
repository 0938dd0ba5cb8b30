-- `record::glance::nodo` meets its contract.
-- Assumes nothing.
use mathlib.Core.Path.{refl}
use Rattle.record.specs.declared.kind.Kind.TheVariants.{Nodo}
use Rattle.record.specs.declared.kind.Form.TheVariants.{Words}
use Rattle.record.specs.declared.kind.Domain.TheVariants.{NodeType}
use Rattle.record.specs.Table.{col_at, offset_at}
use Rattle.record.proofs.GlanceLaws.{seen_end, seen-fine, seen_none}
use Rattle.record.proofs.GlanceSeen.{seen-need, seen-may-in, seen-position}
use Rattle.record.proofs.glance.nodo.Goals as goal

pub returns-then-rec-ne50 : goal.returns-then-rec-ne50
returns-then-rec-ne50 c = seen_none _ Nodo

pub returns : goal.returns
unfolding col_at offset_at
returns c = let s = c.args.rec.now in
    let p0 = seen_end s Nodo c.ends.ensures in
    let p1 = seen-need s Nodo 1 p0 10 refl c.need.ensures in
    let p2 = seen-may-in s Nodo 2 p1 Words NodeType 1 refl refl refl c.may_in.ensures in
    seen-fine s Nodo (seen-position s Nodo 3 p2 refl c.position.ensures)
