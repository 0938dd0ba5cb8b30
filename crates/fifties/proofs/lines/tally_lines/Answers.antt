-- `fifties::lines::tally_lines` meets its contract. The vertices' keys are read and prepared.
-- Assumes nothing.
use native.Mathlib.Omega.{arith}
use Rattle.record.specs.declared.kind.Kind.TheVariants.{Vertice}
use Rattle.record.proofs.ColumnLaws.{read-fills}
use Rattle.fifties.proofs.lines.tally_lines.Goals as goal

pub tally_tramos-tramos-requires : goal.tally_tramos-tramos-requires
tally_tramos-tramos-requires g c = let p = c.requires in
    let l = rw (← c.file_of.ensures) at (p.1 Vertice) in
    let f = rw c.file_of.ensures at (read-fills (omega (arith, l, p.2)) c.fill_keys-n.ensures) in
    (omega (arith, c.args.room.now.sizes), (rw (c.prepare-by.ensures.keys, c.prepare-by.ensures.n) f, p.0, p.1, p.4))

pub tally_vertices-vertices-requires : goal.tally_vertices-vertices-requires
tally_vertices-vertices-requires g c = let p = c.requires in
    let l = rw (← c.file_of.ensures) at (p.1 Vertice) in
    let f = rw c.file_of.ensures at (read-fills (omega (arith, l, p.2)) c.fill_keys-n.ensures) in
    (rw (c.prepare-by.ensures.keys, c.prepare-by.ensures.n) f, omega (arith, c.prepare-by.ensures.n, f.count, p.1 Vertice, c.tally_tramos-tramos.new.room.long))
