-- `fifties::lines::tally_tramos` meets its contract. The columns are filled, each in room for as many records as any file has.
-- Assumes nothing.
use Prim.Native.Nat.{ℕ}
use mathlib.Core.List.{List}
use native.Mathlib.Omega.{arith}
use Rattle.record.specs.declared.kind.Kind.TheVariants.{Tramo, Vertice}
use Rattle.record.proofs.ColumnLaws.{read-fills}
use Rattle.record.specs.machinery.Columns.{Fills}
use Rattle.topology.proofs.SortLaws.{tips-lent}
use Rattle.fifties.proofs.lines.tally_tramos.Goals as goal

-- a column counted as another of its file is
fills-with : {a b : List ℕ} {p q : ℕ → ℕ} {c m n : ℕ} → Fills a p c m → Fills b q c n → Fills b q c m
fills-with f g = record { count = f.count; small = g.small; long = g.long; holds = g.holds }

pub prepare_ends-t-requires : goal.prepare_ends-t-requires
prepare_ends-t-requires g c = let p = c.requires in
    let l = rw (← c.file_of-tramo.ensures) at (p.2 Tramo) in
    let n = p.0 in
    let r = c.args.room.now.long in (
      omega (arith, n.count, n.small),
      omega (arith, n.count, n.long),
      omega (arith, n.count, p.2 Vertice, r),
      omega (arith, n.count, p.2 Vertice, r),
      omega (arith, n.count, p.2 Vertice, r),
      omega (arith, n.count, p.2 Vertice, r),
      omega (arith, l, r),
      omega (arith, l, r),
    )

pub tally_ends-requires : goal.tally_ends-requires
tally_ends-requires g c = let p = c.requires in
    let t = c.file_of-tramo.ensures in
    let l = rw (← t) at (p.2 Tramo) in
    let ends = c.prepare_ends-t.ensures.fills in (
      c.file_of-vertice.ensures,
      p.1,
      rw t at ends,
      rw t at (fills-with ends (read-fills (omega (arith, l, c.args.room.now.long, c.prepare_ends-t.auto.lines)) c.fill_names.ensures)),
      rw t at (fills-with ends (read-fills (omega (arith, l, c.args.room.now.long, c.prepare_ends-t.auto.tops)) c.fill_names-2.ensures)),
      omega (arith, ends.count, l, c.args.room.now.long),
      omega (arith, p.3, c.args.room.now.long),
    )

pub returns-clause-tipped : goal.returns-clause-tipped
returns-clause-tipped g c = let p = c.requires in tips-lent _ p.0 (omega (arith, p.0.count, p.2 Vertice, c.args.room.now.long)) c.prepare_ends-t.ensures.marked
