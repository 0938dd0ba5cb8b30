-- `fifties::group::tally_within` meets its contract. The columns that several rules read are filled and prepared.
-- Assumes nothing.
use native.Mathlib.Omega.{arith}
use borrow.Author.Rules.{rules}
use Rattle.record.specs.declared.kind.Kind.TheVariants.{Nodo}
use Rattle.record.proofs.ColumnLaws.{read-fills}
use Rattle.topology.proofs.UsedLaws.{named_start, named-then}
use Rattle.fifties.proofs.group.tally_within.Goals as goal

pub tally_in_hand-requires : goal.tally_in_hand-requires
tally_in_hand-requires g c = let p = c.requires.within in
    let d = c.file_of-nodo.ensures in
    let l = rw (← d) at (p Nodo) in
    let f = rw d at (read-fills (search (rules, l)) c.fill_names-m.ensures) in (
      omega (arith, c.requires.sizes),
      (
        c.tally_lines-lines.ensures.tramos_value,
        c.tally_lines-lines.ensures.others,
        d,
        p,
        search rules,
        search rules,
        named-then (named_start _ _ _ _ (omega (arith, c.prepare-by.ensures.n, f.count, p Nodo, c.new-room.result.long)) (rw (← c.prepare-by.ensures.n) at c.clear.ensures)) c.tally_lines-lines.ensures.held,
        c.tally_lines-lines.ensures.tipped,
      ),
    )
