-- `keys::refer::tally_dangling` meets its contract. The array holds the names that are referred to.
-- Assumes nothing.
use mathlib.Core.Path.{refl}
use Rattle.record.proofs.ColumnLaws.{read-fills}
use Rattle.keys.proofs.CellLaws.{one-as}
use Rattle.keys.proofs.ReferLaws.{dangles-filled, dangles-none}
use Rattle.keys.proofs.refer.tally_dangling.Goals as goal

pub returns-then-n-eq0 : goal.returns-then-n-eq0
returns-then-n-eq0 c = one-as refl (λ i u. dangles-none (read-fills c.requires.3 c.fill_names-n.ensures) c.if-n-eq0.true _) c.tally_present.ensures

pub returns : goal.returns
returns c = let known = rw (c.prepare-known.ensures.keys, c.prepare-known.ensures.n) at c.tally_known.ensures in
    one-as refl (λ i u. dangles-filled (read-fills c.requires.3 c.fill_names-n.ensures) _) known
