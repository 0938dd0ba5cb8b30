-- `keys::refer::tally_known` meets its contract. The array holds the names that the file's field has.
-- Assumes nothing.
use mathlib.Core.Path.{refl}
use Rattle.record.proofs.ColumnLaws.{read-fills}
use Rattle.keys.specs.Rules.{dangles}
use Rattle.keys.proofs.ReferLaws.{one-filled}
use Rattle.keys.proofs.refer.tally_known.Goals as goal

pub returns : goal.returns
returns c = one-filled (read-fills c.requires.1 c.fill_names-m.ensures) (dangles _ _) (dangles _ _) (λ x. refl) c.tally_unknown.ensures
