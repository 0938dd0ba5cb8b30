-- `keys::refer::tally_present` meets its contract. The cell by its marks, of as many records as the table has.
-- Assumes nothing.
use mathlib.Core.Path.{refl, sym}
use native.Mathlib.Omega.{arith}
use Rattle.index.proofs.MarkLaws.{marked-end}
use Rattle.keys.proofs.CellLaws.{one-as, one-marks}
use Rattle.keys.proofs.refer.tally_present.Goals as goal

pub returns : goal.returns
returns c = let count = c.rows-n.ensures.value in
    one-as count (λ i l. refl)
    (one-marks (marked-end _ (sym count) (omega arith) c.mark_present.ensures) c.with_marks.ensures)
