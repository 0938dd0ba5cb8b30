-- `keys::refer::tally_codes` meets its contract. The array holds the file's codes, for the one cell and the other.
-- Assumes nothing.
use mathlib.Core.Path.{refl}
use native.Mathlib.Omega.{arith}
use Rattle.record.proofs.ColumnLaws.{read-fills}
use Rattle.keys.specs.Rules.{dangles}
use Rattle.keys.specs.machinery.Types.{mistyped_by}
use Rattle.keys.proofs.CellLaws.{one-most, one-marks}
use Rattle.keys.proofs.ReferLaws.{fills-limit, one-filled}
use Rattle.keys.proofs.refer.tally_codes.Goals as goal

pub with_marks-requires : goal.with_marks-requires
with_marks-requires c = let p = c.requires in
    let own = read-fills p.2 c.fill_names-m.ensures in
    (omega (arith, one-most (one-marks c.mark_codes.ensures.marked c.with_marks-known.ensures), fills-limit own, p.0), omega (arith, c.mark_codes.ensures.other.long, own.count, p.3), fills-limit own)

pub returns : goal.returns
returns c = let own = read-fills c.requires.2 c.fill_names-m.ensures in
    record {
      between = c.with_marks-known.result;
      first = one-filled own (dangles _ _) (dangles _ _) (λ x. refl) (one-marks c.mark_codes.ensures.marked c.with_marks-known.ensures);
      second = one-filled own (mistyped_by _ _ _ _) (mistyped_by _ _ _ _) (λ x. refl) (one-marks c.mark_codes.ensures.other c.with_marks.ensures);
    }
