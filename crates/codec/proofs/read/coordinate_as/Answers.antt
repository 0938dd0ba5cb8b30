-- `codec::read::coordinate_as` meets its contract.
-- Assumes nothing.
use mathlib.Core.Path.{ap, ◌∙◌}
use Prim.Native.Nat.{ℕ}
use mathlib.Core.List.{List}
use lib.Dec.{eqb}
use lib.ListN.{get_or}
use mir.Syntax.{w64}
use mir.Val.{SFits}
use mir.Facts.{to_z-of_z}
use Rattle.field.specs.Digits.{number_written}
use Rattle.field.specs.Signs.{signed}
use Rattle.record.specs.Cut.{text_of}
use Rattle.codec.proofs.ReadLaws.{coordinate-there, coordinate-none}
use borrow.Author.Rules.{rules}
use borrow.Enum.Refused.{opened}
use Rattle.codec.proofs.read.coordinate_as.Goals as goal

pub returns-in-Size : goal.returns-in-Size
returns-in-Size c = let a = c.args in
    let b : SFits w64 c.get_coordinate.result = search rules in
    coordinate-there a.t.now (text_of a.rec.now a.k a.i) a.form c.in-Size.is (to_z-of_z b ∙ c.get_coordinate.ensures ∙ ap (λ (s : List ℕ). signed (eqb (get_or s 0 0) 45) (number_written a.t.now)) c.field.ensures)

pub returns-in_default : goal.returns-in_default
returns-in_default c = let a = c.args in
    coordinate-none a.t.now (text_of a.rec.now a.k a.i) a.form (opened c.in_default.in_default-own.keys2)
