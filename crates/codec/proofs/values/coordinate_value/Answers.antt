-- `codec::values::coordinate_value` meets its contract.
-- Assumes nothing.
use mathlib.Core.Path.{ap}
use mir.Syntax.{w64}
use mir.Val.{SFits}
use mir.Facts.{to_z-of_z}
use borrow.Author.Rules.{rules}
use Rattle.record.specs.Says.{coordinate}
use Rattle.codec.specs.Values.{value_of}
use Rattle.codec.proofs.values.coordinate_value.Goals as goal

pub returns : goal.returns
unfolding value_of
returns c = let f : SFits w64 c.args.z = search rules in
    ap (λ z. value_of (coordinate z)) (to_z-of_z f)
