-- `codec::values::text_value` meets its contract.
-- Assumes nothing.
use mathlib.Core.List.{List}
use mathlib.Core.Path.{ap, ◌∙◌}
use mathlib.Core.Bool.{not}
use Prim.Native.Nat.{ℕ}
use native.Mathlib.Nat.{le_refl}
use lib.Dec.{eqb}
use lib.IntN.{pos}
use lib.ListN.{length}
use lib.Seq.{take_all}
use Rattle.field.specs.Texts.{padded}
use Rattle.field.proofs.TextLaws.{first-bytes-le}
use Rattle.codec.specs.Values.{text_value}
use Rattle.codec.proofs.values.text_value.Goals as goal

pub returns : goal.returns
unfolding text_value
returns c = let t = c.args.t.now in
    let n = length t in
    ap (λ (s : List ℕ). record { given = not (eqb n 0); number = 0; coordinate = pos 0; len = n; text = s })
    (c.put_text.ensures ∙ ap (padded 60) (first-bytes-le n t (le_refl n) ∙ take_all n t (le_refl n)))
