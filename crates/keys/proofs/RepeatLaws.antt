-- Repeats in a column that is read into an array: the first, and marks of them all.
-- Assumes nothing.
use Prim.Native.Nat.{ℕ}
use mathlib.Core.List.{List}
use mathlib.Core.Path.{◌≡◌, ap, ap₂, ◌∙◌}
use native.Mathlib.Omega.{arith}
use lib.Dec.{eqb}
use lib.ListN.{get_or}
use Rattle.laws.specs.Find.{first_index, names}
use Rattle.laws.specs.Count.{bit}
use Rattle.laws.proofs.FindLaws.{any_same}
use Rattle.std.specs.Prelude.{Option}
use Rattle.index.specs.Keys.{found_of, listed, first_duplicate}
use Rattle.index.specs.Marks.{Marked}
use Rattle.index.proofs.TwiceLaws.{duplicate-filled}
use Rattle.record.specs.machinery.Columns.{Fills}
use Rattle.keys.specs.Rules.{repeats}

-- what is found in the array is the column's
pub first-filled :
    {out : List ℕ} (column : ℕ → ℕ) {n r : ℕ} {found : Option ℕ} → Fills out column n r → found ≡ found_of (first_duplicate (listed out) r)
    → found ≡ found_of (first_index (λ i. repeats column i) n)
unfolding repeats
first-filled {out} column {n} f h = h ∙ rw f.count (ap found_of (duplicate-filled column out n f.holds))

-- and so are the marks
pub repeats-filled :
    {out : List ℕ} (column : ℕ → ℕ) {n r : ℕ} {before after : List ℕ} → Fills out column n r
    → Marked before after (λ i. names (listed out) i (get_or out i 0)) r → Marked before after (λ i. repeats column i) n
unfolding repeats
repeats-filled {out} column f s =
    record {
      long = s.long;
      says = λ i u. s.says i (omega (arith, f.count)) ∙ ap bit (any_same _ _ i (λ k l. ap₂ eqb (f.holds k (omega arith)) (f.holds i u)));
    }
