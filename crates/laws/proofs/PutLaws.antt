-- Loops that fill memory place by place.
-- Assumes nothing.
use Prim.Native.Nat.{ℕ, ◌+◌, ◌<◌}
use mathlib.Core.List.{List, ◌++◌}
use mathlib.Core.Path.{◌≡◌, refl, sym, ap, ap₂, ◌∙◌}
use native.Mathlib.Omega.{arith}
use lib.ListN.{length, take, drop, set, length-set, take-append-drop}
use lib.Seq.{drop-set-lt, drop-drop}
use Rattle.laws.specs.Row.{row}
use Rattle.laws.proofs.RowLaws.{row-start, row_more}

-- the first i places are put, and the rest is as it was
pub record Putting {A : Type 0} (g : ℕ → A) (before out : List A) (i : ℕ) : Type 0 where
  pub long : length out ≡ length before
  pub put : take i out ≡ row g i
  pub rest : drop i out ≡ drop i before

module _ {A : Type 0} (g : ℕ → A) (before : List A) where
  pub putting-start : Putting g before before 0
  putting-start = record { long = refl; put = row-start g before; rest = refl }

  pub putting-more : {out : List A} {i : ℕ} {x : A} → i < length before → Putting g before out i → x ≡ g i → Putting g before (set out i x) (i + 1)
  putting-more {out} {i} {x} l p e =
      record {
        long = length-set out i x ∙ p.long;
        put = row_more g i out x (omega (arith, p.long)) p.put e;
        rest = drop-set-lt (i + 1) out i x (omega arith) ∙ sym (drop-drop 1 i out) ∙ ap (drop 1) p.rest ∙ drop-drop 1 i before;
      }

  pub putting-end : {out : List A} {i n : ℕ} → i ≡ n → Putting g before out i → out ≡ row g n ++ drop n before
  putting-end {out} {i} {n} e p = sym (take-append-drop i out) ∙ ap₂ (λ (a b : List A). a ++ b) p.put p.rest ∙ ap (λ (m : ℕ). row g m ++ drop m before) e
