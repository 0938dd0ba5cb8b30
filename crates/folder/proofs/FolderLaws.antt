-- What is read on stands behind what was read; the lengths of the files so far (specs/Folder.antt).
-- Assumes nothing.
use Prim.Native.Nat.{ℕ, zero, suc, ◌+◌, ◌<◌, ◌≤◌}
use mathlib.Core.Bool.{Bool, true, false}
use mathlib.Core.List.{List, ◌++◌}
use lib.Dec.{eqb}
use borrow.Author.Tests.{eqb-true, eqb-false}
use mathlib.Core.Path.{◌≡◌, refl, ◌∙◌, ap, ap₂, sym}
use mathlib.Core.Logic.{◌⊎◌, inl, inr, ⊎_elim}
use native.Mathlib.Omega.{arith}
use lib.ListN.{length, get_or, take, drop, set, replicate}
use lib.Seq.{take-add, take-append-le, get_or-set_same, get_or-set_other}
use borrow.Rule.Slice.PartMut.{put_mid, post_of}
use Rattle.std.proofs.Common.{le_refl, drop_at, length-take-le}
use Rattle.std.proofs.lemmas.Slice.{take-put_mid_below}
use Rattle.folder.specs.Folder.{failed, Lengths}

-- what is read into the room behind what was read stands behind it
pub read_on :
    (at k n : ℕ) (xs ys : List ℕ) → at ≤ length xs → n ≤ length ys → take at xs ++ take n ys ≡ take (at + n) (put_mid at k xs ys)
read_on at k n xs ys within fits =
    let all = put_mid at k xs ys in
    let front : take at all ≡ take at xs = take-put_mid_below at k xs ys at (le_refl at) within in
    let behind : take n (drop at all) ≡ take n ys =
    ap (take n) (drop_at (take at xs) (ys ++ post_of at k xs) at (length-take-le at xs within)) ∙ take-append-le n ys (post_of at k xs) fits in
    ap₂ (λ a b. a ++ b) (sym front) (sym behind) ∙ sym (take-add at n all)

-- LENGTHS, a loop's: at the start each is 0, and one more fits
zeros : (n i : ℕ) → ◌≡◌ {A = ℕ} (get_or (replicate n 0) i 0) 0
zeros zero i = refl
zeros (suc n) zero = refl
zeros (suc n) (suc i) = zeros n i

pub lengths_start : (n : ℕ) → Lengths (replicate n 0)
lengths_start n = record { most = λ i. let e = zeros n i in omega arith }

pub lengths_more : {lens : List ℕ} {i x : ℕ} → i < length lens → x ≤ failed → Lengths lens → Lengths (set lens i x)
lengths_more {lens} {i} {x} l le w =
    record {
      most =
          λ j.
          ⊎_elim
          (λ (e : j ≡ i). rw (e, get_or-set_same lens i x 0 l) le)
          (λ (ne : j ≡ i → ⊥). rw (get_or-set_other lens i j x 0 ne) (w.most j))
          (same_or j i);
    }
  where
    same_or : (j i : ℕ) → (j ≡ i) ⊎ (j ≡ i → ⊥)
    same_or j i = go (eqb j i) refl
      where
        go : (b : Bool) → eqb j i ≡ b → (j ≡ i) ⊎ (j ≡ i → ⊥)
        go true e = inl (eqb-true j i e)
        go false e = inr (eqb-false j i e)
