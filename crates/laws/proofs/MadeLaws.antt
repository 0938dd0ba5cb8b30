-- Arrays that are made of their indices or of another array's elements (`array::from_fn`, `map`), by a closure that stays as it is.
-- Assumes nothing.
use Prim.Native.Nat.{ℕ, zero, suc, ◌+◌, ◌<◌, ◌≤◌}
use mathlib.Core.Bool.{Bool, true, false}
use Rattle.std.specs.Prelude.{MatchBool}
use Rattle.std.specs.List.{HoldsAt, AllWithin}
use Rattle.laws.specs.Find.{any}
use Rattle.laws.proofs.FindLaws.{any-true, any_false}
use mathlib.Core.List.{List, [], ◌∷◌, map}
use mathlib.Core.Path.{◌≡◌, refl, sym, ap, ◌∙◌}
use mathlib.Core.Logic.{⊎_elim}
use native.Mathlib.Nat.{eq-or-lt_of_le}
use native.Mathlib.Omega.{arith}
use lib.ListN.{length, get_or, length-map}
use denote.Param.Members.{Mut, Called}
use Rattle.std.proofs.lemmas.List.{ext_get_or, get_or-map, map-id}
use Rattle.std.specs.Array.{IsFromFnResult, IsFromFnResultFrom, IsMapOf, MapsFrom}
use Rattle.laws.specs.Row.{row}
use Rattle.laws.proofs.RowLaws.{length-row, row_at}

-- OF INDICES: v of what a call gives is h of the index
module _ {F B C : Type 0} {g : Mut F (ℕ × Unit {0}) B} {f : F} (v : B → C) (h : ℕ → C) (gives : (i : ℕ) (r : B) (q : F) → Called g f (i, tt) r q → (q ≡ f) × (v r ≡ h i)) where
  made-from : (ys : List B) (i n : ℕ) → IsFromFnResultFrom g f ys i n → (k : ℕ) (d : B) → i ≤ k → k < i + n → v (get_or ys k d) ≡ h k
  made-from ys i zero w k d a b = absurd (omega arith)
  made-from ys i (suc n) w k d a b =
      let p = gives i w.1 w.0 w.3 in
      ⊎_elim
      (λ (e : i ≡ k). rw (← e) (ap v (w.2.1 d) ∙ p.1))
      (λ (l : i < k). made-from ys (i + 1) n (rw p.0 at w.4) k d (omega arith) (omega arith))
      (eq-or-lt_of_le a)

  pub made_by : {ys : List B} {n : ℕ} → IsFromFnResult g f ys n → map v ys ≡ row h n
  unfolding row
  made_by {ys = []} {n = zero} w = refl
  made_by {ys = []} {n = suc n} w = absurd (omega (arith, w.long))
  made_by {ys = y ∷ ys} {n = n} w =
      let long : length (map v (y ∷ ys)) ≡ n = length-map (y ∷ ys) v ∙ w.long in
      ext_get_or (v y) (map v (y ∷ ys)) (row h n) (long ∙ sym (length-row h n))
      (λ k l.
      let lk : k < n = omega (arith, long) in
      get_or-map v (y ∷ ys) k y (v y) (omega (arith, w.long))
      ∙ made-from (y ∷ ys) 0 n w.each k y (omega arith) (omega arith)
      ∙ sym (row_at h n (v y) lk))

pub made :
    {F B : Type 0} {g : Mut F (ℕ × Unit {0}) B} {f : F} {ys : List B} {n : ℕ} (h : ℕ → B)
    → ((i : ℕ) (r : B) (q : F) → Called g f (i, tt) r q → (q ≡ f) × (r ≡ h i)) → IsFromFnResult g f ys n → ys ≡ row h n
made {ys = ys} h gives w = sym (map-id ys) ∙ made_by (λ y. y) h gives w

-- OF ELEMENTS: a call gives h of the element
module _ {F A B : Type 0} {g : Mut F (A × Unit {0}) B} {f : F} (h : A → B) (gives : (x : A) (r : B) (q : F) → Called g f (x, tt) r q → (q ≡ f) × (r ≡ h x)) where
  mapped-from : (xs : List A) (ys : List B) (i n : ℕ) → MapsFrom g f xs ys i n → (k : ℕ) (d : A) (e : B) → i ≤ k → k < i + n → get_or ys k e ≡ h (get_or xs k d)
  mapped-from xs ys i zero w k d e a b = absurd (omega arith)
  mapped-from xs ys i (suc n) w k d e a b =
      let p = gives w.1 w.2 w.0 w.5 in
      ⊎_elim
      (λ (q : i ≡ k). rw (← q) (w.4.1 e ∙ p.1 ∙ ap h (sym (w.3.1 d))))
      (λ (l : i < k). mapped-from xs ys (i + 1) n (rw p.0 at w.6) k d e (omega arith) (omega arith))
      (eq-or-lt_of_le a)

  pub mapped : {xs : List A} {ys : List B} {n : ℕ} → length xs ≡ n → IsMapOf g f xs ys n → ys ≡ map h xs
  mapped {xs = []} {ys = []} l w = refl
  mapped {xs = []} {ys = y ∷ ys} l w = absurd (omega (arith, w.long))
  mapped {xs = x ∷ xs} {ys = ys} {n = n} l w =
      ext_get_or (h x) ys (map h (x ∷ xs)) (w.long ∙ sym l ∙ sym (length-map (x ∷ xs) h))
      (λ k b.
      mapped-from (x ∷ xs) ys 0 n w.each k x (h x) (omega arith) (omega (arith, w.long))
      ∙ sym (get_or-map h (x ∷ xs) k x (h x) (omega (arith, w.long))))

-- A SEARCH of a list by its elements (`any`, `contains`) is one of its indices
pub any-told :
    (p : ℕ → Bool) (xs : List ℕ) (b : Bool) {n : ℕ} → length xs ≡ n
    → MatchBool b ((k : ℕ) × (k < length xs) × HoldsAt (λ x. p x ≡ true) xs k) (AllWithin (λ x. p x ≡ false) xs 0 (length xs))
    → b ≡ any (λ i. p (get_or xs i 0)) n
any-told p xs true {n} e w = sym (any-true _ n {k = w.0} (omega (arith, w.1)) (w.2 0))
any-told p xs false {n} e w = sym (any_false _ n (λ i l. w i 0 (omega arith) (omega arith)))
