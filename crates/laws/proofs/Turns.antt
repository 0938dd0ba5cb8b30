-- Indices in another order, and a search, which finds as much in it.
-- Assumes nothing.
use Prim.Native.Nat.{ℕ, ◌<◌}
use mathlib.Core.Bool.{Bool}
use mathlib.Core.Path.{◌≡◌, refl, sym, ap, ◌∙◌}
use Rattle.laws.specs.Find.{any}
use Rattle.laws.proofs.FindLaws.{any_at, any-true}
use Rattle.laws.proofs.RowLaws.{same_test}

-- a rearrangement of the indices below n
pub record Turn (n : ℕ) : Type 0 where
  pub to : ℕ → ℕ
  pub from : ℕ → ℕ
  pub to-within : (i : ℕ) → i < n → to i < n
  pub from-within : (i : ℕ) → i < n → from i < n
  pub to-from : (i : ℕ) → i < n → to (from i) ≡ i
  pub from-to : (i : ℕ) → i < n → from (to i) ≡ i

-- that leaves each where it is
abbrev pub stay : (n : ℕ) → Turn n
stay n =
    record {
      to = λ i. i;
      from = λ i. i;
      to-within = λ i l. l;
      from-within = λ i l. l;
      to-from = λ i l. refl;
      from-to = λ i l. refl;
    }

pub any-turn : {n : ℕ} (t : Turn n) (p q : ℕ → Bool) → ((j : ℕ) → j < n → q j ≡ p (t.to j)) → any q n ≡ any p n
any-turn {n} t p q same =
    same_test (any q n) (any p n)
    (λ e. let w = any_at q n e in any-true p n (t.to-within w.0 w.1) (sym (same w.0 w.1) ∙ w.2))
    (λ e.
    let w = any_at p n e in
    let l = t.from-within w.0 w.1 in
    any-true q n l (same (t.from w.0) l ∙ ap p (t.to-from w.0 w.1) ∙ w.2))
