-- Values as four arrays hold them (specs/machinery/Held.antt): an element by its field, counted from 1.
-- Assumes nothing.
use Prim.Native.Nat.{ℕ, zero, suc, ◌-◌, ◌≤◌}
use mathlib.Core.List.{List, ◌∷◌}
use mathlib.Core.Path.{◌≡◌, refl, sym}
use native.Mathlib.Omega.{arith}
use lib.ListN.{length, get_or, get_or-eq_default}

pub held-there : {A : Type 0} (xs : List A) (d : A) (f : ℕ) → (f ≡ 0 → ⊥) → get_or xs (f - 1) d ≡ get_or (d ∷ xs) f d
held-there xs d zero h = absurd (h refl)
held-there xs d (suc f) h = let e : suc f - 1 ≡ f = omega arith in rw e

pub held-past : {A : Type 0} (xs : List A) (d : A) (f : ℕ) → (f ≡ 0 → ⊥) → length xs ≤ f - 1 → d ≡ get_or (d ∷ xs) f d
held-past xs d zero h l = absurd (h refl)
held-past xs d (suc f) h l = sym (get_or-eq_default xs d {n = f} (omega arith))
