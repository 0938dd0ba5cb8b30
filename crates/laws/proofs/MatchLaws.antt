-- The last arm of a `match` on a number: what is none of the numbers before it.
-- Assumes nothing.
use Prim.Native.Nat.{ℕ, zero, suc, ◌+◌, ◌≤◌}
use mathlib.Core.List.{List, [], ◌∷◌}
use mathlib.Core.Path.{◌≡◌, refl, sym}
use native.Mathlib.Omega.{arith}
use lib.ListN.{length, get_or, get_or-eq_default}

-- n is none of the numbers, the last of them first
abbrev pub NoneOf : List ℕ → ℕ → Type 0
NoneOf [] n = Unit {0}
NoneOf (x ∷ xs) n = NoneOf xs n × (n ≡ x → ⊥)

-- the m numbers from a, the last first
abbrev pub numbers : ℕ → ℕ → List ℕ
numbers a zero = []
numbers a (suc m) = (a + m) ∷ numbers a m

pub none-past : (a m n : ℕ) → NoneOf (numbers a m) n → a ≤ n → a + m ≤ n
none-past a zero n o l = omega arith
none-past a (suc m) n o l = let h = none-past a m n o.0 l in let d = o.1 in omega arith

-- a list after a times its default: this stands at each number that is none of the list's
abbrev pub after : {A : Type 0} → A → ℕ → List A → List A
after d zero xs = xs
after d (suc a) xs = d ∷ after d a xs

default-past : {A : Type 0} (d : A) (a : ℕ) (xs : List A) (n : ℕ) → (a ≤ n → a + length xs ≤ n) → d ≡ get_or (after d a xs) n d
default-past d zero xs n h = sym (get_or-eq_default xs d {n = n} (omega (arith, h (omega arith))))
default-past d (suc a) xs zero h = refl
default-past d (suc a) xs (suc n) h = default-past d a xs n (λ l. omega (arith, h (omega arith)))

pub default-at : {A : Type 0} (d : A) (a : ℕ) (xs : List A) (n : ℕ) → NoneOf (numbers a (length xs)) n → d ≡ get_or (after d a xs) n d
default-at d a xs n o = default-past d a xs n (none-past a (length xs) n o)
