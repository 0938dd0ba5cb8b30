-- What the loops over digits do in a turn, and the bounds that they keep.
-- Assumes nothing.
use Prim.Native.Nat.{ℕ, zero, suc, ◌+◌, ◌-◌, ◌*◌, ◌/◌, ◌%◌, ◌^◌, ◌≤◌, ◌<◌, min}
use mathlib.Core.Path.{◌≡◌, refl, ap, sym}
use mathlib.Core.Bool.{true}
use mathlib.Core.List.{List, [], ◌∷◌, ◌++◌, append_assoc}
use native.Mathlib.Nat.{pow-suc, le_refl, not-suc-le-zero, pow-le-pow_right}
use native.Mathlib.Numerals.{add-one, sub-one}
use native.Mathlib.Omega.{arith}
use lib.Dec.{lit<, ltb}
use lib.ListN.{length, get_or, drop, set, length-set}
use lib.Seq.{drop-cons, drop-set-lt, get_or-set_same}
use borrow.Author.Tests.{lt-ltb}
use Rattle.field.specs.Digits.{digits, digits_number, number_written}

-- POWERS of ten
pub below_power : (n w : ℕ) → n < 2 ^ 64 → 20 ≤ w → ltb n (10 ^ w) ≡ true
below_power n w h g =
    let p : 10 ^ 20 ≤ 10 ^ w = pow-le-pow_right (lit< tt) g in
    lt-ltb n (10 ^ w) (omega arith)

-- WRITING: the invariant is `digits k left ++ drop k part ≡ digits w n`
drop-set-same : (p : List ℕ) (j a : ℕ) → j < length p → drop j (set p j a) ≡ a ∷ drop (suc j) p
drop-set-same p j a h = rw (drop-cons (set p j a) j 0 (rw length-set h), get_or-set_same p j a 0 h, drop-set-lt (suc j) p j a (le_refl (suc j)))

-- one digit more, from the right
pub digits-turn : (k n : ℕ) (p : List ℕ) → 0 < k → k ≤ length p
    → digits (k - 1) (n / 10) ++ drop (k - 1) (set p (k - 1) (48 + n % 10)) ≡ digits k n ++ drop k p
unfolding digits
digits-turn zero n p z h = absurd (not-suc-le-zero z)
digits-turn (suc j) n p z h = rw (sub-one, drop-set-same p j (48 + n % 10) h) (sym (append_assoc (digits j (n / 10)) ((48 + n % 10) ∷ []) (drop (suc j) p)))

-- READING: the invariant is `n ≡ number k part`, with the bound `n + 23 ≤ 23 * 10 ^ k`
pub number_more : (k : ℕ) (s : List ℕ) → digits_number (k + 1) s ≡ digits_number k s * 10 + (get_or s k 0 - 48)
unfolding digits_number
number_more k s = rw add-one refl

pub bound-more : (k n d : ℕ) → n + 23 ≤ 23 * 10 ^ k → d ≤ 207 → n * 10 + d + 23 ≤ 23 * 10 ^ (k + 1)
bound-more k n d h g = rw add-one (omega (arith, pow-suc 10 k))

pub number-end : {k : ℕ} (s : List ℕ) → k ≡ min 10 (length s) → digits_number k s ≡ number_written s
unfolding number_written
number-end s e = ap (λ (k : ℕ). digits_number k s) e
