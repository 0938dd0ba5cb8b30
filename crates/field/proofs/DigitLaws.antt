-- The laws of classes of bytes, of digits over every width, and of signs (specs/Bytes.antt, specs/Digits.antt, specs/Signs.antt).
-- Assumes nothing.
use Prim.Native.Nat.{ℕ, zero, suc, ◌+◌, ◌-◌, ◌*◌, ◌/◌, ◌%◌, ◌^◌, ◌≤◌, ◌<◌, min}
use mathlib.Core.Bool.{Bool, true, false}
use mathlib.Core.List.{List, [], ◌∷◌, ◌++◌}
use mathlib.Core.Path.{◌≡◌, refl, ap, sym, ◌∙◌}
use native.Mathlib.Nat.{pow-suc, min-eq_right, min-le_right}
use native.Mathlib.Decide.{ℕ_discrete}
use native.Mathlib.Omega.{arith}
use lib.Dec.{eqb, leb}
use lib.IntN.{ℤ, pos, negsuc, nat_abs}
use lib.ListN.{length, get_or, take, length-append, get_or-append}
use lib.Seq.{take-suc, take-length, get_or_at}
use borrow.Author.Tests.{leb-true, eqb-true, le-leb, eq-eqb, ne_eqb}
use Rattle.laws.specs.Row.{each}
use Rattle.laws.proofs.FindLaws.{true-false}
use Rattle.laws.proofs.RowLaws.{and-true, true-and, each_at, each_append}
use Rattle.field.specs.declared.class.Class.{Class}
use Rattle.field.specs.declared.class.Class.TheVariants.{Blank, Digit, Zero}
use Rattle.field.specs.Bytes.{in_class, all_of}
use Rattle.field.specs.Digits.{digits, digits_number, number_written}
use Rattle.field.specs.Signs.{is_neg, signed, sign_byte}

-- CLASSES: what a class says of one byte,
pub all-at : (c : Class) (s : List ℕ) (k : ℕ) → all_of c s ≡ true → k < length s → in_class c (get_or s k 0) ≡ true
unfolding all_of
all-at c s k e l = each_at (in_class c) s k 0 e l

-- and what one byte says of a class
pub not-all : (c : Class) (s : List ℕ) (k : ℕ) → k < length s → in_class c (get_or s k 0) ≡ false → all_of c s ≡ false
not-all c s k l e = go (all_of c s) (λ h. all-at c s k h l)
  where
    go : (b : Bool) → (b ≡ true → in_class c (get_or s k 0) ≡ true) → b ≡ false
    go true h = absurd (true-false (sym (h refl) ∙ e))
    go false h = refl

pub all_append : (c : Class) (s t : List ℕ) → all_of c s ≡ true → all_of c t ≡ true → all_of c (s ++ t) ≡ true
unfolding all_of
all_append c s t e h = each_append (in_class c) s t e h

one_byte : (c : Class) (b : ℕ) → in_class c b ≡ true → all_of c (b ∷ []) ≡ true
unfolding all_of each
one_byte c b e = true-and (in_class c b) true e refl

pub digit-range : (s : List ℕ) (k : ℕ) → all_of Digit s ≡ true → k < length s → (48 ≤ get_or s k 0) × (get_or s k 0 ≤ 57)
digit-range s k e l =
    let b = get_or s k 0 in
    let q = and-true (leb 48 b) (leb b 57) (all-at Digit s k e l) in
    (leb-true 48 b q.0, leb-true b 57 q.1)

-- DIGITS
pub length_digits : (w n : ℕ) → length (digits w n) ≡ w
unfolding digits
length_digits zero n = refl
length_digits (suc w) n = simp (length-append, length_digits w (n / 10)) (omega arith)

pub digits_are : (w n : ℕ) → all_of Digit (digits w n) ≡ true
unfolding digits all_of each
digits_are zero n = refl
digits_are (suc w) n =
    let d : ℕ = 48 + n % 10 in
    all_append Digit (digits w (n / 10)) (d ∷ []) (digits_are w (n / 10))
    (one_byte Digit d (true-and (leb 48 d) (leb d 57) (le-leb 48 d (omega arith)) (le-leb d 57 (omega arith))))

pub digits-not-blank : (w n : ℕ) → 0 < w → all_of Blank (digits w n) ≡ false
digits-not-blank w n h =
    let s = digits w n in
    let l : 0 < length s = omega (arith, length_digits w n) in
    let r = digit-range s 0 (digits_are w n) l in
    not-all Blank s 0 l (ne_eqb (get_or s 0 0) 32 (λ e. omega arith))

-- NUMBERS: only the first w bytes count
number-front : (w : ℕ) (s t : List ℕ) → w ≤ length s → digits_number w (s ++ t) ≡ digits_number w s
unfolding digits_number
number-front zero s t h = refl
number-front (suc w) s t h = rw (number-front w s t (omega arith), get_or-append s t 0 w h)

pub number_digits : (w n : ℕ) → n < 10 ^ w → digits_number w (digits w n) ≡ n
unfolding digits_number digits
number_digits zero n h = omega arith
number_digits (suc w) n h =
    let s = digits w (n / 10) in
    let l = length_digits w (n / 10) in
    let q : n / 10 < 10 ^ w = omega (arith, pow-suc 10 w) in
    rw (number-front w s ((48 + n % 10) ∷ []) (omega arith), number_digits w (n / 10) q, get_or_at s (48 + n % 10) [] 0 w l) (omega arith)

-- a field of up to ten bytes is read whole
number_of : (s : List ℕ) → length s ≤ 10 → number_written s ≡ digits_number (length s) s
unfolding number_written
number_of s h = ap (λ (w : ℕ). digits_number w s) (min-eq_right h)

pub number-of-digits : (w n : ℕ) → w ≤ 10 → n < 10 ^ w → number_written (digits w n) ≡ n
number-of-digits w n h l =
    number_of (digits w n) (omega (arith, length_digits w n)) ∙ ap (λ (k : ℕ). digits_number k (digits w n)) (length_digits w n) ∙ number_digits w n l

-- of digits, the first w
module _ (s : List ℕ) (d : all_of Digit s ≡ true) where
  digits_number_lem : (w : ℕ) → w ≤ length s → digits w (digits_number w s) ≡ take w s
  unfolding digits_number digits
  digits_number_lem zero h = refl
  digits_number_lem (suc w) h =
      let r = digit-range s w d h in
      let n = digits_number w s in
      let b = get_or s w 0 in
      let p : (n * 10 + (b - 48)) / 10 ≡ n = omega arith in
      let q : 48 + (n * 10 + (b - 48)) % 10 ≡ b = omega arith in
      rw (p, q, digits_number_lem w (omega arith), take-suc s w 0 h)

  number_lt : (w : ℕ) → w ≤ length s → digits_number w s < 10 ^ w
  unfolding digits_number
  number_lt zero h = omega arith
  number_lt (suc w) h = omega (arith, pow-suc 10 w, number_lt w (omega arith), digit-range s w d h)

pub digits-of-number : (s : List ℕ) → length s ≤ 10 → all_of Digit s ≡ true → digits (length s) (number_written s) ≡ s
digits-of-number s h d = ap (digits (length s)) (number_of s h) ∙ digits_number_lem s d (length s) (omega arith) ∙ take-length s

pub number-of-lt : (s : List ℕ) → length s ≤ 10 → all_of Digit s ≡ true → number_written s < 10 ^ length s
number-of-lt s h d = rw (number_of s h) (number_lt s d (length s) (omega arith))

-- bytes that count 0
low-number : (s : List ℕ) → ((k : ℕ) → k < length s → get_or s k 0 ≤ 48) → number_written s ≡ 0
unfolding number_written digits_number
low-number s low = go (min 10 (length s)) (min-le_right 10 (length s))
  where
    go : (w : ℕ) → w ≤ length s → digits_number w s ≡ 0
    go zero h = refl
    go (suc w) h = omega (arith, go w (omega arith), low w h)

pub blank-number : (s : List ℕ) → all_of Blank s ≡ true → number_written s ≡ 0
blank-number s e = low-number s (λ k l. omega (arith, eqb-true (get_or s k 0) 32 (all-at Blank s k e l)))

zero-digits : (w : ℕ) → all_of Zero (digits w 0) ≡ true
unfolding digits all_of each
zero-digits zero = refl
zero-digits (suc w) = all_append Zero (digits w 0) (48 ∷ []) (zero-digits w) refl

pub zero_number : (s : List ℕ) → length s ≤ 10 → all_of Digit s ≡ true → all_of Zero s ≡ eqb (number_written s) 0
zero_number s h d = go (ℕ_discrete (number_written s) 0) (all_of Zero s) refl
  where
    go : Dec (number_written s ≡ 0) → (b : Bool) → all_of Zero s ≡ b → b ≡ eqb (number_written s) 0
    go (yes z) b e =
        let t : digits (length s) 0 ≡ s = ap (digits (length s)) (sym z) ∙ digits-of-number s h d in
        sym e ∙ ap (all_of Zero) (sym t) ∙ zero-digits (length s) ∙ sym (eq-eqb (number_written s) 0 z)
    go (no z) true e = absurd (z (low-number s (λ k l. omega (arith, eqb-true (get_or s k 0) 48 (all-at Zero s k e l)))))
    go (no z) false e = sym (ne_eqb (number_written s) 0 z)

-- SIGNS
pub sign-back : (b : Bool) (n : ℕ) → (b ≡ true → n ≡ 0 → ⊥) → (is_neg (signed b n) ≡ b) × (nat_abs (signed b n) ≡ n)
sign-back false n h = (refl, refl)
sign-back true zero h = absurd (h refl refl)
sign-back true (suc n) h = (refl, refl)

pub sign-trip : (z : ℤ) → signed (is_neg z) (nat_abs z) ≡ z
sign-trip (pos n) = refl
sign-trip (negsuc n) = refl

pub sign-of-byte : (z : ℤ) → eqb (sign_byte z) 45 ≡ is_neg z
sign-of-byte (pos n) = refl
sign-of-byte (negsuc n) = refl
