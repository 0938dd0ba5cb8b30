-- Numbers read at once (specs/machinery/AtOnce.antt): and'ed bytes are at most each, and bytes by their powers of ten are the number with 48
-- times each power, where none is below 48.
-- Assumes nothing.
use Prim.Native.Nat.{ℕ, ◌+◌, ◌-◌, ◌*◌, ◌^◌, ◌≤◌, ◌<◌, min}
use mathlib.Core.List.{List}
use mathlib.Core.Path.{◌≡◌, refl}
use native.Mathlib.Nat.{pow-suc, pow-le-pow_right}
use native.Mathlib.Numerals.{add-one}
use native.Mathlib.Omega.{arith}
use borrow.Author.Count.{below_none, below_more}
use borrow.Author.Tests.{ne_eqb}
use lib.Bits.{bit_and, and_le_l, and_le_r}
use lib.Dec.{lit<}
use lib.ListN.{length, get_or}
use Rattle.field.specs.declared.class.Class.TheVariants.{Blank}
use Rattle.field.specs.Digits.{digits_number}
use Rattle.field.specs.machinery.AtOnce.{AtOnce}
use Rattle.field.proofs.DigitLaws.{not-all}
use Rattle.field.proofs.NumberLoops.{number_more, number-end}

-- THE FIRST k BYTES: low is at most each of them; sum is theirs by their powers of ten, and least what of it is 48 times each power
pub record Summed (s : List ℕ) (k low sum least : ℕ) : Type 0 where
  pub under : (j : ℕ) → j < k → low ≤ get_or s j 0
  pub number : 48 ≤ low → digits_number k s + least ≡ sum
  pub small : sum + 29 ≤ 29 * 10 ^ k
  pub zeros : least * 9 + 48 ≡ 48 * 10 ^ k

pub summed-none : (s : List ℕ) (low : ℕ) → Summed s 0 low 0 0
unfolding digits_number
summed-none s low = record { under = below_none (λ j. low ≤ get_or s j 0); number = λ _. refl; small = omega arith; zeros = omega arith }

pub summed-more : {s : List ℕ} {k low sum least : ℕ} → Summed s k low sum least → get_or s k 0 ≤ 255
    → Summed s (k + 1) (bit_and low (get_or s k 0)) (sum * 10 + get_or s k 0) (least * 10 + 48)
summed-more {s} {k} {low} h g = record {
  under = below_more (λ (j : ℕ). bit_and low (get_or s k 0) ≤ get_or s j 0) k (λ j l. omega (arith, h.under j l, left)) right;
  number = λ l. omega (arith, left, right, number_more k s, h.number (omega (arith, left)));
  small = omega (arith, ten, h.small);
  zeros = omega (arith, ten, h.zeros);
}
  where
    left : bit_and low (get_or s k 0) ≤ low
    left = and_le_l low (get_or s k 0)

    right : bit_and low (get_or s k 0) ≤ get_or s k 0
    right = and_le_r low (get_or s k 0)

    ten : 10 ^ (k + 1) ≡ 10 * 10 ^ k
    ten = rw add-one (omega (arith, pow-suc 10 k))

-- THE ANSWER is the number of the field's w digits
pub at_once : {s : List ℕ} {w low sum least : ℕ} → Summed s w low sum least → length s ≡ w → 0 < w → w ≤ 10 → 48 ≤ low → AtOnce s (sum - least)
at_once {s} {w} {low} {sum} {least} h e l m g =
    let f = h.under 0 l in
    let q = h.number g in
    let t : w ≡ min 10 (length s) = omega arith in
    let p = pow-le-pow_right {n = 10} (lit< tt) {i = w} {j = 10} m in
    record {
      number = omega (arith, number-end s t);
      there = not-all Blank s 0 (omega arith) (ne_eqb (get_or s 0 0) 32 (λ z. omega arith));
      small = omega (arith, h.small, h.zeros);
    }
