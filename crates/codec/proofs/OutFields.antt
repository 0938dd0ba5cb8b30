-- What is written in one field, over its form and width: it is lawful, and says what was to be said.
-- Assumes nothing.
use Prim.Native.Nat.{ℕ, suc, ◌-◌, ◌^◌, ◌≤◌, ◌<◌}
use mathlib.Core.Bool.{true, false, not, ◌&&◌, ◌||◌, or-false}
use mathlib.Core.List.{List, [], ◌∷◌}
use mathlib.Core.Path.{◌≡◌, refl, ap, ap₂, sym, ◌∙◌}
use mathlib.Core.Logic.{◌⊎◌, inl, inr}
use native.Mathlib.Omega.{arith}
use lib.Dec.{ltb, eqb}
use lib.IntN.{ℤ, pos, negsuc, nat_abs}
use lib.ListN.{length, get_or}
use borrow.Author.Tests.{ltb-true, ltb-false, not-false, ne_eqb}
use Rattle.laws.specs.Row.{pick, each}
use Rattle.laws.proofs.FindLaws.{true-false}
use Rattle.laws.proofs.RowLaws.{neither, picked}
use Rattle.field.specs.declared.class.Class.TheVariants.{Blank, Digit, Zero, Text}
use Rattle.field.specs.Bytes.{all_of, blanks}
use Rattle.field.specs.Digits.{digits, number_written}
use Rattle.field.specs.Signs.{signed, sign_byte}
use Rattle.field.specs.Texts.{padded, trimmed, edged_by, lawful_text, not_given}
use Rattle.field.proofs.DigitLaws.{length_digits, digits_are, digits-not-blank, number-of-digits, zero_number, sign-trip, sign-of-byte}
use Rattle.field.proofs.TextLoops.{length-padded}
use Rattle.field.proofs.TextLaws.{blanks-are, not-blank-first, padded-first, padded-empty, padded-text, trimmed-blank, trimmed-padded, not-edged}
use Rattle.record.proofs.PackedLaws.{form_domain}
use Rattle.record.specs.declared.kind.Form.{Form}
use Rattle.record.specs.declared.kind.Domain.{Domain}
use Rattle.record.specs.declared.kind.Domain.TheVariants.{Any, PlusMinus}
use Rattle.record.specs.declared.kind.Form.TheVariants.{Words, Code, Sign, Number, Size}
use Rattle.record.specs.Table.{is_n}
use Rattle.record.specs.Rules.{not_number, not_text, missing_in, is_sign_byte, word_within, number_within, in_domain, outside}
use Rattle.record.specs.Says.{Said, missing, number, text, coordinate, is_missing, text_said, said_as}
use Rattle.record.proofs.RuleLaws.{domain-first}
use Rattle.codec.specs.Writes.{number_bytes, sign_bytes, text_bytes, bytes_as}
use Rattle.codec.specs.Refusals.{too_large, bad_text, bad_said, says_not_given, blank_as, missing_as, outside_said}
use Rattle.codec.proofs.Shapes.{is_textual, is_nothing, is_numeric, is_placed, shaped}

nothing : (own : Said) → is_nothing own ≡ true → missing ≡ own
nothing missing s = refl
nothing (number n) s = absurd (true-false (sym s))
nothing (text t) s = absurd (true-false (sym s))
nothing (coordinate z) s = absurd (true-false (sym s))

-- A TEXT that may be written
record Good (w : ℕ) (t : List ℕ) : Type 0 where
  some : 0 < length t
  fits : length t ≤ w
  texts : all_of Text t ≡ true
  first : eqb (get_or t 0 0) 32 ≡ false
  last : eqb (get_or t (length t - 1) 0) 32 ≡ false
  edges : edged_by 160 t ≡ false

good : (w : ℕ) (t : List ℕ) → ltb 0 (length t) ≡ true → bad_text w t ≡ false → Good w t
unfolding bad_text
good w t s e =
    let p = neither _ _ e in
    let q = neither _ _ p.0 in
    let r = neither _ _ q.0 in
    let f = not-edged 32 t q.1 in
    record {
      some = ltb-true 0 (length t) s;
      fits = ltb-false w (length t) r.0;
      texts = not-false _ r.1;
      first = f.0;
      last = f.1;
      edges = p.1;
    }

-- padded, it has no blank in front and is left when trimmed
module _ {w : ℕ} {t : List ℕ} (g : Good w t) where
  good-first : get_or (padded w t) 0 0 ≡ get_or t 0 0
  good-first = padded-first w t (omega (arith, g.some, g.fits)) g.some

  good_start : eqb (get_or (padded w t) 0 0) 32 ≡ false
  good_start = rw good-first g.first

  good-blank : all_of Blank (padded w t) ≡ false
  good-blank = not-blank-first (padded w t) (rw length-padded (omega (arith, g.some, g.fits))) good_start

  good-trimmed : trimmed (padded w t) ≡ t
  good-trimmed = trimmed-padded w t g.fits g.some g.last

  good-lawful : lawful_text (padded w t) ≡ true
  unfolding lawful_text
  good-lawful = rw (padded-text w t g.texts, good-blank, good_start, good-trimmed, g.edges)

blank-lawful : (w : ℕ) → lawful_text (blanks w) ≡ true
unfolding lawful_text edged_by all_of each
blank-lawful w = rw (trimmed-blank (blanks w) (blanks-are w), ← padded-empty w, padded-text w [] refl, padded-empty w, blanks-are w)

-- what may be said as a text: nothing or a text
data Textual (w : ℕ) : Said → Type 0 where
  none : Textual w missing
  some : {t : List ℕ} → Good w t → Textual w (text t)

textual : (w : ℕ) (own : Said) → is_textual own ≡ true → bad_said w own ≡ false → Textual w own
textual w missing s e = none
textual w (number n) s e = absurd (true-false (sym s))
textual w (text t) s e = some (good w t s e)
textual w (coordinate z) s e = absurd (true-false (sym s))

module _ {w : ℕ} where
  text-blank : {own : Said} → Textual w own → all_of Blank (text_bytes w own) ≡ is_missing own
  text-blank none = blanks-are w
  text-blank (some g) = good-blank g

  text-lawful : {own : Said} → Textual w own → not (lawful_text (text_bytes w own)) ≡ false
  text-lawful none = ap not (blank-lawful w)
  text-lawful (some g) = ap not (good-lawful g)

  text-given : {own : Said} → Textual w own → not_given (trimmed (text_bytes w own)) ≡ says_not_given own
  unfolding not_given
  text-given none = ap not_given (trimmed-blank (blanks w) (blanks-are w))
  text-given (some g) = ap not_given (good-trimmed g)

  text-said : {own : Said} → Textual w own → text_said (text_bytes w own) ≡ own
  text-said none = rw (blanks-are w)
  text-said (some g) = rw (good-blank g, good-trimmed g)

  -- its first byte is the text's
  text-first : {own : Said} → Textual w own → all_of Blank (text_bytes w own) ≡ false → (t : List ℕ) × (own ≡ text t) × (get_or (text_bytes w own) 0 0 ≡ get_or t 0 0)
  text-first none b = absurd (true-false (sym (blanks-are w) ∙ b))
  text-first (some {t} g) b = (t, refl, good-first g)

-- A NUMBER, in digits
module _ (w n : ℕ) (wide : 0 < w) where
  digits_number_lem : not (all_of Blank (digits w n)) && not (all_of Digit (digits w n)) ≡ false
  digits_number_lem = rw (digits-not-blank w n wide, digits_are w n)

  digits-back : w ≤ 10 → not (ltb n (10 ^ w)) ≡ false → number_written (digits w n) ≡ n
  digits-back h e = number-of-digits w n h (ltb-true n (10 ^ w) (not-false _ e))

  digits-zero : w ≤ 10 → not (ltb n (10 ^ w)) ≡ false → all_of Zero (digits w n) ≡ eqb n 0
  digits-zero h e =
      zero_number (digits w n) (rw length_digits h) (digits_are w n) ∙ ap (λ (m : ℕ). eqb m 0) (digits-back h e)

blanks-number : (w : ℕ) → not (all_of Blank (blanks w)) && not (all_of Digit (blanks w)) ≡ false
blanks-number w = rw (blanks-are w)

data Numeric : Said → Type 0 where
  none : Numeric missing
  some : (n : ℕ) → Numeric (number n)

numeric : (own : Said) → is_numeric own ≡ true → Numeric own
numeric missing s = none
numeric (number n) s = some n
numeric (text t) s = absurd (true-false (sym s))
numeric (coordinate z) s = absurd (true-false (sym s))

module _ {w : ℕ} (wide : 0 < w) where
  number-blank : {own : Said} → Numeric own → all_of Blank (number_bytes w own) ≡ is_missing own
  number-blank none = blanks-are w
  number-blank (some n) = digits-not-blank w n wide

  number-lawful : {own : Said} → Numeric own → not (all_of Blank (number_bytes w own)) && not (all_of Digit (number_bytes w own)) ≡ false
  number-lawful none = blanks-number w
  number-lawful (some n) = digits_number_lem w n wide

  -- it is within a domain where what was said is
  number-inside : (d : Domain) {own : Said} → Numeric own → w ≤ 10 → too_large w own ≡ false → outside_said d own ≡ false
      → all_of Blank (number_bytes w own) ≡ false → not (number_within d (number_written (number_bytes w own))) ≡ false
  number-inside d none h e o b = absurd (true-false (sym (blanks-are w) ∙ b))
  number-inside d (some n) h e o b = rw (digits-back w n wide h e) o

  number-said : {own : Said} → Numeric own → w ≤ 10 → too_large w own ≡ false
      → pick (all_of Blank (number_bytes w own)) missing (number (number_written (number_bytes w own))) ≡ own
  number-said none h e = rw (blanks-are w)
  number-said (some n) h e = rw (digits-not-blank w n wide, digits-back w n wide h e)

-- A COORDINATE: its digits, and its sign as a text of one byte
data Placed : Said → Type 0 where
  none : Placed missing
  some : (z : ℤ) → Placed (coordinate z)

placed : (own : Said) → is_placed own ≡ true → Placed own
placed missing s = none
placed (number n) s = absurd (true-false (sym s))
placed (text t) s = absurd (true-false (sym s))
placed (coordinate z) s = some z

sign-good : (w : ℕ) → 0 < w → (z : ℤ) → Good w (sign_byte z ∷ [])
unfolding all_of edged_by each
sign-good w h (pos n) = record { some = omega arith; fits = h; texts = refl; first = refl; last = refl; edges = refl }
sign-good w h (negsuc n) = record { some = omega arith; fits = h; texts = refl; first = refl; last = refl; edges = refl }

-- - stands only before digits that are not all zero
sign-within : (z : ℤ) (next : List ℕ) → (all_of Zero next ≡ eqb (nat_abs z) 0) → not (is_sign_byte (sign_byte z)) || eqb (sign_byte z) 45 && all_of Zero next ≡ false
sign-within (pos n) next e = refl
sign-within (negsuc n) next e = e ∙ ne_eqb (suc n) 0 (λ q. omega arith)

module _ {w : ℕ} (wide : 0 < w) where
  place-blank : {own : Said} → Placed own → all_of Blank (number_bytes w own) ≡ is_missing own
  place-blank none = blanks-are w
  place-blank (some z) = digits-not-blank w (nat_abs z) wide

  place-lawful : {own : Said} → Placed own → not (all_of Blank (number_bytes w own)) && not (all_of Digit (number_bytes w own)) ≡ false
  place-lawful none = blanks-number w
  place-lawful (some z) = digits_number_lem w (nat_abs z) wide

  sign-blank : {next : Said} → Placed next → all_of Blank (sign_bytes w next) ≡ is_missing next
  sign-blank none = blanks-are w
  sign-blank (some z) = good-blank (sign-good w wide z)

  sign-lawful : {next : Said} → Placed next → not (lawful_text (sign_bytes w next)) ≡ false
  sign-lawful none = ap not (blank-lawful w)
  sign-lawful (some z) = ap not (good-lawful (sign-good w wide z))

  sign-inside : {next : Said} {m : ℕ} → Placed next → 0 < m → m ≤ 10 → too_large m next ≡ false → all_of Blank (sign_bytes w next) ≡ false
      → outside Sign PlusMinus (sign_bytes w next) (number_bytes m next) ≡ false
  unfolding word_within in_domain outside
  sign-inside none l h e b = absurd (true-false (sym (blanks-are w) ∙ b))
  sign-inside {m = m} (some z) l h e b = rw (good-first (sign-good w wide z)) (sign-within z _ (digits-zero m (nat_abs z) l h e))

  place-said : {own : Said} → Placed own → w ≤ 10 → too_large w own ≡ false
      → pick (all_of Blank (number_bytes w own)) missing (coordinate (signed (eqb (get_or (sign_bytes 1 own) 0 0) 45) (number_written (number_bytes w own)))) ≡ own
  place-said none h e = rw (blanks-are w)
  place-said (some z) h e =
      rw (digits-not-blank w (nat_abs z) wide, good-first (sign-good 1 (omega arith) z), sign-of-byte z, digits-back w (nat_abs z) wide h e, sign-trip z)

-- A FIELD of the form and the width that may say own before a field that says next
pub record Sayable (form : Form) (w : ℕ) (own next : Said) : Type 0 where
  pub wide : 0 < w
  pub narrow : is_n form ≡ true → w ≤ 10
  pub shape : shaped form own ≡ true
  pub after : form ≡ Sign → shaped Size next ≡ true
  pub fits : too_large w own ≡ false
  pub lawful : bad_said w own ≡ false

-- a text and a sign break no A rule, a number no N rule
pub out-number : (form : Form) (w : ℕ) (own next : Said) → Sayable form w own next → not_number form (bytes_as form w own next) ≡ false
unfolding not_number bytes_as shaped
out-number Words w own next h = refl
out-number Code w own next h = refl
out-number Sign w own next h = refl
out-number Number w own next h = number-lawful h.wide (numeric own h.shape)
out-number Size w own next h = place-lawful h.wide (placed own h.shape)

pub out-text : (form : Form) (w : ℕ) (own next : Said) → Sayable form w own next → not_text form (bytes_as form w own next) ≡ false
unfolding not_text bytes_as shaped
out-text Words w own next h = text-lawful (textual w own h.shape h.lawful)
out-text Code w own next h = text-lawful (textual w own h.shape h.lawful)
out-text Sign w own next h = sign-lawful h.wide (placed next (h.after refl))
out-text Number w own next h = refl
out-text Size w own next h = refl

-- it is blank where nothing is said
pub out-blank : (form : Form) (w : ℕ) (own next : Said) → Sayable form w own next → all_of Blank (bytes_as form w own next) ≡ blank_as form own next
unfolding bytes_as shaped
out-blank Words w own next h = text-blank (textual w own h.shape h.lawful)
out-blank Code w own next h = text-blank (textual w own h.shape h.lawful)
out-blank Sign w own next h = sign-blank h.wide (placed next (h.after refl))
out-blank Number w own next h = number-blank h.wide (numeric own h.shape)
out-blank Size w own next h = place-blank h.wide (placed own h.shape)

-- and missing by the rule of reading where it is by that of writing, but at the number of a coordinate
pub out-missing : (form : Form) (w : ℕ) (own next : Said) → Sayable form w own next
    → ((form ≡ Size) × (missing_in form (bytes_as form w own next) ≡ is_missing own)) ⊎ (missing_in form (bytes_as form w own next) ≡ missing_as form own next)
unfolding missing_in bytes_as shaped
out-missing Words w own next h = inr (or-false _ ∙ out-blank Words w own next h)
out-missing Code w own next h = inr (ap₂ ◌||◌ (out-blank Code w own next h) (text-given (textual w own h.shape h.lawful)))
out-missing Sign w own next h = inr (or-false _ ∙ out-blank Sign w own next h)
out-missing Number w own next h = inr (or-false _ ∙ out-blank Number w own next h)
out-missing Size w own next h = inl (refl, or-false _ ∙ out-blank Size w own next h)

-- it lies within its domain; a sign before the digits of its number
any-inside : (form : Form) (d : Domain) → d ≡ Any → (t : List ℕ) → (not (in_domain form d t) || false) ≡ false
unfolding word_within number_within in_domain
any-inside form d e t = rw e (picked (λ b. (not b || false) ≡ false) (is_n form) true true (λ _. refl) (λ _. refl))

pub out-inside : (form : Form) (d : Domain) (w : ℕ) (own next : Said) (m : ℕ) (b : List ℕ) → d ≡ form_domain form d → Sayable form w own next
    → (form ≡ Sign → (0 < m) × (m ≤ 10) × (too_large m next ≡ false) × (b ≡ number_bytes m next))
    → outside_said d own ≡ false → all_of Blank (bytes_as form w own next) ≡ false → outside form d (bytes_as form w own next) b ≡ false
unfolding in_domain outside bytes_as shaped
out-inside Words d w own next m b fits h s o e =
    let r = text-first (textual w own h.shape h.lawful) e in
    or-false (not (word_within d (text_bytes w own))) ∙ ap not (domain-first d (text_bytes w own) r.0 r.2) ∙ rw r.1 at o
out-inside Code d w own next m b fits h s o e = any-inside Code d fits (text_bytes w own)
out-inside Sign d w own next m b fits h s o e =
    let r = s refl in
    rw (fits, r.3) (sign-inside h.wide (placed next (h.after refl)) r.0 r.1 r.2 e)
out-inside Number d w own next m b fits h s o e =
    or-false (not (number_within d (number_written (number_bytes w own)))) ∙ number-inside h.wide d (numeric own h.shape) (h.narrow refl) h.fits o e
out-inside Size d w own next m b fits h s o e = any-inside Size d fits (number_bytes w own)

-- and it says what was to be said; of a number of a coordinate, after its sign
pub out-said : (form : Form) (w : ℕ) (own next : Said) (b : List ℕ) → Sayable form w own next
    → (form ≡ Size → b ≡ sign_bytes 1 own) → said_as form (bytes_as form w own next) b ≡ own
unfolding bytes_as shaped said_as
out-said Words w own next b h s = text-said (textual w own h.shape h.lawful)
out-said Code w own next b h s = text-said (textual w own h.shape h.lawful)
out-said Sign w own next b h s = nothing own h.shape
out-said Number w own next b h s = number-said h.wide (numeric own h.shape) (h.narrow refl) h.fits
out-said Size w own next b h s = rw (s refl) (place-said h.wide (placed own h.shape) (h.narrow refl) h.fits)
