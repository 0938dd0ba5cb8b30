-- What the bytes of one field say is written as these bytes, and none of the tests of writing refuses it: over the form and the width.
-- Assumes nothing.
use Prim.Native.Nat.{ℕ, zero, suc, ◌^◌, ◌≤◌}
use mathlib.Core.Bool.{Bool, true, false, not, ◌&&◌, ◌||◌, or-false}
use mathlib.Core.List.{List, [], ◌∷◌}
use mathlib.Core.Path.{◌≡◌, refl, sym, ap, ◌∙◌}
use native.Mathlib.Decide.{ℕ_discrete}
use native.Mathlib.Omega.{arith}
use lib.Dec.{eqb, ltb}
use lib.IntN.{ℤ, nat_abs}
use lib.ListN.{length, get_or}
use borrow.Author.Tests.{le-ltb, lt-ltb, eqb-true, eq-eqb, ne_eqb, not-false}
use Rattle.laws.specs.Row.{pick}
use Rattle.laws.proofs.FindLaws.{true-false}
use Rattle.laws.proofs.RowLaws.{and-true, then-false, neither, picked}
use Rattle.field.specs.declared.class.Class.TheVariants.{Blank, Digit, Zero, Text}
use Rattle.field.specs.Bytes.{all_of, blanks}
use Rattle.field.specs.Digits.{digits, number_written}
use Rattle.field.specs.Signs.{is_neg, signed, sign_byte}
use Rattle.field.specs.Texts.{padded, trimmed, edged_by, lawful_text, not_given}
use Rattle.field.proofs.DigitLaws.{digits-of-number, number-of-lt, zero_number, sign-back}
use Rattle.field.proofs.TextLaws.{blank-is, trimmed-le, trimmed-last, trimmed-first, trimmed-text, trimmed-some, padded-trimmed, first-bytes-padded, edged-not}
use Rattle.record.specs.declared.kind.Form.{Form}
use Rattle.record.specs.declared.kind.Domain.{Domain}
use Rattle.record.specs.declared.kind.Domain.TheVariants.{Any, PlusMinus}
use Rattle.record.specs.declared.kind.Form.TheVariants.{Words, Code, Sign, Number, Size}
use Rattle.record.specs.Table.{is_n, widest}
use Rattle.record.specs.machinery.Packed.{form_digit, form_of}
use Rattle.record.specs.Rules.{not_number, not_text, missing_in, word_within, number_within, in_domain, outside, is_sign_byte}
use Rattle.record.specs.Says.{Said, missing, number, text, coordinate, text_said, said_as, is_missing}
use Rattle.record.proofs.PackedLaws.{form-digit, form_domain}
use Rattle.record.proofs.RuleLaws.{domain-first}
use Rattle.codec.specs.Values.{value_of, said_by, text_by, text_value}
use Rattle.codec.specs.Writes.{bytes_as, text_bytes, number_bytes, sign_bytes}
use Rattle.codec.specs.Refusals.{too_large, bad_text, bad_said, blank_as, missing_as, outside_said}

-- WHAT A FIELD SAYS, written: the field's bytes, and what the tests of writing find
pub record Kept (t : List ℕ) (own : Said) (written : List ℕ) : Type 0 where
  pub same : written ≡ t
  pub small : too_large (length t) own ≡ false
  pub good : bad_said (length t) own ≡ false
  pub gone : is_missing own ≡ all_of Blank t

-- a text that is not blank
lawful-parts : (t : List ℕ) → lawful_text t ≡ true → all_of Blank t ≡ false → (all_of Text t ≡ true) × (eqb (get_or t 0 0) 32 ≡ false) × (edged_by 160 (trimmed t) ≡ false)
unfolding lawful_text
lawful-parts t e n =
    let q = and-true (all_of Text t && (all_of Blank t || not (eqb (get_or t 0 0) 32))) (not (edged_by 160 (trimmed t))) e in
    let p = and-true (all_of Text t) (all_of Blank t || not (eqb (get_or t 0 0) 32)) q.0 in
    (p.0, first (eqb (get_or t 0 0) 32) (rw n at p.1), first (edged_by 160 (trimmed t)) q.1)
  where
    first : (b : Bool) → not b ≡ true → b ≡ false
    first true h = sym h
    first false h = refl

good-text : (t : List ℕ) → lawful_text t ≡ true → all_of Blank t ≡ false → bad_text (length t) (trimmed t) ≡ false
unfolding bad_text
good-text t e n =
    let p = lawful-parts t e n in
    let some = trimmed-some t n in
    let plain = edged-not 32 (trimmed t) (rw (trimmed-first t some) p.1) (trimmed-last t some) in
    rw (le-ltb (length t) (length (trimmed t)) (trimmed-le t), trimmed-text t p.0, plain, p.2)

text-kept : (t : List ℕ) → lawful_text t ≡ true → Kept t (text_said t) (text_bytes (length t) (text_said t))
text-kept t e = go (all_of Blank t) refl
  where
    go : (b : Bool) → all_of Blank t ≡ b → Kept t (pick b missing (text (trimmed t))) (text_bytes (length t) (pick b missing (text (trimmed t))))
    go true h = record { same = sym (blank-is t h); small = refl; good = refl; gone = sym h }
    go false h = record { same = padded-trimmed t; small = refl; good = good-text t e h; gone = sym h }

-- a number, said plainly or as a coordinate
abs-signed : (b : Bool) (n : ℕ) → nat_abs (signed b n) ≡ n
abs-signed false n = refl
abs-signed true zero = refl
abs-signed true (suc n) = refl

digits-kept :
    (t : List ℕ) (own : Said) → length t ≤ 10 → not_number Number t ≡ false → number_bytes (length t) own ≡ digits (length t) (number_written t)
    → too_large (length t) own ≡ not (ltb (number_written t) (10 ^ length t)) → bad_said (length t) own ≡ false → is_missing own ≡ false
    → Kept t (pick (all_of Blank t) missing own) (number_bytes (length t) (pick (all_of Blank t) missing own))
unfolding not_number
digits-kept t own l e written large bad gone = go (all_of Blank t) refl
  where
    go : (b : Bool) → all_of Blank t ≡ b → Kept t (pick b missing own) (number_bytes (length t) (pick b missing own))
    go true h = record { same = sym (blank-is t h); small = refl; good = refl; gone = sym h }
    go false h =
        let d : all_of Digit t ≡ true = not-false (all_of Digit t) (rw h at e) in
        record {
          same = written ∙ digits-of-number t l d;
          small = large ∙ ap not (lt-ltb (number_written t) (10 ^ length t) (number-of-lt t l d));
          good = bad;
          gone = gone ∙ sym h;
        }

-- FIELDS: all but a sign, which says nothing itself
pub kept :
    (form : Form) (t b : List ℕ) (next : Said) → (is_n form ≡ true → length t ≤ 10) → not_number form t ≡ false → not_text form t ≡ false → (form ≡ Sign → ⊥)
    → Kept t (said_as form t b) (bytes_as form (length t) (said_as form t b) next)
unfolding said_as bytes_as not_text not_number
kept Words t b next w n e s = text-kept t (not-false (lawful_text t) e)
kept Code t b next w n e s = text-kept t (not-false (lawful_text t) e)
kept Sign t b next w n e s = absurd (s refl)
kept Number t b next w n e s = digits-kept t (number (number_written t)) (w refl) n refl refl refl refl
kept Size t b next w n e s =
    let h = abs-signed (eqb (get_or b 0 0) 45) (number_written t) in
    digits-kept t (coordinate (signed (eqb (get_or b 0 0) 45) (number_written t))) (w refl) n
    (ap (digits (length t)) h) (ap (λ (m : ℕ). not (ltb m (10 ^ length t))) h) refl refl

-- what is missing as it is said is missing by its bytes; a coordinate is told at its sign
blank-missing : (b c : Bool) (own : Said) → is_missing own ≡ false → is_missing (pick b missing own) ≡ true → (b || c) ≡ true
blank-missing true c own e h = refl
blank-missing false c own e h = absurd (true-false (sym h ∙ e))

code-missing : (b : Bool) (u : List ℕ) → missing_as Code (pick b missing (text u)) missing ≡ true → (b || not_given u) ≡ true
code-missing true u h = refl
code-missing false u h = h

pub was-missing : (form : Form) (t b : List ℕ) (next : Said) → (form ≡ Sign → ⊥) → missing_as form (said_as form t b) next ≡ true → missing_in form t ≡ true
unfolding said_as missing_in
was-missing Words t b next s h = blank-missing (all_of Blank t) false (text (trimmed t)) refl h
was-missing Code t b next s h = code-missing (all_of Blank t) (trimmed t) h
was-missing Sign t b next s h = absurd (s refl)
was-missing Number t b next s h = blank-missing (all_of Blank t) false (number (number_written t)) refl h
was-missing Size t b next s h = absurd (true-false (sym h))

-- nor is it outside where the bytes are not: words by their first byte, numbers as they are written
within-words : (d : Domain) (t : List ℕ) → all_of Blank t ≡ false → (not (word_within d t) || false) ≡ false → not (word_within d (trimmed t)) ≡ false
within-words d t h e = ap not (domain-first d (trimmed t) t (trimmed-first t (trimmed-some t h))) ∙ sym (or-false (not (word_within d t))) ∙ e

never-outside : (d : Domain) → d ≡ Any → (x : Said) → outside_said d x ≡ false
unfolding word_within number_within
never-outside d e missing = refl
never-outside d e (number n) = rw e
never-outside d e (text t) = rw e
never-outside d e (coordinate z) = refl

pub not-outside : (form : Form) (d : Domain) (t b next : List ℕ) → d ≡ form_domain form d → (missing_in form t ≡ false → outside form d t next ≡ false) → outside_said d (said_as form t b) ≡ false
unfolding said_as missing_in in_domain outside
not-outside Words d t b next fits e = picked (λ x. outside_said d x ≡ false) (all_of Blank t) missing (text (trimmed t)) (λ _. refl) (λ h. within-words d t h (e (rw h)))
not-outside Code d t b next fits e = never-outside d fits (said_as Code t b)
not-outside Sign d t b next fits e = refl
not-outside Number d t b next fits e =
    picked (λ x. outside_said d x ≡ false) (all_of Blank t) missing (number (number_written t)) (λ _. refl) (λ h. sym (or-false (not (number_within d (number_written t)))) ∙ e (rw h))
not-outside Size d t b next fits e = never-outside d fits (said_as Size t b)

-- A SIGN, which is blank where its number n is: it is written as its coordinate's
sign-byte : (z : ℤ) (c : ℕ) → is_sign_byte c ≡ true → is_neg z ≡ eqb c 45 → sign_byte z ≡ c
sign-byte z c e q = rw q (go (eqb c 45) refl e)
  where
    go : (b : Bool) → eqb c 45 ≡ b → (eqb c 43 || b) ≡ true → pick b 45 43 ≡ c
    go true h e = sym (eqb-true c 45 h)
    go false h e = sym (eqb-true c 43 (sym (or-false (eqb c 43)) ∙ e))

one-sign : (c : ℕ) (n : List ℕ) → length n ≤ 10 → all_of Digit n ≡ true → outside Sign PlusMinus (c ∷ []) n ≡ false
    → padded 1 (sign_byte (signed (eqb c 45) (number_written n)) ∷ []) ≡ c ∷ []
unfolding word_within in_domain outside padded
one-sign c n l d o =
    let p = neither (not (is_sign_byte c)) (eqb c 45 && all_of Zero n) o in
    let zero_minus : eqb c 45 ≡ true → number_written n ≡ 0 → ⊥ =
    λ h z. true-false (sym (zero_number n l d ∙ eq-eqb (number_written n) 0 z) ∙ then-false (eqb c 45) (all_of Zero n) p.1 h) in
    ap (λ (x : ℕ). x ∷ [])
    (sign-byte (signed (eqb c 45) (number_written n)) c (not-false (is_sign_byte c) p.0) (sign-back (eqb c 45) (number_written n) zero_minus).0)

one_byte : (t : List ℕ) → length t ≡ 1 → t ≡ get_or t 0 0 ∷ []
one_byte [] e = absurd (omega arith)
one_byte (c ∷ []) e = refl
one_byte (c ∷ b ∷ t) e = absurd (omega arith)

pub sign_kept :
    (t n : List ℕ) (own : Said) → length t ≡ 1 → length n ≤ 10 → not_number Size n ≡ false → all_of Blank t ≡ all_of Blank n
    → (all_of Blank t ≡ false → outside Sign PlusMinus t n ≡ false) → bytes_as Sign 1 own (said_as Size n t) ≡ t
unfolding said_as bytes_as not_number
sign_kept t n own w l e q o = go (all_of Blank n) refl
  where
    c : ℕ
    c = get_or t 0 0

    go : (b : Bool) → all_of Blank n ≡ b → sign_bytes 1 (pick b missing (coordinate (signed (eqb c 45) (number_written n)))) ≡ t
    go true h = sym (blank-is t (q ∙ h) ∙ ap blanks w)
    go false h =
        let same = one_byte t w in
        one-sign c n l (not-false (all_of Digit n) (rw h at e)) (ap (λ (x : List ℕ). outside Sign PlusMinus x n) (sym same) ∙ o (q ∙ h)) ∙ sym same

-- AS A VALUE
text_says : (t : List ℕ) → length t ≤ widest → text_by (value_of (text_said t)) ≡ text_said t
unfolding value_of text_value
text_says t l =
    picked (λ x. text_by (value_of x) ≡ x) (all_of Blank t) missing (text (trimmed t)) (λ _. refl)
    (λ h.
    let n = trimmed-some t h in
    let m = trimmed-le t in
    rw (ne_eqb (length (trimmed t)) 0 (λ e. omega arith), first-bytes-padded (trimmed t) 60 (omega arith)))

pub value-says : (form : Form) (t b : List ℕ) → length t ≤ widest → said_by form (value_of (said_as form t b)) ≡ said_as form t b
unfolding said_as value_of
value-says Words t b l = text_says t l
value-says Code t b l = text_says t l
value-says Sign t b l = refl
value-says Number t b l = picked (λ x. said_by Number (value_of x) ≡ x) (all_of Blank t) missing (number (number_written t)) (λ _. refl) (λ h. refl)
value-says Size t b l =
    picked (λ x. said_by Size (value_of x) ≡ x) (all_of Blank t) missing (coordinate (signed (eqb (get_or b 0 0) 45) (number_written t))) (λ _. refl) (λ h. refl)

-- WHAT THE NEXT FIELD SAYS is read by a sign alone
pub heard :
    (form : Form) (w : ℕ) (own a b : Said) → (form ≡ Sign → a ≡ b)
    → (bytes_as form w own a ≡ bytes_as form w own b) × (blank_as form own a ≡ blank_as form own b) × (missing_as form own a ≡ missing_as form own b)
unfolding bytes_as
heard Words w own a b e = (refl, refl, refl)
heard Code w own a b e = (refl, refl, refl)
heard Sign w own a b e = (ap (sign_bytes w) (e refl), ap is_missing (e refl), ap is_missing (e refl))
heard Number w own a b e = (refl, refl, refl)
heard Size w own a b e = (refl, refl, refl)

pub blank-own : (form : Form) (own next : Said) → (form ≡ Sign → ⊥) → blank_as form own next ≡ is_missing own
blank-own Words own next s = refl
blank-own Code own next s = refl
blank-own Sign own next s = absurd (s refl)
blank-own Number own next s = refl
blank-own Size own next s = refl

pub sign-or : (form : Form) → Dec (form ≡ Sign)
unfolding form_of
sign-or form = go (ℕ_discrete (form_digit form) (form_digit Sign))
  where
    go : Dec (form_digit form ≡ form_digit Sign) → Dec (form ≡ Sign)
    go (yes e) = yes (sym (form-digit form) ∙ ap form_of e)
    go (no n) = no (λ e. n (ap form_digit e))

-- a blank field is missing, and a sign is so only then
pub missing-blank : (form : Form) (t : List ℕ) → all_of Blank t ≡ true → missing_in form t ≡ true
unfolding missing_in
missing-blank form t e = rw e

pub sign-there : (t : List ℕ) → all_of Blank t ≡ false → missing_in Sign t ≡ false
unfolding missing_in
sign-there t e = rw e
