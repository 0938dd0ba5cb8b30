-- The laws that the proofs of src/words.rt and src/line.rt cite: a word letter by letter, an equals sign, blanks and digits byte by byte.
-- Assumes nothing.
use Rattle.std.specs.Prelude.{Some, None}
use Prim.Native.Nat.{ℕ, suc, ◌+◌, ◌-◌, ◌*◌, ◌<◌, ◌≤◌}
use mathlib.Core.Bool.{Bool, true, false, not, ◌&&◌, ◌||◌, and-false}
use mathlib.Core.List.{List, [], ◌∷◌}
use mathlib.Core.Path.{◌≡◌, refl, sym, ap, ◌∙◌}
use native.Mathlib.Numerals.{add-one}
use native.Mathlib.Omega.{arith}
use lib.Dec.{eqb, leb}
use lib.ListN.{length, get_or, take, drop, length-drop, drop_of_length-le}
use lib.Seq.{drop-cons, take_all, take-take, length-take-le}
use borrow.Author.Tests.{leb-true, lt-ltb, le-ltb, eq-eqb, ne_eqb}
use Rattle.laws.specs.Row.{each}
use Rattle.laws.proofs.RowLaws.{and-true}
use Rattle.field.specs.declared.class.Class.TheVariants.{Digit}
use Rattle.field.specs.Bytes.{in_class, all_of}
use Rattle.field.specs.Texts.{trim_to, trimmed}
use Rattle.field.proofs.TextLaws.{trimmed-le}
use Rattle.field.proofs.TextLoops.{trim-le, length-trimmed}
use Rattle.metadata.specs.Words.{small, is_word, section_word}
use Rattle.metadata.specs.Told.{is_fichero, equals_from, unled, decimal, too_many, number_in}

-- A WORD: of both lists the first i letters are passed
module _ (word t : List ℕ) (i : ℕ) where
  module _ (l : i < length word) (m : i < length t) where
    pub word_more : eqb (small (get_or t i 0)) (get_or word i 0) ≡ true → is_word (drop (i + 1) word) (drop (i + 1) t) ≡ is_word (drop i word) (drop i t)
    unfolding is_word
    word_more e = rw (add-one, drop-cons word i 0 l, drop-cons t i 0 m, e)

    pub word-stop : eqb (small (get_or t i 0)) (get_or word i 0) ≡ false → false ≡ is_word (drop i word) (drop i t)
    unfolding is_word
    word-stop e = rw (drop-cons word i 0 l, drop-cons t i 0 m, e)

  pub word_end : length word ≤ i → length t ≤ i → true ≡ is_word (drop i word) (drop i t)
  unfolding is_word
  word_end l m = rw (drop_of_length-le word l, drop_of_length-le t m)

pub word-long : (word t : List ℕ) → (length t ≡ length word → ⊥) → false ≡ is_word word t
unfolding is_word
word-long [] [] h = absurd (h refl)
word-long [] (b ∷ t) h = refl
word-long (w ∷ word) [] h = refl
word-long (w ∷ word) (b ∷ t) h = sym (and-false (eqb (small b) w)) ∙ ap (λ (x : Bool). eqb (small b) w && x) (word-long word t (λ e. h (ap suc e)))

-- A SECTION
pub fichero-short : (t : List ℕ) → length t ≤ 9 → false ≡ is_fichero t
unfolding is_fichero
fichero-short t l = rw (le-ltb 9 (length t) l)

pub fichero-long :
    (t : List ℕ) {a d : List ℕ} {x y : Bool} → (length t ≤ 9 → ⊥) → a ≡ take 8 t → d ≡ take (length t - 9) (drop 8 t) → x ≡ is_word section_word a → y ≡ all_of Digit d
    → (x && y) ≡ is_fichero t
unfolding is_fichero
fichero-long t l ea ed ex ey = rw (lt-ltb 9 (length t) (omega arith), ex, ey, ea, ed)

-- AN EQUALS SIGN
module _ (t : List ℕ) (i : ℕ) (some : Bool) {whole : ℕ} (inv : equals_from some (drop i t) + i ≡ whole) where
  module _ (l : i < length t) where
    pub equals-here : (eqb (get_or t i 0) 61 && some) ≡ true → i ≡ whole
    unfolding equals_from
    equals-here e = sym (rw (drop-cons t i 0 l, e) (omega arith)) ∙ inv

    pub equals-more : (eqb (get_or t i 0) 61 && some) ≡ false → equals_from (some || not (eqb (get_or t i 0) 32)) (drop (i + 1) t) + (i + 1) ≡ whole
    unfolding equals_from
    equals-more e =
        let q : equals_from some (drop i t) ≡ suc (equals_from (some || not (eqb (get_or t i 0) 32)) (drop (suc i) t)) = rw (drop-cons t i 0 l, e) in
        let r : drop (i + 1) t ≡ drop (suc i) t = ap (λ (n : ℕ). drop n t) (add-one i) in
        rw r (omega arith)

  pub equals-none : length t ≤ i → i ≡ whole
  unfolding equals_from
  equals-none l = let q : equals_from some (drop i t) ≡ 0 = rw (drop_of_length-le t l) in omega arith

-- BLANKS before a value
module _ (t : List ℕ) (i : ℕ) where
  pub unled-more : i < length t → get_or t i 0 ≡ 32 → unled (drop (i + 1) t) ≡ unled (drop i t)
  unfolding unled
  unled-more l e = rw (add-one, drop-cons t i 0 l, eq-eqb (get_or t i 0) 32 e)

  pub unled-stop : i < length t → (get_or t i 0 ≡ 32 → ⊥) → drop i t ≡ unled (drop i t)
  unfolding unled
  unled-stop l e = rw (drop-cons t i 0 l, ne_eqb (get_or t i 0) 32 e)

  pub unled-end : length t ≤ i → drop i t ≡ unled (drop i t)
  unfolding unled
  unled-end l = rw (drop_of_length-le t l)

-- what is left from a place on, as a slice has it
pub rest-is : {A : Type 0} (t : List A) (i : ℕ) → take (length t - i) (drop i t) ≡ drop i t
rest-is t i = take_all (length t - i) (drop i t) (simp length-drop (omega arith))

pub front_long : {A : Type 0} (n : ℕ) (t : List A) → n ≤ length t → n ≡ length (take n t)
front_long n t l = sym (length-take-le n t l)

-- a key without the blanks before the equals sign: the front of the line
pub key-part : (t : List ℕ) (p : ℕ) → p ≤ length t → {n : ℕ} → n ≡ length (trimmed (take p t)) → take n t ≡ trimmed (take p t)
unfolding trimmed
key-part t p l {n} e =
    let u = take p t in
    let m : n ≡ trim_to (length u) u = e ∙ length-trimmed u in
    let k = trim-le (length u) u in
    let w : length u ≡ p = length-take-le p t l in
    rw m (sym (take-take (trim_to (length u) u) p t (omega arith)))

pub key-long : (t : List ℕ) (p : ℕ) → p ≤ length t → {n : ℕ} → n ≡ length (trimmed (take p t)) → n ≤ length t
key-long t p l e =
    let k = trimmed-le (take p t) in
    let w : length (take p t) ≡ p = length-take-le p t l in
    omega arith

-- DIGITS
pub digit-bounds : (b : ℕ) → in_class Digit b ≡ true → (48 ≤ b) × (b ≤ 57)
digit-bounds b e =
    let p = and-true (leb 48 b) (leb b 57) e in
    (leb-true 48 b p.0, leb-true b 57 p.1)

grows : (n : ℕ) (s : List ℕ) → n ≤ decimal n s
unfolding decimal
grows n [] = omega arith
grows n (b ∷ s) = let h = grows (n * 10 + (b - 48)) s in omega arith

pub record Reading (t : List ℕ) (n i : ℕ) : Type 0 where
  pub within : i ≤ length t
  pub small : n < too_many
  pub same : decimal n (drop i t) ≡ decimal 0 t
  pub digits : all_of Digit (drop i t) ≡ all_of Digit t

pub reading-start : (t : List ℕ) → Reading t 0 0
reading-start t = record { within = omega arith; small = omega arith; same = refl; digits = refl }

module _ {t : List ℕ} {n i : ℕ} (h : Reading t n i) (l : i < length t) where
  next-digit : in_class Digit (get_or t i 0) ≡ true → all_of Digit (drop (i + 1) t) ≡ all_of Digit t
  unfolding all_of each
  next-digit e =
      let q : all_of Digit (drop i t) ≡ all_of Digit (drop (suc i) t) = rw (drop-cons t i 0 l, e) in
      ap (λ (m : ℕ). all_of Digit (drop m t)) (add-one i) ∙ sym q ∙ h.digits

  next-number : decimal (n * 10 + (get_or t i 0 - 48)) (drop (i + 1) t) ≡ decimal 0 t
  unfolding decimal
  next-number = rw (add-one) (ap (decimal n) (sym (drop-cons t i 0 l)) ∙ h.same)

  pub reading-more : {m : ℕ} → m ≡ n * 10 + (get_or t i 0 - 48) → in_class Digit (get_or t i 0) ≡ true → m < too_many → Reading t m (i + 1)
  reading-more e d s = record { within = omega arith; small = s; same = rw e next-number; digits = next-digit d }

  pub odd_byte : in_class Digit (get_or t i 0) ≡ false → None ≡ number_in t
  unfolding number_in all_of each
  odd_byte e =
      let none : all_of Digit t ≡ false = sym h.digits ∙ rw (drop-cons t i 0 l, e) in
      rw (none, and-false)

  pub odd-large : {m : ℕ} → m ≡ n * 10 + (get_or t i 0 - 48) → too_many ≤ m → None ≡ number_in t
  unfolding number_in
  odd-large {m} e s =
      let g = grows (n * 10 + (get_or t i 0 - 48)) (drop (i + 1) t) in
      let q = next-number in
      rw (le-ltb (decimal 0 t) too_many (omega arith), and-false)

pub odd-empty : (t : List ℕ) → length t ≡ 0 → None ≡ number_in t
unfolding number_in
odd-empty t e = rw (eq-eqb (length t) 0 e)

pub number_is : {t : List ℕ} {n i : ℕ} → Reading t n i → length t ≤ i → (length t ≡ 0 → ⊥) → Some n ≡ number_in t
unfolding number_in decimal all_of each
number_is {t} {n} {i} h l some =
    let s : decimal 0 t ≡ n = sym h.same ∙ rw (drop_of_length-le t l) in
    let d : all_of Digit t ≡ true = sym h.digits ∙ rw (drop_of_length-le t l) in
    rw (ne_eqb (length t) 0 some, d, s, lt-ltb n too_many h.small)
