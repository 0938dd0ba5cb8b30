-- What the code reads of a record: a field's value by its form (specs/Values.antt), and one record of a file (specs/Calls.antt).
-- Assumes nothing.
use Prim.Native.Nat.{ℕ, ◌+◌, ◌-◌, ◌<◌, ◌≤◌}
use mathlib.Core.Bool.{Bool, true, false, not, ◌||◌}
use mathlib.Core.List.{List, [], ◌∷◌}
use mathlib.Core.Path.{◌≡◌, refl, sym, ap, ap₂, ◌∙◌}
use native.Mathlib.Omega.{arith}
use types.Run.{miss}
use lib.Dec.{eqb, ltb}
use lib.IntN.{ℤ, pos}
use lib.ListN.{length, get_or}
use borrow.Author.Tests.{eqb-false, eq-eqb, ne_eqb, lt-ltb, le-ltb}
use Rattle.laws.specs.Row.{pick}
use Rattle.laws.proofs.RowLaws.{neither}
use Rattle.field.specs.declared.class.Class.TheVariants.{Blank}
use Rattle.field.specs.Bytes.{all_of, blanks}
use Rattle.field.specs.Digits.{number_written}
use Rattle.field.specs.Signs.{signed}
use Rattle.field.specs.Texts.{padded, trimmed, first_bytes}
use Rattle.field.proofs.DigitLaws.{blank-number}
use Rattle.field.proofs.TextLaws.{trimmed-blank, first-trimmed, padded-empty}
use Rattle.record.specs.declared.kind.Kind.{Kind}
use Rattle.record.specs.declared.kind.Form.{Form}
use Rattle.record.specs.declared.kind.Form.TheVariants.{Words, Code, Sign, Number, Size}
use Rattle.record.specs.Breaks.{Finding}
use Rattle.record.specs.declared.reason.Reason.{Reason}
use Rattle.record.specs.declared.reason.Reason.TheVariants.{NoSuchRecord66}
use Rattle.std.specs.Prelude.{Ok, Err}
use Rattle.record.specs.Table.{form_at, widest}
use Rattle.record.specs.Cut.{count_of, record_of, text_of}
use Rattle.record.specs.Breaks.{record_finding}
use Rattle.record.specs.Says.{Said, missing, number, text, coordinate, text_said, said_as, said_in}
use Rattle.record.proofs.SaysLaws.{Among}
use Rattle.codec.specs.declared.values.Value.{Value}
use Rattle.codec.specs.Values.{text_value, value_of, values_in}
use Rattle.codec.specs.declared.values.Refusal.{Refusal}
use Rattle.std.specs.Prelude.{Ok, Err}
use Rattle.codec.specs.Calls.{Answer, Reading, answer_read, refused, answer_of, no_reading, read_found, read_in}
use Rattle.codec.specs.machinery.Held.{held_length, words_length, words_of}

-- A FIELD's value part by part
abbrev unnumbered : List ℕ
unnumbered = 0 ∷ 1 ∷ 2 ∷ 4 ∷ []

abbrev unsized : List ℕ
unsized = 0 ∷ 1 ∷ 2 ∷ 3 ∷ []

abbrev digited : List ℕ
digited = 3 ∷ 4 ∷ []

-- what a number and a text have of the other's parts, and a missing value of either
text-parts : (t : List ℕ) → (0 ≡ (value_of (text_said t)).number) × (pos 0 ≡ (value_of (text_said t)).coordinate)
unfolding value_of text_value
text-parts t = go (all_of Blank t)
  where
    go : (b : Bool) → (0 ≡ (value_of (pick b missing (text (trimmed t)))).number) × (pos 0 ≡ (value_of (pick b missing (text (trimmed t)))).coordinate)
    go true = (refl, refl)
    go false = (refl, refl)

no_number_lem : (b : Bool) (z : ℤ) → 0 ≡ (value_of (pick b missing (coordinate z))).number
unfolding value_of
no_number_lem true z = refl
no_number_lem false z = refl

no-coordinate : (b : Bool) (n : ℕ) → pos 0 ≡ (value_of (pick b missing (number n))).coordinate
unfolding value_of
no-coordinate true n = refl
no-coordinate false n = refl

signed-zero : (b : Bool) → signed b 0 ≡ pos 0
signed-zero true = refl
signed-zero false = refl

blank-text : (b : Bool) (x : Said) → (value_of x).text ≡ blanks widest → blanks widest ≡ (value_of (pick b missing x)).text
unfolding value_of
blank-text true x e = refl
blank-text false x e = sym e

module _ (t b : List ℕ) where
  -- the number of blanks is 0
  pub number-there : (form : Form) {n : ℕ} → form ≡ Number → n ≡ number_written t → n ≡ (value_of (said_as form t b)).number
  unfolding said_as value_of
  number-there form e h = rw (e, h) (go (all_of Blank t) refl)
    where
      go : (x : Bool) → all_of Blank t ≡ x → number_written t ≡ (value_of (pick x missing (number (number_written t)))).number
      go true q = blank-number t q
      go false q = refl

  pub number-none : (form : Form) → Among unnumbered form → 0 ≡ (value_of (said_as form t b)).number
  unfolding said_as value_of
  number-none Words h = (text-parts t).0
  number-none Code h = (text-parts t).0
  number-none Sign h = refl
  number-none Number h = absurd (miss unnumbered 3 tt h)
  number-none Size h = no_number_lem (all_of Blank t) _

  pub coordinate-there : (form : Form) {z : ℤ} → form ≡ Size → z ≡ signed (eqb (get_or b 0 0) 45) (number_written t) → z ≡ (value_of (said_as form t b)).coordinate
  unfolding said_as value_of
  coordinate-there form e h = rw (e, h) (go (all_of Blank t) refl)
    where
      go : (x : Bool) → all_of Blank t ≡ x → signed (eqb (get_or b 0 0) 45) (number_written t) ≡ (value_of (pick x missing (coordinate (signed (eqb (get_or b 0 0) 45) (number_written t))))).coordinate
      go true q = ap (signed (eqb (get_or b 0 0) 45)) (blank-number t q) ∙ signed-zero (eqb (get_or b 0 0) 45)
      go false q = refl

  pub coordinate-none : (form : Form) → Among unsized form → pos 0 ≡ (value_of (said_as form t b)).coordinate
  unfolding said_as value_of
  coordinate-none Words h = (text-parts t).1
  coordinate-none Code h = (text-parts t).1
  coordinate-none Sign h = refl
  coordinate-none Number h = no-coordinate (all_of Blank t) _
  coordinate-none Size h = absurd (miss unsized 4 tt h)

  -- what is blank has no text,
  words-length : length (trimmed t) ≡ (value_of (text_said t)).len
  unfolding value_of text_value
  words-length = go (all_of Blank t) refl
    where
      go : (x : Bool) → all_of Blank t ≡ x → length (trimmed t) ≡ (value_of (pick x missing (text (trimmed t)))).len
      go true q = ap length (trimmed-blank t q)
      go false q = refl

  pub length-words : (form : Form) {n : ℕ} → form ≡ Words → n ≡ length (trimmed t) → n ≡ held_length form (value_of (said_as form t b))
  unfolding said_as
  length-words form h e = e ∙ rw h words-length

  pub length-code : (form : Form) {n : ℕ} → form ≡ Code → n ≡ length (trimmed t) → n ≡ held_length form (value_of (said_as form t b))
  unfolding said_as
  length-code form h e = e ∙ rw h words-length

  pub length-sign : (form : Form) → form ≡ Sign → 0 ≡ held_length form (value_of (said_as form t b))
  unfolding said_as value_of
  length-sign form e = rw e

  -- and no number
  pub length-blank : (form : Form) → Among digited form → all_of Blank t ≡ true → 0 ≡ held_length form (value_of (said_as form t b))
  unfolding said_as value_of
  length-blank Words h e = absurd (miss digited 0 tt h)
  length-blank Code h e = absurd (miss digited 1 tt h)
  length-blank Sign h e = absurd (miss digited 2 tt h)
  length-blank Number h e = rw e
  length-blank Size h e = rw e

  pub length-given : (form : Form) → Among digited form → all_of Blank t ≡ false → 1 ≡ held_length form (value_of (said_as form t b))
  unfolding said_as value_of
  length-given Words h e = absurd (miss digited 0 tt h)
  length-given Code h e = absurd (miss digited 1 tt h)
  length-given Sign h e = absurd (miss digited 2 tt h)
  length-given Number h e = rw e
  length-given Size h e = rw e

  -- the bytes of the text
  words-there : {n : ℕ} → n ≡ (value_of (text_said t)).len → padded widest (first_bytes n t) ≡ (value_of (text_said t)).text
  unfolding value_of text_value
  words-there {n} e = go (all_of Blank t) refl (e ∙ sym words-length)
    where
      go : (x : Bool) → all_of Blank t ≡ x → n ≡ length (trimmed t) → padded widest (first_bytes n t) ≡ (value_of (pick x missing (text (trimmed t)))).text
      go true q h = ap (padded widest) (rw h (first-trimmed t) ∙ trimmed-blank t q) ∙ padded-empty widest
      go false q h = ap (padded widest) (rw h (first-trimmed t))

  pub words-as : (form : Form) {n : ℕ} → n ≡ held_length form (value_of (said_as form t b)) → padded widest (words_of form (first_bytes n t)) ≡ (value_of (said_as form t b)).text
  unfolding said_as value_of
  words-as Words e = words-there e
  words-as Code e = words-there e
  words-as Sign e = padded-empty widest
  words-as Number e = padded-empty widest ∙ blank-text (all_of Blank t) (number (number_written t)) refl
  words-as Size e = padded-empty widest ∙ blank-text (all_of Blank t) (coordinate _) refl

-- where the form has no text, blanks are put
abbrev wordless : List ℕ
wordless = 2 ∷ 3 ∷ 4 ∷ []

pub length_none : (form : Form) (n : ℕ) → Among wordless form → 0 ≡ words_length form n
length_none Words n h = absurd (miss wordless 0 tt h)
length_none Code n h = absurd (miss wordless 1 tt h)
length_none Sign n h = refl
length_none Number n h = refl
length_none Size n h = refl

pub put-none : (w : ℕ) (t : List ℕ) (form : Form) (words : List ℕ) → Among wordless form → padded w (first_bytes 0 t) ≡ padded w (words_of form words)
unfolding first_bytes
put-none w t Words words h = absurd (miss wordless 0 tt h)
put-none w t Code words h = absurd (miss wordless 1 tt h)
put-none w t Sign words h = refl
put-none w t Number words h = refl
put-none w t Size words h = refl

-- put together
words-whole : (x : Bool) (t : List ℕ) → let v = value_of (pick x missing (text t)) in record { given = not (eqb v.len 0); number = v.number; coordinate = v.coordinate; len = v.len; text = v.text } ≡ v
unfolding value_of text_value
words-whole true t = refl
words-whole false t = refl

number-whole :
    (x : Bool) (n : ℕ) → let v = value_of (pick x missing (number n)) in
    record { given = not (eqb (pick v.given 1 0) 0); number = v.number; coordinate = v.coordinate; len = 0; text = v.text } ≡ v
unfolding value_of
number-whole true n = refl
number-whole false n = refl

size-whole :
    (x : Bool) (z : ℤ) → let v = value_of (pick x missing (coordinate z)) in
    record { given = not (eqb (pick v.given 1 0) 0); number = v.number; coordinate = v.coordinate; len = 0; text = v.text } ≡ v
unfolding value_of
size-whole true z = refl
size-whole false z = refl

whole : (t b : List ℕ) (form : Form) → let v = value_of (said_as form t b) in
    record { given = not (eqb (held_length form v) 0); number = v.number; coordinate = v.coordinate; len = words_length form (held_length form v); text = v.text } ≡ v
unfolding said_as value_of
whole t b Words = words-whole (all_of Blank t) (trimmed t)
whole t b Code = words-whole (all_of Blank t) (trimmed t)
whole t b Sign = refl
whole t b Number = number-whole (all_of Blank t) (number_written t)
whole t b Size = size-whole (all_of Blank t) (signed (eqb (get_or b 0 0) 45) (number_written t))

pub value-whole :
    (t b : List ℕ) (form : Form) {n x len : ℕ} {y : ℤ} {s : List ℕ} → let v = value_of (said_as form t b) in n ≡ held_length form v → x ≡ v.number → y ≡ v.coordinate
    → len ≡ words_length form n → s ≡ v.text → record { given = not (eqb n 0); number = x; coordinate = y; len = len; text = s } ≡ v
value-whole t b form en ex ey el es = rw (el, en, ex, ey, es) (whole t b form)

-- FIELD i + 1 of a record
pub read-field : (s : List ℕ) (k : Kind) (i : ℕ) {form : Form} {t b : List ℕ} → form ≡ form_at k (i + 1) → t ≡ text_of s k (i + 1) → b ≡ text_of s k i
    → said_as form t b ≡ said_in s k (i + 1)
unfolding said_in
read-field s k i p q r =
    let e : i + 1 - 1 ≡ i = omega arith in
    rw (p, q, r, e)

abbrev pub value_no : List ℕ → Kind → ℕ → Value
value_no s k i = value_of (said_in s k (i + 1))

-- ANSWERS
pub never_done : {e : Refusal} → ◌≡◌ {A = Answer} (Err e) (Ok tt) → ⊥
never_done e = let z : ◌≡◌ {A = ℕ} 0 1 = cc in omega arith

-- a refusal as a reading
abbrev to_reading : Answer → Reading
to_reading (Ok u) = no_reading NoSuchRecord66 0
to_reading (Err e) = Err e

-- A RECORD of a file: what its reading answers,
pub found-answer : (s : List ℕ) (k : Kind) (v : Finding) → answer_read (read_found s k v) ≡ answer_of v
found-answer s k (Ok u) = refl
found-answer s k (Err b) = refl

module _ (s : List ℕ) (k : Kind) (n : ℕ) where
  -- where it is not there,
  pub answer-absent : (eqb n 0 || ltb (count_of s k) n) ≡ true → refused NoSuchRecord66 0 ≡ answer_read (read_in s k n)
  unfolding read_in
  answer-absent h = rw h

  -- and where it is,
  pub answer-there :
      (eqb n 0 || ltb (count_of s k) n) ≡ false → {r : List ℕ} {v : Finding} {a : Answer} → r ≡ record_of s k (n - 1) → v ≡ record_finding r k n → a ≡ answer_of v
      → a ≡ answer_read (read_in s k n)
  unfolding read_in
  answer-there h {r} {v} p q e = e ∙ sym (found-answer r k v) ∙ rw (h, q, p)

  -- and what is read, by the answer
  by_answer :
      (b : Bool) (v : Finding) (r : List ℕ) → let reading = pick b (no_reading NoSuchRecord66 0) (read_found r k v) in
      ((e : Refusal) → answer_read reading ≡ Err e → Err e ≡ reading)
      × (answer_read reading ≡ Ok tt → (b ≡ false) × (Ok (values_in r k) ≡ reading))
  by_answer true v r = (λ o e. ap to_reading (sym e), λ e. absurd (never_done e))
  by_answer false (Ok u) r = (λ o e. absurd (never_done (sym e)), λ e. (refl, refl))
  by_answer false (Err b) r = (λ o e. ap to_reading (sym e), λ e. absurd (never_done e))

  pub read-refused : {e : Refusal} → answer_read (read_in s k n) ≡ Err e → Err e ≡ read_in s k n
  unfolding read_in
  read-refused {e} h = (by_answer (eqb n 0 || ltb (count_of s k) n) (record_finding (record_of s k (n - 1)) k n) (record_of s k (n - 1))).0 e h

  pub read_done : answer_read (read_in s k n) ≡ Ok tt → (n ≡ 0 → ⊥) × (Ok (values_in (record_of s k (n - 1)) k) ≡ read_in s k n)
  unfolding read_in
  read_done e =
      let d = (by_answer (eqb n 0 || ltb (count_of s k) n) (record_finding (record_of s k (n - 1)) k n) (record_of s k (n - 1))).1 e in
      (eqb-false n 0 (neither (eqb n 0) (ltb (count_of s k) n) d.0).0, d.1)
