-- Lent memory filled with a record's values, and values taken from it.
-- Assumes nothing.
use Prim.Native.Nat.{ℕ, zero, suc, ◌+◌, ◌*◌, ◌-◌, ◌/◌, ◌<◌, ◌≤◌}
use mathlib.Core.Bool.{Bool, true, false, not, ◌&&◌}
use mathlib.Core.List.{List, ◌∷◌}
use mathlib.Core.Path.{◌≡◌, refl, sym, ap, ap₂, ◌∙◌, subst}
use native.Mathlib.Nat.{not-suc-le-zero}
use native.Mathlib.Numerals.{add-one}
use native.Mathlib.Decide.{dec_lt}
use native.Mathlib.Omega.{arith}
use Prim.Native.Nat.{min}
use Rattle.std.proofs.lemmas.Bool.Decides.{nat_tests}
use lib.Dec.{eqb, ltb, leb}
use borrow.Author.Tests.{ltb-true, ltb-false, leb-true, lt-ltb, le-ltb, le-leb, lt-leb, not-true}
use lib.IntN.{ℤ, pos}
use lib.ListN.{length, get_or, take, drop, set, length-take, length-drop, get_or-eq_default}
use lib.Seq.{take_at, get_or-take, length-take-le}
use borrow.Rule.Slice.PartMut.{put_mid, mid_of}
use Rattle.laws.specs.Row.{pick, row, each}
use Rattle.laws.proofs.RowLaws.{and-true, row_at}
use Rattle.field.specs.declared.class.Class.TheVariants.{Blank}
use Rattle.field.specs.Bytes.{all_of, blanks}
use Rattle.field.specs.Texts.{padded, first_bytes, trimmed}
use Rattle.field.proofs.TextLaws.{padded-empty}
use Rattle.field.proofs.TextLoops.{length-padded}
use Rattle.record.specs.declared.kind.Kind.{Kind}
use Rattle.record.specs.declared.kind.Form.{Form}
use Rattle.record.specs.declared.kind.Form.TheVariants.{Words, Code, Sign, Number, Size}
use Rattle.record.specs.Table.{Which}
use Rattle.std.specs.Prelude.{None, Some}
use Rattle.record.specs.declared.reason.Reason.{Reason}
use Rattle.record.specs.declared.reason.Reason.TheVariants.{NoFile60, ShortRoom61}
use Rattle.record.specs.Table.{Col, form_at, width_at, offset_at, fields_of, most_fields, widest, which_of}
use Rattle.record.specs.Cut.{text_of}
use Rattle.record.specs.Says.{Said, missing, number, text, coordinate, said_as, said_in}
use Rattle.record.proofs.TableLaws.{sane, col-past}
use Rattle.codec.specs.declared.values.Value.{Value}
use Rattle.codec.specs.declared.values.Values.{Values}
use Rattle.codec.specs.Calls.{Answer}
use Rattle.std.specs.Prelude.{Ok, Err}
use Rattle.codec.specs.Calls.{refused}
use Rattle.codec.specs.Calls.{Reading, answer_read, values_read}
use Rattle.codec.specs.Values.{no_value, said_by, text_value, value_of, value_at, values_say, values_in}
use Rattle.codec.specs.Calls.{Writes, read_in, read_of}
use Rattle.codec.specs.machinery.Held.{value_by, text_held, held_at, say_by, SaySame, held_length, words_of}
use Rattle.codec.proofs.ReadLaws.{read-field, words-as}
use Rattle.codec.proofs.StoreLaws.{Storing, storing-more, storing-end, text_no, whole-text}
use Rattle.canopyrail.specs.Answers.{refusal_word, answer_word}
use Rattle.canopyrail.specs.Lent.{text_room, lent_length, Holds, is_lent, held_value, lent_value, lent_values, WritesLent, roomy, read_answer, Reads}
use Rattle.canopyrail.proofs.CallLaws.{refusal-told}

-- A RECORD'S VALUES put into lent memory, field by field
value-no : (s : List ℕ) (k : Kind) (i : ℕ) → i < most_fields → value_at (values_in s k) (i + 1) ≡ value_of (said_in s k (i + 1))
unfolding value_at values_in
value-no s k i h = rw add-one (row_at (λ j. value_of (said_in s k (j + 1))) most_fields no_value h ∙ ap (λ (f : ℕ). value_of (said_in s k f)) (add-one i))

nothing-past : (s : List ℕ) (k : Kind) (f : ℕ) → fields_of k < f → said_in s k f ≡ missing
unfolding said_in said_as text_of form_at width_at all_of each
nothing-past s k f l =
    let form : form_at k f ≡ Words = ap (λ (c : Col). c.form) (col-past k f l) in
    let wide : width_at k f ≡ 0 = ap (λ (c : Col). c.width) (col-past k f l) in
    ap₂ (λ (x : Form) (w : ℕ). said_as x (take w (drop (offset_at k f) s)) (text_of s k (f - 1))) form wide

-- the length that is lent is that under which the value is held
lent-held : (form : Form) (t b : List ℕ) → held_length form (value_of (said_as form t b)) ≡ lent_length (value_of (said_as form t b))
unfolding said_as value_of text_value lent_length
lent-held form t b = by form
  where
    words : (x : Bool) → (value_of (pick x missing (text (trimmed t)))).len ≡ lent_length (value_of (pick x missing (text (trimmed t))))
    words true = refl
    words false = there (length (trimmed t)) (eqb (length (trimmed t)) 0)
      where
        there : (n : ℕ) (x : Bool) → n ≡ pick (not x && x) 1 n
        there n true = refl
        there n false = refl

    size : (x : Bool) (z : ℤ) → pick (value_of (pick x missing (coordinate z))).given 1 0 ≡ lent_length (value_of (pick x missing (coordinate z)))
    size true z = refl
    size false z = refl

    digits : (x : Bool) (n : ℕ) → pick (value_of (pick x missing (number n))).given 1 0 ≡ lent_length (value_of (pick x missing (number n)))
    digits true n = refl
    digits false n = refl

    by : (form : Form) → held_length form (value_of (said_as form t b)) ≡ lent_length (value_of (said_as form t b))
    by Words = words (all_of Blank t)
    by Code = words (all_of Blank t)
    by Sign = refl
    by Number = digits (all_of Blank t) _
    by Size = size (all_of Blank t) _

text-wide : (x : Said) → length (value_of x).text ≡ widest
unfolding value_of text_value
text-wide missing = refl
text-wide (number n) = refl
text-wide (text t) = length-padded widest t
text-wide (coordinate z) = refl

abbrev pub Lending : List ℕ → Kind → List ℕ → List ℤ → List ℕ → List ℕ → List ℕ → List ℤ → List ℕ → List ℕ → ℕ → Type 0
Lending s k =
    Storing (λ j. (value_at (values_in s k) (j + 1)).number) (λ j. (value_at (values_in s k) (j + 1)).coordinate) (λ j. lent_length (value_at (values_in s k) (j + 1)))
    (text_no (values_in s k))

module _ (s : List ℕ) (k : Kind) (n₀ : List ℕ) (z₀ : List ℤ) (l₀ t₀ : List ℕ) where
  pub lending-more :
      {n : List ℕ} {z : List ℤ} {l t ys : List ℕ} {i len x : ℕ} {y : ℤ} (form : Form) (u b : List ℕ) → Lending s k n₀ z₀ l₀ t₀ n z l t i → i < most_fields
      → form ≡ form_at k (i + 1) → u ≡ text_of s k (i + 1) → b ≡ text_of s k i
      → x ≡ (value_of (said_as form u b)).number → y ≡ (value_of (said_as form u b)).coordinate → len ≡ held_length form (value_of (said_as form u b))
      → length ys ≡ length (mid_of (widest * i) (widest * i + widest - widest * i) t) → ys ≡ padded (length (mid_of (widest * i) (widest * i + widest - widest * i) t)) (words_of form (first_bytes len u))
      → Lending s k n₀ z₀ l₀ t₀ (set n i x) (set z i y) (set l i len) (put_mid (widest * i) (widest * i + widest - widest * i) t ys) (i + 1)
  lending-more {i = i} {len} form u b h few ef eu eb ex ey el ek eq =
      let here : value_of (said_as form u b) ≡ value_at (values_in s k) (i + 1) = ap value_of (read-field s k i ef eu eb) ∙ sym (value-no s k i few) in
      storing-more _ _ _ _ n₀ z₀ l₀ t₀ (words_of form (first_bytes len u)) h few (ex ∙ ap (λ (a : Value). a.number) here) (ey ∙ ap (λ (a : Value). a.coordinate) here)
      (el ∙ lent-held form u b ∙ ap lent_length here) ek eq
      (words-as u b form el ∙ sym (whole-text (value_of (said_as form u b)).text (text-wide (said_as form u b))) ∙ ap (λ (a : Value). padded widest (first_bytes widest a.text)) here)

  -- past the last field nothing is said
  pub lending-none :
      {n : List ℕ} {z : List ℤ} {l t ys : List ℕ} {i : ℕ} (u : List ℕ) → Lending s k n₀ z₀ l₀ t₀ n z l t i → i < most_fields → fields_of k ≤ i
      → length ys ≡ length (mid_of (widest * i) (widest * i + widest - widest * i) t) → ys ≡ padded (length (mid_of (widest * i) (widest * i + widest - widest * i) t)) (first_bytes 0 u)
      → Lending s k n₀ z₀ l₀ t₀ (set n i 0) (set z i (pos 0)) (set l i 0) (put_mid (widest * i) (widest * i + widest - widest * i) t ys) (i + 1)
  unfolding first_bytes value_of lent_length
  lending-none {i = i} u h few past ek eq =
      let here : no_value ≡ value_at (values_in s k) (i + 1) = sym (ap value_of (nothing-past s k (i + 1) (omega arith))) ∙ sym (value-no s k i few) in
      storing-more _ _ _ _ n₀ z₀ l₀ t₀ (first_bytes 0 u) h few (ap (λ (a : Value). a.number) here) (ap (λ (a : Value). a.coordinate) here) (ap lent_length here) ek eq
      (padded-empty widest ∙ sym (whole-text (blanks widest) refl) ∙ ap (λ (a : Value). padded widest (first_bytes widest a.text)) here)

  pub lending-end :
      {n : List ℕ} {z : List ℤ} {l t : List ℕ} {i : ℕ} → Lending s k n₀ z₀ l₀ t₀ n z l t i → most_fields ≤ i → Holds (values_in s k) n₀ z₀ l₀ t₀ n z l t
  lending-end h few =
      let e = storing-end _ _ _ _ n₀ z₀ l₀ t₀ h few in
      record { the_numbers = e.numbers; the_coordinates = e.coordinates; the_lengths = e.lengths; the_texts = e.texts }

-- VALUES TAKEN where they lie: the fields that all four arrays reach
pub below-min : (i a b : ℕ) → ltb i (min a b) ≡ (ltb i a && ltb i b)
below-min i a b = grind (arith, nat_tests)

pub text-reached : (t i : ℕ) → ltb i (t / widest) ≡ leb (widest * i + widest) t
text-reached t i = go (dec_lt i (t / widest))
  where
    go : Dec (i < t / widest) → ltb i (t / widest) ≡ leb (widest * i + widest) t
    go (yes l) = lt-ltb i (t / widest) l ∙ sym (le-leb (widest * i + widest) t (omega arith))
    go (no l) = le-ltb i (t / widest) (omega arith) ∙ sym (lt-leb (widest * i + widest) t (omega arith))

-- arrays that reach a field have its text
lent-reach : (a b c d i : ℕ) → is_lent a b c d i ≡ true → widest * i + widest ≤ d
unfolding is_lent
lent-reach a b c d i e = leb-true (widest * i + widest) d (and-true (ltb i a && ltb i b && ltb i c) _ e).1

held_whole : (s : List ℕ) (m : ℕ) → m + widest ≤ length s → padded widest (take widest (drop m s)) ≡ take widest (drop m s)
unfolding padded
held_whole s m l =
    let w : length (take widest (drop m s)) ≡ widest = length-take-le widest (drop m s) (simp length-drop (omega arith)) in
    take_at (take widest (drop m s)) (blanks widest) widest w

none_said : (form : Form) (n : ℕ) (z : ℤ) (t : List ℕ) → said_by form (value_by n z 0 t) ≡ said_by form no_value
none_said Words n z t = refl
none_said Code n z t = refl
none_said Sign n z t = refl
none_said Number n z t = refl
none_said Size n z t = refl

module _ (n : List ℕ) (z : List ℤ) (l t : List ℕ) (r : ℕ) (reached : (i : ℕ) → ltb i r ≡ is_lent (length n) (length z) (length l) (length t) i) where
  -- field j + 1
  field-says : (form : Form) (j : ℕ) → said_by form (held_at n z (take r l) t (j + 1)) ≡ said_by form (lent_value n z l t j)
  unfolding held_at text_held lent_value held_value
  field-says form j = rw (add-one, ← reached j) (go (ltb j r) refl)
    where
      e : suc j - 1 ≡ j
      e = omega arith

      go :
          (b : Bool) → ltb j r ≡ b
          → said_by form (value_by (get_or n j 0) (get_or z j (pos 0)) (get_or (take r l) j 0) (take widest (drop (widest * (suc j - 1)) t)))
          ≡ said_by form (pick b (held_value n z l t j) no_value)
      go true h =
          let lent = lent-reach (length n) (length z) (length l) (length t) j (sym (reached j) ∙ h) in
          rw (e, get_or-take r l j 0 (ltb-true j r h), held_whole t (widest * j) lent)
      go false h =
          let m = ltb-false j r h in
          let past : get_or (take r l) j 0 ≡ 0 = get_or-eq_default (take r l) 0 {n = j} (simp length-take (omega arith)) in
          rw past (none_said form (get_or n j 0) (get_or z j (pos 0)) _)

  pub lent_says : (k : Kind) → SaySame k (say_by k (held_at n z (take r l) t)) (values_say k (lent_values n z l t))
  unfolding say_by values_say value_at lent_values
  lent_says k zero a b = absurd (not-suc-le-zero a)
  lent_says k (suc j) a b =
      let few : j < most_fields = omega (arith, sane k) in
      subst (λ (f : ℕ). said_by (form_at k f) (held_at n z (take r l) t f) ≡ said_by (form_at k f) (get_or (no_value ∷ row (lent_value n z l t) most_fields) f no_value)) (add-one j)
      (field-says (form_at k (j + 1)) j ∙ ap (said_by (form_at k (j + 1))) (sym (rw add-one (row_at (lent_value n z l t) most_fields no_value few))))

-- A RECORD WRITTEN from lent values
pub lent-writes : {file r : ℕ} {v : Values} {room after : List ℕ} {a : Answer} → r ≡ answer_word a → Writes file v room a after → WritesLent file v room r after
lent-writes {a = a} e w = record { answer = a; says = e; writes = w }

-- A RECORD READ into lent memory
pub roomy-says : (a b c d : ℕ) → roomy a b c d ≡ true → (most_fields ≤ a) × (most_fields ≤ b) × (most_fields ≤ c) × (text_room ≤ d)
unfolding roomy
roomy-says a b c d e =
    let p = and-true (not (ltb a most_fields) && not (ltb b most_fields) && not (ltb c most_fields)) (not (ltb d text_room)) e in
    let q = and-true (not (ltb a most_fields) && not (ltb b most_fields)) (not (ltb c most_fields)) p.0 in
    let r = and-true (not (ltb a most_fields)) (not (ltb b most_fields)) q.0 in
    (not-below a most_fields r.0, not-below b most_fields r.1, not-below c most_fields q.1, not-below d text_room p.1)
  where
    not-below : (x y : ℕ) → not (ltb x y) ≡ true → y ≤ x
    not-below x y h = ltb-false x y (not-true (ltb x y) h)

pub read_none : (file : ℕ) (s : List ℕ) (n : ℕ) {w : Which} → w ≡ which_of file → w ≡ None → answer_read (read_of file s n) ≡ refused NoFile60 0
unfolding read_of
read_none file s n e h = rw (← e, h)

pub read_is : (file : ℕ) (s : List ℕ) (n : ℕ) (k : Kind) → which_of file ≡ Some k → read_of file s n ≡ read_in s k n
unfolding read_of
read_is file s n k e = rw e

module _ {file : ℕ} {bytes : List ℕ} {n : ℕ} {numbers : List ℕ} {coordinates : List ℤ} {lengths texts : List ℕ} where
  left : {r : ℕ} → (r ≡ 0 → ⊥) → r ≡ read_answer (answer_read (read_of file bytes n)) (roomy (length numbers) (length coordinates) (length lengths) (length texts))
      → Reads file bytes n numbers coordinates lengths texts r numbers coordinates lengths texts
  left never says =
      record {
        says = says;
        holds = λ z. absurd (never z);
        numbers_stay = λ z. refl;
        coordinates_stay = λ z. refl;
        lengths_stay = λ z. refl;
        texts_stay = λ z. refl;
      }

  pub reads-refused :
      {r : ℕ} (reason : Reason) (field : ℕ) → answer_read (read_of file bytes n) ≡ refused reason field → r ≡ refusal_word reason field
      → Reads file bytes n numbers coordinates lengths texts r numbers coordinates lengths texts
  reads-refused reason field a h =
      left (λ z. refusal-told reason field (sym h ∙ z)) (rw a h)

  pub reads-no-room :
      {r : ℕ} → answer_read (read_of file bytes n) ≡ Ok tt → roomy (length numbers) (length coordinates) (length lengths) (length texts) ≡ false → r ≡ refusal_word ShortRoom61 0
      → Reads file bytes n numbers coordinates lengths texts r numbers coordinates lengths texts
  reads-no-room a m h = left (λ z. refusal-told ShortRoom61 0 (sym h ∙ z)) (rw (a, m) h)

  pub reads-done :
      {numbers' : List ℕ} {coordinates' : List ℤ} {lengths' texts' : List ℕ} {v : Values} → Ok v ≡ read_of file bytes n
      → roomy (length numbers) (length coordinates) (length lengths) (length texts) ≡ true
      → Holds v numbers coordinates lengths texts numbers' coordinates' lengths' texts'
      → Reads file bytes n numbers coordinates lengths texts 0 numbers' coordinates' lengths' texts'
  reads-done {numbers'} {coordinates'} {lengths'} {texts'} e m h =
      record {
        says = rw (← e, m);
        holds = λ z. subst (λ (x : Reading). Holds (values_read x) numbers coordinates lengths texts numbers' coordinates' lengths' texts') e h;
        numbers_stay = λ never. absurd (never refl);
        coordinates_stay = λ never. absurd (never refl);
        lengths_stay = λ never. absurd (never refl);
        texts_stay = λ never. absurd (never refl);
      }
