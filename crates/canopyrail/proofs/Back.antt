-- What is read into lent arrays is written back from them, and what is written from lent arrays is read back into them.
-- Assumes nothing.
use Prim.Native.Nat.{ℕ, zero, suc, ◌+◌, ◌-◌, ◌*◌, ◌<◌, ◌≤◌}
use mathlib.Core.Bool.{Bool, true, false, not, ◌&&◌}
use mathlib.Core.List.{List, ◌++◌, append_assoc}
use mathlib.Core.Path.{◌≡◌, refl, sym, ap, ◌∙◌, subst}
use mathlib.Core.Logic.{⊎_elim}
use native.Mathlib.Nat.{le_of_suc-le-suc, not-suc-le-zero, eq-or-lt_of_le}
use native.Mathlib.Numerals.{add-one}
use native.Mathlib.Omega.{arith}
use lib.Dec.{eqb}
use lib.IntN.{ℤ, pos}
use lib.ListN.{length, get_or, take, drop, length-append, get_or-append}
use lib.Seq.{take_at, drop_at, take_all}
use borrow.Author.Tests.{lt-ltb, le-leb}
use Rattle.laws.specs.Row.{pick, row, strung}
use Rattle.laws.proofs.RowLaws.{length-row, row_at, picked}
use Rattle.field.specs.declared.class.Class.TheVariants.{Blank}
use Rattle.field.specs.Bytes.{all_of}
use Rattle.field.specs.Texts.{padded, first_bytes, trimmed}
use Rattle.field.proofs.TextLoops.{length-padded}
use Rattle.field.proofs.TextLaws.{first-bytes-le}
use Rattle.record.specs.declared.kind.Kind.{Kind}
use Rattle.record.specs.declared.kind.Form.{Form}
use Rattle.record.specs.declared.kind.Form.TheVariants.{Words, Code, Sign, Number, Size}
use Rattle.std.specs.Prelude.{Some}
use Rattle.record.specs.Table.{form_at, fields_of, length_of, which_of, most_fields, widest}
use Rattle.record.specs.Cut.{record_of, text_of}
use Rattle.record.specs.Says.{said_as, said_in}
use Rattle.record.proofs.TableLaws.{sane}
use Rattle.codec.specs.declared.values.Value.{Value}
use Rattle.codec.specs.declared.values.Values.{Values}
use Rattle.codec.specs.Calls.{Answer}
use Rattle.std.specs.Prelude.{Ok, Err}
use Rattle.codec.specs.Calls.{refused}
use Rattle.codec.specs.Values.{no_value, text_by, said_by, value_at, values_say, text_value, value_of, values_in}
use Rattle.codec.specs.Calls.{Reading, answer_read, values_read}
use Rattle.codec.specs.Calls.{read_of, Writes}
use Rattle.codec.proofs.CallLaws as calls
use Rattle.codec.proofs.Theorems as one
use Rattle.canopyrail.specs.Answers.{answer_word}
use Rattle.canopyrail.specs.Lent.{text_room, lent_length, Holds, roomy, read_answer, Reads, held_value, is_lent, lent_value, lent_values, WritesLent}
use Rattle.canopyrail.proofs.CallLaws.{refusal-told}

-- VALUES PUT INTO LENT MEMORY AND TAKEN AGAIN
module _ {A : Type 0} (g : ℕ → A) (n : ℕ) (rest : List A) {xs : List A} (e : xs ≡ row g n ++ rest) where
  row-long : n ≤ length xs
  row-long = rw e (simp (length-append, length-row) (omega arith))

  row-front : (d : A) {i : ℕ} → i < n → get_or xs i d ≡ g i
  row-front d {i} l = rw e (get_or-append (row g n) rest d i (rw length-row l) ∙ row_at g n d l)

module _ (g : ℕ → List ℕ) (w : (j : ℕ) → length (g j) ≡ widest) where
  length-strung : (n : ℕ) → length (strung g n) ≡ widest * n
  unfolding strung
  length-strung zero = refl
  length-strung (suc n) = simp (length-append, length-strung n, w n) (omega arith)

  strung-front : (n : ℕ) {i : ℕ} (rest : List ℕ) → i < n → take widest (drop (widest * i) (strung g n ++ rest)) ≡ g i
  unfolding strung
  strung-front zero rest l = absurd (not-suc-le-zero l)
  strung-front (suc n) {i} rest l =
      rw (append_assoc (strung g n) (g n) rest)
      (⊎_elim
      (λ (e : i ≡ n). rw e (ap (take widest) (drop_at (strung g n) (g n ++ rest) (widest * n) (length-strung n)) ∙ take_at (g n) rest widest (w n)))
      (λ l'. strung-front n (g n ++ rest) l')
      (eq-or-lt_of_le (le_of_suc-le-suc l)))

-- what is taken where x was put
unfoldable again : Value → Value
again x =
    record {
      given = not (eqb (lent_length x) 0);
      number = x.number;
      coordinate = x.coordinate;
      len = lent_length x;
      text = padded widest (padded widest (first_bytes widest x.text));
    }

is-lent : (a b c d i : ℕ) → i < a → i < b → i < c → widest * i + widest ≤ d → is_lent a b c d i ≡ true
unfolding is_lent
is-lent a b c d i p q r s = rw (lt-ltb i a p, lt-ltb i b q, lt-ltb i c r) (le-leb (widest * i + widest) d s)

module _ (v : Values) {n : List ℕ} {c : List ℤ} {l t n' : List ℕ} {c' : List ℤ} {l' t' : List ℕ} (h : Holds v n c l t n' c' l' t') where
  texts-long : text_room ≤ length t'
  texts-long =
      let w = length-strung (λ j. padded widest (first_bytes widest (value_at v (j + 1)).text)) (λ j. length-padded widest _) most_fields in
      rw h.the_texts (simp (length-append, w) (omega arith))

  taken-again : {i : ℕ} → i < most_fields → lent_value n' c' l' t' i ≡ again (value_at v (i + 1))
  unfolding lent_value held_value again
  taken-again {i} b =
      let gn : ℕ → ℕ = λ j. (value_at v (j + 1)).number in
      let gc : ℕ → ℤ = λ j. (value_at v (j + 1)).coordinate in
      let gl : ℕ → ℕ = λ j. lent_length (value_at v (j + 1)) in
      let ln = row-long gn most_fields (drop most_fields n) h.the_numbers in
      let lc = row-long gc most_fields (drop most_fields c) h.the_coordinates in
      let ll = row-long gl most_fields (drop most_fields l) h.the_lengths in
      let there = is-lent (length n') (length c') (length l') (length t') i (omega arith) (omega arith) (omega arith) (omega (arith, texts-long)) in
      let text' : take widest (drop (widest * i) t') ≡ padded widest (first_bytes widest (value_at v (i + 1)).text) =
      rw h.the_texts (strung-front (λ j. padded widest (first_bytes widest (value_at v (j + 1)).text)) (λ j. length-padded widest _) most_fields (drop text_room t) b) in
      rw (there, row-front gn most_fields (drop most_fields n) h.the_numbers 0 b, row-front gc most_fields (drop most_fields c) h.the_coordinates (pos 0) b, row-front gl most_fields (drop most_fields l) h.the_lengths 0 b, text')

-- what a record said as values is said again: of a number or a coordinate that is given the length is 1, of a text its own
widest-kept : (y : List ℕ) → length y ≡ widest → padded widest (padded widest (first_bytes widest y)) ≡ y
unfolding padded
widest-kept y w =
    let f : first_bytes widest y ≡ y = first-bytes-le widest y (omega arith) ∙ take_all widest y (omega arith) in
    let p : padded widest y ≡ y = take_at y _ widest w in
    ap (λ (z : List ℕ). padded widest (padded widest z)) f ∙ ap (padded widest) p ∙ p

length-kept : (n : ℕ) → pick (not (eqb n 0) && eqb n 0) 1 n ≡ n
length-kept n = go (eqb n 0)
  where
    go : (b : Bool) → pick (not b && b) 1 n ≡ n
    go true = refl
    go false = refl

text-again : (t : List ℕ) → text_by (again (text_value t)) ≡ text_by (text_value t)
unfolding again text_value lent_length
text-again t = rw (length-kept (length t), widest-kept (padded widest t) (length-padded widest t))

said-again : (form : Form) (t b : List ℕ) → said_by form (again (value_of (said_as form t b))) ≡ said_by form (value_of (said_as form t b))
unfolding said_as value_of again lent_length
said-again Words t b = picked (λ x. text_by (again (value_of x)) ≡ text_by (value_of x)) (all_of Blank t) _ _ (λ _. refl) (λ _. text-again (trimmed t))
said-again Code t b = picked (λ x. text_by (again (value_of x)) ≡ text_by (value_of x)) (all_of Blank t) _ _ (λ _. refl) (λ _. text-again (trimmed t))
said-again Sign t b = refl
said-again Number t b = picked (λ x. said_by Number (again (value_of x)) ≡ said_by Number (value_of x)) (all_of Blank t) _ _ (λ _. refl) (λ _. refl)
said-again Size t b = picked (λ x. said_by Size (again (value_of x)) ≡ said_by Size (value_of x)) (all_of Blank t) _ _ (λ _. refl) (λ _. refl)

-- THE ARRAYS say what the record said
module _ (s : List ℕ) (k : Kind) {n : List ℕ} {c : List ℤ} {l t n' : List ℕ} {c' : List ℤ} {l' t' : List ℕ} (h : Holds (values_in s k) n c l t n' c' l' t') where
  value_in : {i : ℕ} → i < most_fields → value_at (values_in s k) (i + 1) ≡ value_of (said_in s k (i + 1))
  unfolding value_at values_in
  value_in {i} b = rw add-one (rw add-one at (row_at (λ j. value_of (said_in s k (j + 1))) most_fields no_value b))

  pub lent-say : (f : ℕ) → 1 ≤ f → f ≤ fields_of k → values_say k (lent_values n' c' l' t') f ≡ values_say k (values_in s k) f
  unfolding values_say value_at lent_values said_in
  lent-say zero a b = absurd (not-suc-le-zero a)
  lent-say (suc i) a b =
      let m : i < most_fields = omega (arith, (sane k).few) in
      let x = value_in m in
      ap (said_by (form_at k (suc i))) (row_at (lent_value n' c' l' t') most_fields no_value m ∙ taken-again (values_in s k) h m ∙ ap again x)
      ∙ rw add-one (said-again (form_at k (suc i)) (text_of s k (suc i)) (text_of s k (suc i - 1)))
      ∙ ap (said_by (form_at k (suc i))) (sym (rw add-one at x))

-- AN ANSWER 0
read-zero : (a : Answer) (b : Bool) → 0 ≡ read_answer a b → a ≡ Ok tt
read-zero (Ok u) b e = refl
read-zero (Err r) b e = absurd (refusal-told r.reason r.field (sym e))

written-zero : (a : Answer) → 0 ≡ answer_word a → a ≡ Ok tt
written-zero (Ok u) e = refl
written-zero (Err r) e = absurd (refusal-told r.reason r.field (sym e))

module _ (file : ℕ) (k : Kind) (e : which_of file ≡ Some k) where
  -- what is read is held by the arrays
  module _ (s : List ℕ) (i : ℕ) {n : List ℕ} {c : List ℤ} {l t n' : List ℕ} {c' : List ℤ} {l' t' : List ℕ} (w : Reads file s i n c l t 0 n' c' l' t') where
    read_done : answer_read (read_of file s i) ≡ Ok tt
    read_done = read-zero _ _ w.says

    arrays-say : (f : ℕ) → 1 ≤ f → f ≤ fields_of k → values_say k (lent_values n' c' l' t') f ≡ values_say k (values_read (read_of file s i)) f
    arrays-say f a b =
        let there = calls.done-there file k e s i read_done in
        let fine = calls.fine-read file k e s i there.0 there.1 read_done in
        let q : (values_read (read_of file s i)) ≡ values_in (record_of s k (i - 1)) k = ap values_read (calls.read-fine file k e s i there.0 there.1 fine) in
        let held = subst (λ (v : Values). Holds v n c l t n' c' l' t') q (w.holds refl) in
        rw q (lent-say (record_of s k (i - 1)) k held f a b)

    -- READ, then written
    pub written_back :
        (room : List ℕ) (r : ℕ) (after : List ℕ) → length_of k ≤ length room → WritesLent file (lent_values n' c' l' t') room r after
        → (r ≡ 0) × (after ≡ record_of s k (i - 1) ++ drop (length_of k) room)
    written_back room r after m x =
        let same = one.said-alike file k e (lent_values n' c' l' t') (values_read (read_of file s i)) arrays-say room in
        let p = one.writes-what-was-read file k e s i read_done room after x.answer m
        (record { says = x.writes.says ∙ same.0; leaves = x.writes.leaves ∙ same.1 x.answer }) in
        (x.says ∙ ap answer_word p.0, p.1)

  -- WRITTEN, then read
  pub read_back :
      (v : Values) (room after : List ℕ) → WritesLent file v room 0 after
      → (n : List ℕ) (c : List ℤ) (l t : List ℕ) (r : ℕ) (n' : List ℕ) (c' : List ℤ) (l' t' : List ℕ)
      → roomy (length n) (length c) (length l) (length t) ≡ true → Reads file after 1 n c l t r n' c' l' t'
      → (r ≡ 0) × ((f : ℕ) → 1 ≤ f → f ≤ fields_of k → values_say k (lent_values n' c' l' t') f ≡ values_say k v f)
  read_back v room after x n c l t r n' c' l' t' m w =
      let done = subst (λ (a : Answer). Writes file v room a after) (written-zero x.answer x.says) x.writes in
      let p = one.reads-what-was-written file k e v room after done in
      let z : r ≡ 0 = w.says ∙ rw (p.0, m) in
      (z, λ f a b. arrays-say after 1 (subst (λ (q : ℕ). Reads file after 1 n c l t q n' c' l' t') z w) f a b ∙ p.1 f a b)
