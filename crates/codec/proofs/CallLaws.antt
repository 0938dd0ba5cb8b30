-- What the two calls on one record answer and leave (specs/Calls.antt), taken apart: what an answer says of what was found.
-- Assumes nothing.
use Prim.Native.Nat.{ℕ, zero, suc, ◌-◌, ◌/◌, ◌%◌, ◌<◌, ◌≤◌}
use mathlib.Core.Bool.{Bool, true, false, ◌||◌, or-true}
use mathlib.Core.List.{List, [], ◌∷◌, ◌++◌}
use mathlib.Core.Path.{subst, ◌≡◌, refl, sym, ap, ◌∙◌}
use mathlib.Core.Logic.{◌⊎◌, ⊎_elim}
use native.Mathlib.Nat.{le-div_iff_mul-le, zero-mul, one-mul}
use native.Mathlib.Decide.{dec_lt}
use native.Mathlib.Omega.{arith}
use lib.Dec.{ltb, eqb}
use lib.ListN.{length, drop, get_or, length-append}
use lib.Seq.{take_at}
use borrow.Author.Tests.{ltb-false, eqb-false, lt-ltb, le-ltb, eq-eqb, ne_eqb}
use Rattle.laws.specs.Nest.{before}
use Rattle.laws.specs.Row.{pick}
use Rattle.laws.proofs.RowLaws.{neither}
use Rattle.record.specs.declared.kind.Kind.{Kind}
use Rattle.record.specs.Table.{Which}
use Rattle.std.specs.Prelude.{None, Some}
use Rattle.record.specs.declared.reason.Reason.{Reason}
use Rattle.record.specs.declared.reason.Reason.TheVariants.{ShortRoom61, NoSuchRecord66}
use Rattle.record.specs.declared.reason.Break.{Break}
use Rattle.record.specs.Breaks.{Finding}
use Rattle.std.specs.Prelude.{Ok, Err}
use Rattle.record.specs.Table.{col_at, form_at, fields_of, length_of, which_of}
use Rattle.record.specs.Cut.{count_of, record_of}
use Rattle.record.specs.Rules.{twenties}
use Rattle.record.specs.Breaks.{number_of, record_finding}
use Rattle.record.proofs.TableLaws.{sane}
use Rattle.record.proofs.CutLaws.{record-part}
use Rattle.codec.specs.declared.values.Values.{Values}
use Rattle.codec.specs.declared.values.Refusal.{Refusal}
use Rattle.std.specs.Prelude.{Ok, Err}
use Rattle.codec.specs.Values.{value_at, values_say, values_in}
use Rattle.codec.specs.Writes.{encode}
use Rattle.codec.specs.Refusals.{sixties, values_finding}
use Rattle.codec.specs.Calls.{Answer, Reading, answer_read, refused, answer_of, no_reading, read_found, read_in, read_of, answer_in, room_after, room_as, Writes}
use Rattle.codec.proofs.EncodeLaws.{length-encode}
use Rattle.codec.proofs.ReadLaws.{never_done, found-answer}
use Rattle.codec.proofs.AllFalse.{First, record-first, values-first}
use Rattle.codec.proofs.Out.{values-shaped, written-lawful}
use Rattle.codec.proofs.In.{encode_same, finding-same, same_bytes, read-writable, values-say}

-- ANSWERS
answer-done : (o : Finding) → answer_of o ≡ Ok tt → o ≡ Ok tt
answer-done (Ok u) e = refl
answer-done (Err b) e = absurd (never_done e)

-- what is told of a refusal
Told : (Reason → ℕ → Type 0) → Answer → Type 0
Told P (Ok u) = Unit
Told P (Err r) = P r.reason r.field

-- what the break found tells is told of the refusal
answer-refused :
    (P : Reason → ℕ → Type 0) (o : Finding) → ((b : Break) → o ≡ Err b → P b.reason b.field) → (reason : Reason) (field : ℕ)
    → answer_of o ≡ refused reason field → P reason field
unfolding Told
answer-refused P (Ok u) h reason field e = absurd (never_done (sym e))
answer-refused P (Err b) h reason field e = subst (λ (a : Answer). Told P a) e (h b refl)

-- READING
module _ (file : ℕ) (k : Kind) (e : which_of file ≡ Some k) (s : List ℕ) (n : ℕ) where
  -- a record that is not there,
  pub read_past : (n ≡ 0) ⊎ (count_of s k < n) → read_of file s n ≡ no_reading NoSuchRecord66 0
  unfolding read_of read_in
  read_past h = rw e (⊎_elim (λ z. rw (eq-eqb n 0 z)) (λ l. rw (lt-ltb (count_of s k) n l, or-true)) h)

  -- and one that is
  pub read-there : 1 ≤ n → n ≤ count_of s k → read_of file s n ≡ read_found (record_of s k (n - 1)) k (record_finding (record_of s k (n - 1)) k n)
  unfolding read_of read_in
  read-there a b = rw (e, ne_eqb n 0 (λ z. omega arith), le-ltb (count_of s k) n b)

  pub read-fine :
      1 ≤ n → n ≤ count_of s k → record_finding (record_of s k (n - 1)) k n ≡ Ok tt
      → read_of file s n ≡ Ok (values_in (record_of s k (n - 1)) k)
  read-fine a b h = read-there a b ∙ ap (read_found (record_of s k (n - 1)) k) h

  pub fine-read : 1 ≤ n → n ≤ count_of s k → answer_read (read_of file s n) ≡ Ok tt → record_finding (record_of s k (n - 1)) k n ≡ Ok tt
  fine-read a b d =
      let o = record_finding (record_of s k (n - 1)) k n in
      answer-done o (sym (ap answer_read (read-there a b) ∙ found-answer (record_of s k (n - 1)) k o) ∙ d)

  -- what is read is there
  pub done-there : answer_read (read_of file s n) ≡ Ok tt → (1 ≤ n) × (n ≤ count_of s k)
  unfolding read_of read_in
  done-there d = go (eqb n 0 || ltb (count_of s k) n) refl (rw e at d)
    where
      go :
          (b : Bool) → (eqb n 0 || ltb (count_of s k) n) ≡ b
          → answer_read (pick b (no_reading NoSuchRecord66 0) (read_found (record_of s k (n - 1)) k (record_finding (record_of s k (n - 1)) k n))) ≡ Ok tt
          → (1 ≤ n) × (n ≤ count_of s k)
      go true h d = absurd (never_done d)
      go false h d =
          let p = neither (eqb n 0) (ltb (count_of s k) n) h in
          let z = eqb-false n 0 p.0 in
          (omega arith, ltb-false (count_of s k) n p.1)

-- the first refusal of a record that is there
pub refused-read :
    (file : ℕ) (k : Kind) → which_of file ≡ Some k → (s : List ℕ) (n : ℕ) → 1 ≤ n → n ≤ count_of s k → (reason : Reason) (field : ℕ)
    → answer_read (read_of file s n) ≡ refused reason field
    → First (fields_of k) 20 (twenties (record_of s k (n - 1)) k) (number_of reason) field
refused-read file k e s n a b reason field d =
    let r = record_of s k (n - 1) in
    let o = record_finding r k n in
    answer-refused (λ x f. First (fields_of k) 20 (twenties r k) (number_of x) f) o (record-first r k n) reason field
    (sym (ap answer_read (read-there file k e s n a b) ∙ found-answer r k o) ∙ d)

-- it is of the twenties, and its test is that of its last digit
pub twenty-first :
    {n field : ℕ} {tests : ℕ → List Bool} {reason : ℕ} → First n 20 tests reason field → length (tests field) ≡ 6
    → (reason / 10 ≡ 2) × (field ≤ n) × (get_or (tests field) (reason % 10) false ≡ true)
    × ((m f : ℕ) → m / 10 ≡ 2 → f ≤ n → get_or (tests f) (m % 10) false ≡ true → before (f ∷ m ∷ []) (field ∷ reason ∷ []) ≡ true → ⊥)
twenty-first {n} {field} {tests} {reason} h six =
    let a = h.from in
    let b = h.there in
    let q : reason % 10 ≡ reason - 20 = omega arith in (
      omega arith,
      h.within,
      rw q h.holds,
      λ m f t l here earlier. h.least m f (omega arith) l (let r : m % 10 ≡ m - 20 = omega arith in rw r at here) earlier,
    )

-- the first record of a file that begins with a record's bytes
module _ (k : Kind) (t rest : List ℕ) (l : length t ≡ length_of k) where
  pub first-there : 1 ≤ count_of (t ++ rest) k
  unfolding count_of
  first-there =
      (le-div_iff_mul-le {k = length_of k} (omega (arith, sane k))).1 (rw (one-mul, length-append) (omega arith))

  pub first-record : record_of (t ++ rest) k 0 ≡ t
  first-record = sym (record-part (t ++ rest) k 0 first-there {n = length_of k} refl) ∙ rw zero-mul (take_at t rest (length_of k) l)

-- WRITING
module _ (file : ℕ) (k : Kind) (e : which_of file ≡ Some k) (v : Values) (room : List ℕ) (a : Answer) (after : List ℕ) (w : Writes file v room a after) where
  wrote-answer : a ≡ answer_in k v (length room)
  wrote-answer = rw e at w.says

  pub wrote-room : after ≡ room_after k v room a
  wrote-room = rw e at w.leaves

  -- into a room that is too short,
  pub wrote-short : length room < length_of k → a ≡ refused ShortRoom61 0
  unfolding answer_in
  wrote-short l = wrote-answer ∙ rw (lt-ltb (length room) (length_of k) l)

  -- and into one that is not
  pub wrote-long : length_of k ≤ length room → a ≡ answer_of (values_finding k (values_say k v))
  unfolding answer_in
  wrote-long l = wrote-answer ∙ rw (le-ltb (length room) (length_of k) l)

  pub wrote-refused :
      length_of k ≤ length room → (reason : Reason) (field : ℕ) → a ≡ refused reason field
      → First (fields_of k) 62 (sixties k (values_say k v)) (number_of reason) field
  wrote-refused l reason field d =
      answer-refused (λ x f. First (fields_of k) 62 (sixties k (values_say k v)) (number_of x) f) (values_finding k (values_say k v))
      (values-first k (values_say k v)) reason field (sym (wrote-long l) ∙ d)

  -- what is written fits, and nothing in it is refused
  pub wrote-fits : a ≡ Ok tt → length_of k ≤ length room
  wrote-fits d = go (dec_lt (length room) (length_of k))
    where
      go : Dec (length room < length_of k) → length_of k ≤ length room
      go (yes l) = absurd (never_done (sym (wrote-short l) ∙ d))
      go (no l) = omega arith

  pub wrote-fine : a ≡ Ok tt → values_finding k (values_say k v) ≡ Ok tt
  wrote-fine d = answer-done _ (sym (wrote-long (wrote-fits d)) ∙ d)

  pub wrote-bytes : a ≡ Ok tt → after ≡ encode k (values_say k v) ++ drop (length_of k) room
  wrote-bytes d = rw d at wrote-room

-- WRITTEN, then read: the record that stands first in the room
pub read-written :
    (file : ℕ) (k : Kind) → which_of file ≡ Some k → (v : Values) (room after : List ℕ) → Writes file v room (Ok tt) after
    → read_of file after 1 ≡ Ok (values_in (encode k (values_say k v)) k)
read-written file k e v room after w =
    let t = encode k (values_say k v) in
    let rest = drop (length_of k) room in
    let l = length-encode k (values_say k v) in
    let q = first-record k t rest l in
    let lawful = written-lawful k (values_say k v) (λ f _. values-shaped k v f) (wrote-fine file k e v room (Ok tt) after w refl) 1 in
    ap (λ (s : List ℕ). read_of file s 1) (wrote-bytes file k e v room (Ok tt) after w refl)
    ∙ read-fine file k e (t ++ rest) 1 (omega arith) (first-there k t rest l) (rw q lawful)
    ∙ ap (λ (s : List ℕ). Ok (values_in s k)) q

-- READ, then written: what was found to be fine is not refused, and gives its bytes
pub written_read :
    (s : List ℕ) (k : Kind) (i : ℕ) → length s ≡ length_of k → record_finding s k i ≡ Ok tt
    → (values_finding k (values_say k (values_in s k)) ≡ Ok tt) × (encode k (values_say k (values_in s k)) ≡ s)
written_read s k i l h = (
  finding-same k _ _ (values-say s k) ∙ read-writable s k i l h,
  encode_same k _ _ (values-say s k) ∙ same_bytes s k i l h,
)

-- ALIKE: place 0 says nothing, so the fields tell all
pub alike :
    (k : Kind) (v w : Values) → ((f : ℕ) → 1 ≤ f → f ≤ fields_of k → values_say k v f ≡ values_say k w f)
    → (f : ℕ) → f ≤ fields_of k → values_say k v f ≡ values_say k w f
unfolding values_say value_at form_at col_at
alike k v w same zero b = refl
alike k v w same (suc f) b = same (suc f) (omega arith) b

pub answer-alike : (k : Kind) (v w : Values) (n : ℕ) → values_finding k (values_say k v) ≡ values_finding k (values_say k w) → answer_in k v n ≡ answer_in k w n
unfolding answer_in
answer-alike k v w n e = rw e

pub room-alike :
    (k : Kind) (v w : Values) (room : List ℕ) (a : Answer) → encode k (values_say k v) ≡ encode k (values_say k w) → room_after k v room a ≡ room_after k w room a
room-alike k v w room (Ok u) e = rw e
room-alike k v w room (Err r) e = refl

-- a refusal, of any file
pub room-refused : (which : Which) (v : Values) (room : List ℕ) (reason : Reason) (field : ℕ) → room_as which v room (refused reason field) ≡ room
room-refused None v room reason field = refl
room-refused (Some k) v room reason field = refl
