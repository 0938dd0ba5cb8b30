-- What a host sees of the two calls on one record: a refusal leaves what was lent, there is one outcome, and reason and field are had
-- back from a refusal.
-- Assumes nothing.
use Prim.Native.Nat.{ℕ, zero, suc, ◌<◌, ◌≤◌}
use mathlib.Core.Bool.{Bool, true, false}
use mathlib.Core.List.{List}
use mathlib.Core.Path.{◌≡◌, refl, sym, ap, ◌∙◌}
use mathlib.Core.Logic.{◌⊎◌, inl, inr}
use native.Mathlib.Decide.{dec_lt}
use native.Mathlib.Omega.{arith}
use lib.IntN.{ℤ}
use lib.ListN.{length}
use Rattle.record.specs.declared.kind.Kind.{Kind}
use Rattle.record.specs.Table.{Which}
use Rattle.std.specs.Prelude.{None, Some}
use Rattle.record.specs.declared.reason.Reason.{Reason}
use Rattle.record.specs.declared.reason.Reason.TheVariants.{ShortRoom61}
use Rattle.record.specs.Table.{length_of, which_of, most_fields}
use Rattle.record.specs.Cut.{count_of}
use Rattle.record.specs.Breaks.{number_of}
use Rattle.record.proofs.TableLaws.{sane}
use Rattle.codec.specs.declared.values.Values.{Values}
use Rattle.codec.specs.Calls.{Answer}
use Rattle.std.specs.Prelude.{Ok, Err}
use Rattle.codec.specs.Calls.{refused}
use Rattle.codec.specs.Calls.{answer_read, read_of, answer_as, Writes}
use Rattle.codec.proofs.Theorems as one
use Rattle.canopyrail.specs.Answers.{answer_number, reason_in, file_in, record_in, field_in, other_in, refusal_word, answer_word}
use Rattle.canopyrail.specs.Lent.{Holds, roomy, read_answer, Reads, WritesLent}

zero_or : (r : ℕ) → Dec (r ≡ 0)
zero_or zero = yes refl
zero_or (suc r) = no (λ e. omega arith)

-- A REFUSAL leaves the room
pub room-left : (file : ℕ) (v : Values) (room : List ℕ) (r : ℕ) (after : List ℕ) → WritesLent file v room r after → (r ≡ 0 → ⊥) → after ≡ room
room-left file v room r after w never = go w.answer w.says w.writes
  where
    go : (a : Answer) → r ≡ answer_word a → Writes file v room a after → after ≡ room
    go (Ok u) e h = absurd (never e)
    go (Err r) e h = one.refusal-leaves-room file v room after r.reason r.field h

-- ONE OUTCOME
module _ {v : Values} {n : List ℕ} {c : List ℤ} {l t n' n'' : List ℕ} {c' c'' : List ℤ} {l' t' l'' t'' : List ℕ} where
  held-once : Holds v n c l t n' c' l' t' → Holds v n c l t n'' c'' l'' t'' → (n' ≡ n'') × (c' ≡ c'') × (l' ≡ l'') × (t' ≡ t'')
  held-once h h' = (
    h.the_numbers ∙ sym h'.the_numbers,
    h.the_coordinates ∙ sym h'.the_coordinates,
    h.the_lengths ∙ sym h'.the_lengths,
    h.the_texts ∙ sym h'.the_texts,
  )

module _ (file : ℕ) (s : List ℕ) (i : ℕ) (n : List ℕ) (c : List ℤ) (l t : List ℕ) where
  pub read-once :
      (r : ℕ) (n' : List ℕ) (c' : List ℤ) (l' t' : List ℕ) (r' : ℕ) (n'' : List ℕ) (c'' : List ℤ) (l'' t'' : List ℕ)
      → Reads file s i n c l t r n' c' l' t' → Reads file s i n c l t r' n'' c'' l'' t''
      → (r ≡ r') × (n' ≡ n'') × (c' ≡ c'') × (l' ≡ l'') × (t' ≡ t'')
  read-once r n' c' l' t' r' n'' c'' l'' t'' a b = let p = go (zero_or r) in (same, p.0, p.1, p.2, p.3)
    where
      same : r ≡ r'
      same = a.says ∙ sym b.says

      go : Dec (r ≡ 0) → (n' ≡ n'') × (c' ≡ c'') × (l' ≡ l'') × (t' ≡ t'')
      go (yes e) = held-once (a.holds e) (b.holds (sym same ∙ e))
      go (no never) =
          let never' : r' ≡ 0 → ⊥ = λ e. never (same ∙ e) in (
            a.numbers_stay never ∙ sym (b.numbers_stay never'),
            a.coordinates_stay never ∙ sym (b.coordinates_stay never'),
            a.lengths_stay never ∙ sym (b.lengths_stay never'),
            a.texts_stay never ∙ sym (b.texts_stay never'),
          )

pub written_once :
    (file : ℕ) (v : Values) (room : List ℕ) (r r' : ℕ) (after after' : List ℕ) → WritesLent file v room r after → WritesLent file v room r' after'
    → (r ≡ r') × (after ≡ after')
written_once file v room r r' after after' w w' =
    let p = one.one-writing file v room w.answer w'.answer after after' w.writes w'.writes in
    (w.says ∙ ap answer_word p.0 ∙ sym w'.says, p.1)

-- REASON AND PLACE had back from an answer
pub apart :
    (r f i p o : ℕ) → f < 100 → i < 100000 → p < 100
    → (reason_in (answer_number r f i p o) ≡ r) × (file_in (answer_number r f i p o) ≡ f) × (record_in (answer_number r f i p o) ≡ i) × (field_in (answer_number r f i p o) ≡ p)
unfolding answer_number
apart r f i p o lf li lp = (omega arith, omega arith, omega arith, omega arith)

pub other-apart : (r f i p o : ℕ) → o < 100000 → other_in (answer_number r f i p o) ≡ o
unfolding answer_number
other-apart r f i p o l = omega arith

refusal-tells : (reason : Reason) (field : ℕ) {r : ℕ} → field ≤ most_fields → r ≡ refusal_word reason field → (reason_in r ≡ number_of reason) × (field_in r ≡ field)
unfolding refusal_word
refusal-tells reason field h e =
    let p = apart (number_of reason) 0 0 field 0 (omega arith) (omega arith) (omega arith) in
    (ap reason_in e ∙ p.0, ap field_in e ∙ p.3)

-- no field past the last that a record may have is refused
field-zero : {reason reason' : Reason} {field : ℕ} → refused reason field ≡ refused reason' 0 → field ≤ most_fields
field-zero {field = field} e =
    let z : field ≡ 0 = ap field_of e in
    omega arith
  where
    field_of : Answer → ℕ
    field_of (Ok u) = 0
    field_of (Err r) = r.field

read-field-fits : (file : ℕ) (s : List ℕ) (n : ℕ) (reason : Reason) (field : ℕ) → answer_read (read_of file s n) ≡ refused reason field → field ≤ most_fields
read-field-fits file s n reason field d = go (which_of file) refl
  where
    there : (k : Kind) → which_of file ≡ Some k → Dec (n ≡ 0) → Dec (count_of s k < n) → field ≤ most_fields
    there k e (yes z) p = field-zero (sym d ∙ ((one.reading-refuses-first file s n).1 k e).0 (inl z))
    there k e (no z) (yes p) = field-zero (sym d ∙ ((one.reading-refuses-first file s n).1 k e).0 (inr p))
    there k e (no z) (no p) = omega (arith, (((one.reading-refuses-first file s n).1 k e).1 (omega arith) (omega arith) reason field d).1, (sane k).few)

    go : (which : Which) → which_of file ≡ which → field ≤ most_fields
    go None e = field-zero (sym d ∙ (one.reading-refuses-first file s n).0 e)
    go (Some k) e = there k e (zero_or n) (dec_lt (count_of s k) n)

written-field-fits :
    (file : ℕ) (v : Values) (room after : List ℕ) (reason : Reason) (field : ℕ) → Writes file v room (refused reason field) after → field ≤ most_fields
written-field-fits file v room after reason field w = go (which_of file) refl
  where
    there : (k : Kind) → which_of file ≡ Some k → Dec (length room < length_of k) → field ≤ most_fields
    there k e (yes p) = field-zero (((one.writing-refuses-first file v room (refused reason field) after w).1 k e).0 p)
    there k e (no p) = omega (arith, (((one.writing-refuses-first file v room (refused reason field) after w).1 k e).1 (omega arith) reason field refl).2, (sane k).few)

    go : (which : Which) → which_of file ≡ which → field ≤ most_fields
    go None e = field-zero ((one.writing-refuses-first file v room (refused reason field) after w).0 e)
    go (Some k) e = there k e (dec_lt (length room) (length_of k))

-- OF A REFUSAL
pub read-tells :
    (file : ℕ) (s : List ℕ) (i : ℕ) (n : List ℕ) (c : List ℤ) (l t : List ℕ) (r : ℕ) (n' : List ℕ) (c' : List ℤ) (l' t' : List ℕ)
    → Reads file s i n c l t r n' c' l' t' → (r ≡ 0 → ⊥)
    → (reason : Reason) × (field : ℕ)
    × ((answer_read (read_of file s i) ≡ refused reason field)
    ⊎ ((answer_read (read_of file s i) ≡ Ok tt) × (roomy (length n) (length c) (length l) (length t) ≡ false) × (reason ≡ ShortRoom61) × (field ≡ 0)))
    × (reason_in r ≡ number_of reason)
    × (field_in r ≡ field)
read-tells file s i n c l t r n' c' l' t' w never = go (answer_read (read_of file s i)) (roomy (length n) (length c) (length l) (length t)) refl refl w.says
  where
    go :
        (a : Answer) (b : Bool) → answer_read (read_of file s i) ≡ a → roomy (length n) (length c) (length l) (length t) ≡ b → r ≡ read_answer a b
        → (reason : Reason) × (field : ℕ)
        × ((answer_read (read_of file s i) ≡ refused reason field)
        ⊎ ((answer_read (read_of file s i) ≡ Ok tt) × (roomy (length n) (length c) (length l) (length t) ≡ false) × (reason ≡ ShortRoom61) × (field ≡ 0)))
        × (reason_in r ≡ number_of reason)
        × (field_in r ≡ field)
    go (Ok u) true p q e = absurd (never e)
    go (Ok u) false p q e =
        let h = refusal-tells ShortRoom61 0 (omega arith) e in
        (ShortRoom61, 0, inr (p, q, refl, refl), h.0, h.1)
    go (Err x) b p q e =
        let h = refusal-tells x.reason x.field (read-field-fits file s i x.reason x.field p) e in
        (x.reason, x.field, inl p, h.0, h.1)

pub written-tells :
    (file : ℕ) (v : Values) (room : List ℕ) (r : ℕ) (after : List ℕ) → WritesLent file v room r after → (r ≡ 0 → ⊥)
    → (reason : Reason) × (field : ℕ)
    × (answer_as (which_of file) v (length room) ≡ refused reason field)
    × (reason_in r ≡ number_of reason)
    × (field_in r ≡ field)
written-tells file v room r after w never = go w.answer w.says w.writes
  where
    go :
        (a : Answer) → r ≡ answer_word a → Writes file v room a after
        → (reason : Reason) × (field : ℕ)
        × (answer_as (which_of file) v (length room) ≡ refused reason field)
        × (reason_in r ≡ number_of reason)
        × (field_in r ≡ field)
    go (Ok u) e x = absurd (never e)
    go (Err y) e x =
        let h = refusal-tells y.reason y.field (written-field-fits file v room after y.reason y.field x) e in
        (y.reason, y.field, sym x.says, h.0, h.1)
