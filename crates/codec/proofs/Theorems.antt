-- What the two calls on one record promise, each in terms of specs/ alone: the calls do `read_of` and `Writes` (specs/Calls.antt).
-- Assumes nothing.
use Prim.Native.Nat.{ℕ, ◌-◌, ◌/◌, ◌%◌, ◌<◌, ◌≤◌}
use mathlib.Core.Bool.{true, false}
use mathlib.Core.List.{List, [], ◌∷◌, ◌++◌}
use mathlib.Core.Path.{◌≡◌, refl, sym, ap, ◌∙◌}
use mathlib.Core.Logic.{◌⊎◌}
use native.Mathlib.Omega.{arith}
use lib.ListN.{length, drop, get_or, length-append, length-drop}
use lib.Seq.{drop_at}
use Rattle.laws.specs.Nest.{before}
use Rattle.record.specs.declared.kind.Kind.{Kind}
use Rattle.std.specs.Prelude.{None, Some}
use Rattle.record.specs.declared.reason.Reason.{Reason}
use Rattle.record.specs.declared.reason.Reason.TheVariants.{NoFile60, ShortRoom61, NoSuchRecord66}
use Rattle.record.specs.Table.{fields_of, length_of, which_of}
use Rattle.record.specs.Cut.{count_of, record_of}
use Rattle.record.specs.Rules.{twenties}
use Rattle.record.specs.Breaks.{number_of}
use Rattle.record.proofs.CutLaws.{record-long}
use Rattle.codec.specs.declared.values.Values.{Values}
use Rattle.std.specs.Prelude.{Ok, Err}
use Rattle.codec.specs.Values.{values_say}
use Rattle.codec.specs.Writes.{encode}
use Rattle.codec.specs.Refusals.{sixties}
use Rattle.codec.specs.Calls.{Answer, Reading, answer_read, values_read, refused, answer_of, read_of, answer_as, room_as, Writes}
use Rattle.codec.proofs.EncodeLaws.{length-encode}
use Rattle.codec.proofs.AllFalse.{record-fine, values-fine}
use Rattle.codec.proofs.Out.{values-shaped, said-back}
use Rattle.codec.proofs.In.{encode_same, finding-same, values-say}
use Rattle.codec.proofs.CallLaws as calls

-- Values that were written are read again: of the room, read as a file, record 1 gives Ok and the same values, field by field.
pub reads-what-was-written :
    (file : ℕ) (k : Kind) → which_of file ≡ Some k → (v : Values) (room after : List ℕ) → Writes file v room (Ok tt) after
    → (answer_read (read_of file after 1) ≡ Ok tt)
    × ((f : ℕ) → 1 ≤ f → f ≤ fields_of k → values_say k (values_read (read_of file after 1)) f ≡ values_say k v f)
reads-what-was-written file k e v room after w =
    let fine = calls.wrote-fine file k e v room (Ok tt) after w refl in
    rw (calls.read-written file k e v room after w)
    (refl, λ f a b. values-say (encode k (values_say k v)) k f b ∙ said-back k (values_say k v) (λ f _. values-shaped k v f) fine f a b)

-- Values that were read are written again, into any room that is long enough: Ok, and the room begins with the record that was
-- read, byte by byte.
pub writes-what-was-read :
    (file : ℕ) (k : Kind) → which_of file ≡ Some k → (s : List ℕ) (n : ℕ) → answer_read (read_of file s n) ≡ Ok tt
    → (room after : List ℕ) (a : Answer) → length_of k ≤ length room → Writes file (values_read (read_of file s n)) room a after
    → (a ≡ Ok tt) × (after ≡ record_of s k (n - 1) ++ drop (length_of k) room)
writes-what-was-read file k e s n d room after a l w =
    let v = (values_read (read_of file s n)) in
    let t = calls.done-there file k e s n d in
    let fine = calls.fine-read file k e s n t.0 t.1 d in
    let q = calls.read-fine file k e s n t.0 t.1 fine in
    let back = calls.written_read (record_of s k (n - 1)) k n (record-long s k (n - 1) (omega arith)) fine in
    let done : a ≡ Ok tt = calls.wrote-long file k e v room a after w l ∙ rw (q, back.0) in
    (done, calls.wrote-bytes file k e v room a after w done ∙ rw (q, back.1))

-- A record of the file is read exactly where it is lawful: none of the tests 20 to 25 holds at any of its fields (0 is the record).
pub lawful-exactly-if-read :
    (file : ℕ) (k : Kind) → which_of file ≡ Some k → (s : List ℕ) (n : ℕ) → 1 ≤ n → n ≤ count_of s k
    → (answer_read (read_of file s n) ≡ Ok tt → (f u : ℕ) → f ≤ fields_of k → get_or (twenties (record_of s k (n - 1)) k f) u false ≡ false)
    × (((f u : ℕ) → f ≤ fields_of k → get_or (twenties (record_of s k (n - 1)) k f) u false ≡ false) → answer_read (read_of file s n) ≡ Ok tt)
lawful-exactly-if-read file k e s n a b =
    let h = record-fine (record_of s k (n - 1)) k n in
    (λ d. h.0 (calls.fine-read file k e s n a b d), λ l. ap answer_read (calls.read-fine file k e s n a b (h.1 l)))

-- What was written is a lawful record.
pub written-is-lawful :
    (file : ℕ) (k : Kind) → which_of file ≡ Some k → (v : Values) (room after : List ℕ) → Writes file v room (Ok tt) after
    → (f u : ℕ) → f ≤ fields_of k → get_or (twenties (record_of after k 0) k f) u false ≡ false
written-is-lawful file k e v room after w =
    let d = (reads-what-was-written file k e v room after w).0 in
    let t = calls.done-there file k e after 1 d in
    (lawful-exactly-if-read file k e after 1 t.0 t.1).0 d

-- Values are written into a room that is long enough exactly where none of the tests 62 to 65 holds at any field.
pub sayable-exactly-if-written :
    (file : ℕ) (k : Kind) → which_of file ≡ Some k → (v : Values) (room : List ℕ) (a : Answer) (after : List ℕ) → Writes file v room a after
    → length_of k ≤ length room
    → (a ≡ Ok tt → (f u : ℕ) → f ≤ fields_of k → get_or (sixties k (values_say k v) f) u false ≡ false)
    × (((f u : ℕ) → f ≤ fields_of k → get_or (sixties k (values_say k v) f) u false ≡ false) → a ≡ Ok tt)
sayable-exactly-if-written file k e v room a after w l =
    let h = values-fine k (values_say k v) in
    (λ d. h.0 (calls.wrote-fine file k e v room a after w d), λ s. calls.wrote-long file k e v room a after w l ∙ ap answer_of (h.1 s))

-- A refusal leaves every byte of the room.
pub refusal-leaves-room :
    (file : ℕ) (v : Values) (room after : List ℕ) (reason : Reason) (field : ℕ) → Writes file v room (refused reason field) after → after ≡ room
refusal-leaves-room file v room after reason field w = w.leaves ∙ calls.room-refused (which_of file) v room reason field

-- Success changes the record's bytes at the start of the room and no other.
pub success-touches-no-other :
    (file : ℕ) (k : Kind) → which_of file ≡ Some k → (v : Values) (room after : List ℕ) → Writes file v room (Ok tt) after
    → (drop (length_of k) after ≡ drop (length_of k) room) × (length after ≡ length room)
success-touches-no-other file k e v room after w =
    let bytes = calls.wrote-bytes file k e v room (Ok tt) after w refl in
    let fits = calls.wrote-fits file k e v room (Ok tt) after w refl in
    let l = length-encode k (values_say k v) in (
      ap (drop (length_of k)) bytes ∙ drop_at (encode k (values_say k v)) _ (length_of k) l,
      ap length bytes ∙ simp (length-append, length-drop, l) (omega arith),
    )

-- Writing has one outcome: an answer and what the room holds.
pub one-writing :
    (file : ℕ) (v : Values) (room : List ℕ) (a a' : Answer) (after after' : List ℕ) → Writes file v room a after → Writes file v room a' after'
    → (a ≡ a') × (after ≡ after')
one-writing file v room a a' after after' w w' =
    let e : a ≡ a' = w.says ∙ sym w'.says in
    (e, w.leaves ∙ ap (room_as (which_of file) v room) e ∙ sym w'.leaves)

-- And so has reading.
pub one-reading : (file : ℕ) (s : List ℕ) (n : ℕ) (r r' : Reading) → r ≡ read_of file s n → r' ≡ read_of file s n → r ≡ r'
one-reading file s n r r' e e' = e ∙ sym e'

-- Values that say the same in each field are answered the same and written as the same bytes: what else a struct of values holds is
-- not looked at.
pub said-alike :
    (file : ℕ) (k : Kind) → which_of file ≡ Some k → (v w : Values)
    → ((f : ℕ) → 1 ≤ f → f ≤ fields_of k → values_say k v f ≡ values_say k w f) → (room : List ℕ)
    → (answer_as (which_of file) v (length room) ≡ answer_as (which_of file) w (length room))
    × ((a : Answer) → room_as (which_of file) v room a ≡ room_as (which_of file) w room a)
said-alike file k e v w same room =
    let all = calls.alike k v w same in
    rw e (
      calls.answer-alike k v w (length room) (finding-same k _ _ all),
      λ a. calls.room-alike k v w room a (encode_same k _ _ all),
    )

-- Reading refuses in this order: 60 where no file has the number; 66 where the file has no such record; else the first by field and
-- reason of what is broken in the record, 20 to 25.
pub reading-refuses-first :
    (file : ℕ) (s : List ℕ) (n : ℕ)
    → (which_of file ≡ None → answer_read (read_of file s n) ≡ refused NoFile60 0)
    × ((k : Kind) → which_of file ≡ Some k
    → ((n ≡ 0) ⊎ (count_of s k < n) → answer_read (read_of file s n) ≡ refused NoSuchRecord66 0)
    × (1 ≤ n → n ≤ count_of s k → (reason : Reason) (field : ℕ) → answer_read (read_of file s n) ≡ refused reason field
    → (number_of reason / 10 ≡ 2)
    × (field ≤ fields_of k)
    × (get_or (twenties (record_of s k (n - 1)) k field) (number_of reason % 10) false ≡ true)
    × ((m f : ℕ) → m / 10 ≡ 2 → f ≤ fields_of k → get_or (twenties (record_of s k (n - 1)) k f) (m % 10) false ≡ true
    → before (f ∷ m ∷ []) (field ∷ number_of reason ∷ []) ≡ true → ⊥)))
unfolding read_of
reading-refuses-first file s n = (
  λ e. rw e,
  λ k e. (
    λ h. ap answer_read (calls.read_past file k e s n h),
    λ a b reason field d. calls.twenty-first (calls.refused-read file k e s n a b reason field d) refl,
  ),
)

-- Writing refuses in this order: 60 where no file has the number; 61 where the room is too short; else the first by field and reason
-- of what is refused of the values, 62 to 65.
pub writing-refuses-first :
    (file : ℕ) (v : Values) (room : List ℕ) (a : Answer) (after : List ℕ) → Writes file v room a after
    → (which_of file ≡ None → a ≡ refused NoFile60 0)
    × ((k : Kind) → which_of file ≡ Some k
    → (length room < length_of k → a ≡ refused ShortRoom61 0)
    × (length_of k ≤ length room → (reason : Reason) (field : ℕ) → a ≡ refused reason field
    → (62 ≤ number_of reason)
    × (number_of reason ≤ 65)
    × (field ≤ fields_of k)
    × (get_or (sixties k (values_say k v) field) (number_of reason - 62) false ≡ true)
    × ((m f : ℕ) → 62 ≤ m → f ≤ fields_of k → get_or (sixties k (values_say k v) f) (m - 62) false ≡ true
    → before (f ∷ m ∷ []) (field ∷ number_of reason ∷ []) ≡ true → ⊥)))
writing-refuses-first file v room a after w = (
  λ e. rw e at w.says,
  λ k e. (
    calls.wrote-short file k e v room a after w,
    λ l reason field d.
        let h = calls.wrote-refused file k e v room a after w l reason field d in
        (h.from, omega (arith, h.from, h.there), h.within, h.holds, h.least),
  ),
)
