-- The answers of the two calls on one record (document 01, "Single-record calls add"): reading 60, 66, then 20 to 25 by field and
-- reason; writing 60, 61, then 62 to 65 by field and reason.
-- Assumes nothing.
use Rattle.std.specs.Prelude.{ℕ, ◌-◌, ◌||◌, List, ◌++◌, ◌≡◌, ltb, eqb, length, drop, replicate}
use Rattle.laws.specs.Row.{pick}
use Rattle.record.specs.declared.kind.Kind.{Kind}
use Rattle.record.specs.Table.{Which}
use Rattle.std.specs.Prelude.{Result, Ok, Err, None, Some}
use Rattle.record.specs.declared.reason.Reason.{Reason}
use Rattle.record.specs.declared.reason.Reason.TheVariants.{NoFile60, ShortRoom61, NoSuchRecord66}
use Rattle.record.specs.Breaks.{Finding}
use Rattle.record.specs.Table.{length_of, which_of, most_fields}
use Rattle.record.specs.Cut.{count_of, record_of}
use Rattle.record.specs.Breaks.{record_finding}
use Rattle.record.specs.declared.reason.Break.{Break}
use Rattle.codec.specs.declared.values.Values.{Values}
use Rattle.codec.specs.declared.values.Refusal.{Refusal}
use Rattle.codec.specs.Values.{no_value, values_say, values_in}
use Rattle.codec.specs.Writes.{encode}
use Rattle.codec.specs.Refusals.{values_finding}

-- an answer, and a refusal by its reason and field
abbrev pub Answer : Type 0
Answer = Result (Unit {0}) Refusal

abbrev pub refused : Reason → ℕ → Answer
refused reason field = Err (record { reason = reason; field = field })

-- a reading: the values, or a refusal, which gives none
abbrev pub Reading : Type 0
Reading = Result Values Refusal

abbrev pub answer_read : Reading → Answer
answer_read (Ok v) = Ok tt
answer_read (Err r) = Err r

abbrev pub values_read : Reading → Values
values_read (Ok v) = v
values_read (Err r) = record { at = replicate most_fields no_value }

-- a break, as a refusal: its reason and field
abbrev pub refusal_of : Break → Refusal
refusal_of b = record { reason = b.reason; field = b.field }

-- a finding, as an answer
abbrev pub answer_of : Finding → Answer
answer_of (Ok u) = Ok tt
answer_of (Err b) = Err (refusal_of b)

abbrev pub no_reading : Reason → ℕ → Reading
no_reading reason field = Err (record { reason = reason; field = field })

-- of a record's bytes with what is found in them
abbrev pub read_found : List ℕ → Kind → Finding → Reading
read_found s k (Ok u) = Ok (values_in s k)
read_found s k (Err b) = Err (refusal_of b)

-- record n, counted from 1, of a file's bytes
unfoldable pub read_in : List ℕ → Kind → ℕ → Reading
read_in s k n =
    pick (eqb n 0 || ltb (count_of s k) n) (no_reading NoSuchRecord66 0)
    (read_found (record_of s k (n - 1)) k (record_finding (record_of s k (n - 1)) k n))

abbrev pub read_as : Which → List ℕ → ℕ → Reading
read_as None s n = no_reading NoFile60 0
read_as (Some k) s n = read_in s k n

-- READING: file number, the file's bytes, record number
unfoldable pub read_of : ℕ → List ℕ → ℕ → Reading
read_of file s n = read_as (which_of file) s n

-- a record of the kind into a room of so many bytes
unfoldable pub answer_in : Kind → Values → ℕ → Answer
answer_in k v room = pick (ltb room (length_of k)) (refused ShortRoom61 0) (answer_of (values_finding k (values_say k v)))

-- what the room holds after the answer
abbrev pub room_after : Kind → Values → List ℕ → Answer → List ℕ
room_after k v room (Ok u) = encode k (values_say k v) ++ drop (length_of k) room
room_after k v room (Err r) = room

abbrev pub answer_as : Which → Values → ℕ → Answer
answer_as None v room = refused NoFile60 0
answer_as (Some k) v room = answer_in k v room

abbrev pub room_as : Which → Values → List ℕ → Answer → List ℕ
room_as None v room a = room
room_as (Some k) v room a = room_after k v room a

-- WRITING: file number, values, and the room before and after: a refusal leaves every byte, success writes the record's bytes at
-- its start and touches no other
pub record Writes (file : ℕ) (v : Values) (room : List ℕ) (a : Answer) (after : List ℕ) : Type 0 where
  pub says : a ≡ answer_as (which_of file) v (length room)
  pub leaves : after ≡ room_as (which_of file) v room a
