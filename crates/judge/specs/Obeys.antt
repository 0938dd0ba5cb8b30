-- Values that obey the rules, over values alone, without bytes; and the files that the writer makes of them.
-- Assumes nothing.
use Rattle.std.specs.Prelude.{ℕ, ◌≤◌, ◌<◌, false, List, [], ◌∷◌, ◌++◌, map, ◌≡◌, length, get_or, replicate}
use Rattle.record.specs.declared.kind.Kind.{Kind}
use Rattle.std.specs.Prelude.{Ok}
use Rattle.record.specs.Table.{kinds, limit, most_fields, fields_of}
use Rattle.record.specs.Files.{Files, Delivery}
use Rattle.codec.specs.declared.values.Values.{Values}
use Rattle.codec.specs.Values.{no_value, values_say}
use Rattle.codec.specs.Writes.{encode}
use Rattle.codec.specs.Refusals.{sixties}
use Rattle.judge.specs.declared.judge.Verdict.{Verdict}
use Rattle.judge.specs.Broken.{said_holds}

-- for each file the values of its records
abbrev pub Records : Type 0
Records = Kind → List Values

abbrev pub no_values : Values
no_values = record { at = replicate most_fields no_value }

-- record i's values, counted from 0
abbrev pub values_at : Records → Kind → ℕ → Values
values_at vs k i = get_or (vs k) i no_values

-- what they say, as tables
abbrev pub tables_of : Records → Delivery
tables_of vs k = record { count = length (vs k); says = λ i f. values_say k (values_at vs k i) f }

-- at most 16,384 records a file, no test of 62 to 65 holds of a record's values, and no test from 30 on holds of what they say
pub record Obeys (vs : Records) : Type 0 where
  pub few : (k : Kind) → length (vs k) ≤ limit
  pub fields : (k : Kind) (i f u : ℕ) → i < length (vs k) → f ≤ fields_of k → get_or (sixties k (values_say k (values_at vs k i)) f) u false ≡ false
  pub rules : (n : ℕ) (k : Kind) (i f : ℕ) → said_holds (tables_of vs) n k i f ≡ false

-- the records' bytes, one after another
unfoldable pub written_of : Kind → List Values → List ℕ
written_of k [] = []
written_of k (v ∷ vs) = encode k (values_say k v) ++ written_of k vs

-- the files that the writer makes
abbrev pub made_of : Records → Files
made_of vs k = written_of k (vs k)

-- accepted, with the number of values of each file
abbrev pub lengths_of : Records → List ℕ
lengths_of vs = map (λ k. length (vs k)) kinds

abbrev pub accepted : Records → Verdict
accepted vs = record { finding = (Ok tt); counts = lengths_of vs }

-- the same records in another order: place i of ys is place `to i` of xs, and back
pub record Shuffled {A : Type 0} (xs ys : List A) : Type 0 where
  pub long : length ys ≡ length xs
  pub to : ℕ → ℕ
  pub from : ℕ → ℕ
  pub to-within : (i : ℕ) → i < length xs → to i < length xs
  pub from-within : (i : ℕ) → i < length xs → from i < length xs
  pub to-from : (i : ℕ) → i < length xs → to (from i) ≡ i
  pub from-to : (i : ℕ) → i < length xs → from (to i) ≡ i
  pub moved : (d : A) (i : ℕ) → i < length xs → get_or ys i d ≡ get_or xs (to i) d
