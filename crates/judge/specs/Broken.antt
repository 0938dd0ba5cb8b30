-- What is broken: the tests of all rules in one list, all breaks in their fixed order, and what a verdict is to mean.
-- Assumes nothing.
use Rattle.std.specs.Prelude.{ℕ, ◌+◌, ◌-◌, ◌*◌, ◌/◌, ◌%◌, ◌<◌, Bool, true, false, ◌&&◌, List, [], ◌∷◌, map, ◌≡◌, leb, eqb, length, get_or}
use Rattle.std.proofs.Math.Option.{none}
use Rattle.laws.specs.Find.{hit}
use Rattle.laws.specs.Nest.{Nest, leaf, node, before}
use Rattle.laws.specs.Row.{pick}
use Rattle.record.specs.declared.kind.Kind.{Kind}
use Rattle.record.specs.Table.{Which}
use Rattle.std.specs.Prelude.{None, Some}
use Rattle.record.specs.declared.reason.Reason.{Reason}
use Rattle.record.specs.declared.reason.Reason.TheVariants.{LongFile10}
use Rattle.record.specs.declared.reason.Break.{Break}
use Rattle.record.specs.Breaks.{Finding}
use Rattle.std.specs.Prelude.{Ok, Err}
use Rattle.record.specs.Table.{fields_of, file_of, file_count, which_of, kinds}
use Rattle.record.specs.Cut.{count_of, record_of}
use Rattle.record.specs.Files.{Files, Delivery, delivery_of}
use Rattle.record.specs.Rules.{twenties}
use Rattle.record.specs.Breaks.{number_of, break_of, ten_reasons, twenty_reasons, shape_tests}
use Rattle.keys.specs.Rules.{breaks30, breaks40, breaks41, key_reasons}
use Rattle.topology.specs.Rules.{fifties, fifty_reasons}
use Rattle.objects.specs.Rules.{seventies, seventy_reasons}
use Rattle.judge.specs.declared.judge.Verdict.{Verdict}

-- the tens of the groups of reasons: 10 to 50, and 70
abbrev pub group_tens : List ℕ
group_tens = 1 ∷ 2 ∷ 3 ∷ 4 ∷ 5 ∷ 7 ∷ []

abbrev pub groups : ℕ
groups = length group_tens

abbrev pub last_ten : ℕ
last_ten = 7

-- record i, counted from 1, and field f are there, in a file of so many records
abbrev pub is_there : ℕ → Kind → ℕ → ℕ → Bool
is_there count k i f = leb 1 i && leb i count && leb f (fields_of k)

-- THE RULES in one list: the tests at record i and field f of file k, by the ten of the reason; of what the files say, from 30 on (the
-- test of the rule with the number n is one of its ten's),
unfoldable pub said_tests : Delivery → ℕ → Kind → ℕ → ℕ → List Bool
said_tests d t k i f =
    pick (is_there (d k).count k i f)
    (get_or
    ([] ∷ [] ∷ []
    ∷ (breaks30 d k (i - 1) f ∷ [])
    ∷ (breaks40 d k (i - 1) f ∷ breaks41 d k (i - 1) f ∷ [])
    ∷ fifties d k (i - 1) f
    ∷ []
    ∷ seventies d k (i - 1) f
    ∷ [])
    t [])
    []

unfoldable pub said_holds : Delivery → ℕ → Kind → ℕ → ℕ → Bool
said_holds d n k i f = get_or (said_tests d (n / 10) k i f) (n % 10) false

-- and of their bytes: 10 and 11 at field 0, of record 0 or the one after the last, 20 to 25 at each record and field
unfoldable pub tests_of : Files → ℕ → Kind → ℕ → ℕ → List Bool
tests_of files t k i f =
    get_or
    ([]
    ∷ pick (eqb f 0) (shape_tests (files k) k i) []
    ∷ pick (is_there (count_of (files k) k) k i f) (twenties (record_of (files k) k (i - 1)) k f) []
    ∷ [])
    t (said_tests (delivery_of files) t k i f)

-- the reason with the number n, with its data
unfoldable pub reason_of : Files → ℕ → Kind → ℕ → ℕ → Reason
reason_of files n k i f =
    get_or
    (get_or
    ([]
    ∷ ten_reasons
    ∷ twenty_reasons
    ∷ key_reasons 3 (delivery_of files) k (i - 1) f
    ∷ key_reasons 4 (delivery_of files) k (i - 1) f
    ∷ fifty_reasons (delivery_of files) k (i - 1) f
    ∷ []
    ∷ seventy_reasons
    ∷ [])
    (n / 10) [])
    (n % 10) LongFile10

-- THE TEST of the rule with document 01's or 02's number n
unfoldable pub holds : Files → ℕ → Kind → ℕ → ℕ → Bool
holds files n k i f = get_or (tests_of files (n / 10) k i f) (n % 10) false

-- IT IS BROKEN where its test holds, and it is read only where no lower ten has a break
pub record IsBroken (files : Files) (n : ℕ) (k : Kind) (i f : ℕ) : Type 0 where
  pub here : holds files n k i f ≡ true
  pub read : (n' : ℕ) (k' : Kind) (i' f' : ℕ) → n' / 10 < n / 10 → holds files n' k' i' f' ≡ false

-- ALL BREAKS of a ten in file k, by record, field and reason,
unfoldable pub breaks_in : Files → ℕ → Kind → Nest Break
breaks_in files t k =
    node (count_of (files k) k + 2)
    (λ i. node (fields_of k + 1)
    (λ f. node 10
    (λ u. leaf (hit (get_or (tests_of files t k i f) u false) (break_of (reason_of files (t * 10 + u) k i f) k i f)))))

-- and of the ten in all files,
abbrev pub at_which : (Kind → Nest Break) → Which → Nest Break
at_which g None = leaf none
at_which g (Some k) = g k

unfoldable pub breaks_of : Files → ℕ → Nest Break
breaks_of files t = node (file_count + 1) (λ n. at_which (breaks_in files t) (which_of n))

-- and of all tens
unfoldable pub breaks : Files → Nest Break
breaks files = node (last_ten + 1) (λ t. breaks_of files t)

-- THE ORDER of breaks: tens of the reason, file, record, field, reason
abbrev pub place_at : ℕ → Kind → ℕ → ℕ → List ℕ
place_at n k i f = n / 10 ∷ file_of k ∷ i ∷ f ∷ n ∷ []

-- the break b is the first: it is the one of a reason that is broken there, and no break comes earlier
pub record First (files : Files) (b : Break) : Type 0 where
  pub n : ℕ
  pub k : Kind
  pub i : ℕ
  pub f : ℕ
  pub shown : b ≡ break_of (reason_of files n k i f) k i f
  pub number : number_of b.reason ≡ n
  pub really : IsBroken files n k i f
  pub least : (n' : ℕ) (k' : Kind) (i' f' : ℕ) → IsBroken files n' k' i' f' → before (place_at n' k' i' f') (place_at n k i f) ≡ true → ⊥

-- what a finding on a delivery is to mean
unfoldable pub Finds : Files → Finding → Type 0
Finds files (Ok u) = (n : ℕ) (k : Kind) (i f : ℕ) → IsBroken files n k i f → ⊥
Finds files (Err b) = First files b

-- how many whole records each file's bytes have
unfoldable pub counts_of : Files → List ℕ
counts_of files = map (λ k. count_of (files k) k) kinds

-- what a verdict is to mean: its finding, and beside it those counts
pub record Judges (files : Files) (v : Verdict) : Type 0 where
  pub finds : Finds files v.finding
  pub counted : v.counts ≡ counts_of files
