-- The breaks of a file's shape and of its fields, in the fixed order, and the first of them.
-- Assumes nothing.
use Rattle.laws.specs.Row.{pick}
use Rattle.std.specs.Prelude.{ℕ, zero, suc, ◌+◌, ◌-◌, ◌/◌, ◌%◌, Bool, true, false, ◌&&◌, List, [], ◌∷◌, length, get_or, eqb, leb}
use Rattle.std.proofs.Math.Option.{Option, none, some}
use Rattle.laws.specs.Find.{hit, first_index, or_end}
use Rattle.laws.specs.Nest.{Nest, leaf, node, run}
use Rattle.record.specs.declared.kind.Kind.{Kind}
use Rattle.record.specs.declared.reason.Reason.{Reason}
use Rattle.record.specs.declared.reason.Reason.TheVariants as R
use Rattle.record.specs.declared.reason.Break.{Break}
use Rattle.std.specs.Prelude.{Result, Ok, Err}
use Rattle.record.specs.Table.{fields_of, file_of}
use Rattle.record.specs.Cut.{count_of, record_of}
use Rattle.record.specs.Rules.{breaks10, breaks11, twenties}

-- document 01's number of each reason
abbrev pub number_of : Reason → ℕ
number_of R.LongFile10 = 10
number_of R.RaggedFile11 = 11
number_of R.BadEnd20 = 20
number_of R.NoBar21 = 21
number_of R.NotNumber22 = 22
number_of R.NotText23 = 23
number_of R.Missing24 = 24
number_of R.Outside25 = 25
number_of (R.SameKey30 earlier) = 30
number_of R.NoRecord40 = 40
number_of (R.OtherType41 letter) = 41
number_of R.OrderGap50 = 50
number_of R.OrderAlone51 = 51
number_of R.StartElsewhere52 = 52
number_of R.EndElsewhere53 = 53
number_of (R.SamePlace54 earlier) = 54
number_of R.PointElsewhere55 = 55
number_of R.IdleNode56 = 56
number_of R.IdleObject57 = 57
number_of R.NodeType58 = 58
number_of R.NoLastVertex59 = 59
number_of R.NoFile60 = 60
number_of R.ShortRoom61 = 61
number_of R.TooLarge62 = 62
number_of R.BadText63 = 63
number_of R.Missing64 = 64
number_of R.Outside65 = 65
number_of R.NoSuchRecord66 = 66
number_of R.TooMany67 = 67
number_of R.UnknownSeason68 = 68
number_of R.IdleComposite70 = 70
number_of R.LongLine80 = 80
number_of R.OddLine81 = 81
number_of R.OtherVersion82 = 82
number_of R.OtherList83 = 83
number_of R.OtherKeys84 = 84
number_of R.OtherCount85 = 85
number_of R.OtherSize86 = 86

abbrev pub break_of : Reason → Kind → ℕ → ℕ → Break
break_of reason k i f = record { reason = reason; file = file_of k; «record» = i; field = f }

-- what a search for the first break gives
abbrev pub Finding : Type 0
Finding = Result (Unit {0}) Break

abbrev pub finding_of : Option Break → Finding
finding_of none = Ok tt
finding_of (some b) = Err b

abbrev pub fine : Finding → Bool
fine (Ok u) = true
fine (Err b) = false

-- the first of n tests that holds, and n where none does
unfoldable pub index_of : List Bool → ℕ → ℕ
index_of tests n = or_end n (first_index (λ u. get_or tests u false) n)

-- the breaks at one place, from a test for each reason of the group and the reasons (the default stands past the last and is never
-- shown)
unfoldable pub at_place : List Bool → List Reason → Kind → ℕ → ℕ → Nest Break
at_place tests reasons k i f = node (length tests) (λ u. leaf (hit (get_or tests u false) (break_of (get_or reasons u R.LongFile10) k i f)))

abbrev pub ten_reasons : List Reason
ten_reasons = R.LongFile10 ∷ R.RaggedFile11 ∷ []

-- 10 stands at record 0, 11 at the whole records plus 1; both at field 0
abbrev pub shape_tests : List ℕ → Kind → ℕ → List Bool
shape_tests s k i = (eqb i 0 && breaks10 s k) ∷ (eqb i (count_of s k + 1) && breaks11 s k) ∷ []

-- the breaks of a file's shape, by record, field and reason
unfoldable pub shape_breaks : List ℕ → Kind → Nest Break
shape_breaks s k = node (count_of s k + 2) (λ i. node 1 (λ f. at_place (shape_tests s k i) ten_reasons k i f))

abbrev pub twenty_reasons : List Reason
twenty_reasons = R.BadEnd20 ∷ R.NoBar21 ∷ R.NotNumber22 ∷ R.NotText23 ∷ R.Missing24 ∷ R.Outside25 ∷ []

-- the breaks of one record's bytes, which is told as record i
unfoldable pub record_breaks : List ℕ → Kind → ℕ → Nest Break
record_breaks s k i = node (fields_of k + 1) (λ f. at_place (twenties s k f) twenty_reasons k i f)

-- records are told from 1
unfoldable pub field_breaks_at : List ℕ → Kind → ℕ → Nest Break
field_breaks_at s k zero = leaf none
field_breaks_at s k (suc i) = record_breaks (record_of s k i) k (i + 1)

-- the breaks of a file's fields, by record, field and reason
unfoldable pub field_breaks : List ℕ → Kind → Nest Break
field_breaks s k = node (count_of s k + 1) (λ i. field_breaks_at s k i)

-- the first of each
unfoldable pub shape_finding : List ℕ → Kind → Finding
shape_finding s k = finding_of (run (shape_breaks s k))

unfoldable pub record_finding : List ℕ → Kind → ℕ → Finding
record_finding s k i = finding_of (run (record_breaks s k i))

unfoldable pub fields_finding : List ℕ → Kind → Finding
fields_finding s k = finding_of (run (field_breaks s k))

-- WHAT IS BROKEN, free of any search
-- record i and place f are there
abbrev pub there : List ℕ → Kind → ℕ → ℕ → Bool
there s k i f = leb 1 i && leb i (count_of s k) && leb f (fields_of k)

-- the tests of a file's bytes at record i and field f, by the tens of the reason
unfoldable pub tests_at : ℕ → List ℕ → Kind → ℕ → ℕ → List Bool
tests_at t s k i f =
    get_or
    ([]
    ∷ pick (eqb f 0) (shape_tests s k i) []
    ∷ pick (there s k i f) (twenties (record_of s k (i - 1)) k f) []
    ∷ [])
    t []

-- the reason with document 01's number n is broken at record i, field f of the file
unfoldable pub broken : List ℕ → Kind → ℕ → ℕ → ℕ → Bool
broken s k n i f = get_or (tests_at (n / 10) s k i f) (n % 10) false
