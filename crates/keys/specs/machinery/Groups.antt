-- Machinery: the first break of a group of reasons in a file, from tests that give a Bool for each reason of the group at each record and
-- field. No promise cites this file.
-- Assumes nothing.
use Rattle.std.specs.Prelude.{ℕ, ◌+◌, ◌-◌, ◌*◌, ◌/◌, ◌%◌, Bool, false, ◌&&◌, List, leb, get_or}
use Rattle.std.proofs.Math.Option.{Option, none, some}
use Rattle.laws.specs.Find.{first_of, hit}
use Rattle.record.specs.declared.kind.Kind.{Kind}
use Rattle.record.specs.Table.{Which}
use Rattle.std.specs.Prelude.{None, Some}
use Rattle.record.specs.declared.reason.Reason.{Reason}
use Rattle.record.specs.declared.reason.Reason.TheVariants.{LongFile10}
use Rattle.record.specs.declared.reason.Break.{Break}
use Rattle.record.specs.Breaks.{Finding}
use Rattle.std.specs.Prelude.{Ok, Err}
use Rattle.record.specs.Table.{fields_of, which_of, file_count}
use Rattle.record.specs.Breaks.{break_of, finding_of}

-- the tests and the reasons of a group at record i (counted from 0) and field f, in the order of the reasons
abbrev pub Tests : Type 0
Tests = ℕ → ℕ → List Bool

abbrev pub Reasons : Type 0
Reasons = ℕ → ℕ → List Reason

-- the break at record i and cell c: ten cells a field, one for each reason of the group
unfoldable pub cell_break : Tests → Reasons → Kind → ℕ → ℕ → Option Break
cell_break tests reasons k i c =
    hit (get_or (tests i (c / 10)) (c % 10) false) (break_of (get_or (reasons i (c / 10)) (c % 10) LongFile10) k (i + 1) (c / 10))

-- how many cells a record has
abbrev pub cells_of : Kind → ℕ
cells_of k = (fields_of k + 1) * 10

-- the first break of n records, by record, field and reason
unfoldable pub group_finding : Tests → Reasons → Kind → ℕ → Finding
group_finding tests reasons k n = finding_of (first_of (λ i. first_of (λ c. cell_break tests reasons k i c) (cells_of k)) n)

-- the reason with document 01's number n is broken at record i, counted from 1, and field f of a file of m records
unfoldable pub broken_by : (ℕ → Tests) → Kind → ℕ → ℕ → ℕ → ℕ → Bool
broken_by tests k m n i f =
    leb 1 i && leb i m && leb f (fields_of k) && get_or (tests (n / 10) (i - 1) f) (n % 10) false

-- OVER THE FILES, in the order of their numbers
abbrev pub break_in : Finding → Option Break
break_in (Ok u) = none
break_in (Err b) = some b

abbrev pub at_file : (Kind → Finding) → Which → Finding
at_file g None = (Ok tt)
at_file g (Some k) = g k

-- the first break of the files' findings
unfoldable pub over_files : (Kind → Finding) → Finding
over_files g = finding_of (first_of (λ n. break_in (at_file g (which_of n))) (file_count + 1))
