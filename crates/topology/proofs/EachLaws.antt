-- The laws of columns that are filled record by record (specs/machinery/Each.antt).
-- Assumes nothing.
use Prim.Native.Nat.{ℕ, ◌<◌, ◌≤◌}
use mathlib.Core.Bool.{Bool}
use mathlib.Core.List.{List}
use mathlib.Core.Path.{◌≡◌, refl}
use native.Mathlib.Omega.{arith}
use lib.ListN.{length}
use Rattle.laws.specs.Count.{bit}
use Rattle.index.specs.Marks.{Marked}
use Rattle.record.specs.Table.{limit}
use Rattle.record.specs.machinery.Columns.{Fills}
use Rattle.topology.specs.machinery.Each.{Each}
use Rattle.topology.specs.machinery.Lent.{Holds}

-- a column of NUMBERS, where what was made of a record is its number in the column
pub each-holds :
    {made : ℕ → ℕ → Type 0} {before after : List ℕ} {n : ℕ} (column : ℕ → ℕ) → ((i x : ℕ) → i < n → made i x → x ≡ column i) → Each made before after n
    → Holds after column n
each-holds column same s = record { each = λ i l. same i _ l (s.each i l 0) }

-- a column of MARKS, where what was made of a record is the test's mark
pub each-marked :
    {made : ℕ → ℕ → Type 0} {before after : List ℕ} {n : ℕ} (test : ℕ → Bool) → ((i x : ℕ) → i < n → made i x → x ≡ bit (test i))
    → Each made before after n → Marked before after test n
each-marked test same s = record { long = s.long; says = λ i l. same i _ l (s.each i l 0) }

-- a column of numbers that fills its room
pub each-fills :
    {made : ℕ → ℕ → Type 0} {before after : List ℕ} {n : ℕ} (column : ℕ → ℕ) → ((i x : ℕ) → i < n → made i x → x ≡ column i) → n ≤ limit → n ≤ length before
    → Each made before after n → Fills after column n n
each-fills column same small room s =
    record { count = refl; small = small; long = omega (arith, s.long); holds = λ i l. same i _ l (s.each i l 0) }
