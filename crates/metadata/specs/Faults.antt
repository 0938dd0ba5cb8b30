-- Rules, each with its reason's number (document 02, W-206), and what a search for the first line that breaks one tells.
-- Assumes nothing.
use Rattle.std.specs.Prelude.{ℕ, Bool, Result, Ok, Err}
use Rattle.std.proofs.Math.Option.{Option, none, some}
use Rattle.laws.specs.Find.{first_index}
use Rattle.metadata.specs.declared.fault.Rule.{Rule}
use Rattle.metadata.specs.declared.fault.Rule.TheVariants.{LongLine80, OddLine81, OtherVersion82, OtherList83, OtherKeys84, OtherCount85, OtherSize86}
use Rattle.metadata.specs.declared.fault.Fault.{Fault}

abbrev pub number_of : Rule → ℕ
number_of LongLine80 = 80
number_of OddLine81 = 81
number_of OtherVersion82 = 82
number_of OtherList83 = 83
number_of OtherKeys84 = 84
number_of OtherCount85 = 85
number_of OtherSize86 = 86

abbrev pub at_line : Rule → ℕ → Fault
at_line rule l = record { rule = rule; line = l }

-- THE FIRST LINE that breaks a rule
abbrev pub fault_at : Rule → Option ℕ → Option Fault
fault_at rule none = none
fault_at rule (some line) = some (at_line rule line)

abbrev pub or_right : Option Fault → Result (Unit {0}) Fault
or_right none = Ok tt
or_right (some fault) = Err fault

-- and what is told of it, where the test of a line says whether it breaks the rule, and lines are tested below n
abbrev pub ruled : Rule → (ℕ → Bool) → ℕ → Result (Unit {0}) Fault
ruled rule breaks n = or_right (fault_at rule (first_index breaks n))
