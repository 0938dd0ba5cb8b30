-- `record::check::check_fields` meets its contract: the loop stops at the first record that is broken.
-- Assumes nothing.
use mathlib.Core.Option.{none}
use mathlib.Core.Path.{◌≡◌}
use Rattle.laws.specs.Find.{first_of}
use Rattle.record.proofs.FindingLaws.{in_file}
use Rattle.record.proofs.check.check_fields.Given as goal

abbrev pub invariant-loop-i : goal.invariant-loop-i
invariant-loop-i l = first_of (in_file l.s l.k) l.i ≡ none
