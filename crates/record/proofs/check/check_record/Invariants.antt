-- `record::check::check_record` meets its contract: where a glance is not enough, the loop stops at the first place that is broken.
-- Assumes nothing.
use mathlib.Core.Option.{none}
use mathlib.Core.Path.{◌≡◌}
use Rattle.laws.specs.Find.{first_of}
use Rattle.record.proofs.FindingLaws.{in_record}
use Rattle.record.proofs.check.check_record.Given as goal

abbrev pub invariant-loop-f : goal.invariant-loop-f
invariant-loop-f l = first_of (in_record l.rec l.k l.i) l.f ≡ none
