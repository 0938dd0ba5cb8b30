-- `record::check::first_true` meets its contract: the loop stops at the first test that holds.
-- Assumes nothing.
use mathlib.Core.Bool.{false}
use mathlib.Core.Option.{none}
use mathlib.Core.Path.{◌≡◌}
use lib.ListN.{get_or}
use Rattle.laws.specs.Find.{first_index}
use Rattle.record.proofs.check.first_true.Given as goal

abbrev pub invariant-loop-j : goal.invariant-loop-j
invariant-loop-j l = first_index (λ u. get_or l.t u false) l.j ≡ none
