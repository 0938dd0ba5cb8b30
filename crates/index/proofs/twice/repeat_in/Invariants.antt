-- `index::twice::repeat_in` meets its contract. The invariants: none of the first `r` equals an earlier one; and none of the first `e` equals the key in hand.
-- Nothing is found while the scan goes on.
-- Assumes nothing.
use Rattle.laws.specs.Find.{first_index}
use Rattle.index.specs.Keys.{first_duplicate}
use Rattle.std.specs.Prelude.{None}
use mathlib.Core.Path.{◌≡◌}
use mathlib.Core.Option.{none}
use lib.Dec.{eqb}
use lib.ListN.{get_or}
use Rattle.index.proofs.twice.repeat_in.Given as goal

abbrev pub invariant-loop-e : goal.invariant-loop-e
invariant-loop-e l = (first_index (λ j. eqb (get_or l.keys j 0) l.k) l.e ≡ none) × (l.found ≡ None)

abbrev pub invariant-later : goal.invariant-later
invariant-later l = (first_duplicate (λ j. get_or l.keys j 0) l.r ≡ none) × (l.found ≡ None)
