-- `grids::grid::count_ten` meets its contract.
-- Assumes nothing.
use mathlib.Core.List.{map}
use mathlib.Core.Path.{ap, ◌∙◌}
use Rattle.index.specs.declared.tally.Tally.{Tally}
use Rattle.keys.specs.machinery.Cells.{key_tallies}
use Rattle.fifties.specs.machinery.Cells.{fifty_tallies}
use Rattle.objects.specs.machinery.Cells.{seventy_tallies}
use Rattle.grids.specs.machinery.Counted.{counted_in, counted_of}
use Rattle.grids.proofs.GridLaws.{counted-else}
use Rattle.grids.proofs.grid.count_ten.Goals as goal

pub returns-in-3 : goal.returns-in-3
unfolding counted_of counted_in key_tallies
returns-in-3 c = rw c.in-3.is (c.many_of.ensures ∙ ap (map (λ (t : Tally). t.many)) c.tally_keys.ensures)

pub returns-in-4 : goal.returns-in-4
unfolding counted_of counted_in key_tallies
returns-in-4 c = rw c.in-4.is (c.many_of-in-4.ensures ∙ ap (map (λ (t : Tally). t.many)) c.tally_keys-in-4.ensures)

pub returns-in-5 : goal.returns-in-5
unfolding counted_of counted_in fifty_tallies
returns-in-5 c = rw c.in-5.is (c.many_of-in-5.ensures ∙ ap (map (λ (t : Tally). t.many)) c.tally_topology.ensures)

pub returns-in-7 : goal.returns-in-7
unfolding counted_of counted_in seventy_tallies
returns-in-7 c = rw c.in-7.is (c.many_of-in-7.ensures ∙ ap (map (λ (t : Tally). t.many)) c.tally_objects.ensures)

pub returns-in_default : goal.returns-in_default
returns-in_default c = counted-else _ _ c.in_default.in_default-own.rest
