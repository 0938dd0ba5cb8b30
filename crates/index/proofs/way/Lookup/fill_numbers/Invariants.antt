-- `index::way::Lookup::fill_numbers` meets its contract. The loop's invariant: the first `i` keys have their numbers.
-- Assumes nothing.
use Rattle.index.proofs.NumberLaws.{Numbers}
use mathlib.Core.Path.{◌≡◌}
use lib.ListN.{length}
use Rattle.index.proofs.way.Lookup.fill_numbers.Given as goal

abbrev pub invariant-loop-i : goal.invariant-loop-i
invariant-loop-i l = (length l.out ≡ length l.initial.out) × Numbers l.self.keys.now l.self.order.now l.self.hints.now l.self.way.hinted l.self.n l.out l.i
