-- `index::way::Lookup::mark_seen` meets its contract. The loop's invariant: the first `i` are marked, and the records that they find seen.
-- Assumes nothing.
use lib.ListN.{get_or}
use Rattle.laws.specs.Find.{names}
use Rattle.index.specs.Keys.{listed}
use Rattle.index.specs.Marks.{Marked}
use Rattle.index.proofs.NumberLaws.{Seen}
use Rattle.index.proofs.way.Lookup.mark_seen.Given as goal

abbrev pub invariant-loop-i : goal.invariant-loop-i
invariant-loop-i l =
    Marked l.initial.marks l.marks (λ j. names (listed l.self.keys.now) j (get_or l.self.keys.now j 0)) l.i × Seen l.self.keys.now l.self.order.now l.self.hints.now l.self.way.hinted l.self.n l.seen l.i
