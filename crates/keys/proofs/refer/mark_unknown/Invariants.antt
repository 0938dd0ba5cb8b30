-- `keys::refer::mark_unknown` meets its contract. The loop's invariant: the marks of the first `i` names say which of them are unknown.
-- Assumes nothing.
use lib.ListN.{get_or}
use Rattle.index.specs.Marks.{Marked}
use Rattle.keys.specs.Rules.{dangles}
use Rattle.keys.proofs.refer.mark_unknown.Given as goal

abbrev pub invariant-loop-i : goal.invariant-loop-i
invariant-loop-i l = Marked l.initial.marks l.marks (λ j. dangles (λ r. get_or l.known.keys.now r 0) l.known.n (get_or l.refs j 0)) l.i
