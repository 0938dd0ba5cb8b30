-- `keys::refer::mark_codes` meets its contract. The loop's invariant: the marks of the first `i` codes say which aren't catalogued, and which are under another type.
-- Assumes nothing.
use lib.ListN.{get_or}
use Rattle.index.specs.Marks.{Marked}
use Rattle.keys.specs.Rules.{dangles}
use Rattle.keys.specs.machinery.Types.{mistyped_by}
use Rattle.keys.proofs.refer.mark_codes.Given as goal

abbrev pub invariant-loop-i : goal.invariant-loop-i
invariant-loop-i l =
    Marked l.initial.marks l.marks (λ j. dangles (λ r. get_or l.codes.keys.now r 0) l.codes.n (get_or l.refs j 0)) l.i
    × Marked l.initial.others l.others (λ j. mistyped_by l.codes.keys.now l.letters l.codes.n l.wanted (get_or l.refs j 0)) l.i
