-- `index::twice::distinct` meets its contract. The loop's invariant: the neighbours before place `i` differ (`Apart`).
-- Assumes nothing.
use Rattle.index.proofs.TwiceLaws.{Apart}
use Rattle.index.proofs.twice.distinct.Given as goal

abbrev pub invariant-loop-i : goal.invariant-loop-i
invariant-loop-i l = Apart l.keys l.order l.i
