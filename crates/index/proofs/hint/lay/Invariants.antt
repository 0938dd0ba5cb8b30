-- `index::hint::lay` meets its contract. The loop's invariant: each of the first `i` keys has its place.
-- Assumes nothing.
use mathlib.Core.Path.{◌≡◌}
use lib.ListN.{length}
use Rattle.index.proofs.HintLaws.{Laid}
use Rattle.index.proofs.hint.lay.Given as goal

abbrev pub invariant-loop-i : goal.invariant-loop-i
invariant-loop-i l = (length l.hints ≡ length l.initial.hints) × Laid l.keys l.hints l.n l.i l.apart
