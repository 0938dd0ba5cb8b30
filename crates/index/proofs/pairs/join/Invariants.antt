-- `index::pairs::join` meets its contract. The loop's invariant: the first `i` are joined, the rest are as they were.
-- Assumes nothing.
use mathlib.Core.Path.{◌≡◌}
use lib.ListN.{length}
use Rattle.index.proofs.PairLaws.{Joining}
use Rattle.index.proofs.pairs.join.Given as goal

abbrev pub invariant-loop-i : goal.invariant-loop-i
invariant-loop-i l = (length l.out ≡ length l.initial.out) × Joining l.initial.out l.seconds l.out l.i
