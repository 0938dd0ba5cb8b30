-- `keys::refer::mark_types` meets its contract. The loop's invariant: of the first `j` codes those of the type are marked at the records that look-ups find.
-- Assumes nothing.
use mathlib.Core.Path.{◌≡◌}
use lib.Dec.{eqb}
use lib.ListN.{length, get_or}
use Rattle.keys.specs.machinery.Types.{Typing}
use Rattle.keys.proofs.refer.mark_types.Given as goal

abbrev pub invariant-loop-j : goal.invariant-loop-j
invariant-loop-j l =
    (length l.types ≡ length l.initial.types) × Typing l.codes.keys.now l.codes.order.now l.codes.hints.now l.codes.way.hinted l.codes.n (λ i. eqb (get_or l.letters i 0) l.wanted) l.types l.j
