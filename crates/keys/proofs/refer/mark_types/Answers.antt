-- `keys::refer::mark_types` meets its contract. The loop's invariant: of the first `j` codes those of the type are marked at the records that look-ups find.
-- Assumes nothing.
use lib.ListN.{length-set}
use native.Mathlib.Omega.{arith}
use Rattle.index.proofs.LookLaws.{sought-record}
use Rattle.keys.proofs.TypeLaws.{typing-more, own-found}
use Rattle.keys.proofs.refer.mark_types.Goals as goal

pub returns-in_default : goal.returns-in_default
returns-in_default c = absurd (own-found _ _ c.loop-j-test.true c.look-found.ensures.sought c.in_default.is)

pub bounds-types-r : goal.bounds-types-r
bounds-types-r c = omega (arith, c.loop-j.invariant.1.room, (sought-record _ _ _ c.look-found.ensures.sought c.in-Some.is).0)

pub bounds-types-r-in-loop-j : goal.bounds-types-r-in-loop-j
bounds-types-r-in-loop-j c = omega (arith, c.loop-j.invariant.1.room, (sought-record _ _ _ c.look-found.ensures.sought c.in-Some.is).0)

pub loop-j-preserved : goal.loop-j-preserved
loop-j-preserved c = let l = c.loop-j in
    (simp length-set l.invariant.0, typing-more _ _ _ _ _ _ l.invariant.1 c.look-found.ensures.sought c.look-found.ensures.same c.in-Some.is c.as_mark.ensures)
