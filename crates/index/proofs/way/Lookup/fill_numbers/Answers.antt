-- `index::way::Lookup::fill_numbers` meets its contract. The loop's invariant: the first `i` keys have their numbers.
-- Assumes nothing.
use Rattle.index.proofs.NumberLaws.{numbers_more}
use lib.ListN.{length-set}
use native.Mathlib.Omega.{arith}
use Rattle.index.proofs.way.Lookup.fill_numbers.Goals as goal

pub loop-i-preserved : goal.loop-i-preserved
loop-i-preserved c = (simp length-set c.loop-i.invariant.0, numbers_more _ (omega arith) (omega (arith, c.loop-i.invariant.0)) c.loop-i.invariant.1 c.look-found.ensures.sought c.look-found.ensures.same c.unwrap_or.ensures)
