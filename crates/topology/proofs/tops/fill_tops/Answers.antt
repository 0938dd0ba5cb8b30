-- `topology::tops::fill_tops` meets its contract. The loop's invariant: what stands at the vertex of each line is the highest of the line's keys before `j`.
-- Assumes nothing.
use mathlib.Core.Path.{refl}
use native.Mathlib.Omega.{arith}
use lib.ListN.{length-set}
use Rattle.topology.proofs.LentLaws.{holds-filled}
use Rattle.topology.proofs.TopLaws.{tops_start, found_below_lem, tops-more, found_some}
use borrow.Author.Rules.{rules}
use Rattle.topology.proofs.tops.fill_tops.Goals as goal

pub loop-j-init : goal.loop-j-init
loop-j-init c = (refl, tops_start c.args.lines.now.ready c.requires.0 (search rules) (holds-filled _ c.requires.2 (c.fill.ensures.after (λ y e. search rules))))

pub returns-in_default : goal.returns-in_default
returns-in_default c = absurd (found_some c.loop-j.invariant.1 c.look-found.ensures.sought c.look-found.ensures.same c.loop-j-test.true c.in_default.is)

pub offset_bounds-tops-r : goal.offset_bounds-tops-r
offset_bounds-tops-r c = let h = found_below_lem c.loop-j.invariant.1 c.look-found.ensures.sought c.look-found.ensures.same c.loop-j-test.true c.in-Some.is in omega (arith, c.loop-j.invariant.1.room)

pub bounds-tops-r : goal.bounds-tops-r
bounds-tops-r c = let h = found_below_lem c.loop-j.invariant.1 c.look-found.ensures.sought c.look-found.ensures.same c.loop-j-test.true c.in-Some.is in omega (arith, c.loop-j.invariant.1.room)

pub offset_bounds-tops-r-in-loop-j : goal.offset_bounds-tops-r-in-loop-j
offset_bounds-tops-r-in-loop-j c = let h = found_below_lem c.loop-j.invariant.1 c.look-found.ensures.sought c.look-found.ensures.same c.loop-j-test.true c.in-Some.is in omega (arith, c.loop-j.invariant.1.room)

pub bounds-tops-r-in-loop-j : goal.bounds-tops-r-in-loop-j
bounds-tops-r-in-loop-j c = let h = found_below_lem c.loop-j.invariant.1 c.look-found.ensures.sought c.look-found.ensures.same c.loop-j-test.true c.in-Some.is in omega (arith, c.loop-j.invariant.1.room)

pub loop-j-preserved : goal.loop-j-preserved
loop-j-preserved c = (simp length-set c.loop-j.invariant.0, tops-more c.loop-j.invariant.1 c.look-found.ensures.sought c.look-found.ensures.same c.loop-j-test.true c.in-Some.is c.max.ensures)
