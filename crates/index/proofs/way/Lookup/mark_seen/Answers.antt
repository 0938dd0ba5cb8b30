-- `index::way::Lookup::mark_seen` meets its contract. The loop's invariant: the first `i` are marked, and the records that they find seen.
-- Assumes nothing.
use native.Mathlib.Omega.{arith}
use Rattle.index.proofs.MarkLaws.{marked_start, marked_more}
use Rattle.index.proofs.NumberLaws.{seen_start, seen-within, seen_more, seen_at}
use Rattle.index.proofs.way.Lookup.mark_seen.Goals as goal

pub loop-i-init : goal.loop-i-init
loop-i-init c = (marked_start _ _, seen_start _ _ _ _ _)

pub bounds-seen-x : goal.bounds-seen-x
bounds-seen-x c = seen-within _ _ _ _ _ c.loop-i-test.true c.args.self.now.ready.small _ c.look-found.ensures.sought c.look-found.ensures.same c.unwrap_or-x.ensures

pub bounds-seen-x-in-loop-i : goal.bounds-seen-x-in-loop-i
bounds-seen-x-in-loop-i c = seen-within _ _ _ _ _ c.loop-i-test.true c.args.self.now.ready.small _ c.look-found.ensures.sought c.look-found.ensures.same c.unwrap_or-x.ensures

pub loop-i-preserved : goal.loop-i-preserved
loop-i-preserved c = let found = c.look-found.ensures in
    let l = c.loop-i in
    let under = c.loop-i-test.true in
    let said = c.unwrap_or-x.ensures in (
      marked_more (omega (arith, l.invariant.0.long, c.requires)) (seen_at _ _ _ _ _ under c.args.self.now.ready.small _ c.look-found.ensures.sought c.look-found.ensures.same said l.invariant.1) l.invariant.0,
      seen_more _ _ _ _ _ under c.args.self.now.ready.small _ c.look-found.ensures.sought c.look-found.ensures.same said l.invariant.1,
    )
