-- `index::hint::lay` meets its contract. The loop's invariant: each of the first `i` keys has its place.
-- Assumes nothing.
use mathlib.Core.Path.{◌∙◌}
use native.Mathlib.Omega.{arith}
use Rattle.index.proofs.HintLaws.{laid_more, laid-strays, put-long, inside, none-strays}
use Rattle.index.proofs.WayLaws.{laid-complete}
use Rattle.index.proofs.hint.lay.Goals as goal

pub loop-i-preserved : goal.loop-i-preserved
loop-i-preserved c = let l = c.loop-i in
    let p = c.put-fresh.ensures in
    let w = inside _ _ _ c.if-hints-at.false in (
      put-long p ∙ l.invariant.0,
      laid_more l.invariant.1 (omega arith) c.slot-at.ensures w.0 w.1 p,
    )

pub returns : goal.returns
returns c = let m = c.loop-i.invariant.1 in record { complete = λ e. laid-complete m c.loop-i-test.false c.requires.0; apart = λ e. none-strays _ _ _ (laid-strays m c.loop-i-test.false e) }
