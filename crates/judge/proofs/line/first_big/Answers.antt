-- `judge::line::first_big` meets its contract. The loop's invariant: no file before number `n` is big.
-- Assumes nothing.
use native.Mathlib.Omega.{arith}
use Rattle.judge.proofs.LineLaws.{big-start, big-more, big-here, big-end}
use Rattle.judge.proofs.line.first_big.Goals as goal

pub loop-n-init : goal.loop-n-init
loop-n-init c = big-start _

pub returns-then-is_big : goal.returns-then-is_big
returns-then-is_big c = big-here c.loop-n.invariant (omega arith) c.kind_of.ensures
    c.is_big.ensures c.if-is_big.true

pub loop-n-preserved : goal.loop-n-preserved
loop-n-preserved c = big-more c.loop-n.invariant (omega arith) c.kind_of.ensures
    c.is_big.ensures c.if-is_big.false

pub returns : goal.returns
returns c = big-end c.loop-n.invariant (omega arith)
