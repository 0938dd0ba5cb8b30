-- `record::check::first_true` meets its contract: the loop stops at the first test that holds.
-- Assumes nothing.
use native.Mathlib.Omega.{arith}
use lib.ListN.{length}
use Rattle.laws.proofs.FindLaws.{index-start, index-more}
use Rattle.record.proofs.FindingLaws.{test-here, test-end}
use Rattle.record.proofs.check.first_true.Goals as goal

pub loop-j-init : goal.loop-j-init
loop-j-init c = index-start _

pub returns-then-holds : goal.returns-then-holds
returns-then-holds c = let t = c.args.t.now in
    test-here t (length t) c.loop-j.invariant (omega arith) c.if-holds.true

pub loop-j-preserved : goal.loop-j-preserved
loop-j-preserved c = index-more _ c.loop-j.invariant c.if-holds.false

pub returns : goal.returns
returns c = let t = c.args.t.now in
    test-end t (length t) (omega arith) (omega arith) c.loop-j.invariant
