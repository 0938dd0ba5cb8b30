-- `metadata::line::equals_at` meets its contract.
-- Assumes nothing.
use mathlib.Core.Path.{◌≡◌, sym, ◌∙◌}
use native.Mathlib.Omega.{arith}
use lib.ListN.{length}
use Rattle.metadata.proofs.LineLaws.{equals-here, equals-more, equals-none}
use Rattle.metadata.proofs.line.equals_at.Goals as goal

pub returns-then-b-some : goal.returns-then-b-some
returns-then-b-some c = let l = c.loop-i in
    (equals-here c.args.t.now l.i l.some l.invariant (omega arith) c.if-b-some.true, omega arith)

pub loop-i-preserved : goal.loop-i-preserved
loop-i-preserved c = let l = c.loop-i in
    equals-more c.args.t.now l.i l.some l.invariant (omega arith) c.if-b-some.false

pub returns : goal.returns
returns c = let l = c.loop-i in
    let e : l.i ≡ length c.args.t.now = omega arith in
    sym (equals-none c.args.t.now l.i l.some l.invariant (omega arith)) ∙ e
