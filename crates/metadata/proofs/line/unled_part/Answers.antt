-- `metadata::line::unled_part` meets its contract.
-- Assumes nothing.
use mathlib.Core.Path.{◌≡◌, ◌∙◌}
use native.Mathlib.Omega.{arith}
use lib.ListN.{length}
use Rattle.metadata.proofs.LineLaws.{unled-more, unled-stop, unled-end, rest-is}
use Rattle.metadata.proofs.line.unled_part.Goals as goal

pub returns-then-b-ne32 : goal.returns-then-b-ne32
returns-then-b-ne32 c = let l = c.loop-i in
    rest-is c.args.t.now l.i ∙ unled-stop c.args.t.now l.i (omega arith) c.if-b-ne32.true ∙ l.invariant

pub loop-i-preserved : goal.loop-i-preserved
loop-i-preserved c = let l = c.loop-i in
    unled-more c.args.t.now l.i (omega arith) c.if-b-ne32.false ∙ l.invariant

pub returns : goal.returns
returns c = let l = c.loop-i in
    let e : l.i ≡ length c.args.t.now = omega arith in
    rest-is c.args.t.now (length c.args.t.now) ∙ unled-end c.args.t.now (length c.args.t.now) (omega arith) ∙ rw e at l.invariant
