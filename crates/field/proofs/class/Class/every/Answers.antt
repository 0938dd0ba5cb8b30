-- `field::class::Class::every` meets its contract: the loop passes every byte, and keeps whether those passed are of the class.
-- Assumes nothing.
use mathlib.Core.Path.{sym, ◌∙◌}
use native.Mathlib.Omega.{arith}
use Rattle.field.proofs.TextLoops.{class-more, class-end}
use Rattle.field.proofs.class.Class.every.Goals as goal

pub loop-b-preserved : goal.loop-b-preserved
loop-b-preserved c = let a = c.args in
    let l = c.loop-b in
    class-more a.self l.so_far a.t.now l.b-index (omega arith) c.has-so_far.ensures ∙ l.invariant

pub returns : goal.returns
returns c = let a = c.args in
    let l = c.loop-b in
    sym (class-end a.self l.so_far a.t.now l.b-index (omega arith)) ∙ l.invariant
