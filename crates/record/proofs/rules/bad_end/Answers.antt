-- `record::rules::bad_end` meets its contract.
-- Assumes nothing.
use borrow.Author.Tests.{eq-eqb, ne_eqb}
use Rattle.record.specs.Rules.{breaks20}
use Rattle.record.proofs.rules.bad_end.Goals as goal

pub returns-then-f-eq0 : goal.returns-then-f-eq0
unfolding breaks20
returns-then-f-eq0 c = simp (eq-eqb c.args.f 0 c.if-f-eq0.true, c.byte-then-f-eq0.ensures, c.byte.ensures, c.length-n.ensures)

pub returns-else-f-eq0 : goal.returns-else-f-eq0
unfolding breaks20
returns-else-f-eq0 c = simp (ne_eqb c.args.f 0 c.if-f-eq0.false)
