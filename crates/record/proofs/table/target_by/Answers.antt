-- `record::table::target_by` meets its contract.
-- Assumes nothing.
use borrow.Author.Tests.{eq-eqb, ne_eqb}
use Rattle.record.specs.machinery.Packed.{target_by}
use Rattle.record.proofs.table.target_by.Goals as goal

pub returns-then-file-eq15 : goal.returns-then-file-eq15
unfolding target_by
returns-then-file-eq15 c = rw (eq-eqb _ 15 c.if-file-eq15.true)

pub returns-in-None : goal.returns-in-None
unfolding target_by
returns-in-None c = rw (ne_eqb _ 15 c.if-file-eq15.false, ← c.kind_of.ensures, c.in-None.is)

pub returns-in-Some : goal.returns-in-Some
unfolding target_by
returns-in-Some c = rw (ne_eqb _ 15 c.if-file-eq15.false, ← c.kind_of.ensures, c.in-Some.is)
