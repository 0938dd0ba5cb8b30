-- `canopyrail::one::lend_record` meets its contract.
-- Assumes nothing.
use Rattle.canopyrail.proofs.LentLaws.{Lending}
use Rattle.canopyrail.proofs.one.lend_record.Given as goal

abbrev pub invariant-loop-i : goal.invariant-loop-i
invariant-loop-i l = Lending l.rec l.k l.initial.numbers l.initial.coordinates l.initial.lengths l.initial.texts l.numbers l.coordinates l.lengths l.texts l.i
