-- `codec::read::answer_in` meets its contract.
-- Assumes nothing.
use mathlib.Core.Path.{refl}
use Rattle.std.proofs.lemmas.Result.{err_from_is_err_and}
use Rattle.codec.proofs.ReadLaws.{answer-absent, answer-there}
use Rattle.codec.proofs.read.answer_in.Goals as goal

pub returns-then-n-records : goal.returns-then-n-records
returns-then-n-records c = let a = c.args in answer-absent a.bytes.now a.k a.n (rw c.records.ensures at c.if-n-records.true)

pub returns-in_err-check_record : goal.returns-in_err-check_record
returns-in_err-check_record c =
    let a = c.args in
    let p = err_from_is_err_and c.from_residual.result c.from_residual.ensures.1 in
    rw (p.1, p.2) (answer-there a.bytes.now a.k a.n (rw c.records.ensures at c.if-n-records.false) c.record_bytes.ensures c.in_err-check_record.ensures refl)

pub returns : goal.returns
returns c = let a = c.args in
    answer-there a.bytes.now a.k a.n (rw c.records.ensures at c.if-n-records.false) c.record_bytes.ensures c.in_ok-check_record.ensures refl
