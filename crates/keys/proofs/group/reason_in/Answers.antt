-- `keys::group::reason_in` meets its contract: the reasons 30, 40 and 41 with their data.
-- Assumes nothing.
use native.Mathlib.Omega.{arith}
use Rattle.record.specs.Says.{table_of}
use Rattle.record.specs.Names.{key_of}
use Rattle.keys.proofs.KeyCells.{named-under, reason-30, reason-40, reason-41, reason-other, other-3, other-4, other-ten}
use Rattle.keys.proofs.group.reason_in.Goals as goal

pub overflow_add-result : goal.overflow_add-result
overflow_add-result c = let a = c.args in
    let own = c.file_of-own.result.now in
    omega
    (arith, c.requires, c.first_with_key.ensures, named-under (key_of a.k (table_of own a.k)) a.i c.record_key.result)

pub returns-then-u-eq0 : goal.returns-then-u-eq0
returns-then-u-eq0 c = reason-30 _ _ _ _ c.file_of-own.ensures c.if-t-eq3.true c.if-u-eq0.true
    c.record_key.ensures c.first_with_key.ensures

pub returns-then-t-eq3 : goal.returns-then-t-eq3
returns-then-t-eq3 c = reason-other _ _ _ _ (other-3 c.if-t-eq3.true c.if-u-eq0.false)

pub returns-then-u-eq0-2 : goal.returns-then-u-eq0-2
returns-then-u-eq0-2 c = reason-40 _ _ _ _ c.if-t-eq4.true c.if-u-eq0-2.true

pub returns-then-u-eq1 : goal.returns-then-u-eq1
returns-then-u-eq1 c = reason-41 _ _ _ _ c.file_of-own.ensures c.if-t-eq4.true c.if-u-eq1.true
    c.file_of-catalogo.ensures c.rows-n.ensures.value c.name.ensures.value c.first_with_key-j.ensures c.letter.ensures

pub returns-else-u-eq1 : goal.returns-else-u-eq1
returns-else-u-eq1 c = reason-other _ _ _ _ (other-4 c.if-t-eq4.true c.if-u-eq0-2.false c.if-u-eq1.false)

pub returns-else-t-eq4 : goal.returns-else-t-eq4
returns-else-t-eq4 c = reason-other _ _ _ _ (other-ten c.if-t-eq3.false c.if-t-eq4.false)
