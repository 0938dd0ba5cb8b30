-- `record::check::check_shape` meets its contract.
-- Assumes nothing.
use native.Mathlib.Omega.{arith}
use Rattle.record.proofs.TableLaws.{sane}
use Rattle.record.proofs.FindingLaws.{count_room, shape-long, shape-ragged, shape-fine}
use Rattle.record.proofs.check.check_shape.Goals as goal

pub overflow_mul-n : goal.overflow_mul-n
overflow_mul-n c = omega (arith, c.length-n.ensures, sane c.args.k)

pub returns-then-n-s : goal.returns-then-n-s
returns-then-n-s c = let a = c.args in
    shape-long a.s.now a.k c.length-n.ensures c.if-n-s.true c.break_of.ensures

pub nonzero_rem-s : goal.nonzero_rem-s
nonzero_rem-s c = omega (arith, c.length-n.ensures, sane c.args.k)

pub overflow_add-records : goal.overflow_add-records
overflow_add-records c = let a = c.args in
    omega (arith, c.records.ensures, count_room a.s.now a.k)

pub returns-then-s-n-gt0 : goal.returns-then-s-n-gt0
returns-then-s-n-gt0 c = let a = c.args in
    shape-ragged a.s.now a.k c.length-n.ensures c.if-n-s.false c.if-s-n-gt0.true c.records.ensures c.break_of-then-s-n-gt0.ensures

pub returns : goal.returns
returns c = let a = c.args in
    shape-fine a.s.now a.k c.length-n.ensures c.if-n-s.false c.if-s-n-gt0.false
