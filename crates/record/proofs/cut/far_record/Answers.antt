-- `record::cut::far_record` meets its contract.
-- Assumes nothing.
use mathlib.Core.Path.{◌∙◌, sym}
use native.Mathlib.Omega.{arith}
use Rattle.record.proofs.CutLaws.{record-room, record-part, record-past}
use Rattle.record.proofs.cut.far_record.Goals as goal

pub overflow_mul-i : goal.overflow_mul-i
overflow_mul-i c = let a = c.args in
    omega (arith, record-room a.s.now a.k a.i (omega arith) c.length-n.ensures)

pub returns-then-i-records : goal.returns-then-i-records
returns-then-i-records c = let a = c.args in
    c.part.ensures ∙ record-part a.s.now a.k a.i (omega arith) c.length-n.ensures

pub returns-else-i-records : goal.returns-else-i-records
returns-else-i-records c = let a = c.args in
    sym (record-past a.s.now a.k a.i (omega arith))
