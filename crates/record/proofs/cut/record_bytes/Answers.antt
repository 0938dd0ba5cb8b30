-- `record::cut::record_bytes` meets its contract: by where the record ends, or by division.
-- Assumes nothing.
use mathlib.Core.Path.{sym}
use native.Mathlib.Nat.{add-sub_cancel_left}
use Rattle.record.proofs.CutLaws.{record-part, record-past, end-within, end-past}
use Rattle.record.proofs.cut.record_bytes.Goals as goal

pub returns-then-e-s : goal.returns-then-e-s
returns-then-e-s c = let n = c.length-n in
    let a = c.args in
    simp add-sub_cancel_left (record-part a.s.now a.k a.i (end-within a.k a.i n.ensures a.s.now c.if-e-s.true) n.ensures)

pub returns-else-e-s : goal.returns-else-e-s
returns-else-e-s c = let a = c.args in
    sym (record-past a.s.now a.k a.i (end-past a.k a.i c.length-n.ensures a.s.now c.if-e-s.false))
