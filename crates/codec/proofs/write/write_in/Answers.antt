-- `codec::write::write_in` meets its contract.
-- Assumes nothing.
use mathlib.Core.Path.{refl, sym, ◌∙◌}
use native.Mathlib.Omega.{arith}
use Rattle.std.specs.Prelude.{Ok, Err}
use Rattle.std.proofs.lemmas.Result.{err_from_is_err_and}
use Rattle.codec.proofs.WriteLaws.{front_length, answer-short, answer-found, room-put, held-nothing}
use Rattle.codec.proofs.write.write_in.Goals as goal

pub returns-then-room-n : goal.returns-then-room-n
returns-then-room-n c = let a = c.args in
    λ v same. (answer-short a.k _ v same (held-nothing a.k _ _ _ _) a.room.now c.length-n.result c.length-n.ensures c.if-room-n.true, refl)

pub slice_bounds-put_record-end : goal.slice_bounds-put_record-end
slice_bounds-put_record-end c = omega arith

pub put_record-requires : goal.put_record-requires
put_record-requires c = sym (front_length _ c.args.room.now (omega (arith, c.if-room-n.false))) ∙ c.length-n.ensures

pub returns-in_err-check_values : goal.returns-in_err-check_values
returns-in_err-check_values c = let a = c.args in
    let p = err_from_is_err_and c.from_residual.result c.from_residual.ensures.1 in
    λ v same. rw (p.1, p.2) (answer-found a.k _ v same (held-nothing a.k _ _ _ _) a.room.now c.length-n.result c.length-n.ensures c.if-room-n.false (Err c.in_err-check_values.field-0.0) c.in_err-check_values.ensures, refl)

pub returns : goal.returns
returns c = let a = c.args in
    λ v same. (answer-found a.k _ v same (held-nothing a.k _ _ _ _) a.room.now c.length-n.result c.length-n.ensures c.if-room-n.false (Ok tt) c.in_ok-check_values.ensures, room-put a.k _ v same (held-nothing a.k _ _ _ _) a.room.now c.length-n.result c.length-n.ensures c.if-room-n.false c.put_record.new.buf c.put_record.ensures)
