-- `canopyrail::one::read_in` meets its contract.
-- Assumes nothing.
use mathlib.Core.Path.{sym, ap, ◌∙◌}
use mathlib.Core.List.{List}
use Prim.Native.Nat.{ℕ}
use native.Mathlib.Omega.{arith}
use Rattle.std.specs.Prelude.{Ok, Err}
use Rattle.codec.specs.Calls.{Reading, answer_read, values_read}
use Rattle.codec.specs.Values.{values_in}
use Rattle.codec.proofs.ReadLaws.{read_done}
use Rattle.canopyrail.proofs.LentLaws.{roomy-says, read_is, reads-refused, reads-done, reads-no-room}
use Rattle.canopyrail.proofs.one.read_in.Goals as goal

pub overflow_sub-n : goal.overflow_sub-n
overflow_sub-n c = let a = c.args in
    let z = (read_done a.bytes.now a.k a.n (sym c.in-Ok.ensures)).0 in
    omega arith

pub lend_record-requires : goal.lend_record-requires
lend_record-requires c = roomy-says _ _ _ _ (sym c.has_room.ensures ∙ c.if-has_room.true)

pub returns-in-Err : goal.returns-in-Err
returns-in-Err c = let a = c.args in
    λ file e. reads-refused _ _ (ap answer_read (read_is file a.bytes.now a.n a.k e) ∙ sym c.in-Err.ensures) c.refusal.ensures

pub returns-then-has_room : goal.returns-then-has_room
returns-then-has_room c = let a = c.args in
    λ file e. reads-done (ap (λ (s : List ℕ). Ok (values_in s a.k)) c.record_bytes-rec.ensures ∙ (read_done a.bytes.now a.k a.n (sym c.in-Ok.ensures)).1 ∙ sym (read_is file a.bytes.now a.n a.k e)) (sym c.has_room.ensures ∙ c.if-has_room.true) c.lend_record.ensures

pub returns-else-has_room : goal.returns-else-has_room
returns-else-has_room c = let a = c.args in
    λ file e. reads-no-room (ap answer_read (read_is file a.bytes.now a.n a.k e) ∙ sym c.in-Ok.ensures) (sym c.has_room.ensures ∙ c.if-has_room.false) c.refusal-else-has_room.ensures
