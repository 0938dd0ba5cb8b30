-- `codec::read::read_in` meets its contract.
-- Assumes nothing.
use mathlib.Core.Path.{sym, ap, ◌∙◌}
use mathlib.Core.List.{List}
use Prim.Native.Nat.{ℕ}
use native.Mathlib.Omega.{arith}
use Rattle.std.specs.Prelude.{Ok}
use Rattle.std.proofs.lemmas.Result.{err_from_is_err_and}
use Rattle.codec.specs.Values.{values_in}
use Rattle.codec.proofs.ReadLaws.{read-refused, read_done}
use Rattle.codec.proofs.read.read_in.Goals as goal

pub overflow_sub-n : goal.overflow_sub-n
overflow_sub-n c = let a = c.args in
    let z = (read_done a.bytes.now a.k a.n (sym c.in_ok-answer_in.ensures)).0 in
    omega arith

pub returns-in_err-answer_in : goal.returns-in_err-answer_in
returns-in_err-answer_in c = let a = c.args in
    let p = err_from_is_err_and c.from_residual.result c.from_residual.ensures.1 in
    rw (p.1, p.2) (read-refused a.bytes.now a.k a.n (sym c.in_err-answer_in.ensures))

pub returns : goal.returns
returns c = let a = c.args in
    ap Ok (c.values_in.ensures ∙ ap (λ (s : List ℕ). values_in s a.k) c.record_bytes.ensures) ∙ (read_done a.bytes.now a.k a.n (sym c.in_ok-answer_in.ensures)).1
