-- `judge::judge::first_break` meets its contract. The loop's invariant: the tens before `t` give nothing.
-- Assumes nothing.
use native.Mathlib.Omega.{arith}
use Rattle.std.proofs.lemmas.Result.{err_from_is_err_and}
use Rattle.keys.proofs.OverLaws.{fines-start, fines_more, fines-here, fines-end}
use Rattle.judge.specs.machinery.Searched.{searched}
use Rattle.judge.proofs.judge.first_break.Goals as goal

pub loop-t-init : goal.loop-t-init
loop-t-init c = fines-start _ _

pub loop-t-preserved : goal.loop-t-preserved
loop-t-preserved c = fines_more c.loop-t.invariant (omega arith) c.in_ok-check_group.ensures

pub returns-in_err-check_group : goal.returns-in_err-check_group
unfolding searched
returns-in_err-check_group c =
    let p = err_from_is_err_and c.from_residual.result c.from_residual.ensures.1 in
    rw (p.1, p.2) (fines-here c.loop-t.invariant (omega arith) c.in_err-check_group.ensures)

pub returns : goal.returns
unfolding searched
returns c = fines-end c.loop-t.invariant (omega arith)
