-- `keys::over::first_of_files` meets its contract: a number that is a file's gives what is told of its kind, and the loop stops at the first break.
-- Assumes nothing.
use Rattle.std.specs.Prelude.{Ok, Err}
use native.Mathlib.Omega.{arith}
use Rattle.std.proofs.lemmas.Result.{err_from_is_err_and}
use Rattle.keys.proofs.OverLaws.{files-start, files-more, files-here, files-end}
use Rattle.keys.proofs.over.first_of_files.Goals as goal
use Rattle.keys.proofs.over.first_of_files.Goals.{in-Some+in_ok-check, in_default}

pub loop-n-init : goal.loop-n-init
loop-n-init g c = λ f h. files-start f

pub loop-n-preserved : goal.loop-n-preserved
loop-n-preserved g c = λ f h.
    elim c.match-kind_of.branch [
      | in-Some+in_ok-check w ↦ files-more (c.loop-n.invariant f h) (omega arith) c.kind_of.ensures (rw w.in-Some.is (h w.in-Some.k (Ok tt) w.in_ok-check.ensures))
      | in_default w ↦ files-more (c.loop-n.invariant f h) (omega arith) c.kind_of.ensures (rw w.in_default.is)
    ]

pub returns-in_err-check : goal.returns-in_err-check
returns-in_err-check g c = λ f h.
    let p = err_from_is_err_and c.from_residual.result c.from_residual.ensures.1 in
    rw (p.1, p.2) (files-here (c.loop-n.invariant f h) (omega arith) c.kind_of.ensures (rw c.in-Some.is (h c.in-Some.k (Err c.in_err-check.field-0.0) c.in_err-check.ensures)))

pub returns : goal.returns
returns g c = λ f h. files-end (c.loop-n.invariant f h) (omega arith)
