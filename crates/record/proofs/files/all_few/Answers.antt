-- `record::files::all_few` meets its contract. The loop's invariant: the files before number `n` have no more.
-- Assumes nothing.
use mathlib.Core.Path.{sym}
use native.Mathlib.Omega.{arith}
use Rattle.laws.proofs.FindLaws.{true-false}
use Rattle.record.proofs.FileLaws.{few-start, few-more, few-end}
use Rattle.record.proofs.files.all_few.Goals as goal

pub loop-n-init : goal.loop-n-init
loop-n-init c = few-start _

pub loop-n-preserved : goal.loop-n-preserved
loop-n-preserved c = few-more c.loop-n.invariant (omega arith) c.kind_of.ensures (c.is_few.ensures c.if-not-is_few.false)

pub returns-then-not-is_few : goal.returns-then-not-is_few
returns-then-not-is_few c = λ e. absurd (true-false (sym e))

pub returns : goal.returns
returns c = λ e. few-end c.loop-n.invariant (omega arith)
