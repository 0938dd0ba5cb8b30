-- `judge::judge::count_all` meets its contract. The loop's invariant: the counts of the files before are those of the row.
-- Assumes nothing.
use mathlib.Core.List.{[]}
use mathlib.Core.Path.{refl, ◌∙◌}
use native.Mathlib.Omega.{arith}
use lib.ListN.{length-set}
use Rattle.laws.proofs.RowLaws.{row-start, row_more, row-end}
use Rattle.judge.proofs.JudgeLaws.{count_turn, counts-row}
use Rattle.judge.proofs.judge.count_all.Goals as goal

pub loop-n-init : goal.loop-n-init
loop-n-init c = (refl, row-start _ [])

pub loop-n-preserved : goal.loop-n-preserved
loop-n-preserved c = let l = c.loop-n in (
  simp length-set l.invariant.0,
  row_more _ l.n l.counts c.count_of.result (omega arith) l.invariant.1 (count_turn _ l.n c.kind_of.ensures c.count_of.ensures),
)

pub returns : goal.returns
returns c = let l = c.loop-n in
    row-end _ l.counts l.invariant.0 l.auto.n-end c.loop-n-test.false l.invariant.1 ∙ counts-row _
