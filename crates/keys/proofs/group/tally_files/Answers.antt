-- `keys::group::tally_files` meets its contract. The loop's invariant: the tallies of the first `i` files are in the array.
-- Assumes nothing.
use mathlib.Core.List.{[]}
use mathlib.Core.Path.{refl, ◌∙◌}
use native.Mathlib.Omega.{arith}
use lib.ListN.{length-set}
use Rattle.laws.proofs.RowLaws.{row-start, row_more, row-end}
use Rattle.keys.proofs.KeyTallies.{tally-turn, tallies-row}
use Rattle.keys.proofs.group.tally_files.Goals as goal

pub loop-i-init : goal.loop-i-init
loop-i-init g c = (refl, row-start _ [])

pub loop-i-preserved : goal.loop-i-preserved
loop-i-preserved g c = let l = c.loop-i in (
  simp length-set l.invariant.0,
  row_more _ l.i l.tallies c.tally_which.result (omega (arith, l.invariant.0, c.loop-i-test.true)) l.invariant.1
      (tally-turn _ _ l.i c.kind_of.ensures c.tally_which.ensures),
)

pub returns : goal.returns
returns g c = let l = c.loop-i in
    row-end _ l.tallies l.invariant.0 (omega arith) c.loop-i-test.false l.invariant.1 ∙ tallies-row _ _
