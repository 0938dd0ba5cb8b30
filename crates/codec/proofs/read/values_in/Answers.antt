-- `codec::read::values_in` meets its contract.
-- Assumes nothing.
use mathlib.Core.List.{[]}
use mathlib.Core.Path.{refl, ap}
use native.Mathlib.Omega.{arith}
use lib.ListN.{length-set}
use Rattle.laws.proofs.RowLaws.{row-start, row_more, row-end}
use Rattle.codec.specs.Values.{values_in}
use Rattle.codec.proofs.ReadLaws.{value_no}
use Rattle.codec.proofs.read.values_in.Goals as goal

pub loop-i-init : goal.loop-i-init
loop-i-init c = (refl, row-start _ [])

pub loop-i-preserved : goal.loop-i-preserved
loop-i-preserved c = let a = c.args in
    let l = c.loop-i in (
      simp length-set l.invariant.0,
      row_more (value_no a.rec.now a.k) l.i l.at c.value_in.result (omega arith) l.invariant.1 c.value_in.ensures,
    )

pub returns : goal.returns
unfolding values_in
returns c = let a = c.args in
    let l = c.loop-i in
    ap (λ at. record { at = at }) (row-end (value_no a.rec.now a.k) l.at l.invariant.0 l.auto.i-end c.loop-i-test.false l.invariant.1)
