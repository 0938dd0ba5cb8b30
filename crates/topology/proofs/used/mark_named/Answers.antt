-- `topology::used::mark_named` meets its contract. The loop's invariant: the records that the first `x-index` names find are in use.
-- Assumes nothing.
use Prim.Native.Nat.{◌<◌}
use native.Mathlib.Omega.{arith}
use Rattle.std.proofs.lemmas.List.{get_or-take, length-take}
use Rattle.index.proofs.LookLaws.{sought-below}
use Rattle.topology.proofs.UsedLaws.{used_start, used-more}
use Rattle.topology.proofs.used.mark_named.Goals as goal

pub loop-x-init : goal.loop-x-init
loop-x-init c = used_start _ _

pub put-requires : goal.put-requires
put-requires c = sought-below _ _ _ _ c.look-found.ensures.sought (omega (arith, c.requires.0))

pub loop-x-preserved : goal.loop-x-preserved
loop-x-preserved c =
    let u : c.loop-x.x-index < c.args.m = omega (arith, length-take c.args.m c.args.refs.now) in
    used-more _ _ c.loop-x.invariant c.requires.0 (get_or-take _ _ _ 0 u) c.look-found.ensures.sought c.look-found.ensures.same c.put.ensures
