-- `topology::ends::mark_apart` meets its contract. The loop's invariant: the marks of the tramos before `i` say whether the end lies elsewhere than its node, and their nodes are in use.
-- Assumes nothing.
use mathlib.Core.Path.{refl}
use native.Mathlib.Omega.{arith}
use borrow.Author.Rules.{rules}
use Rattle.index.proofs.LookLaws.{sought-below}
use Rattle.index.proofs.MarkLaws.{marked_start, marked_more}
use Rattle.topology.proofs.UsedLaws.{used_start, used-more}
use Rattle.topology.proofs.ends.mark_apart.Goals as goal

pub loop-i-init : goal.loop-i-init
loop-i-init c = (marked_start _ _, used_start _ _)

pub put-requires : goal.put-requires
put-requires c = sought-below _ _ _ _ c.look-node.ensures.sought (omega (arith, c.requires.3))

pub loop-i-preserved : goal.loop-i-preserved
loop-i-preserved c = let l = c.loop-i.invariant in (
  marked_more (omega (arith, c.requires.2)) (search rules) l.0,
  used-more _ _ l.1 c.requires.3 refl c.look-node.ensures.sought c.look-node.ensures.same c.put.ensures,
)
