-- `topology::ends::mark_astray` meets its contract. The loop's invariant: the marks of the point objects before `i` say 55, and how often nodes are named is counted.
-- Assumes nothing.
use mathlib.Core.Path.{refl, ap, ◌∙◌}
use lib.ListN.{length}
use native.Mathlib.Omega.{arith}
use borrow.Author.Rules.{rules}
use Rattle.index.proofs.LookLaws.{sought-below}
use Rattle.index.proofs.MarkLaws.{marked_more}
use Rattle.topology.proofs.UsedLaws.{count_long, counted-more}
use Rattle.topology.proofs.ends.mark_astray.Goals as goal

pub count_in-requires : goal.count_in-requires
count_in-requires c = sought-below _ _ _ _ c.look-node.ensures.sought c.loop-i.invariant.1.room

pub loop-i-preserved : goal.loop-i-preserved
loop-i-preserved c = let l = c.loop-i.invariant in (
  marked_more (omega (arith, c.requires.3)) (search rules) l.0,
  counted-more _ l.1 refl c.look-node.ensures.sought c.look-node.ensures.same c.count_in.ensures,
  ap length c.count_in.ensures ∙ count_long _ _ ∙ l.2,
)
