-- `keys::refer::mark_codes` meets its contract. The loop's invariant: the marks of the first `i` codes say which aren't catalogued, and which are under another type.
-- Assumes nothing.
use mathlib.Core.Path.{ap, ◌∙◌}
use native.Mathlib.Omega.{arith}
use Rattle.laws.specs.Count.{bit}
use Rattle.index.proofs.LookLaws.{sought-below}
use Rattle.index.proofs.MarkLaws.{marked_more}
use Rattle.keys.proofs.ReferLaws.{missed-dangles}
use Rattle.keys.proofs.TypeLaws.{other-mistyped}
use Rattle.keys.proofs.refer.mark_codes.Goals as goal

pub is_other-requires : goal.is_other-requires
is_other-requires c = let p = c.requires in
    let found = c.look-found.ensures.sought in
    (sought-below _ _ _ _ found p.3, sought-below _ _ _ _ found p.4.room)

pub loop-i-preserved : goal.loop-i-preserved
loop-i-preserved c = let p = c.requires in
    let l = c.loop-i.invariant in (
      marked_more (omega (arith, l.0.long, p.2)) (c.as_mark.ensures ∙ ap bit (c.is_missed.ensures ∙ missed-dangles _ _ _ _ c.look-found.ensures.sought)) l.0,
      marked_more (omega (arith, l.1.long, p.1))
          (c.as_mark-in-loop-i.ensures ∙ ap bit (c.is_other.ensures ∙ other-mistyped _ _ _ _ _ c.look-found.ensures.sought c.look-found.ensures.same p.4)) l.1,
    )
