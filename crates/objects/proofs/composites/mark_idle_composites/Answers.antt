-- `objects::composites::mark_idle_composites` meets its contract. What is not in use after the three files is named by no object.
-- Assumes nothing.
use native.Mathlib.Omega.{arith}
use Rattle.record.specs.declared.kind.Kind.TheVariants.{ObPun, ObTex, ObLin}
use Rattle.objects.proofs.SeventyLaws.{composite-marks}
use Rattle.objects.proofs.composites.mark_idle_composites.Goals as goal

pub mark_named_by-requires : goal.mark_named_by-requires
mark_named_by-requires c = let p = c.requires in
    (omega (arith, c.used-1.given, p.1), p.3 ObPun)

pub mark_named_by-requires-2 : goal.mark_named_by-requires-2
mark_named_by-requires-2 c = let p = c.requires in
    (omega (arith, c.used-2-1.given, c.used-1.given, p.1), omega (arith, c.refs-1.given, p.3 ObTex))

pub mark_named_by-requires-3 : goal.mark_named_by-requires-3
mark_named_by-requires-3 c = let p = c.requires in
    (omega (arith, c.used-3-1.given, c.used-2-1.given, c.used-1.given, p.1), omega (arith, c.refs-2-1.given, c.refs-1.given, p.3 ObLin))

pub mark_unheld-requires : goal.mark_unheld-requires
mark_unheld-requires c = let p = c.requires in
    (omega (arith, c.used-4-1.given, c.used-3-1.given, c.used-2-1.given, c.used-1.given, p.1), p.2)

pub shape_of-used : goal.shape_of-used
shape_of-used c = omega (arith, c.used-4-1.given, c.used-3-1.given, c.used-2-1.given, c.used-1.given)

pub returns : goal.returns
returns c = composite-marks _ c.requires.0 c.clear.ensures c.mark_named_by.ensures c.mark_named_by-2.ensures c.mark_named_by-3.ensures
    c.mark_unheld.ensures
