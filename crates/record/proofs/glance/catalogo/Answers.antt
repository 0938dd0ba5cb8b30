-- `record::glance::catalogo` meets its contract.
-- Assumes nothing.
use mathlib.Core.Path.{refl, ap, ◌∙◌}
use Rattle.field.specs.declared.class.Class.TheVariants.{Plain}
use Rattle.record.specs.declared.kind.Kind.TheVariants.{Catalogo}
use Rattle.record.specs.declared.kind.Form.TheVariants.{Words}
use Rattle.record.specs.declared.kind.Domain.TheVariants.{ObjectType}
use Rattle.record.specs.Table.{col_at, offset_at}
use Rattle.record.specs.machinery.Glance.{full_or_blank}
use Rattle.record.proofs.GlanceLaws.{seen_end, seen-fine, seen_none}
use Rattle.record.proofs.GlanceSeen.{seen-code, seen-need-in, seen-words, seen_last}
use Rattle.record.proofs.glance.catalogo.Goals as goal

pub returns-then-rec-ne133 : goal.returns-then-rec-ne133
returns-then-rec-ne133 c = seen_none _ Catalogo

pub returns : goal.returns
unfolding col_at offset_at
returns c = let s = c.args.rec.now in
    let p0 = seen_end s Catalogo c.ends.ensures in
    let p1 = seen-code s Catalogo 1 p0 refl c.code.ensures in
    let p2 = seen-need-in s Catalogo 2 p1 Words ObjectType 1 refl refl refl c.need_in.ensures in
    let p3 = seen-words s Catalogo 3 p2 60 refl c.may.ensures in
    seen-fine s Catalogo (seen_last s Catalogo 4 p3 60 refl refl (c.is_full_or_blank.ensures ∙ ap (full_or_blank Plain) c.part.ensures))
