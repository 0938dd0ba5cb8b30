-- `fill_places` meets its contract: the loop has read the places of the records before i, and stands at record i.
-- Assumes nothing.
use Rattle.laws.proofs.RowLaws.{narrow-more}
use mathlib.Core.Path.{ap, ◌∙◌}
use borrow.Author.Rules.{rules}
use Rattle.record.specs.Table.{offset_at, width_at}
use Rattle.record.proofs.ColumnLaws.{filling-more, starts-next, cut_field, cut-room, place-cut}
use Rattle.record.proofs.fill.fill_places.Goals as goal

pub part_there-b-requires : goal.part_there-b-requires
part_there-b-requires c = cut-room _ _ c.rows-n.ensures.value c.loop-i-test.true c.loop-i.invariant.1 _ c.offset-sign.ensures.value c.width-sign_width.ensures.value

pub part_there-requires : goal.part_there-requires
part_there-requires c = cut-room _ _ c.rows-n.ensures.value c.loop-i-test.true c.loop-i.invariant.1 _ c.offset-offset.ensures.value c.width-width.ensures.value

pub loop-i-preserved : goal.loop-i-preserved
loop-i-preserved c = let cut = cut_field _ _ c.rows-n.ensures.value c.loop-i-test.true c.loop-i.invariant.1 in
    let size = cut _ _ _ _ c.offset-offset.ensures.value c.width-width.ensures.value c.part_there.ensures in
    let sign =
    cut _ _ _ _ (c.offset-sign.ensures.value ∙ ap (offset_at _) c.sign_field-g.ensures)
    (c.width-sign_width.ensures.value ∙ ap (width_at _) c.sign_field-g.ensures)
    c.part_there-b.ensures in (
      filling-more c.loop-i.invariant.0 c.if-out-n.false c.loop-i-test.true (place-cut _ _ _ _ c.form-form.ensures size sign c.place_in.ensures.value),
      starts-next c.loop-i.invariant.1 c.length-at.ensures,
      narrow-more (search rules) c.place_in.ensures.narrow c.loop-i.invariant.2,
    )
