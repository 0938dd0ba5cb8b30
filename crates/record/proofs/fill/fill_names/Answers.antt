-- `fill_names` meets its contract: the loop has read the names of the records before i, and stands at record i.
-- Assumes nothing.
use Rattle.record.proofs.ColumnLaws.{cut_field, cut-room, key-cut}
use Rattle.record.proofs.fill.fill_names.Goals as goal

pub part_there-requires : goal.part_there-requires
part_there-requires c = cut-room _ _ c.rows-n.ensures.value c.loop-i-test.true c.loop-i.invariant.1 _ c.offset-offset.ensures.value c.width-width.ensures.value

pub name_by-requires : goal.name_by-requires
name_by-requires c = let cut = cut_field _ _ c.rows-n.ensures.value c.loop-i-test.true c.loop-i.invariant.1 _ _ _ _ c.offset-offset.ensures.value c.width-width.ensures.value c.part_there.ensures in
    key-cut _ _ _ _ c.form-form.ensures cut c.key_in-x.ensures.value
