-- `fill_pair_keys` meets its contract: the loop has read the keys of the records before i, and stands at record i.
-- Assumes nothing.
use mathlib.Core.Path.{ap, ◌∙◌}
use native.Mathlib.Omega.{arith}
use Rattle.record.specs.Table.{is_n}
use Rattle.record.proofs.TableLaws.{pair-key}
use Rattle.record.proofs.NameLaws.{key-pair, pair-name}
use Rattle.record.proofs.ColumnLaws.{filling-more, starts-next, cut_field, cut-room, key-cut, number_cut}
use Rattle.record.proofs.fill.fill_pair_keys.Goals as goal

pub part_there-requires : goal.part_there-requires
part_there-requires c = cut-room _ _ c.rows-n.ensures.value c.loop-i-test.true c.loop-i.invariant.1 1 c.offset-offset.ensures.value c.width-width.ensures.value

pub part_there-requires-in-loop-i : goal.part_there-requires-in-loop-i
part_there-requires-in-loop-i c = cut-room _ _ c.rows-n.ensures.value c.loop-i-test.true c.loop-i.invariant.1 2 c.offset-order_offset.ensures.value c.width-order_width.ensures.value

pub overflow_mul-out : goal.overflow_mul-out
overflow_mul-out c = let h = c.key_in-line.ensures.narrow (ap is_n c.form-form.ensures ∙ (pair-key c.args.k c.requires).0) in
    omega arith

pub overflow_add-out : goal.overflow_add-out
overflow_add-out c = let h = c.key_in-line.ensures.narrow (ap is_n c.form-form.ensures ∙ (pair-key c.args.k c.requires).0) in
    omega arith

pub loop-i-preserved : goal.loop-i-preserved
loop-i-preserved c = let two = c.requires in
    let cut = cut_field _ _ c.rows-n.ensures.value c.loop-i-test.true c.loop-i.invariant.1 in
    let line-text = cut 1 _ _ _ c.offset-offset.ensures.value c.width-width.ensures.value c.part_there.ensures in
    let order-text = cut 2 _ _ _ c.offset-order_offset.ensures.value c.width-order_width.ensures.value c.part_there-in-loop-i.ensures in
    let line = key-cut _ _ _ 1 c.form-form.ensures line-text c.key_in-line.ensures.value in
    let order = number_cut _ _ _ 2 c.form-order_form.ensures order-text c.number_in-order.ensures.value in (
      filling-more c.loop-i.invariant.0 c.if-out-n.false c.loop-i-test.true (key-pair _ _ _ two (pair-name _ _ _ two line) order),
      starts-next c.loop-i.invariant.1 c.length-at.ensures,
    )
