-- `keys::group::tally_fields` meets its contract. The loop's invariant: the cells of the fields before `f` are tallied.
-- Assumes nothing.
use native.Mathlib.Omega.{arith}
use Rattle.keys.proofs.KeyTallies.{fields-start, fields-next, fields-end}
use Rattle.keys.proofs.group.tally_fields.Goals as goal

pub loop-f-init : goal.loop-f-init
loop-f-init g c = fields-start _ _ c.no_tally-t.ensures

pub returns-2 : goal.returns-2
returns-2 g c = fields-end _ _ c.fields-end.ensures (omega arith) (omega arith) (fields-next _ c.tally_field-t.ensures)
