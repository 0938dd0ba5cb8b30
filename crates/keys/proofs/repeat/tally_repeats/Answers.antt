-- `keys::repeat::tally_repeats` meets its contract. The keys are in the array, and there is room to look them up.
-- Assumes nothing.
use Rattle.record.proofs.ColumnLaws.{read-fills}
use Rattle.keys.proofs.KeyTallies.{repeat-tally}
use Rattle.keys.proofs.repeat.tally_repeats.Goals as goal

pub returns : goal.returns
returns c = repeat-tally _ _ (read-fills c.requires.0 c.fill_keys-n.ensures)
    (rw (c.prepare.ensures.keys, c.prepare.ensures.n) at c.mark_repeats.ensures) c.repeat_in-found.ensures c.count_marked-many.ensures.value
    c.no_tally.ensures c.keys.ensures c.with_cell.ensures
