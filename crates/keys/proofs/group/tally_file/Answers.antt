-- `keys::group::tally_file` meets its contract. The thirties, the forties, and no other ten.
-- Assumes nothing.
use Rattle.keys.proofs.KeyTallies.{file-30, file-else}
use Rattle.keys.proofs.group.tally_file.Goals as goal

pub returns-then-t-eq3 : goal.returns-then-t-eq3
returns-then-t-eq3 g c = file-30 _ _ c.if-t-eq3.true c.file_of.ensures c.tally_repeats.ensures

pub returns : goal.returns
returns g c = file-else _ _ c.if-t-eq3.false c.if-t-eq4.false c.no_tally.ensures
