-- `keys::group::tally_files` meets its contract. The loop's invariant: the tallies of the first `i` files are in the array.
-- Assumes nothing.
use mathlib.Core.List.{map}
use mathlib.Core.Path.{◌≡◌}
use lib.ListN.{length, take}
use Rattle.laws.specs.Row.{row}
use Rattle.record.specs.Files.{files_of, delivery_of}
use Rattle.record.specs.Table.{file_count}
use Rattle.keys.proofs.KeyTallies.{tally_no}
use Rattle.keys.proofs.group.tally_files.Given as goal

abbrev pub invariant-loop-i : goal.invariant-loop-i
invariant-loop-i g l =
    (length l.tallies ≡ file_count) × (take l.i l.tallies ≡ row (tally_no l.t (delivery_of (files_of (map (λ x. x.now) l.files)))) l.i)
