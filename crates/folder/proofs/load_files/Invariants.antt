-- `folder::load_files` meets its contract.
-- Assumes nothing.
use Rattle.std.proofs.Common.{◌≡◌, length}
use Rattle.record.specs.Table.{file_count}
use Rattle.folder.specs.Folder.{Lengths}
use Rattle.folder.proofs.load_files.Given as goal

abbrev pub invariant-loop-i : goal.invariant-loop-i
invariant-loop-i g l = (length l.lens ≡ file_count) × Lengths l.lens
