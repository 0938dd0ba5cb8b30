-- `judge::judge::count_all` meets its contract. The loop's invariant: the counts of the files before are those of the row.
-- Assumes nothing.
use mathlib.Core.List.{map}
use mathlib.Core.Path.{◌≡◌}
use lib.ListN.{length, take}
use Rattle.record.specs.Table.{file_count}
use Rattle.laws.specs.Row.{row}
use Rattle.record.specs.Files.{files_of}
use Rattle.judge.proofs.JudgeLaws.{count_no}
use Rattle.judge.proofs.judge.count_all.Given as goal

abbrev pub invariant-loop-n : goal.invariant-loop-n
invariant-loop-n l =
    (length l.counts ≡ file_count) × (take l.n l.counts ≡ row (count_no (files_of (map (λ x. x.now) l.files))) l.n)
