-- `record::files::all_few` meets its contract. The loop's invariant: the files before number `n` have no more.
-- Assumes nothing.
use mathlib.Core.List.{map}
use Rattle.record.specs.Files.{files_of, delivery_of}
use Rattle.record.proofs.FileLaws.{FewBefore}
use Rattle.record.proofs.files.all_few.Given as goal

abbrev pub invariant-loop-n : goal.invariant-loop-n
invariant-loop-n l = FewBefore (delivery_of (files_of (map (λ x. x.now) l.files))) l.n
