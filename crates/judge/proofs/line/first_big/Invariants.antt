-- `judge::line::first_big` meets its contract. The loop's invariant: no file before number `n` is big.
-- Assumes nothing.
use mathlib.Core.List.{map}
use Rattle.record.specs.Files.{files_of}
use Rattle.judge.proofs.LineLaws.{NoneBig}
use Rattle.judge.proofs.line.first_big.Given as goal

abbrev pub invariant-loop-n : goal.invariant-loop-n
invariant-loop-n l = NoneBig (files_of (map (λ x. x.now) l.files)) l.n
