-- `judge::judge::first_break` meets its contract. The loop's invariant: the tens before `t` give nothing.
-- Assumes nothing.
use Prim.Native.Nat.{◌+◌}
use mathlib.Core.List.{map}
use Rattle.record.specs.Files.{files_of}
use Rattle.keys.proofs.OverLaws.{Fines}
use Rattle.judge.specs.Broken.{last_ten}
use Rattle.judge.specs.machinery.Searched.{group_at}
use Rattle.judge.proofs.judge.first_break.Given as goal

abbrev pub invariant-loop-t : goal.invariant-loop-t
invariant-loop-t l = Fines (group_at (files_of (map (λ x. x.now) l.files))) (last_ten + 1) l.t
