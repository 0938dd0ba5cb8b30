-- `keys::over::first_of_files` meets its contract. The loop's invariant: the files before number `n` have no break.
-- Assumes nothing.
use mathlib.Core.Path.{◌≡◌}
use Rattle.record.specs.declared.kind.Kind.{Kind}
use Rattle.record.specs.Breaks.{Finding}
use Rattle.keys.proofs.OverLaws.{Onward}
use Rattle.keys.proofs.over.first_of_files.Given as goal

abbrev pub invariant-loop-n : goal.invariant-loop-n
invariant-loop-n g l = (f : Kind → Finding) → ((k : Kind) (v : Finding) → goal.F-post g l.check k v → v ≡ f k) → Onward f l.n
