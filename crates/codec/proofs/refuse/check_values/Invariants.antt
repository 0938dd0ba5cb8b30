-- `codec::refuse::check_values` meets its contract: the loop stops at the first field that is refused.
-- Assumes nothing.
use mathlib.Core.Option.{none}
use mathlib.Core.Path.{◌≡◌}
use Rattle.laws.specs.Find.{first_of}
use Rattle.codec.specs.machinery.Held.{held, say_by}
use Rattle.codec.proofs.RefuseLaws.{in_values}
use Rattle.codec.proofs.refuse.check_values.Given as goal

abbrev pub invariant-loop-f : goal.invariant-loop-f
invariant-loop-f l = first_of (in_values l.k (say_by l.k (held l.h))) l.f ≡ none
