-- `field::class::Class::every` meets its contract: the loop passes every byte, and keeps whether those passed are of the class.
-- Assumes nothing.
use mathlib.Core.Path.{◌≡◌}
use mathlib.Core.Bool.{◌&&◌}
use lib.ListN.{drop}
use Rattle.field.specs.Bytes.{all_of}
use Rattle.field.proofs.class.Class.every.Given as goal

abbrev pub invariant-loop-b : goal.invariant-loop-b
invariant-loop-b l = (l.so_far && all_of l.self (drop l.b-index l.t)) ≡ all_of l.self l.t
