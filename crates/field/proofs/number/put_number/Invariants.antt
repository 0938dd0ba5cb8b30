-- `field::number::put_number` meets its contract. The loop's invariant: the digits of what is left, before the digits that stand from k on, are the digits of n.
-- Assumes nothing.
use mathlib.Core.Path.{◌≡◌}
use mathlib.Core.List.{◌++◌}
use lib.ListN.{length, drop}
use Rattle.field.specs.Digits.{digits}
use Rattle.field.proofs.number.put_number.Given as goal

abbrev pub invariant-loop-k : goal.invariant-loop-k
invariant-loop-k l = digits l.k l.left ++ drop l.k l.part ≡ digits (length l.initial.part) l.n
