-- `codec::refuse::partners_missing` meets its contract: the loop stops at the first partner that is not blank.
-- Assumes nothing.
use Prim.Native.Nat.{ℕ}
use mathlib.Core.List.{List}
use lib.IntN.{ℤ}
use Rattle.laws.proofs.RowLaws.{Left}
use Rattle.codec.specs.Refusals.{blank_at, partners_missing}
use Rattle.codec.specs.machinery.Held.{held_at, say_by}
use Rattle.codec.proofs.refuse.partners_missing.Given as goal

abbrev pub invariant-loop-j : goal.invariant-loop-j
invariant-loop-j l = (n' : List ℕ) (z : List ℤ) (t : List ℕ) → Left (λ b. b) (blank_at l.k (say_by l.k (held_at n' z l.lengths t))) (partners_missing l.k (say_by l.k (held_at n' z l.lengths t)) l.f) l.from l.n l.j
