-- Machinery: a column of marks: 1 at the records at which a test holds, 0 at the others.
-- Assumes nothing.
use Rattle.std.specs.Prelude.{ℕ, ◌<◌, Bool, List, ◌≡◌, eqb, length, get_or}
use Rattle.laws.specs.Count.{bit}

-- the marks of the first n records say the test; the array keeps its length
pub record Marked (before after : List ℕ) (test : ℕ → Bool) (n : ℕ) : Type 0 where
  pub long : length after ≡ length before
  pub says : (i : ℕ) → i < n → get_or after i 0 ≡ bit (test i)

-- a mark stands at record i
abbrev pub is_marked : List ℕ → ℕ → Bool
is_marked marks i = eqb (get_or marks i 0) 1
