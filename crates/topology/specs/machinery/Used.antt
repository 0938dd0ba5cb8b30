-- Machinery: which records are named, by a table of their ids. No promise cites this file.
-- Assumes nothing.
use Rattle.std.specs.Prelude.{ℕ, ◌+◌, ◌<◌, ◌≤◌, min, Bool, true, not, ◌&&◌, List, ◌≡◌, eqb, ltb, length, get_or, set, Option, Some, None}
use Rattle.laws.specs.Count.{bit, how_many}
use Rattle.index.specs.Way.{look_of}

-- 1 put at the record that was found
abbrev pub put_at : List ℕ → Option ℕ → List ℕ
put_at used None = used
put_at used (Some r) = set used r 1

-- one more at the record that was found, up to 2
abbrev pub count_at : List ℕ → Option ℕ → List ℕ
count_at counts None = counts
count_at counts (Some r) = set counts r (min 2 (get_or counts r 0 + 1))

-- less than a number stands at the record that was found
abbrev pub free_at : List ℕ → ℕ → Option ℕ → Bool
free_at used most None = true
free_at used most (Some r) = ltb (get_or used r 0) most

-- IN USE, by a look-up among n ids: the record that a look-up of x finds is 0 after exactly where it was 0 before and the test does not
-- hold of x; the array keeps its length
pub record Used (ids order hints : List ℕ) (hinted : Bool) (n : ℕ) (before after : List ℕ) (test : ℕ → Bool) : Type 0 where
  pub long : length after ≡ length before
  pub marked :
      (x r : ℕ) → look_of ids order hints hinted n x ≡ Some r → eqb (get_or after r 0) 0 ≡ (eqb (get_or before r 0) 0 && not (test x))

-- the same since none was: the record that a look-up of x finds is 0 exactly where the test does not hold of x
pub record Named (ids order hints : List ℕ) (hinted : Bool) (n : ℕ) (used : List ℕ) (test : ℕ → Bool) : Type 0 where
  pub room : n ≤ length used
  pub marked : (x r : ℕ) → r < n → look_of ids order hints hinted n x ≡ Some r → eqb (get_or used r 0) 0 ≡ not (test x)

-- the mark of a record says that less than a number stands at the one which a look-up of its id x finds
pub record Free (ids order hints : List ℕ) (hinted : Bool) (n : ℕ) (used : List ℕ) (most x mark : ℕ) : Type 0 where
  pub at : ℕ
  pub within : at < n
  pub found : look_of ids order hints hinted n x ≡ Some at
  pub says : mark ≡ bit (ltb (get_or used at 0) most)

-- MARKS of the first n records that say so; the array keeps its length
pub record Unheld (ids order hints : List ℕ) (hinted : Bool) (n : ℕ) (used : List ℕ) (most : ℕ) (before after : List ℕ) (m : ℕ) : Type 0 where
  pub long : length after ≡ length before
  pub each : (i : ℕ) → i < m → Free ids order hints hinted n used most (get_or ids i 0) (get_or after i 0)

-- COUNTED, by a look-up among n ids: at the record that a look-up of x finds stands how many of the first m names are x, or 2 where they are more
pub record Counted (ids order hints : List ℕ) (hinted : Bool) (n : ℕ) (counts : List ℕ) (key : ℕ → ℕ) (m : ℕ) : Type 0 where
  pub room : n ≤ length counts
  pub each : (x r : ℕ) → r < n → look_of ids order hints hinted n x ≡ Some r → get_or counts r 0 ≡ min 2 (how_many (λ j. eqb (key j) x) m)
