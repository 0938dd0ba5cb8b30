-- Machinery: two columns as one, by a number for each pair.
-- Assumes nothing.
use Rattle.std.specs.Prelude.{ℕ, ◌+◌, ◌*◌, ◌/◌, ◌<◌, ◌&&◌, List, ◌≡◌, eqb, get_or}

-- second parts are below 2^40
abbrev pub wide : ℕ
wide = 1099511627776

-- numbers with second parts beside them
pub record Joined (before seconds after : List ℕ) (n : ℕ) : Type 0 where
  pub each : (i : ℕ) → i < n → get_or after i 0 ≡ get_or before i 0 * wide + get_or seconds i 0

-- the number of a pair: its second part is read off it, and with another second part it is the number of that pair
pub record Pairs (firsts seconds out : List ℕ) (n : ℕ) : Type 0 where
  pub whole : (j : ℕ) → j < n → get_or out j 0 ≡ get_or out j 0 / wide * wide + get_or seconds j 0
  pub same :
      (i j y : ℕ) → i < n → j < n → y < wide
      → eqb (get_or out i 0) (get_or out j 0 / wide * wide + y) ≡ (eqb (get_or firsts i 0) (get_or firsts j 0) && eqb (get_or seconds i 0) y)
  pub small : (j : ℕ) → j < n → get_or out j 0 / wide < 16384

-- r is the number of the pair of x and y: that of each record that has both parts, and of no other
pub record PairIs (firsts seconds out : List ℕ) (n x y r : ℕ) : Type 0 where
  pub each : (j : ℕ) → j < n → eqb (get_or out j 0) r ≡ (eqb (get_or firsts j 0) x && eqb (get_or seconds j 0) y)
