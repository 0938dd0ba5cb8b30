-- Machinery: look-ups that are exact: by hints alone, where they are shown to find every key, or by halving; and numbers that stand for
-- keys, the same for equal keys and others for others.
-- Assumes nothing.
use Rattle.std.specs.Prelude.{ℕ, ◌-◌, ◌<◌, ◌≤◌, Bool, true, false, List, ◌≡◌, eqb, ltb, length, get_or, Option, Some, None, is_some, unwrap_or}
use Rattle.std.proofs.Math.Option.{none}
use Rattle.laws.specs.Row.{pick}
use Rattle.laws.specs.Find.{first_index, or_end}
use Rattle.index.specs.Keys.{listed, first_duplicate, room}
use Rattle.index.specs.Order.{key_at, Index}
use Rattle.index.specs.Hint.{guess_of}
use Rattle.index.specs.declared.way.Way.{Way}

-- BY HALVING: how many places of an index have a key up to the limit; the record at the last of them; and that record where its key is x
unfoldable pub upto_of : List ℕ → List ℕ → ℕ → ℕ → ℕ
upto_of keys order n limit = or_end n (first_index (λ i. ltb limit (key_at keys order i)) n)

unfoldable pub last_at : List ℕ → ℕ → Option ℕ
last_at order c = pick (eqb c 0) None (Some (get_or order (c - 1) 0))

abbrev pub keyed : List ℕ → ℕ → Option ℕ → Option ℕ
keyed keys x None = None
keyed keys x (Some r) = pick (eqb (get_or keys r 0) x) (Some r) None

unfoldable pub find_of : List ℕ → List ℕ → ℕ → ℕ → Option ℕ
find_of keys order n x = keyed keys x (last_at order (upto_of keys order n x))

-- BY HINTS: the look-up of each of the first n keys finds a record
unfoldable pub Complete : List ℕ → List ℕ → ℕ → Type 0
Complete keys hints n = (i : ℕ) → i < n → is_some (guess_of keys hints n (get_or keys i 0)) ≡ true

-- EITHER WAY
unfoldable pub look_of : List ℕ → List ℕ → List ℕ → Bool → ℕ → ℕ → Option ℕ
look_of keys order hints hinted n x = pick hinted (guess_of keys hints n x) (find_of keys order n x)

-- what a way of looking up the first n keys stands on; where it says that they are apart, no two are equal
pub record Ready (keys order hints : List ℕ) (n : ℕ) (way : Way) : Type 0 where
  pub small : n ≤ room
  pub keys-room : n ≤ length keys
  pub hinted : way.hinted ≡ true → Complete keys hints n
  pub sorted : way.hinted ≡ false → Index keys order n
  pub apart : way.apart ≡ true → first_duplicate (listed keys) n ≡ none

-- a found record as a number, 0 where there is none
abbrev pub or_zero : Option ℕ → ℕ
or_zero found = unwrap_or found 0

-- NUMBERS THAT STAND FOR KEYS: each is a record's with that key, and equal keys have one
pub record Stands (keys out : List ℕ) (n : ℕ) : Type 0 where
  pub within : (i : ℕ) → i < n → get_or out i 0 < n
  pub same : (i j : ℕ) → i < n → j < n → eqb (get_or out i 0) (get_or out j 0) ≡ eqb (get_or keys i 0) (get_or keys j 0)
