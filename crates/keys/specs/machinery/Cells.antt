-- Machinery: the tally of a group of reasons in a file, by cells, ten a field, one for each reason. No promise cites this file.
-- Assumes nothing.
use Rattle.std.specs.Prelude.{ℕ, ◌+◌, ◌/◌, ◌%◌, Bool, false, ◌&&◌, List, [], ◌∷◌, map, ◌≡◌, eqb, get_or}
use Rattle.laws.specs.Find.{first_index}
use Rattle.laws.specs.Count.{how_many}
use Rattle.index.specs.Keys.{found_of}
use Rattle.index.specs.Tally.{no_tally, with_cell, tally_of}
use Rattle.index.specs.declared.tally.Tally.{Tally}
use Rattle.record.specs.declared.kind.Kind.{Kind}
use Rattle.record.specs.Table.{Which}
use Rattle.std.specs.Prelude.{None, Some}
use Rattle.record.specs.Table.{keys_of, kinds}
use Rattle.record.specs.Says.{Table}
use Rattle.record.specs.Files.{Delivery}
use Rattle.record.specs.Names.{key_of}
use Rattle.keys.specs.machinery.Groups.{Tests, cells_of}
use Rattle.keys.specs.Rules.{repeats, key_tests}

-- the test of record i at cell c
unfoldable pub cell_test : Tests → ℕ → ℕ → Bool
cell_test tests i c = get_or (tests i (c / 10)) (c % 10) false

-- the tally of a group's tests over n records of file k
unfoldable pub tally_in : Tests → Kind → ℕ → Tally
tally_in tests k n = tally_of (cell_test tests) n (cells_of k)

-- CELLS of a file, gone over by ranges: what the tally of the first m cells is
pub record TalliedTo (tests : Tests) (n m : ℕ) (t : Tally) : Type 0 where
  pub is : t ≡ tally_of (cell_test tests) n m

-- r is t and one cell more, c, by its test of n records; and two cells more
pub record OneMore (t : Tally) (test : ℕ → Bool) (n c : ℕ) (r : Tally) : Type 0 where
  pub is : r ≡ with_cell t (found_of (first_index test n)) (how_many test n) c

pub record TwoMore (t : Tally) (test other : ℕ → Bool) (n c : ℕ) (r : Tally) : Type 0 where
  pub between : Tally
  pub first : OneMore t test n c between
  pub second : OneMore between other n (c + 1) r

-- THE KEYS' TALLIES: 30's tests read no file but their own
unfoldable pub repeat_tests : Kind → Table → Tests
repeat_tests k own i f = (eqb f (keys_of k) && repeats (key_of k own) i) ∷ []

-- the ten t, 3 or 4, in file k
unfoldable pub key_tally : ℕ → Delivery → Kind → Tally
key_tally t d k = tally_in (key_tests t d k) k (d k).count

-- by a file's number, and in each file
abbrev pub tally_at : (Kind → Tally) → Which → Tally
tally_at g None = no_tally
tally_at g (Some k) = g k

unfoldable pub key_tallies : ℕ → Delivery → List Tally
key_tallies t d = map (key_tally t d) kinds
