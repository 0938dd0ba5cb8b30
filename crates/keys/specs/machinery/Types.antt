-- Machinery: codes and letters of the catalogue in arrays, and marks of codes at the records that look-ups find. No promise cites this file.
-- Assumes nothing.
use Rattle.std.specs.Prelude.{ℕ, ◌<◌, ◌≤◌, Bool, true, false, not, ◌&&◌, ◌||◌, List, ◌≡◌, eqb, length, get_or, Option, Some, None}
use Rattle.laws.specs.Find.{any, names}
use Rattle.index.specs.Keys.{listed}
use Rattle.index.specs.Way.{look_of}
use Rattle.index.specs.declared.way.Lookup.{Lookup}
use Rattle.record.specs.Says.{Table, letter_in}

-- the letters of the catalogue's first n records are in hand
pub record Letters (letters : List ℕ) (c : Table) (n : ℕ) : Type 0 where
  pub long : n ≤ length letters
  pub each : (j : ℕ) → j < n → get_or letters j 0 ≡ letter_in (c.says j 2)

-- BY COLUMNS of codes and letters: the code x is there under the type; it is there, and not under the type
unfoldable pub typed_by : List ℕ → List ℕ → ℕ → ℕ → ℕ → Bool
typed_by codes letters n wanted x = any (λ j. eqb (get_or codes j 0) x && eqb (get_or letters j 0) wanted) n

unfoldable pub mistyped_by : List ℕ → List ℕ → ℕ → ℕ → ℕ → Bool
mistyped_by codes letters n wanted x = names (listed codes) n x && not (typed_by codes letters n wanted x)

-- BY A LOOK-UP of a code x: it isn't missing, and was not found
abbrev pub is_missed : Option ℕ → ℕ → Bool
is_missed None x = not (eqb x 0)
is_missed (Some j) x = false

-- the record that was found has another letter, and is the only one or has no mark
abbrev pub is_other : Option ℕ → List ℕ → Bool → List ℕ → ℕ → Bool
is_other None letters apart types wanted = false
is_other (Some j) letters apart types wanted = not (eqb (get_or letters j 0) wanted) && (apart || not (eqb (get_or types j 0) 1))

-- of the first i records those at which a test holds: the record that a look-up of such a one's key finds is marked, and no other is
pub record Typing (keys order hints : List ℕ) (hinted : Bool) (n : ℕ) (test : ℕ → Bool) (types : List ℕ) (i : ℕ) : Type 0 where
  pub room : n ≤ length types
  pub sound : (r : ℕ) → r < n → get_or types r 0 ≡ 1 → any (λ j. eqb (get_or keys j 0) (get_or keys r 0) && test j) i ≡ true
  pub whole : (j r : ℕ) → j < i → test j ≡ true → look_of keys order hints hinted n (get_or keys j 0) ≡ Some r → get_or types r 0 ≡ 1

-- of all n, where keys aren't known to be apart
pub record Types (l : Lookup) (test : ℕ → Bool) (types : List ℕ) : Type 0 where
  pub room : l.n ≤ length types
  pub typing : l.way.apart ≡ false → Typing l.keys.now l.order.now l.hints.now l.way.hinted l.n test types l.n
