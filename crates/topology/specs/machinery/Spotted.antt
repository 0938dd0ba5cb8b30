-- Machinery: vertices of one sort, a line's first and last or the others, at the nodes' places. No promise cites this file.
-- Assumes nothing.
use Rattle.std.specs.Prelude.{ℕ, ◌<◌, Bool, ◌&&◌, List, ◌≡◌, eqb, get_or}
use Rattle.laws.specs.Find.{any}

-- vertex j has the mark and lies at X and Y, by columns
unfoldable pub sorted_at : List ℕ → List ℕ → List ℕ → ℕ → ℕ → ℕ → ℕ → Bool
sorted_at tips vx vy mark x y j = eqb (get_or tips j 0) mark && (eqb (get_or vx j 0) x && eqb (get_or vy j 0) y)

-- one of the first v vertices does
unfoldable pub any_sorted : List ℕ → List ℕ → List ℕ → ℕ → ℕ → ℕ → ℕ → Bool
any_sorted tips vx vy mark v x y = any (sorted_at tips vx vy mark x y) v

-- numbers of the first v vertices: that of vertex j is the number of the pair of node i exactly where vertex j has the mark and lies at node i's place
pub record Spotted (tips vx vy nx ny pairs : List ℕ) (mark m : ℕ) (out : List ℕ) (v : ℕ) : Type 0 where
  pub each : (j i : ℕ) → j < v → i < m → eqb (get_or out j 0) (get_or pairs i 0) ≡ sorted_at tips vx vy mark (get_or nx i 0) (get_or ny i 0) j
