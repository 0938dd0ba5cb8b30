-- Machinery: what the code's searches of places say. No promise cites this file. Places as numbers that an index can hold: equal places have
-- equal numbers, and unequal ones almost always others.
-- Assumes nothing.
use Rattle.std.specs.Prelude.{ℕ, ◌+◌, ◌*◌, ◌%◌, Bool, ◌&&◌, List, eqb, get_or}
use Rattle.laws.specs.Row.{Narrow}
use Rattle.index.specs.Pairs.{wide}
use Rattle.record.specs.machinery.Columns.{Fills}
use Rattle.record.specs.declared.kind.Kind.{Kind}
use Rattle.record.specs.declared.kind.Kind.TheVariants.{Nodo}
use Rattle.record.specs.Says.{Table}
use Rattle.topology.specs.Rules.{x_at, y_at, z_at}
use Rattle.topology.specs.machinery.Used.{}

-- X, Y and Z: all of Z's digits, and the remainder of X and Y by a prime near 2^36
unfoldable pub spot_of : ℕ → ℕ → ℕ → ℕ
spot_of x y z = (x % 2147483648 * 4093082899 + y % 8589934583) % 68719476731 * 268435456 + z % 268435456

-- record j has the X, Y and Z of record i, by columns
unfoldable pub same_in : List ℕ → List ℕ → List ℕ → ℕ → ℕ → Bool
same_in xs ys zs i j = eqb (get_or xs j 0) (get_or xs i 0) && (eqb (get_or ys j 0) (get_or ys i 0) && eqb (get_or zs j 0) (get_or zs i 0))

-- the columns of X and Y of a file's r records
pub record Positions (xs ys : List ℕ) (k : Kind) (t : Table) (r : ℕ) : Type 0 where
  pub x : Fills xs (x_at k t) t.count r
  pub y : Fills ys (y_at k t) t.count r
  pub narrow : Narrow ys r wide

-- and of X, Y and Z of the nodes
pub record Nodes (xs ys zs : List ℕ) (t : Table) (r : ℕ) : Type 0 where
  pub plane : Positions xs ys Nodo t r
  pub z : Fills zs (z_at Nodo t) t.count r
  pub narrow : Narrow zs r wide
