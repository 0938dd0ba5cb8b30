-- Machinery: a column of numbers in an array, as the code's searches have it. No promise cites this file.
-- Assumes nothing.
use Rattle.std.specs.Prelude.{ℕ, ◌≤◌, ◌<◌, List, ◌≡◌, length, get_or}
use Rattle.record.specs.declared.kind.Kind.{Kind}
use Rattle.record.specs.Table.{Which}
use Rattle.std.specs.Prelude.{None, Some}
use Rattle.record.specs.Table.{limit}
use Rattle.record.specs.Files.{Delivery}

-- a column of n numbers, at most the limit, read into lent room: r are read, all of them or, where the room is too short, none; the rest
-- of the room holds what it held before
pub record ReadInto (before out : List ℕ) (column : ℕ → ℕ) (n r : ℕ) : Type 0 where
  pub small : n ≤ limit
  pub fits : n ≤ length before → r ≡ n
  pub short : length before < n → r ≡ 0
  pub long : length out ≡ length before
  pub holds : (i : ℕ) → i < r → get_or out i 0 ≡ column i
  pub rest : (i : ℕ) → r ≤ i → get_or out i 0 ≡ get_or before i 0

-- r is the column's length n, at most the limit, and the first n numbers of the array are the column's
pub record Fills (out : List ℕ) (column : ℕ → ℕ) (n r : ℕ) : Type 0 where
  pub count : r ≡ n
  pub small : n ≤ limit
  pub long : n ≤ length out
  pub holds : (i : ℕ) → i < n → get_or out i 0 ≡ column i

-- A FEW RECORDS, for which short arrays do: a file has no more, and no file has
abbrev pub few : ℕ
few = 512

abbrev pub Few : Delivery → Which → Type 0
Few d None = Unit
Few d (Some k) = (d k).count ≤ few

pub record AllFew (d : Delivery) : Type 0 where
  pub each : (k : Kind) → (d k).count ≤ few
