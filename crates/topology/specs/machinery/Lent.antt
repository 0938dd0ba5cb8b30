-- Machinery: what a lent array holds. No promise cites this file.
-- Assumes nothing.
use Rattle.std.specs.Prelude.{ℕ, ◌<◌, List, ◌≡◌, get_or}

-- the first n numbers of an array are a column's
pub record Holds (out : List ℕ) (column : ℕ → ℕ) (n : ℕ) : Type 0 where
  pub each : (i : ℕ) → i < n → get_or out i 0 ≡ column i
