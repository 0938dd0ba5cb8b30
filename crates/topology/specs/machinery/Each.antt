-- Machinery: columns that are filled record by record. No promise cites this file.
-- Assumes nothing.
use Rattle.std.specs.Prelude.{ℕ, ◌<◌, List, ◌≡◌, length, get_or}

-- the first n items of an array are what was made of their records; the array keeps its length
pub record Each {T : Type 0} (made : ℕ → T → Type 0) (before after : List T) (n : ℕ) : Type 0 where
  pub long : length after ≡ length before
  pub each : (i : ℕ) → i < n → (other : T) → made i (get_or after i other)
