-- Machinery: numbers of a few fixed widths that the code reads at once, without a loop. No promise cites this file.
-- Assumes nothing.
use Rattle.std.specs.Prelude.{ℕ, ◌^◌, ◌<◌, false, List, ◌≡◌}
use Rattle.field.specs.declared.class.Class.TheVariants.{Blank}
use Rattle.field.specs.Bytes.{all_of}
use Rattle.field.specs.Digits.{number_written}

-- n, which is read at once, is the number that the field writes, and the field is not blank
pub record AtOnce (t : List ℕ) (n : ℕ) : Type 0 where
  pub number : n ≡ number_written t
  pub there : all_of Blank t ≡ false
  pub small : n < 2 ^ 38
