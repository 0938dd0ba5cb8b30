-- A number as decimal digits of a fixed width, and back: once, over the width.
-- Assumes nothing.
use Rattle.std.specs.Prelude.{ℕ, zero, suc, ◌+◌, ◌-◌, ◌*◌, ◌/◌, ◌%◌, min, List, [], ◌∷◌, ◌++◌, length, get_or}

-- the last w digits of n, zero-filled on the left
unfoldable pub digits : ℕ → ℕ → List ℕ
digits zero n = []
digits (suc w) n = digits w (n / 10) ++ ((48 + n % 10) ∷ [])

-- the number that the first w bytes of s write. It is meant of digits; of any other byte it is defined, and no more
unfoldable pub digits_number : ℕ → List ℕ → ℕ
digits_number zero s = 0
digits_number (suc w) s = digits_number w s * 10 + (get_or s w 0 - 48)

-- the number that a field writes. MIGRA's longest is ten digits, and no more of a field are read
unfoldable pub number_written : List ℕ → ℕ
number_written t = digits_number (min 10 (length t)) t
