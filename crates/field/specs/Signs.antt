-- A whole number as a sign and a size.
-- Assumes nothing.
use Rattle.std.specs.Prelude.{ℕ, zero, suc, Bool, true, false, ℤ, pos, negsuc}
use Rattle.laws.specs.Row.{pick}

abbrev pub is_neg : ℤ → Bool
is_neg (pos n) = false
is_neg (negsuc n) = true

-- the number with the sign (true: minus) and the size; there is one zero
abbrev pub signed : Bool → ℕ → ℤ
signed false n = pos n
signed true zero = pos zero
signed true (suc n) = negsuc n

-- - is byte 2D, + is byte 2B; zero has +
abbrev pub sign_byte : ℤ → ℕ
sign_byte z = pick (is_neg z) 45 43
