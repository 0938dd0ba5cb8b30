-- A number of up to eight digits is below 10 ^ 8.
-- Assumes nothing.
use Prim.Native.Nat.{ℕ, ◌^◌, ◌<◌, ◌≤◌}
use native.Mathlib.Nat.{pow-le-pow_right}
use native.Mathlib.Omega.{arith}
use lib.Dec.{lit<}

module _ (n i : ℕ) (h : (i ≤ 8) × (n < 10 ^ i)) where
  pub length-small : n < 10 ^ 8
  length-small = omega (arith, pow-le-pow_right {n = 10} (lit< tt) {i = i} {j = 8} h.0)
