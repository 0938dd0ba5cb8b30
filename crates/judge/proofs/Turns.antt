-- Indices in another order: the greatest number is the same.
-- Assumes nothing.
use Prim.Native.Nat.{ℕ, zero, suc, ◌<◌, ◌≤◌}
use mathlib.Core.Path.{◌≡◌, sym, ap, ◌∙◌}
use native.Mathlib.Nat.{le_antisymm, max-le}
use native.Mathlib.Omega.{arith}
use lib.Dec.{eqb}
use borrow.Author.Tests.{eqb-true}
use Rattle.laws.proofs.RowLaws.{picked}
use Rattle.laws.proofs.Turns.{Turn}
use Rattle.index.specs.Look.{key_line}
use Rattle.topology.specs.Rules.{highest_in}
use Rattle.topology.proofs.EndLaws.{highest-above}

module _ (key : ℕ → ℕ) (line : ℕ) where
  -- the highest of a line's keys is at most what they are at most
  highest-below : (n b : ℕ) → ((j : ℕ) → j < n → key_line (key j) ≡ line → key j ≤ b) → highest_in key line n ≤ b
  unfolding highest_in
  highest-below zero b h = omega arith
  highest-below (suc n) b h =
      let rest = highest-below n b (λ j l. h j (omega arith)) in
      picked (λ m. m ≤ b) (eqb (key_line (key n)) line) _ _ (λ e. max-le (h n (omega arith) (eqb-true _ _ e)) rest) (λ _. rest)

pub highest-turn :
    {n : ℕ} (t : Turn n) (key other : ℕ → ℕ) → ((j : ℕ) → j < n → other j ≡ key (t.to j)) → (line : ℕ)
    → highest_in other line n ≡ highest_in key line n
highest-turn {n} t key other same line =
    le_antisymm
    (highest-below other line n _ (λ j l e. rw (same j l) (highest-above key line n (t.to-within j l) (ap key_line (sym (same j l)) ∙ e))))
    (highest-below key line n _
    (λ j l e.
    let b = t.from-within j l in
    let q : other (t.from j) ≡ key j = same (t.from j) b ∙ ap key (t.to-from j l) in
    rw (← q) (highest-above other line n b (ap key_line q ∙ e))))
