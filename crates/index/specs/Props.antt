-- Machinery: what look-ups stand on is a fact of one proof at most, so that a type may hold it.
-- Assumes nothing.
use Rattle.std.specs.Prelude.{ℕ, ◌<◌, List, ◌≡◌, get_or}
use mathlib.Core.Path.{sym, ap, ◌∙◌}
use mathlib.Core.HLevel.{Σ_prop_path}
use Rattle.std.proofs.Props.{props}
use Rattle.index.specs.Order.{Rearranged, Ascending, Index}
use Rattle.index.specs.Way as way
use Rattle.index.specs.declared.way.Way.{Way}

-- no record stands at two places
module _ (order : List ℕ) (n : ℕ) (apart : (i j : ℕ) → i < n → j < n → get_or order i 0 ≡ get_or order j 0 → i ≡ j) where
  abbrev Stands : ℕ → ℕ → Type 0
  Stands k i = (i < n) × (get_or order i 0 ≡ k)

  place-prop : (k : ℕ) → IsProp ((i : ℕ) × Stands k i)
  place-prop k x y = Σ_prop_path {B = Stands k} (λ i. hlevel props) (apart x.0 y.0 x.1.0 y.1.0 (x.1.1 ∙ sym y.1.1))

  covers-prop : (k : ℕ) → IsProp ((i : ℕ) × (i < n) × (get_or order i 0 ≡ k))
  covers-prop k x y = ap (λ (p : (i : ℕ) × Stands k i). (p.0, p.1.0, p.1.1)) (place-prop k (x.0, (x.1, x.2)) (y.0, (y.1, y.2)))

Rearranged-prop : (order : List ℕ) (n : ℕ) → IsProp (Rearranged order n)
Rearranged-prop order n r s = let whole : IsProp (Rearranged order n) = hlevel (covers-prop order n r.apart, props) in whole r s

Index-prop : (keys order : List ℕ) (n : ℕ) → IsProp (Index keys order n)
unfolding Ascending
Index-prop keys order n = hlevel (Rearranged-prop order n, props)

pub Ready-prop : (keys order hints : List ℕ) (n : ℕ) (w : Way) → IsProp (way.Ready keys order hints n w)
unfolding way.Complete
Ready-prop keys order hints n w = hlevel (Index-prop keys order n, props)
