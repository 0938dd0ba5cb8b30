-- What the grid is to mean: a list of all breaks, each in it once.
-- Assumes nothing.
use Rattle.std.specs.Prelude.{ℕ, ◌/◌, ◌%◌, List, [], ◌∷◌, ◌≡◌}
use Rattle.laws.specs.Listed.{In, Once}
use Rattle.record.specs.declared.kind.Kind.{Kind}
use Rattle.record.specs.Table.{file_of}
use Rattle.record.specs.Files.{Files}
use Rattle.judge.specs.Broken.{IsBroken}

-- a reason and its place: the reason's ten, file, record, field, the reason's digit
abbrev pub break_at : ℕ → Kind → ℕ → ℕ → List ℕ
break_at n k i f = n / 10 ∷ file_of k ∷ i ∷ f ∷ n % 10 ∷ []

-- each in the list once, and in it exactly if it is broken (which is read of the lowest ten alone)
pub record Breaks (files : Files) (list : List (List ℕ)) : Type 0 where
  pub once : Once list
  pub broken : (p : List ℕ) → In p list → (n : ℕ) × (k : Kind) × (i : ℕ) × (f : ℕ) × (p ≡ break_at n k i f) × IsBroken files n k i f
  pub all : (n : ℕ) (k : Kind) (i f : ℕ) → IsBroken files n k i f → In (break_at n k i f) list

-- the same of file k alone
pub record BreaksIn (files : Files) (k : Kind) (list : List (List ℕ)) : Type 0 where
  pub once : Once list
  pub broken : (p : List ℕ) → In p list → (n : ℕ) × (i : ℕ) × (f : ℕ) × (p ≡ break_at n k i f) × IsBroken files n k i f
  pub all : (n i f : ℕ) → IsBroken files n k i f → In (break_at n k i f) list
