-- What a finding on a file is to mean, in terms of the rules' tests and the order of places alone.
-- Assumes nothing.
use Prim.Native.Nat.{ℕ, ◌/◌}
use mathlib.Core.Bool.{Bool, true, false}
use mathlib.Core.List.{List, [], ◌∷◌}
use mathlib.Core.Path.{◌≡◌}
use Rattle.laws.specs.Nest.{before}
use Rattle.record.specs.declared.kind.Kind.{Kind}
use Rattle.record.specs.Breaks.{Finding}
use Rattle.std.specs.Prelude.{Ok, Err}
use Rattle.record.specs.Table.{file_of}
use Rattle.record.specs.Breaks.{number_of, broken}

-- what a finding on file k says of the reasons of a ten, where broken tells of a reason's number, a record and a field: nothing is
-- broken; or the break shown is, and none earlier by record, field and reason
unfoldable pub MeansBy : (ℕ → ℕ → ℕ → Bool) → ℕ → Kind → Finding → Type 0
MeansBy broken t k (Ok u) = (n i f : ℕ) → n / 10 ≡ t → broken n i f ≡ false
MeansBy broken t k (Err b) =
    (number_of b.reason / 10 ≡ t)
    × (b.file ≡ file_of k)
    × (broken (number_of b.reason) b.«record» b.field ≡ true)
    × ((n i f : ℕ) → n / 10 ≡ t → broken n i f ≡ true
    → before (i ∷ f ∷ n ∷ []) (b.«record» ∷ b.field ∷ number_of b.reason ∷ []) ≡ true → ⊥)

abbrev pub Means : ℕ → List ℕ → Kind → Finding → Type 0
Means t s k v = MeansBy (broken s k) t k v
