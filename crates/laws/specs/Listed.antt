-- What is in a list, and lists that have each element once.
-- Assumes nothing.
use Rattle.std.specs.Prelude.{List, [], ◌∷◌, ◌≡◌}

-- x is in the list
pub data In {A : Type 0} : A → List A → Type 0 where
  first : {x y : A} {ys : List A} → x ≡ y → In x (y ∷ ys)
  later : {x y : A} {ys : List A} → In x ys → In x (y ∷ ys)

-- no element is in what follows it
pub data Once {A : Type 0} : List A → Type 0 where
  end : Once []
  more : {x : A} {xs : List A} → (In x xs → ⊥) → Once xs → Once (x ∷ xs)
