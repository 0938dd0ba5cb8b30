-- The laws of lists that have each element once (specs/Listed.antt): of two lists one after the other, and of a list's images.
-- Assumes nothing.
use mathlib.Core.List.{List, [], ◌∷◌, ◌++◌, map}
use mathlib.Core.Path.{◌≡◌, refl, sym, ap}
use mathlib.Core.Logic.{◌⊎◌, inl, inr, ⊎_elim}
use Rattle.laws.specs.Listed.{In, first, later, Once, end, more}

pub in-same : {A : Type 0} {x y : A} {xs : List A} → x ≡ y → In x xs → In y xs
in-same e h = rw (← e) h

pub in-none : {A : Type 0} {x : A} → In x [] → ⊥
in-none = elim [ ]

-- ONE AFTER THE OTHER
pub in_left : {A : Type 0} {x : A} {xs : List A} (ys : List A) → In x xs → In x (xs ++ ys)
in_left ys (first e) = first e
in_left ys (later h) = later (in_left ys h)

pub in_right : {A : Type 0} {x : A} (xs : List A) {ys : List A} → In x ys → In x (xs ++ ys)
in_right [] h = h
in_right (z ∷ xs) h = later (in_right xs h)

pub in_either : {A : Type 0} {x : A} (xs : List A) {ys : List A} → In x (xs ++ ys) → In x xs ⊎ In x ys
in_either [] h = inr h
in_either (z ∷ xs) (first e) = inl (first e)
in_either (z ∷ xs) (later h) = ⊎_elim (λ a. inl (later a)) (λ b. inr b) (in_either xs h)

pub once-append : {A : Type 0} (xs ys : List A) → Once xs → Once ys → ((x : A) → In x xs → In x ys → ⊥) → Once (xs ++ ys)
once-append [] ys a b apart = b
once-append (z ∷ xs) ys (more new a) b apart =
    more
    (λ h. ⊎_elim (λ i. new i) (λ i. apart z (first refl) i) (in_either xs h))
    (once-append xs ys a b (λ x i j. apart x (later i) j))

-- IMAGES
pub in_map : {A B : Type 0} (f : A → B) {x : A} {xs : List A} → In x xs → In (f x) (map f xs)
in_map f (first e) = first (ap f e)
in_map f (later h) = later (in_map f h)

pub map-in : {A B : Type 0} (f : A → B) {y : B} (xs : List A) → In y (map f xs) → (x : A) × (In x xs) × (y ≡ f x)
map-in f [] h = absurd (in-none h)
map-in f (z ∷ xs) (first e) = (z, first refl, e)
map-in f (z ∷ xs) (later h) = let w = map-in f xs h in (w.0, later w.1, w.2)

pub once-map : {A B : Type 0} (f : A → B) → ((x y : A) → f x ≡ f y → x ≡ y) → (xs : List A) → Once xs → Once (map f xs)
once-map f apart [] a = end
once-map f apart (z ∷ xs) (more new a) =
    more (λ h. let w = map-in f xs h in new (in-same (sym (apart z w.0 w.2)) w.1)) (once-map f apart xs a)
