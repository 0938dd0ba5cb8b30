-- How many answers a tree has (specs/Nest.antt): as many as places at which one stands, each taken once; none exactly if there is no
-- first answer.
-- Assumes nothing.
use Prim.Native.Nat.{ℕ, zero, suc, ◌+◌, ◌<◌}
use mathlib.Core.List.{List, [], ◌∷◌, ◌++◌, map}
use mathlib.Core.Option.{Option, none, some}
use mathlib.Core.Path.{◌≡◌, refl, sym, ap, ap₂, ◌∙◌}
use mathlib.Core.Logic.{⊎_elim}
use native.Mathlib.Nat.{le_of_suc-le-suc, not-suc-le-zero, eq-or-lt_of_le, le_refl}
use native.Mathlib.Omega.{arith}
use lib.ListN.{length, length-append, length-map}
use Rattle.laws.specs.Count.{sum_of}
use Rattle.laws.specs.Listed.{In, first, later, Once, end, more}
use Rattle.laws.specs.Nest.{Nest, leaf, node, run, one, many}
use Rattle.laws.proofs.FindLaws.{first-none, none-at}
use Rattle.laws.proofs.NestLaws.{at, at-within, at-node, at_leaf}
use Rattle.laws.proofs.SumLaws.{sum-none, sum-no}
use Rattle.laws.proofs.ListedLaws.{in-none, in_left, in_right, in_either, once-append, in_map, map-in, once-map}

abbrev head : List ℕ → ℕ
head [] = 0
head (x ∷ xs) = x

abbrev tail : List ℕ → List ℕ
tail [] = []
tail (x ∷ xs) = xs

cons-nil : {x : ℕ} {xs : List ℕ} → x ∷ xs ≡ [] → ⊥
cons-nil {x} {xs} e = let z = ap length e in omega arith

-- NO ANSWER
pub run-many : {B : Type 0} (t : Nest B) → run t ≡ none → many t ≡ 0
unfolding run many
run-many (leaf o) e = rw e
run-many (node n f) e = sum-none (λ i. many (f i)) n (λ i l. run-many (f i) (none-at (λ j. run (f j)) n e l))

one_none : {B : Type 0} (o : Option B) → one o ≡ 0 → o ≡ none
one_none none e = refl
one_none (some b) e = absurd (let z : ◌≡◌ {A = ℕ} 1 0 = e in omega arith)

pub many-run : {B : Type 0} (t : Nest B) → many t ≡ 0 → run t ≡ none
unfolding run many
many-run (leaf o) e = one_none o e
many-run (node n f) e = first-none (λ i. run (f i)) n (λ i l. many-run (f i) (sum-no (λ j. many (f j)) n e l))

-- THE PLACES of a tree's answers
unfoldable pub upto : (ℕ → List (List ℕ)) → ℕ → List (List ℕ)
upto g zero = []
upto g (suc n) = upto g n ++ map (λ p. n ∷ p) (g n)

abbrev pub here : {B : Type 0} → Option B → List (List ℕ)
here none = []
here (some b) = [] ∷ []

unfoldable pub places_in : {B : Type 0} → Nest B → List (List ℕ)
places_in (leaf o) = here o
places_in (node n f) = upto (λ i. places_in (f i)) n

-- are as many,
upto-long : (g : ℕ → List (List ℕ)) (h : ℕ → ℕ) (n : ℕ) → ((i : ℕ) → length (g i) ≡ h i) → length (upto g n) ≡ sum_of h n
unfolding upto sum_of
upto-long g h zero long = refl
upto-long g h (suc n) long =
    length-append (upto g n) (map (λ p. n ∷ p) (g n))
    ∙ ap₂ (λ (x y : ℕ). x + y) (upto-long g h n long) (length-map (g n) (λ p. n ∷ p) ∙ long n)

here-long : {B : Type 0} (o : Option B) → length (here o) ≡ one o
here-long none = refl
here-long (some b) = refl

pub places-long : {B : Type 0} (t : Nest B) → length (places_in t) ≡ many t
unfolding places_in many
places-long (leaf o) = here-long o
places-long (node n f) = upto-long (λ i. places_in (f i)) (λ i. many (f i)) n (λ i. places-long (f i))

-- an answer stands at each,
in-upto : (g : ℕ → List (List ℕ)) (n : ℕ) {p : List ℕ} → In p (upto g n) → (x : ℕ) × (q : List ℕ) × (p ≡ x ∷ q) × (x < n) × (In q (g x))
unfolding upto
in-upto g zero h = absurd (in-none h)
in-upto g (suc n) h =
    ⊎_elim
    (λ i. let w = in-upto g n i in (w.0, w.1, w.2, omega (arith, w.3), w.4))
    (λ i. let w = map-in (λ p. n ∷ p) (g n) i in (n, w.0, w.2, le_refl _, w.1))
    (in_either (upto g n) h)

here_in : {B : Type 0} (o : Option B) (p : List ℕ) → In p (here o) → (b : B) × (at (leaf o) p ≡ some b)
unfolding at
here_in none p h = absurd (in-none h)
here_in (some b) [] h = (b, refl)
here_in (some b) (x ∷ p) (first e) = absurd (cons-nil e)
here_in (some b) (x ∷ p) (later h) = absurd (in-none h)

pub place-stands : {B : Type 0} (t : Nest B) (p : List ℕ) → In p (places_in t) → (b : B) × (at t p ≡ some b)
unfolding places_in
place-stands (leaf o) p h = here_in o p h
place-stands (node n f) p h =
    let w = in-upto (λ i. places_in (f i)) n h in
    let r = place-stands (f w.0) w.1 w.4 in
    (r.0, ap (at (node n f)) w.2 ∙ at-within n f w.0 w.1 w.3 ∙ r.1)

-- each at which one stands is there,
upto-in : (g : ℕ → List (List ℕ)) (n : ℕ) {x : ℕ} {q : List ℕ} → x < n → In q (g x) → In (x ∷ q) (upto g n)
unfolding upto
upto-in g zero l h = absurd (not-suc-le-zero l)
upto-in g (suc n) {x} {q} l h =
    ⊎_elim
    (λ e. in_right (upto g n) (rw e (in_map (λ p. n ∷ p) (rw e at h))))
    (λ b. in_left _ (upto-in g n b h))
    (eq-or-lt_of_le (le_of_suc-le-suc l))

pub stands-place : {B : Type 0} (t : Nest B) (p : List ℕ) {b : B} → at t p ≡ some b → In p (places_in t)
unfolding places_in
stands-place (leaf o) p e = let w = at_leaf o p e in rw (w.0, w.1) (first refl)
stands-place (node n f) p e =
    let w = at-node n f p e in
    rw w.2 (upto-in (λ i. places_in (f i)) n w.3 (stands-place (f w.0) w.1 w.4))

-- and each is there once
tail-same : (n : ℕ) (p q : List ℕ) → n ∷ p ≡ n ∷ q → p ≡ q
tail-same n p q e = ap tail e

upto-once : (g : ℕ → List (List ℕ)) (n : ℕ) → ((i : ℕ) → Once (g i)) → Once (upto g n)
unfolding upto
upto-once g zero each = end
upto-once g (suc n) each =
    once-append (upto g n) (map (λ p. n ∷ p) (g n)) (upto-once g n each) (once-map (λ p. n ∷ p) (tail-same n) (g n) (each n))
    (λ x i j.
    let a = in-upto g n i in
    let b = map-in (λ p. n ∷ p) (g n) j in
    let e : a.0 ≡ n = ap head (sym a.2 ∙ b.2) in
    omega (arith, e, a.3))

here-once : {B : Type 0} (o : Option B) → Once (here o)
here-once none = end
here-once (some b) = more in-none end

pub places-once : {B : Type 0} (t : Nest B) → Once (places_in t)
unfolding places_in
places-once (leaf o) = here-once o
places-once (node n f) = upto-once (λ i. places_in (f i)) n (λ i. places-once (f i))
