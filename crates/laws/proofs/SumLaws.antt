-- The laws of sums (specs/Count.antt): of nothing, of one more, of two, in another order, by tens, and their bounds.
-- Assumes nothing.
use Prim.Native.Nat.{ℕ, zero, suc, ◌+◌, ◌*◌, ◌<◌, ◌≤◌}
use mathlib.Core.Bool.{Bool}
use mathlib.Core.List.{List, [], ◌∷◌, ◌++◌}
use mathlib.Core.Path.{◌≡◌, refl, sym, ap, ap₂, ◌∙◌}
use mathlib.Core.Logic.{⊎_elim}
use native.Mathlib.Numerals.{add-one}
use native.Mathlib.Nat.{le_of_suc-le-suc, not-suc-le-zero, eq-or-lt_of_le, le_refl}
use native.Mathlib.Omega.{arith}
use Rattle.laws.specs.Count.{bit, how_many, sum_of, total}
use Rattle.laws.specs.Row.{row}

-- OF ONE MORE
pub sum_more : (g : ℕ → ℕ) (n : ℕ) → sum_of g (n + 1) ≡ sum_of g n + g n
unfolding sum_of
sum_more g n = rw add-one

-- at the end of a loop that added up to i, which is n
pub sum-end : (g : ℕ → ℕ) {i n m : ℕ} → i ≤ n → n ≤ i → m ≡ sum_of g i → m ≡ sum_of g n
sum-end g {i} {n} l u e = let q : i ≡ n = omega arith in rw q at e

-- OF TWO that agree below n,
pub sum_same : (g h : ℕ → ℕ) (n : ℕ) → ((k : ℕ) → k < n → g k ≡ h k) → sum_of g n ≡ sum_of h n
unfolding sum_of
sum_same g h zero same = refl
sum_same g h (suc n) same = ap₂ (λ (x y : ℕ). x + y) (sum_same g h n (λ k l. same k (omega arith))) (same n (le_refl _))

-- and added to each other
pub sum-plus : (g h : ℕ → ℕ) (n : ℕ) → sum_of (λ k. g k + h k) n ≡ sum_of g n + sum_of h n
unfolding sum_of
sum-plus g h zero = refl
sum-plus g h (suc n) = let e = sum-plus g h n in omega arith

-- OF NOTHING
pub sum-none : (g : ℕ → ℕ) (n : ℕ) → ((k : ℕ) → k < n → g k ≡ 0) → sum_of g n ≡ 0
unfolding sum_of
sum-none g zero all = refl
sum-none g (suc n) all = rw (sum-none g n (λ k l. all k (omega arith)), all n (le_refl _))

pub sum-no : (g : ℕ → ℕ) (n : ℕ) {k : ℕ} → sum_of g n ≡ 0 → k < n → g k ≡ 0
unfolding sum_of
sum-no g zero e l = absurd (not-suc-le-zero l)
sum-no g (suc n) {k} e l =
    ⊎_elim
    (λ q. rw q (omega arith))
    (λ b. sum-no g n (omega arith) b)
    (eq-or-lt_of_le (le_of_suc-le-suc l))

-- of nothing past m, and of nothing at first
pub sum_past : (g : ℕ → ℕ) (m n : ℕ) → m ≤ n → ((k : ℕ) → m ≤ k → k < n → g k ≡ 0) → sum_of g n ≡ sum_of g m
unfolding sum_of
sum_past g m zero l none = let e : m ≡ 0 = omega arith in rw e
sum_past g m (suc n) l none =
    ⊎_elim
    (λ e. rw e)
    (λ b. let e = sum_past g m n (omega arith) (λ k a c. none k a (omega arith)) in let z = none n (omega arith) (le_refl _) in omega arith)
    (eq-or-lt_of_le l)

pub sum-after : (g : ℕ → ℕ) (n : ℕ) → g 0 ≡ 0 → sum_of g (suc n) ≡ sum_of (λ k. g (suc k)) n
unfolding sum_of
sum-after g zero e = omega arith
sum-after g (suc n) e = let r = sum-after g n e in omega arith

-- of one index alone
pub sum_one : (g : ℕ → ℕ) (n : ℕ) {k : ℕ} → k < n → ((j : ℕ) → j < n → (j ≡ k → ⊥) → g j ≡ 0) → sum_of g n ≡ g k
unfolding sum_of
sum_one g zero l none = absurd (not-suc-le-zero l)
sum_one g (suc n) {k} l none =
    ⊎_elim
    (λ q. rw q (let z = sum-none g n (λ j b. none j (omega arith) (λ (e : j ≡ k). omega arith)) in omega arith))
    (λ b. let r = sum_one g n b (λ j c. none j (omega arith)) in let z = none n (le_refl _) (λ (e : n ≡ k). omega arith) in omega arith)
    (eq-or-lt_of_le (le_of_suc-le-suc l))

sum-last : (g : ℕ → ℕ) (n : ℕ) → sum_of g (suc n) ≡ sum_of g n + g n
unfolding sum_of
sum-last g n = refl

sum-zero : (g : ℕ → ℕ) → sum_of g 0 ≡ 0
unfolding sum_of
sum-zero g = refl

-- IN ANOTHER ORDER: of sums, the inner for the outer
pub sum-swap : (g : ℕ → ℕ → ℕ) (n m : ℕ) → sum_of (λ i. sum_of (g i) m) n ≡ sum_of (λ c. sum_of (λ i. g i c) n) m
sum-swap g zero m = sum-zero _ ∙ sym (sum-none _ m (λ k l. sum-zero (λ i. g i k)))
sum-swap g (suc n) m =
    sum-last (λ i. sum_of (g i) m) n
    ∙ ap (λ (x : ℕ). x + sum_of (g n) m) (sum-swap g n m)
    ∙ sym (sum-plus (λ c. sum_of (λ i. g i c) n) (g n) m)
    ∙ sum_same _ _ m (λ c l. sym (sum-last (λ i. g i c) n))

-- BY PARTS, and by tens
pub sum-append : (g : ℕ → ℕ) (a b : ℕ) → sum_of g (a + b) ≡ sum_of g a + sum_of (λ j. g (a + j)) b
unfolding sum_of
sum-append g a zero = let e : a + 0 ≡ a = omega arith in rw e (omega arith)
sum-append g a (suc b) =
    let e : a + suc b ≡ suc (a + b) = omega arith in
    let r = sum-append g a b in
    ap (sum_of g) e ∙ omega arith

pub sum-tens : (g : ℕ → ℕ) (m : ℕ) → sum_of g (m * 10) ≡ sum_of (λ f. sum_of (λ u. g (f * 10 + u)) 10) m
unfolding sum_of
sum-tens g zero = refl
sum-tens g (suc m) =
    let e : suc m * 10 ≡ m * 10 + 10 = omega arith in
    ap (sum_of g) e ∙ sum-append g (m * 10) 10 ∙ ap (λ (x : ℕ). x + sum_of (λ j. g (m * 10 + j)) 10) (sum-tens g m)

-- BOUNDS
pub sum-most : (g : ℕ → ℕ) (n b : ℕ) → ((k : ℕ) → k < n → g k ≤ b) → sum_of g n ≤ n * b
unfolding sum_of
sum-most g zero b all = omega arith
sum-most g (suc n) b all =
    let r = sum-most g n b (λ k l. all k (omega arith)) in
    let h = all n (le_refl _) in
    let e : suc n * b ≡ n * b + b = omega arith in
    omega arith

-- A COUNT is a sum, and so is the total of a row
pub count-sum : (p : ℕ → Bool) (n : ℕ) → how_many p n ≡ sum_of (λ k. bit (p k)) n
unfolding how_many sum_of
count-sum p zero = refl
count-sum p (suc n) = ap (λ (x : ℕ). x + bit (p n)) (count-sum p n)

total-append : (xs ys : List ℕ) → total (xs ++ ys) ≡ total xs + total ys
unfolding total
total-append [] ys = omega arith
total-append (x ∷ xs) ys = let r = total-append xs ys in omega arith

pub total-row : (g : ℕ → ℕ) (n : ℕ) → total (row g n) ≡ sum_of g n
unfolding row sum_of total
total-row g zero = refl
total-row g (suc n) = let r = total-row g n in let s = total-append (row g n) (g n ∷ []) in omega arith
