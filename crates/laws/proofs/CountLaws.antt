-- The laws of counts (specs/Count.antt): of nothing, of one more, of two tests, of a rearrangement, and of the indices that are like
-- an earlier one.
-- Assumes nothing.
use Prim.Native.Nat.{ℕ, zero, suc, ◌+◌, ◌<◌, ◌≤◌}
use mathlib.Core.Bool.{Bool, true, false, not, ◌&&◌}
use mathlib.Core.Option.{Option, none, some}
use mathlib.Core.Path.{◌≡◌, refl, sym, ap, ap₂, ◌∙◌}
use mathlib.Core.Logic.{⊎_elim}
use native.Mathlib.Numerals.{add-one}
use native.Mathlib.Nat.{le_antisymm, le_of_suc-le-suc, not-suc-le-zero, eq-or-lt_of_le, le_refl}
use native.Mathlib.Omega.{arith}
use lib.Dec.{eqb}
use borrow.Author.Tests.{eqb-true, eq-eqb, ne_eqb}
use Rattle.laws.specs.Find.{first_index, or_end, any}
use Rattle.laws.specs.Count.{bit, how_many}
use Rattle.laws.proofs.FindLaws.{true-false, index-some-at, any_none, any-true, any_false, any_same}
use Rattle.laws.proofs.RowLaws.{and-true, true-and}
use Rattle.laws.proofs.Turns.{Turn}

-- what is not true
not-true : (t : Bool) → (t ≡ true → ⊥) → t ≡ false
not-true true h = absurd (h refl)
not-true false h = refl

bit-none : (t : Bool) → bit t ≡ 0 → t ≡ false
bit-none true e = absurd (let z : ◌≡◌ {A = ℕ} 1 0 = e in omega arith)
bit-none false e = refl

-- OF ONE MORE
pub count-more : (p : ℕ → Bool) (n : ℕ) → how_many p (n + 1) ≡ how_many p n + bit (p n)
unfolding how_many
count-more p n = rw add-one

-- at the end of a loop that counted up to i, which is n
pub count-end : (p : ℕ → Bool) {i n m : ℕ} → i ≤ n → n ≤ i → m ≡ how_many p i → m ≡ how_many p n
count-end p {i} {n} l u e = let q : i ≡ n = omega arith in rw q at e

-- it is at most all
pub bit-most : (t : Bool) → bit t ≤ 1
bit-most true = omega arith
bit-most false = omega arith

pub count_most : (p : ℕ → Bool) (n : ℕ) → how_many p n ≤ n
unfolding how_many
count_most p zero = omega arith
count_most p (suc n) = omega (arith, count_most p n, bit-most (p n))

-- OF NOTHING: a test that holds nowhere counts 0, and one that counts 0 holds nowhere
pub count_none : (p : ℕ → Bool) (n : ℕ) → ((k : ℕ) → k < n → p k ≡ false) → how_many p n ≡ 0
unfolding how_many
count_none p zero all = refl
count_none p (suc n) all = rw (count_none p n (λ k l. all k (omega arith)), all n (le_refl _))

pub count_no_lem : (p : ℕ → Bool) (n : ℕ) {k : ℕ} → how_many p n ≡ 0 → k < n → p k ≡ false
unfolding how_many
count_no_lem p zero e l = absurd (not-suc-le-zero l)
count_no_lem p (suc n) {k} e l =
    ⊎_elim
    (λ q. rw q (bit-none (p n) (omega arith)))
    (λ b. count_no_lem p n (omega arith) b)
    (eq-or-lt_of_le (le_of_suc-le-suc l))

-- of all
count-all : (n : ℕ) → how_many (λ k. true) n ≡ n
unfolding how_many
count-all zero = refl
count-all (suc n) = rw (count-all n, add-one)

-- OF TWO TESTS that agree below n,
pub count_same : (p q : ℕ → Bool) (n : ℕ) → ((k : ℕ) → k < n → p k ≡ q k) → how_many p n ≡ how_many q n
unfolding how_many
count_same p q zero same = refl
count_same p q (suc n) same = ap₂ (λ (x : ℕ) (t : Bool). x + bit t) (count_same p q n (λ k l. same k (omega arith))) (same n (omega arith))

-- and of two that exclude each other: where the one holds, the other does or does not
pub count-split : (p c : ℕ → Bool) (n : ℕ) → how_many p n ≡ how_many (λ k. p k && c k) n + how_many (λ k. p k && not (c k)) n
unfolding how_many
count-split p c zero = refl
count-split p c (suc n) =
    let here = parts (p n) (c n) in
    let before = count-split p c n in
    omega arith
  where
    parts : (s t : Bool) → bit s ≡ bit (s && t) + bit (s && not t)
    parts true true = refl
    parts true false = refl
    parts false t = refl

-- a test under a condition that is the same for all
pub count_under : (c : Bool) (p q : ℕ → Bool) (n : ℕ) → how_many p n ≡ how_many q n → how_many (λ k. c && p k) n ≡ how_many (λ k. c && q k) n
count_under true p q n e = e
count_under false p q n e = refl

-- OF A MAP that takes each index of the one test to one of the other, no two to the same
pub at_most :
    (p : ℕ → Bool) (n : ℕ) (q : ℕ → Bool) (m : ℕ) (g : ℕ → ℕ) → ((i : ℕ) → i < n → p i ≡ true → (g i < m) × (q (g i) ≡ true))
    → ((i j : ℕ) → i < j → j < n → p i ≡ true → p j ≡ true → g i ≡ g j → ⊥) → how_many p n ≤ how_many q m
unfolding how_many
at_most p zero q m g lands apart = omega arith
at_most p (suc n) q m g lands apart =
    go (p n) refl (λ r h. at_most p n r m g h (λ i j b l. apart i j b (omega arith)))
  where
    one_less : {a b c d : ℕ} → (a ≡ 0 → ⊥) → d ≡ a + b → c ≤ b → c + 1 ≤ d
    one_less ne e l = omega arith

    go :
        (t : Bool) → p n ≡ t
        → ((r : ℕ → Bool) → ((i : ℕ) → i < n → p i ≡ true → (g i < m) × (r (g i) ≡ true)) → how_many p n ≤ how_many r m)
        → how_many p n + bit t ≤ how_many q m
    go false e rec = let z = rec q (λ i l. lands i (omega arith)) in omega arith
    go true e rec =
        let x = lands n (le_refl _) e in
        let rest =
        rec (λ k. q k && not (eqb k (g n)))
        (λ i l h.
        let y = lands i (omega arith) h in
        (y.0, true-and (q (g i)) _ y.1 (ap not (ne_eqb (g i) (g n) (λ z. apart i n l (le_refl _) h e z))))) in
        let here : how_many (λ k. q k && eqb k (g n)) m ≡ 0 → ⊥ =
        λ z. true-false (sym (true-and (q (g n)) _ x.1 (eq-eqb (g n) (g n) refl)) ∙ count_no_lem (λ k. q k && eqb k (g n)) m z x.0) in
        one_less here (count-split q (λ k. eqb k (g n)) m) rest

-- OF A REARRANGEMENT
pub count_turn : {n : ℕ} (t : Turn n) (p q : ℕ → Bool) → ((j : ℕ) → j < n → q j ≡ p (t.to j)) → how_many q n ≡ how_many p n
count_turn {n} t p q same =
    le_antisymm
    (at_most q n p n t.to (λ i l e. (t.to-within i l, sym (same i l) ∙ e))
    (λ i j b l _ _ e. let z : i ≡ j = sym (t.from-to i (omega arith)) ∙ ap t.from e ∙ t.from-to j l in omega arith))
    (at_most p n q n t.from
    (λ i l e. (t.from-within i l, same (t.from i) (t.from-within i l) ∙ ap p (t.to-from i l) ∙ e))
    (λ i j b l _ _ e. let z : i ≡ j = sym (t.to-from i (omega arith)) ∙ ap t.to e ∙ t.to-from j l in omega arith))

-- ALIKE: each is like itself, and what is like another is like all that the other is like
pub record Alike (p : ℕ → ℕ → Bool) : Type 0 where
  pub itself : (i : ℕ) → p i i ≡ true
  pub swap : (i j : ℕ) → p i j ≡ true → p j i ≡ true
  pub chain : (i j k : ℕ) → p i j ≡ true → p j k ≡ true → p i k ≡ true

-- by a number of each,
pub alike-by : (key : ℕ → ℕ) → Alike (λ i j. eqb (key j) (key i))
alike-by key =
    record {
      itself = λ i. eq-eqb (key i) (key i) refl;
      swap = λ i j e. eq-eqb (key i) (key j) (sym (eqb-true (key j) (key i) e));
      chain = λ i j k e h. eq-eqb (key k) (key i) (eqb-true (key k) (key j) h ∙ eqb-true (key j) (key i) e);
    }

-- in both,
pub alike_both : {p q : ℕ → ℕ → Bool} → Alike p → Alike q → Alike (λ i j. p i j && q i j)
alike_both {p} {q} a b =
    record {
      itself = λ i. true-and (p i i) (q i i) (a.itself i) (b.itself i);
      swap = λ i j e. let w = and-true (p i j) (q i j) e in true-and (p j i) (q j i) (a.swap i j w.0) (b.swap i j w.1);
      chain =
          λ i j k e h.
          let w = and-true (p i j) (q i j) e in
          let v = and-true (p j k) (q j k) h in
          true-and (p i k) (q i k) (a.chain i j k w.0 v.0) (b.chain i j k w.1 v.1);
    }

-- and by what each is taken to
alike_at : {p : ℕ → ℕ → Bool} (g : ℕ → ℕ) → Alike p → Alike (λ i j. p (g i) (g j))
alike_at g a =
    record {
      itself = λ i. a.itself (g i);
      swap = λ i j. a.swap (g i) (g j);
      chain = λ i j k. a.chain (g i) (g j) (g k);
    }

-- like an earlier one
abbrev pub again : (ℕ → ℕ → Bool) → ℕ → Bool
again p i = any (p i) i

-- those that are like an earlier one and those that are not are all
again-or-first : (p : ℕ → ℕ → Bool) (n : ℕ) → n ≡ how_many (again p) n + how_many (λ i. not (again p i)) n
again-or-first p n = sym (count-all n) ∙ count-split (λ i. true) (again p) n

module _ {p : ℕ → ℕ → Bool} (a : Alike p) where
  -- the first that x is like
  leader : ℕ → ℕ
  leader x = or_end x (first_index (p x) x)

  leads : (x : ℕ) → (leader x ≤ x) × (p x (leader x) ≡ true) × (again p (leader x) ≡ false)
  unfolding leader
  leads x = go (first_index (p x) x) refl
    where
      go : (o : Option ℕ) → first_index (p x) x ≡ o → (or_end x o ≤ x) × (p x (or_end x o) ≡ true) × (again p (or_end x o) ≡ false)
      go none e = (le_refl _, a.itself x, any_none (p x) x e)
      go (some k) e =
          let w = index-some-at (p x) x e in
          (omega arith, w.1, any_false (p k) k (λ j l. not-true (p k j) (λ h. true-false (sym (a.chain x k j w.1 h) ∙ w.2 j l))))

  -- indices that are taken to others, and alike as these are, have no more first ones
  fewer : (q : ℕ → ℕ → Bool) (n : ℕ) (g : ℕ → ℕ) → ((i : ℕ) → i < n → g i < n) → ((i j : ℕ) → i < n → j < n → q i j ≡ p (g i) (g j))
      → how_many (λ i. not (again q i)) n ≤ how_many (λ i. not (again p i)) n
  fewer q n g within same =
      at_most (λ i. not (again q i)) n (λ i. not (again p i)) n (λ i. leader (g i))
      (λ i l _. let w = leads (g i) in let b = within i l in (omega arith, ap not w.2))
      (λ i j b l _ first e.
      let m : i < n = omega arith in
      let back = a.swap (g i) (leader (g i)) (leads (g i)).1 in
      let like = a.chain (g j) (leader (g j)) (g i) (leads (g j)).1 (rw (← e) back) in
      true-false (sym first ∙ ap not (any-true (q j) j b (same j i l m ∙ like))))

-- THE NUMBER of indices that are like an earlier one is the same in any order
pub again-turn :
    {n : ℕ} (t : Turn n) {p : ℕ → ℕ → Bool} (q : ℕ → ℕ → Bool) → Alike p → ((i j : ℕ) → i < n → j < n → q i j ≡ p (t.to i) (t.to j))
    → how_many (again q) n ≡ how_many (again p) n
again-turn {n} t {p} q a same =
    let turned : ℕ → ℕ → Bool = λ i j. p (t.to i) (t.to j) in
    let few = fewer a turned n t.to t.to-within (λ i j _ _. refl) in
    let many = fewer (alike_at t.to a) p n t.from t.from-within (λ i j l m. sym (ap₂ p (t.to-from i l) (t.to-from j m))) in
    let one = again-or-first turned n in
    let other = again-or-first p n in
    count_same (again q) (again turned) n (λ i l. any_same (q i) (turned i) i (λ j b. same i j l (omega arith))) ∙ omega arith
