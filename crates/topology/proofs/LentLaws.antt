-- The laws of columns in lent arrays (specs/machinery/Lent.antt): how they are filled, and that what is looked up in the array is said of the
-- column.
-- Assumes nothing.
use Prim.Native.Nat.{ℕ, ◌<◌, ◌≤◌}
use mathlib.Core.Bool.{Bool, true, false, ◌&&◌}
use mathlib.Core.List.{List, ◌++◌}
use mathlib.Core.Option.{none}
use mathlib.Core.Path.{◌≡◌, refl, sym, ◌∙◌}
use mathlib.Core.Logic.{⊎_elim}
use native.Mathlib.Omega.{arith}
use lib.Dec.{eqb}
use lib.ListN.{length, take, drop, replicate, get_or-append, length-replicate}
use Rattle.std.proofs.lemmas.List.{get_or-replicate, length-take}
use borrow.Author.Tests.{eqb-true, eqb-false, eq-eqb}
use Rattle.laws.specs.Find.{any, names}
use Rattle.laws.proofs.FindLaws.{any_same, any-true, any_false, any-no, index-none-at}
use Rattle.index.specs.Keys.{listed, first_duplicate}
use Rattle.index.specs.Look.{Sought}
use Rattle.std.specs.Prelude.{Option, Some, None}
use Rattle.index.proofs.OrderLaws.{less-or}
use Rattle.index.proofs.LookLaws.{sought-record, sought-none}
use Rattle.record.specs.machinery.Columns.{Fills}
use Rattle.topology.specs.machinery.Lent.{Holds}

-- the first n filled with one number
pub holds-filled : (before : List ℕ) {out : List ℕ} {x n : ℕ} → n ≤ length before → out ≡ replicate (length (take n before)) x → Holds (out ++ drop n before) (λ i. x) n
holds-filled before {out} {x} {n} room e =
    record {
      each =
          λ i l.
          let u : i < length (take n before) = omega (arith, length-take n before) in
          rw e (get_or-append (replicate (length (take n before)) x) (drop n before) 0 i (omega (arith, length-replicate (length (take n before)) x)) ∙ get_or-replicate _ i x 0 u);
    }

-- NUMBERS APART: two records with one number are one
pub one-record : (key : ℕ → ℕ) (n : ℕ) → first_duplicate key n ≡ none → (a b : ℕ) → a < n → b < n → key a ≡ key b → a ≡ b
one-record key n d a b la lb e =
    ⊎_elim
    (λ (l : a < b). absurd (earlier a b l lb e))
    (λ (u : b ≤ a). ⊎_elim (λ (l : b < a). absurd (earlier b a l la (sym e))) (λ (v : a ≤ b). omega arith) (less-or b a))
    (less-or a b)
  where
    earlier : (a b : ℕ) → a < b → b < n → key a ≡ key b → ⊥
    earlier a b l lb e =
        eqb-false (key a) (key b) (any-no (λ k. eqb (key k) (key b)) b (index-none-at (λ r. names key r (key r)) n d lb) l) e

module _ {l : List ℕ} {key : ℕ → ℕ} {m n : ℕ} (lent : Fills l key m n) where
  -- A SEARCH reads the array as the column
  pub names-lent : (x : ℕ) → names (listed l) n x ≡ names key m x
  names-lent x = rw lent.count (any_same _ _ m (λ k u. rw (lent.holds k u)))

  -- A LOOK-UP of the number x, f its answer
  module _ (x : ℕ) {f : Option ℕ} (s : Sought l n x f) where
    -- the record found: of the file, and it has the number
    pub lent_at : {j : ℕ} → f ≡ Some j → (j < m) × (key j ≡ x)
    lent_at {j} e =
        let r = sought-record l n x s e in
        let u : j < m = omega (arith, lent.count) in
        (u, sym (lent.holds j u) ∙ r.1)

    -- where nothing is found none has it
    lent-no : f ≡ None → any (λ j. eqb (key j) x) m ≡ false
    lent-no e = sym (names-lent x) ∙ sym (sought-none l n x s e)

    -- a test of the records that have the number
    module _ (p : ℕ → Bool) where
      pub lent_none : f ≡ None → false ≡ any (λ j. eqb (key j) x && p j) m
      lent_none e = sym (any_false _ m (λ j u. rw (any-no _ m (lent-no e) u)))

      pub lent-here : {j : ℕ} → f ≡ Some j → p j ≡ true → true ≡ any (λ j. eqb (key j) x && p j) m
      lent-here {j} e h =
          let r = lent_at e in
          sym (any-true _ m r.0 (rw (eq-eqb (key j) x r.1) h))

      -- where no two numbers are equal, the record found is the only one that has it
      pub lent-apart : {j : ℕ} → first_duplicate (listed l) n ≡ none → f ≡ Some j → p j ≡ false → false ≡ any (λ j. eqb (key j) x && p j) m
      lent-apart {j} d e h =
          let r = sought-record l n x s e in
          sym (any_false _ m (λ k u. go k (eqb (key k) x) refl (λ q. one-record (listed l) n d k j (omega (arith, lent.count)) r.0 (lent.holds k u ∙ q ∙ sym r.1))))
        where
          go : (k : ℕ) (t : Bool) → eqb (key k) x ≡ t → (key k ≡ x → k ≡ j) → (t && p k) ≡ false
          go k true q same = rw (same (eqb-true (key k) x q)) h
          go k false q same = refl
