-- The laws of references: tests of a name by cases, and searches over arrays carried to the columns that fill them.
-- Assumes nothing.
use Prim.Native.Nat.{ℕ, ◌<◌, ◌≤◌}
use mathlib.Core.Bool.{Bool, true, false, not, ◌&&◌}
use mathlib.Core.List.{List}
use mathlib.Core.Option.{none}
use mathlib.Core.Logic.{⊎_elim}
use mathlib.Core.Path.{◌≡◌, refl, sym, ap, ap₂, ◌∙◌}
use native.Mathlib.Omega.{arith}
use native.Mathlib.Decide.{ℕ_discrete}
use lib.Dec.{eqb}
use lib.ListN.{length, get_or}
use borrow.Author.Tests.{eq-eqb, ne_eqb}
use Rattle.laws.specs.Find.{first_index, any, names}
use Rattle.laws.proofs.FindLaws.{true-false, index-none, index-none-at, any_same, any-true, any_false, any-no}
use Rattle.index.specs.Keys.{listed, first_duplicate}
use Rattle.index.specs.Look.{Sought}
use Rattle.index.specs.declared.tally.Tally.{Tally}
use Rattle.std.specs.Prelude.{Option, Some, None}
use Rattle.index.proofs.OrderLaws.{less-or}
use Rattle.index.proofs.LookLaws.{sought-record, sought-yes, sought-none}
use Rattle.record.specs.declared.kind.Kind.TheVariants.{Catalogo}
use Rattle.record.specs.Table.{limit}
use Rattle.record.specs.Says.{Table}
use Rattle.record.specs.machinery.Columns.{Fills}
use Rattle.record.specs.Names.{name_at}
use Rattle.keys.specs.Rules.{dangles, typed_in, mistyped}
use Rattle.keys.specs.machinery.Cells.{OneMore}
use Rattle.keys.specs.machinery.Types.{Letters, typed_by, mistyped_by, is_missed}
use Rattle.keys.proofs.CellLaws.{one-as}

-- A NAME that dangles, where r is whether a record has it
module _ (key : ℕ → ℕ) (n x : ℕ) where
  pub dangles-missing : x ≡ 0 → dangles key n x ≡ false
  unfolding dangles
  dangles-missing e = rw (eq-eqb x 0 e)

  pub dangles-named : {r : Bool} → (x ≡ 0 → ⊥) → r ≡ names key n x → dangles key n x ≡ not r
  unfolding dangles
  dangles-named h e = rw (ne_eqb x 0 h, ← e)

-- names that are missing or known: none dangles
none-dangles : (key : ℕ → ℕ) (n : ℕ) (refs : List ℕ) (m : ℕ) → ((i : ℕ) → i < m → (get_or refs i 0 ≡ 0 → ⊥) → names key n (get_or refs i 0) ≡ true)
    → first_index (λ i. dangles key n (get_or refs i 0)) m ≡ none
none-dangles key n refs m known = index-none _ m (λ i l. go i l (ℕ_discrete (get_or refs i 0) 0))
  where
    go : (i : ℕ) → i < m → Dec (get_or refs i 0 ≡ 0) → dangles key n (get_or refs i 0) ≡ false
    go i l (yes e) = dangles-missing key n (get_or refs i 0) e
    go i l (no h) = dangles-named key n (get_or refs i 0) h (sym (known i l h))

-- A COLUMN in an array: a search reads the array as the column
module _ {l : List ℕ} {key : ℕ → ℕ} {m n : ℕ} (fills : Fills l key m n) where
  -- and so does a cell of a tally
  pub one-filled :
      {t r : Tally} {c : ℕ} (p q : ℕ → Bool) → ((x : ℕ) → p x ≡ q x) → OneMore t (λ i. p (get_or l i 0)) n c r → OneMore t (λ i. q (key i)) m c r
  one-filled p q same s = one-as fills.count (λ i u. same (get_or l i 0) ∙ ap q (fills.holds i u)) s

  pub fills-limit : n ≤ limit
  fills-limit = omega (arith, fills.count, fills.small)

  pub fills-room : n ≤ length l
  fills-room = omega (arith, fills.count, fills.small, fills.long)

  pub names-column : (x : ℕ) → names (listed l) n x ≡ names key m x
  names-column x = rw fills.count (any_same _ _ m (λ k u. rw (fills.holds k u)))

  pub dangles-filled : (x : ℕ) → dangles (listed l) n x ≡ dangles key m x
  unfolding dangles
  dangles-filled x = rw (names-column x)

  -- where there is nothing to be named, each name that is there dangles
  pub dangles-none : n ≡ 0 → (x : ℕ) → not (eqb x 0) ≡ dangles key m x
  unfolding dangles any
  dangles-none e x = let z : m ≡ 0 = sym fills.count ∙ e in rw z (alone (not (eqb x 0)))
    where
      alone : (b : Bool) → b ≡ (b && true)
      alone true = refl
      alone false = refl

-- KEYS THAT ARE APART: no two records have one
apart-one : (key : ℕ → ℕ) (n : ℕ) → first_duplicate key n ≡ none → {i j : ℕ} → i < j → j < n → key i ≡ key j → ⊥
apart-one key n d {i} {j} l u e =
    true-false (sym (eq-eqb (key i) (key j) e) ∙ any-no (λ r. eqb (key r) (key j)) j (index-none-at (λ r. names key r (key r)) n d u) l)

apart-two : (key : ℕ → ℕ) (n : ℕ) → first_duplicate key n ≡ none → {i j : ℕ} → i < n → j < n → (i ≡ j → ⊥) → key i ≡ key j → ⊥
apart-two key n d {i} {j} a b ne e = ⊎_elim (λ (l : i < j). apart-one key n d l b e) (λ (l : j ≤ i). apart-one key n d (omega (arith, l, ne)) a (sym e)) (less-or i j)

and_one : (t : Bool) → (t && true) ≡ t
and_one true = refl
and_one false = refl

pub and-false : (t : Bool) → (t && false) ≡ false
and-false true = refl
and-false false = refl

-- A NAME that was looked up dangles where it isn't missing and was not found
pub missed-dangles : (keys : List ℕ) (n x : ℕ) (f : Option ℕ) → Sought keys n x f → is_missed f x ≡ dangles (listed keys) n x
unfolding dangles
missed-dangles keys n x None s = rw (← sought-none keys n x s refl) (sym (and_one (not (eqb x 0))))
missed-dangles keys n x (Some j) s = rw (← sought-yes keys n x s refl) (sym (and-false (not (eqb x 0))))

-- A CODE of another type than the one wanted, by the columns of codes and letters, where f is what a look-up of the code says
module _ (keys letters : List ℕ) (n wanted x : ℕ) {f : Option ℕ} (s : Sought keys n x f) where
  pub mistyped-none : f ≡ None → false ≡ mistyped_by keys letters n wanted x
  unfolding mistyped_by
  mistyped-none e = rw (← sought-none keys n x s e)

  pub mistyped-found : {j : ℕ} → f ≡ Some j → mistyped_by keys letters n wanted x ≡ not (typed_by keys letters n wanted x)
  unfolding mistyped_by
  mistyped-found e = rw (← sought-yes keys n x s e)

  typed-found : {j : ℕ} → f ≡ Some j → get_or letters j 0 ≡ wanted → typed_by keys letters n wanted x ≡ true
  unfolding typed_by
  typed-found {j} e h =
      let r = sought-record keys n x s e in
      any-true _ _ r.0 (rw (eq-eqb (get_or keys j 0) x r.1, eq-eqb _ _ h))

  pub mistyped-typed : {j : ℕ} → f ≡ Some j → get_or letters j 0 ≡ wanted → false ≡ mistyped_by keys letters n wanted x
  mistyped-typed e h = rw (mistyped-found e, typed-found e h)

  -- where keys are apart, the record that is found is the only one with the code
  typed-only : {j : ℕ} → f ≡ Some j → first_duplicate (listed keys) n ≡ none → (get_or letters j 0 ≡ wanted → ⊥) → typed_by keys letters n wanted x ≡ false
  unfolding typed_by
  typed-only {j} e d h = any_false _ n (λ i u. go i u (ℕ_discrete i j))
    where
      go : (i : ℕ) → i < n → Dec (i ≡ j) → (eqb (get_or keys i 0) x && eqb (get_or letters i 0) wanted) ≡ false
      go i u (yes q) = rw (q, ne_eqb (get_or letters j 0) wanted h) (and-false (eqb (get_or keys j 0) x))
      go i u (no q) =
          let r = sought-record keys n x s e in
          rw (ne_eqb (get_or keys i 0) x (λ w. apart-two (listed keys) n d u r.0 q (w ∙ sym r.1)))

  pub mistyped-apart : {j : ℕ} → f ≡ Some j → first_duplicate (listed keys) n ≡ none → (get_or letters j 0 ≡ wanted → ⊥) → true ≡ mistyped_by keys letters n wanted x
  mistyped-apart e d h = rw (mistyped-found e, typed-only e d h)

-- and by the catalogue, which the columns are read of
module _ (cat : Table) {keys letters : List ℕ} {n : ℕ} (fills : Fills keys (λ j. name_at Catalogo cat j 1) cat.count n) (typed : Letters letters cat n) (wanted x : ℕ) where
  typed-column : typed_by keys letters n wanted x ≡ typed_in wanted cat x
  unfolding typed_by typed_in
  typed-column =
      ap (any (λ j. eqb (get_or keys j 0) x && eqb (get_or letters j 0) wanted)) fills.count
      ∙ any_same _ _ cat.count
      (λ j u. ap₂ (λ (a b : ℕ). eqb a x && eqb b wanted) (fills.holds j u) (typed.each j (omega (arith, fills.count))))

  pub mistyped-column : mistyped_by keys letters n wanted x ≡ mistyped wanted cat x
  unfolding mistyped_by mistyped
  mistyped-column = ap₂ (λ (a b : Bool). a && not b) (names-column fills x) typed-column
