-- What a group's finding on a file means in terms of its tests and the order of places alone, and what the first finding of the
-- files says of each file; the thirties and forties among them.
-- Assumes nothing.
use Prim.Native.Nat.{ℕ, zero, suc, ◌+◌, ◌-◌, ◌*◌, ◌/◌, ◌%◌, ◌<◌, ◌≤◌}
use mathlib.Core.Bool.{Bool, true, false, not}
use mathlib.Core.List.{[], ◌∷◌}
use mathlib.Core.Option.{Option, none, some}
use mathlib.Core.Path.{◌≡◌, refl, sym, ap, subst, ◌∙◌}
use mathlib.Core.Logic.{⊎_elim}
use native.Mathlib.Omega.{arith}
use lib.Dec.{eqb}
use lib.ListN.{get_or}
use borrow.Author.Tests.{leb-true, le-leb, eqb-true, not-false}
use Rattle.laws.specs.Find.{first_of, first_index, any}
use Rattle.laws.specs.Nest.{before}
use Rattle.laws.proofs.NestLaws.{before_split}
use Rattle.laws.proofs.FindLaws.{true-false, some-none, none-at, some_at, any-no}
use Rattle.laws.proofs.RowLaws.{and-true, true-and}
use Rattle.record.specs.declared.kind.Kind.{Kind}
use Rattle.record.specs.Table.{Which}
use Rattle.std.specs.Prelude.{None, Some}
use Rattle.record.specs.declared.reason.Reason.TheVariants.{LongFile10}
use Rattle.record.specs.declared.reason.Break.{Break}
use Rattle.record.specs.Breaks.{Finding}
use Rattle.std.specs.Prelude.{Ok, Err}
use Rattle.record.specs.Table.{fields_of, file_of, which_of, file_count}
use Rattle.record.specs.Breaks.{number_of, finding_of}
use Rattle.record.proofs.Claims.{MeansBy}
use Rattle.record.proofs.TableLaws.{sane, which-file}
use Rattle.record.specs.Files.{Delivery}
use Rattle.keys.specs.Rules.{key_tests, key_reasons}
use Rattle.keys.specs.machinery.Findings.{keys_in, keys_broken}
use Rattle.keys.specs.machinery.Groups.{Tests, Reasons, cells_of, group_finding, broken_by, break_in, at_file, over_files}
use Rattle.keys.specs.machinery.Cells.{cell_test}
use Rattle.keys.proofs.CellLaws.{Clear, Least, first_cell, none-cells, some-cells, cell_answer, group-is}

before-none : before [] [] ≡ true → ⊥
unfolding before
before-none e = true-false (sym e)

-- one record's fields and reasons
cell-before : (f n f' n' : ℕ) → n / 10 ≡ n' / 10 → before (f ∷ n ∷ []) (f' ∷ n' ∷ []) ≡ true → f * 10 + n % 10 < f' * 10 + n' % 10
cell-before f n f' n' e l =
    ⊎_elim
    (λ h. omega arith)
    (λ h. ⊎_elim (λ u. omega (arith, h.0)) (λ u. absurd (before-none u.1)) (before_split n n' [] [] h.1))
    (before_split f f' (n ∷ []) (n' ∷ []) l)

-- A GROUP: each reason whose test holds has its number in the ten t
module _ (t : ℕ) (tests : ℕ → Tests) (reasons : Reasons) (k : Kind) (m : ℕ) where
  abbrev pub Numbered : Type 0
  Numbered = (i f u : ℕ) → u < 10 → get_or (tests t i f) u false ≡ true → number_of (get_or (reasons i f) u LongFile10) ≡ t * 10 + u

  -- a reason that is broken is a cell's test that holds
  broken-cell : (n i f : ℕ) → n / 10 ≡ t → broken_by tests k m n i f ≡ true
      → (1 ≤ i) × (i ≤ m) × (f * 10 + n % 10 < cells_of k) × (cell_test (tests t) (i - 1) (f * 10 + n % 10) ≡ true)
  unfolding broken_by cell_test
  broken-cell n i f q e =
      let x : (f * 10 + n % 10) / 10 ≡ f = omega arith in
      let y : (f * 10 + n % 10) % 10 ≡ n % 10 = omega arith in
      let c = and-true _ _ e in
      let b = and-true _ _ c.0 in
      let a = and-true _ _ b.0 in
      let l = leb-true f (fields_of k) b.1 in
      (leb-true _ _ a.0, leb-true _ _ a.1, omega arith, rw (x, y, ← q) c.1)

  cell-broken : (n i c : ℕ) → n ≡ t * 10 + c % 10 → i < m → c < cells_of k → cell_test (tests t) i c ≡ true
      → broken_by tests k m n (i + 1) (c / 10) ≡ true
  unfolding broken_by cell_test
  cell-broken n i c e l u h =
      let x : n / 10 ≡ t = omega arith in
      let y : n % 10 ≡ c % 10 = omega arith in
      let z : i + 1 - 1 ≡ i = omega arith in
      true-and _ _
      (true-and _ _ (true-and _ _ (le-leb 1 (i + 1) (omega arith)) (le-leb (i + 1) m (omega arith))) (le-leb (c / 10) (fields_of k) (omega arith)))
      (rw (x, y, z) h)

  -- nothing is broken
  group-clear : Clear (cell_test (tests t)) m (cells_of k) → MeansBy (broken_by tests k m) t k (Ok tt)
  unfolding MeansBy
  group-clear clear n i f q = go (broken_by tests k m n i f) refl
    where
      go : (b : Bool) → broken_by tests k m n i f ≡ b → b ≡ false
      go true e =
          let w = broken-cell n i f q e in
          absurd (true-false (sym w.3 ∙ clear (i - 1) (f * 10 + n % 10) (omega (arith, w.0, w.1)) w.2))
      go false e = refl

  -- the first that is
  group-least : Numbered → (i c : ℕ) → Least (cell_test (tests t)) m (cells_of k) i c
      → MeansBy (broken_by tests k m) t k (Err (cell_answer reasons k i c))
  unfolding MeansBy cell_test cell_answer
  group-least numbered i c s =
      let number = number_of (get_or (reasons i (c / 10)) (c % 10) LongFile10) in
      let e : number ≡ t * 10 + c % 10 = numbered i (c / 10) (c % 10) (omega arith) s.holds in (
        omega arith,
        refl,
        cell-broken number i c e s.row s.cell s.holds,
        λ n i' f' q here l. least n i' f' number q e (broken-cell n i' f' q here) l,
      )
    where
      least : (n i' f' number : ℕ) → n / 10 ≡ t → number ≡ t * 10 + c % 10
          → (1 ≤ i') × (i' ≤ m) × (f' * 10 + n % 10 < cells_of k) × (cell_test (tests t) (i' - 1) (f' * 10 + n % 10) ≡ true)
          → before (i' ∷ f' ∷ n ∷ []) ((i + 1) ∷ (c / 10) ∷ number ∷ []) ≡ true → ⊥
      least n i' f' number q e w l =
          ⊎_elim
          (λ h. true-false (sym w.3 ∙ s.above (i' - 1) (f' * 10 + n % 10) (omega (arith, w.0)) w.2))
          (λ h.
          let x : i' - 1 ≡ i = omega (arith, h.0) in
          let y = cell-before f' n (c / 10) number (omega arith) h.1 in
          true-false (sym (rw x at w.3) ∙ s.left (f' * 10 + n % 10) (omega arith)))
          (before_split i' (i + 1) (f' ∷ n ∷ []) ((c / 10) ∷ number ∷ []) l)

  pub group-means : Numbered → MeansBy (broken_by tests k m) t k (group_finding (tests t) reasons k m)
  group-means numbered = rw group-is (go (first_cell (cell_test (tests t)) (cell_answer reasons k) m (cells_of k)) refl)
    where
      go : (o : Option Break) → first_cell (cell_test (tests t)) (cell_answer reasons k) m (cells_of k) ≡ o
          → MeansBy (broken_by tests k m) t k (finding_of o)
      go none e = group-clear (none-cells (cell_test (tests t)) (cell_answer reasons k) m (cells_of k) e)
      go (some b) e =
          let r = some-cells (cell_test (tests t)) (cell_answer reasons k) m (cells_of k) e in
          subst (λ (x : Break). MeansBy (broken_by tests k m) t k (Err x)) r.3 (group-least numbered r.0 r.1 r.2)

-- THE THIRTIES AND FORTIES; no other ten has a test
pub key-numbered : (t : ℕ) (d : Delivery) (k : Kind) → Numbered t (λ t'. key_tests t' d k) (key_reasons t d k) k (d k).count
unfolding key_tests key_reasons
key-numbered zero d k i f u l e = absurd (true-false (sym e))
key-numbered (suc zero) d k i f u l e = absurd (true-false (sym e))
key-numbered (suc (suc zero)) d k i f u l e = absurd (true-false (sym e))
key-numbered (suc (suc (suc zero))) d k i f zero l e = refl
key-numbered (suc (suc (suc zero))) d k i f (suc u) l e = absurd (true-false (sym e))
key-numbered (suc (suc (suc (suc zero)))) d k i f zero l e = refl
key-numbered (suc (suc (suc (suc zero)))) d k i f (suc zero) l e = refl
key-numbered (suc (suc (suc (suc zero)))) d k i f (suc (suc u)) l e = absurd (true-false (sym e))
key-numbered (suc (suc (suc (suc (suc t))))) d k i f u l e = absurd (true-false (sym e))

pub keys-means : (t : ℕ) (d : Delivery) (k : Kind) → MeansBy (keys_broken d k) t k (keys_in t d k)
unfolding keys_in keys_broken
keys-means t d k = group-means t (λ t'. key_tests t' d k) (key_reasons t d k) k (d k).count (key-numbered t d k)

-- OVER THE FILES
file_in : Which → ℕ
file_in None = 0
file_in (Some k) = file_of k

file-which-all : any (λ n. not (eqb (file_in (which_of n)) n)) (file_count + 1) ≡ false
unfolding which_of any first_index first_of file_in
file-which-all = refl

file-which : (n : ℕ) → n < file_count + 1 → file_in (which_of n) ≡ n
file-which n l = eqb-true _ _ (not-false _ (any-no _ (file_count + 1) file-which-all l))

pub break-none : (v : Finding) → break_in v ≡ none → v ≡ Ok tt
break-none (Ok u) e = refl
break-none (Err b) e = absurd (some-none e)

pub break-some : (v : Finding) {b : Break} → break_in v ≡ some b → v ≡ Err b
break-some (Ok u) e = absurd (some-none (sym e))
break-some (Err b) e = cc

finding-none : (o : Option Break) → finding_of o ≡ Ok tt → o ≡ none
finding-none none e = refl
finding-none (some b) e = let z : ◌≡◌ {A = ℕ} 0 1 = cc in absurd (omega arith)

pub finding-some : (o : Option Break) {b : Break} → finding_of o ≡ Err b → o ≡ some b
finding-some none e = let z : ◌≡◌ {A = ℕ} 0 1 = cc in absurd (omega arith)
finding-some (some b) e = cc

module _ (g : Kind → Finding) where
  at_own : (k : Kind) → break_in (at_file g (which_of (file_of k))) ≡ break_in (g k)
  at_own k = rw which-file

  pub over-fine : over_files g ≡ Ok tt → (k : Kind) → g k ≡ Ok tt
  unfolding over_files
  over-fine e k = break-none (g k) (sym (at_own k) ∙ none-at _ (file_count + 1) (finding-none _ e) (omega (arith, sane k)))

  in-file : {b : Break} (n : ℕ) (w : Which) → which_of n ≡ w → n < file_count + 1 → break_in (at_file g w) ≡ some b → (k : Kind) × (file_of k ≡ n) × (g k ≡ Err b)
  unfolding file_in
  in-file n None q l e = absurd (some-none (sym e))
  in-file n (Some k) q l e = (k, sym (ap file_in q) ∙ file-which n l, break-some (g k) e)

  pub over-broken : {b : Break} → over_files g ≡ Err b → (k : Kind) × (g k ≡ Err b) × ((k' : Kind) → file_of k' < file_of k → g k' ≡ Ok tt)
  unfolding over_files
  over-broken {b} e =
      let r = some_at _ (file_count + 1) (finding-some _ e) in
      let w = in-file r.0 (which_of r.0) refl r.1 r.2 in
      (w.0, w.2, λ k' l. break-none (g k') (sym (at_own k') ∙ none-at _ r.0 r.3 (omega (arith, w.1))))
