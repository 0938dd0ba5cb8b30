-- The verdict's finding, the first of all breaks, is what the code's search finds; it means what specs/Broken.antt says, in terms of the
-- rules' tests and the order of places alone, and no other finding does.
-- Assumes nothing.
use Prim.Native.Nat.{ℕ, zero, suc, ◌+◌, ◌*◌, ◌/◌, ◌%◌, ◌<◌, ◌≤◌, min}
use mathlib.Core.Bool.{Bool, true, false, not, ◌&&◌}
use mathlib.Core.List.{List, [], ◌∷◌}
use mathlib.Core.Option.{Option, none, some}
use mathlib.Core.Path.{◌≡◌, refl, sym, ap, ap₂, subst, ◌∙◌}
use mathlib.Core.Logic.{⊎_elim}
use native.Mathlib.Nat.{mod-lt}
use native.Mathlib.Omega.{arith}
use lib.Dec.{leb, eqb}
use lib.ListN.{get_or}
use borrow.Author.Tests.{leb-true, lt-ltb, le-ltb, eqb-true, eq-eqb, not-false}
use Rattle.laws.specs.Find.{any}
use Rattle.laws.specs.Nest.{run, before}
use Rattle.laws.specs.Row.{pick}
use Rattle.laws.proofs.FindLaws.{true-false, some-none, hit-some, any-no}
use Rattle.laws.proofs.NestLaws.{at, at-within, at-node, at_leaf, run_none, run-some, before_split, before-total}
use Rattle.laws.proofs.GridLaws.{at_here, before-under, before-one, one-before}
use Rattle.laws.proofs.RowLaws.{and-true}
use Rattle.record.specs.declared.kind.Kind.{Kind}
use Rattle.record.specs.Table.{Which}
use Rattle.std.specs.Prelude.{None, Some}
use Rattle.record.specs.declared.reason.Reason.{Reason}
use Rattle.record.specs.declared.reason.Break.{Break}
use Rattle.record.specs.Breaks.{Finding}
use Rattle.std.specs.Prelude.{Ok, Err}
use Rattle.record.specs.Table.{fields_of, file_of, file_count, which_of, on_file}
use Rattle.record.specs.Cut.{count_of}
use Rattle.record.specs.Files.{Files, delivery_of}
use Rattle.record.specs.Breaks.{number_of, break_of, finding_of, shape_tests, tests_at, broken}
use Rattle.record.proofs.TableLaws.{sane, file-same, which-file}
use Rattle.keys.specs.machinery.Groups.{broken_by}
use Rattle.keys.specs.Rules.{key_tests}
use Rattle.keys.specs.machinery.Findings.{keys_broken}
use Rattle.fifties.specs.machinery.Findings.{topology_broken}
use Rattle.objects.specs.machinery.Findings.{objects_broken}
use Rattle.judge.specs.declared.judge.Verdict.{Verdict}
use Rattle.judge.specs.Broken.{last_ten, is_there, said_tests, tests_of, reason_of, holds, breaks_in, at_which, breaks_of, breaks, place_at, First, Finds, Judges, counts_of}
use Rattle.judge.specs.Verdict.{judged, verdict_of}
use Rattle.judge.specs.machinery.Searched.{searched, broken_in}
use Rattle.judge.proofs.SaidLaws.{under-pick, and_none}
use Rattle.judge.proofs.Plain.{LeastBroken, FoundFirst, found_first}

-- A TEST holds exactly where its crate says that it is broken
module _ (files : Files) (n : ℕ) (k : Kind) (i f : ℕ) where
  holds-in : (t : ℕ) → n / 10 ≡ t → get_or (tests_of files t k i f) (n % 10) false ≡ broken_in files n k i f
  unfolding tests_of said_tests broken_in broken tests_at keys_broken topology_broken objects_broken broken_by key_tests
  holds-in zero e = rw e
  holds-in (suc zero) e = rw e
  holds-in (suc (suc zero)) e = rw e
  holds-in (suc (suc (suc zero))) e = rw (e, under-pick)
  holds-in (suc (suc (suc (suc zero)))) e = rw (e, under-pick)
  holds-in (suc (suc (suc (suc (suc zero))))) e = rw (e, under-pick)
  holds-in (suc (suc (suc (suc (suc (suc zero)))))) e = rw (e, under-pick) (and_none (is_there (delivery_of files k).count k i f))
  holds-in (suc (suc (suc (suc (suc (suc (suc zero))))))) e = rw (e, under-pick)
  holds-in (suc (suc (suc (suc (suc (suc (suc (suc t)))))))) e = rw (e, under-pick) (and_none (is_there (delivery_of files k).count k i f))

  pub holds-is : holds files n k i f ≡ broken_in files n k i f
  unfolding holds
  holds-is = holds-in (n / 10) refl

-- A FILE'S NUMBER is that of the kind which it gives
numbers-all : any (λ m. not (eqb (on_file file_of (which_of m)) m)) (file_count + 1) ≡ false
unfolding any which_of on_file
numbers-all = refl

which-number : (m : ℕ) (k : Kind) → m < file_count + 1 → which_of m ≡ Some k → file_of k ≡ m
unfolding on_file
which-number m k l e =
    let h = eqb-true _ m (not-false _ (any-no (λ m. not (eqb (on_file file_of (which_of m)) m)) (file_count + 1) numbers-all l)) in
    rw e at h

-- WHERE A TEST HOLDS, its place is one of the delivery's
min-under : (a b : ℕ) → min a b ≤ b
min-under a b = omega arith

module _ (files : Files) (k : Kind) (i f u : ℕ) where
  there-within : (count : ℕ) → count ≤ count_of (files k) k → (xs : List Bool) → get_or (pick (is_there count k i f) xs []) u false ≡ true
      → (i < count_of (files k) k + 2) × (f < fields_of k + 1)
  there-within count l xs e =
      let a = (and-true (is_there count k i f) (get_or xs u false) (sym (under-pick (is_there count k i f) xs u) ∙ e)).0 in
      let b = and-true (leb 1 i && leb i count) (leb f (fields_of k)) a in
      let c = and-true (leb 1 i) (leb i count) b.0 in
      (omega (arith, leb-true i count c.1), omega (arith, leb-true f (fields_of k) b.1))

  shape-within : (v : ℕ) → get_or (shape_tests (files k) k i) v false ≡ true → i < count_of (files k) k + 2
  shape-within zero e = let h = eqb-true i 0 (and-true (eqb i 0) _ e).0 in omega arith
  shape-within (suc zero) e = let h = eqb-true i (count_of (files k) k + 1) (and-true (eqb i (count_of (files k) k + 1)) _ e).0 in omega arith
  shape-within (suc (suc v)) e = absurd (true-false (sym e))

  none_within : {A : Type 0} → get_or (pick (is_there (delivery_of files k).count k i f) [] []) u false ≡ true → A
  none_within e =
      absurd (true-false (sym e ∙ under-pick (is_there (delivery_of files k).count k i f) [] u ∙ and_none (is_there (delivery_of files k).count k i f)))

  within : (t : ℕ) → get_or (tests_of files t k i f) u false ≡ true → (t < last_ten + 1) × (i < count_of (files k) k + 2) × (f < fields_of k + 1)
  unfolding tests_of said_tests
  within zero e = absurd (true-false (sym e))
  within (suc zero) e =
      let h = and-true (eqb f 0) (get_or (shape_tests (files k) k i) u false) (sym (under-pick (eqb f 0) _ u) ∙ e) in
      let z = eqb-true f 0 h.0 in
      (omega arith, shape-within u h.1, omega arith)
  within (suc (suc zero)) e = let h = there-within (count_of (files k) k) (omega arith) _ e in (omega arith, h.0, h.1)
  within (suc (suc (suc zero))) e = let h = there-within (delivery_of files k).count (min-under _ _) _ e in (omega arith, h.0, h.1)
  within (suc (suc (suc (suc zero)))) e = let h = there-within (delivery_of files k).count (min-under _ _) _ e in (omega arith, h.0, h.1)
  within (suc (suc (suc (suc (suc zero))))) e = let h = there-within (delivery_of files k).count (min-under _ _) _ e in (omega arith, h.0, h.1)
  within (suc (suc (suc (suc (suc (suc zero)))))) e = none_within e
  within (suc (suc (suc (suc (suc (suc (suc zero))))))) e = let h = there-within (delivery_of files k).count (min-under _ _) _ e in (omega arith, h.0, h.1)
  within (suc (suc (suc (suc (suc (suc (suc (suc t)))))))) e = none_within e

-- THE BREAKS of a delivery: what stands at a place is a break whose test holds,
pub record Stands (files : Files) (p : List ℕ) (b : Break) : Type 0 where
  pub n : ℕ
  pub k : Kind
  pub i : ℕ
  pub f : ℕ
  pub place : p ≡ n / 10 ∷ file_of k ∷ i ∷ f ∷ n % 10 ∷ []
  pub here : holds files n k i f ≡ true
  pub is : break_of (reason_of files n k i f) k i f ≡ b

unbroken : (t : Bool) → (t ≡ true → ⊥) → t ≡ false
unbroken true h = absurd (h refl)
unbroken false h = refl

told-place : {b : Break} {r : Reason} (n : ℕ) (k : Kind) (i f : ℕ) → number_of b.reason ≡ n → b ≡ break_of r k i f
    → number_of b.reason / 10 ∷ b.file ∷ b.«record» ∷ b.field ∷ number_of b.reason ∷ [] ≡ place_at n k i f
told-place {b} {r} n k i f e s =
    let a : b.file ≡ file_of k = ap (λ (x : Break). x.file) s in
    let c : b.«record» ≡ i = ap (λ (x : Break). x.«record») s in
    let d : b.field ≡ f = ap (λ (x : Break). x.field) s in
    rw (e, a, c, d) refl

lt-before : (x y : ℕ) (p q : List ℕ) → x < y → before (x ∷ p) (y ∷ q) ≡ true
unfolding before
lt-before x y p q l = rw (lt-ltb x y l, before)

same-before : (x y : ℕ) (p q : List ℕ) → x ≡ y → before p q ≡ true → before (x ∷ p) (y ∷ q) ≡ true
unfolding before
same-before x y p q e h = rw (le-ltb x y (omega arith), eq-eqb x y e, before) h

same_place_lem : {t t' m m' u u' : ℕ} (i f : ℕ) → t ≡ t' → m ≡ m' → u ≡ u' → t ∷ m ∷ i ∷ f ∷ u ∷ [] ≡ t' ∷ m' ∷ i ∷ f ∷ u' ∷ []
same_place_lem i f a b c = rw (a, b, c) refl

module _ (files : Files) where
  stands-in : (t m : ℕ) (k : Kind) (p q : List ℕ) {b : Break} → p ≡ t ∷ m ∷ q → file_of k ≡ m → at (breaks_in files t k) q ≡ some b → Stands files p b
  unfolding breaks_in holds
  stands-in t m k p q {b} e s h =
      let x = at-node _ _ q h in
      let y = at-node _ _ x.1 x.4 in
      let z = at-node _ _ y.1 y.4 in
      let w = at_leaf _ z.1 z.4 in
      let i = x.0 in
      let f = y.0 in
      let u = z.0 in
      let g = hit-some (get_or (tests_of files t k i f) u false) (break_of (reason_of files (t * 10 + u) k i f) k i f) b w.1 in
      let tens : (t * 10 + u) / 10 ≡ t = omega (arith, z.3) in
      let digit : (t * 10 + u) % 10 ≡ u = omega (arith, z.3) in
      record {
        n = t * 10 + u;
        k = k;
        i = i;
        f = f;
        place =
            e
            ∙ ap (λ (r : List ℕ). t ∷ m ∷ r) (x.2 ∙ ap (λ (r : List ℕ). i ∷ r) (y.2 ∙ ap (λ (r : List ℕ). f ∷ r) (z.2 ∙ ap (λ (r : List ℕ). u ∷ r) w.0)))
            ∙ same_place_lem i f (sym tens) (sym s) (sym digit);
        here = rw (tens, digit) g.0;
        is = g.1;
      }

  pub stands : (p : List ℕ) (b : Break) → at (breaks files) p ≡ some b → Stands files p b
  unfolding breaks breaks_of
  stands p b e =
      let x = at-node _ _ p e in
      let y = at-node _ _ x.1 x.4 in
      go x.0 y.0 y.1 (x.2 ∙ ap (λ (r : List ℕ). x.0 ∷ r) y.2) y.3 (which_of y.0) refl y.4
    where
      go : (t m : ℕ) (q : List ℕ) → p ≡ t ∷ m ∷ q → m < file_count + 1 → (w : Which) → which_of m ≡ w → at (at_which (breaks_in files t) w) q ≡ some b → Stands files p b
      go t m q h l None s a = absurd (some-none (sym (at_leaf none q a).1))
      go t m q h l (Some k) s a = stands-in t m k p q h (which-number m k l s) a

  -- and every such break stands at its place
  pub stood : (n : ℕ) (k : Kind) (i f : ℕ) → holds files n k i f ≡ true
      → at (breaks files) (n / 10 ∷ file_of k ∷ i ∷ f ∷ n % 10 ∷ []) ≡ some (break_of (reason_of files n k i f) k i f)
  unfolding breaks breaks_of breaks_in holds
  stood n k i f e =
      let w = within files k i f (n % 10) (n / 10) e in
      let all : n / 10 * 10 + n % 10 ≡ n = omega arith in
      at-within _ _ (n / 10) _ w.0
      ∙ at-within _ _ (file_of k) _ (omega (arith, sane k))
      ∙ ap (λ (x : Which). at (at_which (breaks_in files (n / 10)) x) (i ∷ f ∷ n % 10 ∷ [])) (which-file k)
      ∙ at-within _ _ i _ w.1
      ∙ at-within _ _ f _ w.2
      ∙ at-within _ _ (n % 10) _ (mod-lt n (omega arith))
      ∙ at_here _
      ∙ rw (e, all)

  -- the order of places is that of the numbers
  digit-before : (n n' : ℕ) (k k' : Kind) (i f i' f' : ℕ)
      → before (n' / 10 ∷ file_of k' ∷ i' ∷ f' ∷ n' % 10 ∷ []) (n / 10 ∷ file_of k ∷ i ∷ f ∷ n % 10 ∷ []) ≡ true
      → before (place_at n' k' i' f') (place_at n k i f) ≡ true
  digit-before n n' k k' i f i' f' l =
      ⊎_elim
      (λ x. lt-before (n' / 10) (n / 10) _ _ x)
      (λ x. same-before (n' / 10) (n / 10) _ _ x.0
      (before-under (file_of k') (file_of k) _ _ _ _
      (before-under i' i _ _ _ _
      (before-under f' f _ _ _ _ (λ h. one-before n' n (let d = before-one (n' % 10) (n % 10) h in let e = x.0 in omega arith)))) x.1))
      (before_split (n' / 10) (n / 10) _ _ l)

  number-before : (n n' : ℕ) (k k' : Kind) (i f i' f' : ℕ)
      → before (place_at n' k' i' f') (place_at n k i f) ≡ true
      → before (n' / 10 ∷ file_of k' ∷ i' ∷ f' ∷ n' % 10 ∷ []) (n / 10 ∷ file_of k ∷ i ∷ f ∷ n % 10 ∷ []) ≡ true
  number-before n n' k k' i f i' f' l =
      ⊎_elim
      (λ x. lt-before (n' / 10) (n / 10) _ _ x)
      (λ x. same-before (n' / 10) (n / 10) _ _ x.0
      (before-under (file_of k') (file_of k) _ _ _ _
      (before-under i' i _ _ _ _
      (before-under f' f _ _ _ _ (λ h. one-before (n' % 10) (n % 10) (let d = before-one n' n h in let e = x.0 in omega arith)))) x.1))
      (before_split (n' / 10) (n / 10) _ _ l)

  -- THE FIRST OF ALL BREAKS is what the search finds
  none-run : ((n : ℕ) (k : Kind) (i f : ℕ) → holds files n k i f ≡ false) → run (breaks files) ≡ none
  none-run h = go (run (breaks files)) refl
    where
      go : (o : Option Break) → run (breaks files) ≡ o → o ≡ none
      go none e = refl
      go (some b) e = let r = run-some (breaks files) e in let w = stands r.0 b r.1 in absurd (true-false (sym w.here ∙ h w.n w.k w.i w.f))

  least-run : (b : Break) → LeastBroken files b → run (breaks files) ≡ some b
  least-run b m = go (run (breaks files)) refl
    where
      there : at (breaks files) (m.n / 10 ∷ file_of m.k ∷ m.i ∷ m.f ∷ m.n % 10 ∷ []) ≡ some b
      there = stood m.n m.k m.i m.f (holds-is files m.n m.k m.i m.f ∙ m.really) ∙ ap some (sym m.shown)

      go : (o : Option Break) → run (breaks files) ≡ o → o ≡ some b
      go none e = absurd (run_none (breaks files) _ e there)
      go (some b') e =
          let r = run-some (breaks files) e in
          let w = stands r.0 b' r.1 in
          let above = unbroken _ (λ l. m.least w.n w.k w.i w.f (sym (holds-is files w.n w.k w.i w.f) ∙ w.here) (digit-before m.n w.n m.k w.k m.i m.f w.i w.f l)) in
          let below = unbroken _ (λ l. r.2 _ b there (subst (λ (p : List ℕ). before (m.n / 10 ∷ file_of m.k ∷ m.i ∷ m.f ∷ m.n % 10 ∷ []) p ≡ true) (sym w.place) l)) in
          let q = before-total (w.n / 10 ∷ file_of w.k ∷ w.i ∷ w.f ∷ w.n % 10 ∷ []) (m.n / 10 ∷ file_of m.k ∷ m.i ∷ m.f ∷ m.n % 10 ∷ []) refl above below in
          sym r.1 ∙ ap (at (breaks files)) (w.place ∙ q) ∙ there

  pub searched-is : searched files ≡ judged files
  unfolding judged FoundFirst
  searched-is = go (searched files) (found_first files)
    where
      go : (v : Finding) → FoundFirst files v → v ≡ finding_of (run (breaks files))
      go (Ok u) m = ap finding_of (sym (none-run (λ n k i f. holds-is files n k i f ∙ m n k i f)))
      go (Err b) m = ap finding_of (sym (least-run b m))

  pub found-judged : FoundFirst files (judged files)
  found-judged = subst (λ (v : Finding). FoundFirst files v) searched-is (found_first files)

  -- IT MEANS what is claimed: a rule is read only where no lower ten has a break, and the first break is such a one
  finds-first : Finds files (judged files)
  unfolding Finds FoundFirst
  finds-first = go (judged files) found-judged
    where
      go : (v : Finding) → FoundFirst files v → Finds files v
      go (Ok u) m = λ n k i f w. true-false (sym w.here ∙ holds-is files n k i f ∙ m n k i f)
      go (Err b) m =
          record {
            n = m.n;
            k = m.k;
            i = m.i;
            f = m.f;
            shown = m.shown;
            number = m.number;
            really =
                record {
                  here = holds-is files m.n m.k m.i m.f ∙ m.really;
                  read = λ n k i f l. holds-is files n k i f ∙ unbroken _ (λ h. m.least n k i f h (lt-before (n / 10) (m.n / 10) _ _ l));
                };
            least = λ n k i f w l. m.least n k i f (sym (holds-is files n k i f) ∙ w.here) l;
          }

  -- ONE FINDING has the meaning
  not-before : {b b' : Break} (a : First files b) (a' : First files b') → before (place_at a'.n a'.k a'.i a'.f) (place_at a.n a.k a.i a.f) ≡ false
  not-before a a' = unbroken _ (λ h. a.least _ _ _ _ a'.really h)

  first_one : {b b' : Break} → First files b → First files b' → b ≡ b'
  first_one {b} {b'} a a' =
      let e = before-total (place_at a.n a.k a.i a.f) (place_at a'.n a'.k a'.i a'.f) refl (not-before a' a) (not-before a a') in
      let q : file_of a.k ≡ file_of a'.k = cc in
      let k = file-same a.k a'.k q in
      let n : a.n ≡ a'.n = cc in
      let i : a.i ≡ a'.i = cc in
      let f : a.f ≡ a'.f = cc in
      a.shown ∙ rw (k, n, i, f) refl ∙ sym a'.shown

  one-finding : (v w : Finding) → Finds files v → Finds files w → v ≡ w
  unfolding Finds
  one-finding (Ok u) (Ok w) m m' = refl
  one-finding (Ok u) (Err b) m m' = absurd (m _ _ _ _ m'.really)
  one-finding (Err b) (Ok u) m m' = absurd (m' _ _ _ _ m.really)
  one-finding (Err b) (Err b') m m' = ap Err (first_one m m')

  -- THE VERDICT means that, with its counts, and no other does
  pub exact : Judges files (verdict_of files)
  unfolding verdict_of counts_of
  exact = record { finds = finds-first; counted = refl }

  pub exact_one : (v w : Verdict) → Judges files v → Judges files w → v ≡ w
  exact_one v w m m' =
      ap₂ (λ (f : Finding) (c : List ℕ). record { finding = f; counts = c }) (one-finding v.finding w.finding m.finds m'.finds) (m.counted ∙ sym m'.counted)

  -- THE GUARD CHANGES NOTHING: the delivery is accepted exactly if no test holds anywhere, and of two places at which tests hold the break
  -- shown is at the first, whether lower tens have breaks or not
  pub accepted-plainly : (judged files ≡ Ok tt → (n : ℕ) (k : Kind) (i f : ℕ) → holds files n k i f ≡ false)
      × (((n : ℕ) (k : Kind) (i f : ℕ) → holds files n k i f ≡ false) → judged files ≡ Ok tt)
  unfolding judged FoundFirst
  accepted-plainly = (
    λ e n k i f. holds-is files n k i f ∙ subst (λ (v : Finding). FoundFirst files v) e found-judged n k i f,
    λ h. ap finding_of (none-run h),
  )

  pub first-plainly : (b : Break) → judged files ≡ Err b → (n : ℕ) (k : Kind) (i f : ℕ) → holds files n k i f ≡ true
      → before (place_at n k i f) (number_of b.reason / 10 ∷ b.file ∷ b.«record» ∷ b.field ∷ number_of b.reason ∷ []) ≡ true → ⊥
  unfolding FoundFirst
  first-plainly b e n k i f h l =
      let m = subst (λ (v : Finding). FoundFirst files v) e found-judged in
      let s = m.shown in
      m.least n k i f (sym (holds-is files n k i f) ∙ h)
      (subst (λ (p : List ℕ). before (place_at n k i f) p ≡ true) (told-place m.n m.k m.i m.f m.number s) l)
