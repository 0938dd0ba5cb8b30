-- Every place that is shown fits the digits of an answer (and of the program's line): a record shown is at most 16,385.
-- Assumes nothing.
use Prim.Native.Nat.{ℕ, zero, suc, ◌+◌, ◌-◌, ◌/◌, ◌%◌, ◌≤◌, ◌<◌}
use mathlib.Core.Bool.{Bool, true, false, ◌&&◌}
use mathlib.Core.List.{List, [], ◌∷◌}
use mathlib.Core.Path.{◌≡◌, refl, sym, ap, subst}
use native.Mathlib.Nat.{min-le_left, eq-or-lt_of_le}
use mathlib.Core.Logic.{◌⊎◌, inl, inr, ⊎_elim}
use native.Mathlib.Omega.{arith}
use lib.Dec.{eqb, leb}
use lib.ListN.{get_or}
use borrow.Author.Tests.{leb-true, eqb-true, lt-ltb, le-ltb, eq-eqb}
use Rattle.laws.specs.Nest.{before}
use Rattle.laws.specs.Row.{pick}
use Rattle.laws.proofs.RowLaws.{and-true}
use Rattle.laws.proofs.FindLaws.{true-false}
use Rattle.record.specs.declared.kind.Kind.{Kind}
use Rattle.record.specs.declared.reason.Break.{Break}
use Rattle.std.specs.Prelude.{Err}
use Rattle.record.specs.Table.{fields_of, file_of, limit, most_fields, file_count}
use Rattle.record.specs.Files.{Files, delivery_of}
use Rattle.record.specs.Cut.{count_of}
use Rattle.record.specs.Rules.{breaks10}
use Rattle.record.specs.Breaks.{shape_tests, there, tests_at, broken}
use Rattle.record.proofs.TableLaws.{sane}
use Rattle.keys.specs.machinery.Groups.{broken_by}
use Rattle.keys.specs.machinery.Findings.{keys_broken}
use Rattle.fifties.specs.machinery.Findings.{topology_broken}
use Rattle.objects.specs.machinery.Findings.{objects_broken}
use Rattle.judge.specs.Verdict.{judged}
use Rattle.judge.specs.Broken.{place_at}
use Rattle.judge.specs.machinery.Searched.{broken_in}
use Rattle.judge.proofs.Plain.{LeastBroken, FoundFirst}
use Rattle.judge.proofs.Exact.{found-judged}
use Rattle.grids.proofs.TenLaws.{count_small}

-- WHERE SOMETHING IS BROKEN: the tens of the reason bound the record and the field
module _ (s : List ℕ) (k : Kind) (n i f : ℕ) where
  shape-where : (u : ℕ) → get_or (pick (eqb f 0) (shape_tests s k i) []) u false ≡ true → (i ≤ count_of s k + 1) × (f ≤ most_fields)
  shape-where u e = go (eqb f 0) refl e
    where
      at : (u : ℕ) → get_or (shape_tests s k i) u false ≡ true → i ≤ count_of s k + 1
      at zero h = omega (arith, eqb-true i 0 (and-true (eqb i 0) (breaks10 s k) h).0)
      at (suc zero) h = omega (arith, eqb-true i (count_of s k + 1) (and-true (eqb i (count_of s k + 1)) _ h).0)
      at (suc (suc u)) h = absurd (true-false (sym h))

      go : (b : Bool) → eqb f 0 ≡ b → get_or (pick b (shape_tests s k i) []) u false ≡ true → (i ≤ count_of s k + 1) × (f ≤ most_fields)
      go true q h = (at u h, omega (arith, eqb-true f 0 q))
      go false q h = absurd (true-false (sym h))

  there-where : (u : ℕ) (ts : List Bool) → get_or (pick (there s k i f) ts []) u false ≡ true → (i ≤ count_of s k + 1) × (f ≤ most_fields)
  there-where u ts e = go (there s k i f) refl e
    where
      go : (b : Bool) → there s k i f ≡ b → get_or (pick b ts []) u false ≡ true → (i ≤ count_of s k + 1) × (f ≤ most_fields)
      go true q h =
          let p = and-true (leb 1 i && leb i (count_of s k)) (leb f (fields_of k)) q in
          let r = and-true (leb 1 i) (leb i (count_of s k)) p.0 in
          (omega (arith, leb-true i (count_of s k) r.1), omega (arith, leb-true f (fields_of k) p.1, (sane k).few))
      go false q h = absurd (true-false (sym h))

-- of the higher tens, whose tables have at most 16,384 records
by-where : (tests : ℕ → ℕ → ℕ → List Bool) (k : Kind) (m n i f : ℕ) → m ≤ limit → broken_by tests k m n i f ≡ true → (i ≤ limit) × (f ≤ most_fields)
unfolding broken_by
by-where tests k m n i f l e =
    let p = and-true (leb 1 i && leb i m && leb f (fields_of k)) (get_or (tests (n / 10) (i - 1) f) (n % 10) false) e in
    let q = and-true (leb 1 i && leb i m) (leb f (fields_of k)) p.0 in
    let r = and-true (leb 1 i) (leb i m) q.0 in
    (omega (arith, leb-true i m r.1), omega (arith, leb-true f (fields_of k) q.1, (sane k).few))

-- of any reason: the shape's and the fields' by the file's own count, the others' by the table's
module _ (files : Files) (n : ℕ) (k : Kind) (i f : ℕ) where
  low : (t : ℕ) → n / 10 ≡ suc t → t < 2 → broken (files k) k n i f ≡ true → (i ≤ count_of (files k) k + 1) × (f ≤ most_fields)
  unfolding broken tests_at
  low zero q l e = shape-where (files k) k n i f (n % 10) (rw q at e)
  low (suc zero) q l e = there-where (files k) k n i f (n % 10) _ (rw q at e)
  low (suc (suc t)) q l e = absurd (omega arith)

  pub keys-where : keys_broken (delivery_of files) k n i f ≡ true → (i ≤ limit) × (f ≤ most_fields)
  unfolding keys_broken
  keys-where e = by-where _ k (delivery_of files k).count n i f (min-le_left limit (count_of (files k) k)) e

  pub topology-where : topology_broken (delivery_of files) k n i f ≡ true → (i ≤ limit) × (f ≤ most_fields)
  unfolding topology_broken
  topology-where e = by-where _ k (delivery_of files k).count n i f (min-le_left limit (count_of (files k) k)) e

  objects-where : objects_broken (delivery_of files) k n i f ≡ true → (i ≤ limit) × (f ≤ most_fields)
  unfolding objects_broken
  objects-where e = by-where _ k (delivery_of files k).count n i f (min-le_left limit (count_of (files k) k)) e

  -- a break is at the file's whole records plus 1 at most, where that is more than the limit; and at no field past the last that a record may have
  broken-where : broken_in files n k i f ≡ true → ((i ≤ count_of (files k) k + 1) ⊎ (i ≤ limit)) × (f ≤ most_fields)
  unfolding broken_in
  broken-where e = go (n / 10) refl e
    where
      tests : List Bool
      tests =
          false
          ∷ broken (files k) k n i f
          ∷ broken (files k) k n i f
          ∷ keys_broken (delivery_of files) k n i f
          ∷ keys_broken (delivery_of files) k n i f
          ∷ topology_broken (delivery_of files) k n i f
          ∷ false
          ∷ objects_broken (delivery_of files) k n i f
          ∷ []

      go : (t : ℕ) → n / 10 ≡ t → get_or tests t false ≡ true → ((i ≤ count_of (files k) k + 1) ⊎ (i ≤ limit)) × (f ≤ most_fields)
      go zero q h = absurd (true-false (sym h))
      go (suc zero) q h = let p = low 0 q (omega arith) h in (inl p.0, p.1)
      go (suc (suc zero)) q h = let p = low 1 q (omega arith) h in (inl p.0, p.1)
      go (suc (suc (suc zero))) q h = let p = keys-where h in (inr p.0, p.1)
      go (suc (suc (suc (suc zero)))) q h = let p = keys-where h in (inr p.0, p.1)
      go (suc (suc (suc (suc (suc zero))))) q h = let p = topology-where h in (inr p.0, p.1)
      go (suc (suc (suc (suc (suc (suc zero)))))) q h = absurd (true-false (sym h))
      go (suc (suc (suc (suc (suc (suc (suc zero))))))) q h = let p = objects-where h in (inr p.0, p.1)
      go (suc (suc (suc (suc (suc (suc (suc (suc t)))))))) q h = absurd (true-false (sym h))

-- A PLACE THAT IS SHOWN: were its file too long, that would be told before
long-broken : (files : Files) (k : Kind) → breaks10 (files k) k ≡ true → broken_in files 10 k 0 0 ≡ true
unfolding broken_in broken tests_at
long-broken files k e = rw e

pub less-first : (x y : ℕ) (xs ys : List ℕ) → x < y → before (x ∷ xs) (y ∷ ys) ≡ true
unfolding before
less-first x y xs ys l = rw (lt-ltb x y l, before)

less-next : (x : ℕ) (xs ys : List ℕ) → before xs ys ≡ true → before (x ∷ xs) (x ∷ ys) ≡ true
unfolding before
less-next x xs ys h = rw (le-ltb x x (omega arith), eq-eqb x x refl, before) h

long-before : (k : Kind) (n i f : ℕ) → 1 ≤ n / 10 → 0 < i → before (place_at 10 k 0 0) (place_at n k i f) ≡ true
long-before k n i f l h =
    ⊎_elim
    (λ (e : 1 ≡ n / 10). rw (← e) (less-next 1 _ _ (less-next (file_of k) _ _ (less-first 0 i _ _ h))))
    (λ (m : 1 < n / 10). less-first 1 (n / 10) _ _ m)
    (eq-or-lt_of_le l)

-- nothing of the lowest ten is a reason
ten-up : (files : Files) (n : ℕ) (k : Kind) (i f : ℕ) → broken_in files n k i f ≡ true → 1 ≤ n / 10
unfolding broken_in
ten-up files n k i f e = go (n / 10) refl
  where
    go : (t : ℕ) → n / 10 ≡ t → 1 ≤ n / 10
    go zero q = absurd (true-false (sym (rw q at e)))
    go (suc t) q = omega arith

record-small : (files : Files) (n : ℕ) (k : Kind) (i f : ℕ) → broken_in files n k i f ≡ true
    → ((n' : ℕ) (k' : Kind) (i' f' : ℕ) → broken_in files n' k' i' f' ≡ true → before (place_at n' k' i' f') (place_at n k i f) ≡ true → ⊥)
    → i ≤ limit + 1
record-small files n k zero f e least = omega arith
record-small files n k (suc i) f e least =
    let l = long-before k n (suc i) f (ten-up files n k (suc i) f e) (omega arith) in
    ⊎_elim
    (λ (h : suc i ≤ count_of (files k) k + 1). omega (arith, count_small (files k) k (not-long l)))
    (λ (h : suc i ≤ limit). omega arith)
    (broken-where files n k (suc i) f e).0
  where
    not-long : before (place_at 10 k 0 0) (place_at n k (suc i) f) ≡ true → breaks10 (files k) k ≡ false
    not-long l = go (breaks10 (files k) k) refl
      where
        go : (b : Bool) → breaks10 (files k) k ≡ b → b ≡ false
        go true q = absurd (least 10 k 0 0 (long-broken files k q) l)
        go false q = refl

pub place-fits : (files : Files) (b : Break) → judged files ≡ Err b → (b.file ≤ file_count) × (b.«record» ≤ limit + 1) × (b.field ≤ most_fields)
unfolding FoundFirst
place-fits files b e = go (subst (FoundFirst files) e (found-judged files))
  where
    go : LeastBroken files b → (b.file ≤ file_count) × (b.«record» ≤ limit + 1) × (b.field ≤ most_fields)
    go w =
        let p = broken-where files w.n w.k w.i w.f w.really in
        let s = w.shown in (
          rw (ap (λ (x : Break). x.file) s) (sane w.k).last,
          rw (ap (λ (x : Break). x.«record») s) (record-small files w.n w.k w.i w.f w.really w.least),
          rw (ap (λ (x : Break). x.field) s) p.1,
        )
