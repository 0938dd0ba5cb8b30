-- The findings computed on a file mean what specs/Claims.antt says, and nothing else does.
-- Assumes nothing.
use Prim.Native.Nat.{ℕ, zero, suc, ◌+◌, ◌-◌, ◌/◌, ◌%◌, ◌<◌, ◌≤◌}
use mathlib.Core.Bool.{Bool, true, false, not, ◌&&◌}
use mathlib.Core.List.{List, [], ◌∷◌}
use mathlib.Core.Option.{Option, none, some}
use mathlib.Core.Path.{◌≡◌, refl, sym, ap, ◌∙◌}
use native.Mathlib.Numerals.{add-one}
use native.Mathlib.Omega.{arith}
use lib.Dec.{ltb, leb, eqb, leb-suc-suc, leb-suc-zero, eqb-suc-zero}
use lib.ListN.{length, get_or, get_or-eq_default}
use borrow.Author.Tests.{ltb-false, le-leb, ne_eqb, eqb-true, not-false}
use Rattle.laws.specs.Find.{hit, first_of, first_index, any}
use Rattle.laws.specs.Nest.{Nest, run, before}
use Rattle.laws.specs.Row.{pick}
use Rattle.laws.proofs.FindLaws.{true-false, any-no}
use Rattle.laws.proofs.NestLaws.{before-total, at}
use Rattle.laws.proofs.RowLaws.{and-true, and-false}
use Rattle.laws.proofs.GridLaws.{at-pick, at_here, at-empty, Deep, deep-leaf, deep-empty, deep-node, Grid, grid-none, grid-some, before-under, before-one, one-before}
use Rattle.record.specs.declared.kind.Kind.{Kind}
use Rattle.record.specs.declared.reason.Reason.{Reason}
use Rattle.record.specs.declared.reason.Reason.TheVariants as R
use Rattle.record.specs.declared.reason.Break.{Break}
use Rattle.record.specs.Breaks.{Finding}
use Rattle.std.specs.Prelude.{Ok, Err}
use Rattle.record.specs.Cut.{count_of, record_of}
use Rattle.record.specs.Rules.{twenties}
use Rattle.record.specs.Breaks.{number_of, break_of, finding_of, at_place, ten_reasons, shape_tests, shape_breaks, twenty_reasons, record_breaks, field_breaks_at, field_breaks, shape_finding, fields_finding, there, tests_at, broken}
use Rattle.record.proofs.Claims.{MeansBy, Means}

-- the reasons below 30, by their tens
unfoldable group_at : ℕ → List Reason
group_at t = get_or ([] ∷ ten_reasons ∷ twenty_reasons ∷ []) t []

unfoldable reason_at : ℕ → ℕ → Reason
reason_at t u = get_or (group_at t) u R.LongFile10

-- where each has its number
numbered-all : (t : ℕ) → any (λ u. not (eqb (number_of (reason_at t u) / 10) t && eqb (number_of (reason_at t u) % 10) u)) (length (group_at t)) ≡ false
unfolding group_at reason_at any first_index first_of
numbered-all zero = refl
numbered-all (suc zero) = refl
numbered-all (suc (suc zero)) = refl
numbered-all (suc (suc (suc t))) = refl

numbered : (t u : ℕ) → u < length (group_at t) → (number_of (reason_at t u) / 10 ≡ t) × (number_of (reason_at t u) % 10 ≡ u)
numbered t u l =
    let e = and-true _ _ (not-false _ (any-no _ (length (group_at t)) (numbered-all t) l)) in
    (eqb-true _ _ e.0, eqb-true _ _ e.1)

-- and is given by it
known : (r : Reason) → number_of r < 30 → reason_at (number_of r / 10) (number_of r % 10) ≡ r
unfolding group_at reason_at
known R.LongFile10 l = refl
known R.RaggedFile11 l = refl
known R.BadEnd20 l = refl
known R.NoBar21 l = refl
known R.NotNumber22 l = refl
known R.NotText23 l = refl
known R.Missing24 l = refl
known R.Outside25 l = refl
known (R.SameKey30 earlier) l = absurd (omega arith)
known R.NoRecord40 l = absurd (omega arith)
known (R.OtherType41 letter) l = absurd (omega arith)
known R.OrderGap50 l = absurd (omega arith)
known R.OrderAlone51 l = absurd (omega arith)
known R.StartElsewhere52 l = absurd (omega arith)
known R.EndElsewhere53 l = absurd (omega arith)
known (R.SamePlace54 earlier) l = absurd (omega arith)
known R.PointElsewhere55 l = absurd (omega arith)
known R.IdleNode56 l = absurd (omega arith)
known R.IdleObject57 l = absurd (omega arith)
known R.NodeType58 l = absurd (omega arith)
known R.NoLastVertex59 l = absurd (omega arith)
known R.NoFile60 l = absurd (omega arith)
known R.ShortRoom61 l = absurd (omega arith)
known R.TooLarge62 l = absurd (omega arith)
known R.BadText63 l = absurd (omega arith)
known R.Missing64 l = absurd (omega arith)
known R.Outside65 l = absurd (omega arith)
known R.NoSuchRecord66 l = absurd (omega arith)
known R.TooMany67 l = absurd (omega arith)
known R.UnknownSeason68 l = absurd (omega arith)
known R.IdleComposite70 l = absurd (omega arith)
known R.LongLine80 l = absurd (omega arith)
known R.OddLine81 l = absurd (omega arith)
known R.OtherVersion82 l = absurd (omega arith)
known R.OtherList83 l = absurd (omega arith)
known R.OtherKeys84 l = absurd (omega arith)
known R.OtherCount85 l = absurd (omega arith)
known R.OtherSize86 l = absurd (omega arith)

pub reason-one : (r q : Reason) → number_of r ≡ number_of q → number_of r < 30 → r ≡ q
reason-one r q e l = sym (known r l) ∙ ap (λ (n : ℕ). reason_at (n / 10) (n % 10)) e ∙ known q (omega arith)

-- a test that holds is one of the list
held : (t : List Bool) (u : ℕ) → get_or t u false ≡ true → u < length t
held [] u e = absurd (true-false (sym e))
held (x ∷ t) zero e = omega arith
held (x ∷ t) (suc u) e = omega (arith, held t u e)

pick-short : (b : Bool) (t : List Bool) → length (pick b t []) ≤ length t
pick-short true t = omega arith
pick-short false t = omega arith

-- so its reason is one of the ten's
tests-short : (t : ℕ) (s : List ℕ) (k : Kind) (i f : ℕ) → length (tests_at t s k i f) ≤ length (group_at t)
unfolding tests_at group_at
tests-short zero s k i f = omega arith
tests-short (suc zero) s k i f = pick-short (eqb f 0) (shape_tests s k i)
tests-short (suc (suc zero)) s k i f = pick-short (there s k i f) (twenties (record_of s k (i - 1)) k f)
tests-short (suc (suc (suc t))) s k i f = omega arith

-- only the tens 1 and 2 have reasons
group-few : (t u : ℕ) → u < length (group_at t) → t < 3
unfolding group_at
group-few zero u l = omega arith
group-few (suc zero) u l = omega arith
group-few (suc (suc zero)) u l = omega arith
group-few (suc (suc (suc t))) u l = absurd (omega arith)

-- THE ORDER of reasons' numbers within a ten is that of their last digits
digits-before :
    (i f n i' f' n' : ℕ) → n / 10 ≡ n' / 10 → before (i ∷ f ∷ n ∷ []) (i' ∷ f' ∷ n' ∷ []) ≡ true
    → before (i ∷ f ∷ n % 10 ∷ []) (i' ∷ f' ∷ n' % 10 ∷ []) ≡ true
digits-before i f n i' f' n' e =
    before-under i i' _ _ _ _ (before-under f f' _ _ _ _ (λ l. let h = before-one n n' l in one-before (n % 10) (n' % 10) (omega arith)))

-- A TREE with a test's break at each place: what its first break means
module _ (t : ℕ) (s : List ℕ) (k : Kind) where
  abbrev Told : Nest Break → Type 0
  Told x = Grid x (λ i f u. get_or (tests_at t s k i f) u false) (λ i f u. break_of (reason_at t u) k i f)

  -- a break of the ten at the place of a test that holds
  told-break :
      (i f u : ℕ) (b : Break) → get_or (tests_at t s k i f) u false ≡ true → break_of (reason_at t u) k i f ≡ b
      → ((i' f' u' : ℕ) → get_or (tests_at t s k i' f') u' false ≡ true → before (i' ∷ f' ∷ u' ∷ []) (i ∷ f ∷ u ∷ []) ≡ true → ⊥)
      → Means t s k (Err b)
  unfolding MeansBy broken
  told-break i f u b h e least =
      let w = numbered t u (omega (arith, held (tests_at t s k i f) u h, tests-short t s k i f)) in
      rw (← e) (
        w.0,
        refl,
        rw (w.0, w.1) h,
        λ n i' f' q here l. least i' f' (n % 10) (rw q at here) (rw w.1 at (digits-before i' f' n i f (number_of (reason_at t u)) (q ∙ sym w.0) l)),
      )

  told-means : {x : Nest Break} → Told x → Means t s k (finding_of (run x))
  unfolding MeansBy broken
  told-means {x} g = go (run x) refl
    where
      go : (o : Option Break) → run x ≡ o → Means t s k (finding_of o)
      go none e = λ n i f q. rw q (grid-none g e i f (n % 10))
      go (some b) e = let r = grid-some g e in told-break r.0 r.1 r.2 b r.3 r.4 r.5

-- THE TREES of a file's shape and of its fields
place-cell :
    (t : List Bool) (reasons : List Reason) (k : Kind) (i f u : ℕ)
    → at (at_place t reasons k i f) (u ∷ []) ≡ hit (get_or t u false) (break_of (get_or reasons u R.LongFile10) k i f)
unfolding at_place
place-cell t reasons k i f u = rw (at-pick, at_here) (go (ltb u (length t)) refl)
  where
    go :
        (l : Bool) → ltb u (length t) ≡ l
        → pick l (hit (get_or t u false) (break_of (get_or reasons u R.LongFile10) k i f)) none ≡ hit (get_or t u false) (break_of (get_or reasons u R.LongFile10) k i f)
    go true h = refl
    go false h = rw (get_or-eq_default t false {n = u} (ltb-false _ _ h))

place-deep : (t : List Bool) (reasons : List Reason) (k : Kind) (i f : ℕ) → Deep 1 (at_place t reasons k i f)
unfolding at_place
place-deep t reasons k i f = deep-node 0 _ _ (λ u. deep-leaf _)

-- a place below two rows
pick-cell :
    {B : Type 0} (a b : Bool) (t : List Bool) (u : ℕ) (x : B)
    → pick a (pick b (hit (get_or t u false) x) none) none ≡ hit (get_or (pick (a && b) t []) u false) x
pick-cell true true t u x = refl
pick-cell true false t u x = refl
pick-cell false b t u x = refl

pick-false : (b : Bool) (t : List Bool) (u : ℕ) → get_or t u false ≡ false → get_or (pick b t []) u false ≡ false
pick-false true t u e = e
pick-false false t u e = refl

pick_same : {A : Type 0} (b : Bool) (x : A) → pick b x x ≡ x
pick_same true x = refl
pick_same false x = refl

up_to : (x n : ℕ) → ltb x (n + 1) ≡ leb x n
up_to x n = rw add-one (leb-suc-suc x n)

first-only : (f : ℕ) → ltb f 1 ≡ eqb f 0
first-only zero = refl
first-only (suc f) = rw (leb-suc-suc, leb-suc-zero, eqb-suc-zero)

module _ (s : List ℕ) (k : Kind) where
  -- past the last record the shape has no break
  shape-past : (i u : ℕ) → count_of s k + 2 ≤ i → get_or (shape_tests s k i) u false ≡ false
  shape-past i zero l = and-false _ _ (ne_eqb i 0 (λ e. omega arith))
  shape-past i (suc zero) l = and-false _ _ (ne_eqb i (count_of s k + 1) (λ e. omega arith))
  shape-past i (suc (suc u)) l = refl

  shape-cell : (i f u : ℕ) → at (shape_breaks s k) (i ∷ f ∷ u ∷ []) ≡ hit (get_or (tests_at 1 s k i f) u false) (break_of (reason_at 1 u) k i f)
  unfolding shape_breaks tests_at reason_at group_at
  shape-cell i f u = rw (at-pick, at-pick, place-cell, pick-cell, first-only) (go (ltb i (count_of s k + 2)) refl)
    where
      go :
          (l : Bool) → ltb i (count_of s k + 2) ≡ l
          → hit (get_or (pick (l && eqb f 0) (shape_tests s k i) []) u false) (break_of (reason_at 1 u) k i f)
          ≡ hit (get_or (pick (eqb f 0) (shape_tests s k i) []) u false) (break_of (reason_at 1 u) k i f)
      go true h = refl
      go false h = rw (pick-false (eqb f 0) _ u (shape-past i u (ltb-false _ _ h)))

  shape-told : Told 1 s k (shape_breaks s k)
  unfolding shape_breaks
  shape-told = record { cell = shape-cell; deep = deep-node 2 _ _ (λ i. deep-node 1 _ _ (λ f. place-deep _ _ k i f)) }

  fields-cell : (i f u : ℕ) → at (field_breaks s k) (i ∷ f ∷ u ∷ []) ≡ hit (get_or (tests_at 2 s k i f) u false) (break_of (reason_at 2 u) k i f)
  unfolding field_breaks field_breaks_at record_breaks tests_at reason_at group_at
  fields-cell zero f u = rw (at-pick, at-empty, pick_same)
  fields-cell (suc i) f u =
      let here : leb 1 (suc i) ≡ true = le-leb 1 (suc i) (omega arith) in
      let back : suc i - 1 ≡ i = omega arith in
      rw (at-pick, at-pick, place-cell, pick-cell, up_to (suc i), up_to f, here, back, add-one)

  record-deep : (i : ℕ) → Deep 2 (field_breaks_at s k i)
  unfolding field_breaks_at record_breaks
  record-deep zero = deep-empty 2
  record-deep (suc i) = deep-node 1 _ _ (λ f. place-deep _ _ k (i + 1) f)

  fields_told : Told 2 s k (field_breaks s k)
  unfolding field_breaks
  fields_told = record { cell = fields-cell; deep = deep-node 2 _ _ record-deep }

pub shape-means : (s : List ℕ) (k : Kind) → Means 1 s k (shape_finding s k)
unfolding shape_finding
shape-means s k = told-means 1 s k (shape-told s k)

pub fields-means : (s : List ℕ) (k : Kind) → Means 2 s k (fields_finding s k)
unfolding fields_finding
fields-means s k = told-means 2 s k (fields_told s k)

-- ONE FINDING has the meaning
break-one : (b b' : Break) → b.reason ≡ b'.reason → b.file ≡ b'.file → b.«record» ≡ b'.«record» → b.field ≡ b'.field → b ≡ b'
break-one b b' p q r u = λ x. record { reason = p x; file = q x; «record» = r x; field = u x }

module _ (t : ℕ) (s : List ℕ) (k : Kind) where
  -- a break's ten is one of the two
  means-below : (b : Break) → Means t s k (Err b) → number_of b.reason < 30
  unfolding MeansBy broken
  means-below b m =
      let n = number_of b.reason in
      let l = held (tests_at (n / 10) s k b.«record» b.field) (n % 10) m.2 in
      let h = group-few (n / 10) (n % 10) (omega (arith, tests-short (n / 10) s k b.«record» b.field)) in
      omega arith

  not-before : (b b' : Break) → Means t s k (Err b) → Means t s k (Err b')
      → before (b'.«record» ∷ b'.field ∷ number_of b'.reason ∷ []) (b.«record» ∷ b.field ∷ number_of b.reason ∷ []) ≡ false
  unfolding MeansBy
  not-before b b' m m' = go _ refl
    where
      go :
          (l : Bool) → before (b'.«record» ∷ b'.field ∷ number_of b'.reason ∷ []) (b.«record» ∷ b.field ∷ number_of b.reason ∷ []) ≡ l
          → l ≡ false
      go true h = absurd (m.3 _ _ _ m'.0 m'.2 h)
      go false h = refl

  pub means-one : (v w : Finding) → Means t s k v → Means t s k w → v ≡ w
  unfolding MeansBy
  means-one (Ok u) (Ok w) m m' = refl
  means-one (Ok u) (Err b) m m' = absurd (true-false (sym m'.2 ∙ m _ _ _ m'.0))
  means-one (Err b) (Ok u) m m' = absurd (true-false (sym m.2 ∙ m' _ _ _ m.0))
  means-one (Err b) (Err b') m m' =
      let e = before-total (b.«record» ∷ b.field ∷ number_of b.reason ∷ []) (b'.«record» ∷ b'.field ∷ number_of b'.reason ∷ []) refl (not-before b' b m' m) (not-before b b' m m') in
      let n : number_of b.reason ≡ number_of b'.reason = cc in
      let r : b.«record» ≡ b'.«record» = cc in
      let f : b.field ≡ b'.field = cc in
      ap Err (break-one b b' (reason-one b.reason b'.reason n (means-below b m)) (m.1 ∙ sym m'.1) r f)

  -- the break shown has its number's reason
  pub means-shown :
      (b : Break) → Means t s k (Err b)
      → b ≡ break_of (get_or (get_or ([] ∷ ten_reasons ∷ twenty_reasons ∷ []) t []) (number_of b.reason % 10) R.LongFile10) k b.«record» b.field
  unfolding MeansBy reason_at group_at
  means-shown b m = break-one b _ (rw m.0 at (sym (known b.reason (means-below b m)))) m.1 refl refl
