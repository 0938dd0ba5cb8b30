-- The grid counts every break once: there is a list of all breaks whose length is the grid's total. It is zero exactly if the delivery is
-- accepted, and the break shown lies in a cell that isn't zero.
-- Assumes nothing.
use Prim.Native.Nat.{ℕ, zero, suc, ◌+◌, ◌*◌, ◌/◌, ◌%◌, ◌<◌, ◌≤◌}
use mathlib.Core.Bool.{Bool, true, false}
use mathlib.Core.List.{List, [], ◌∷◌, map}
use mathlib.Core.Option.{some}
use mathlib.Core.Path.{◌≡◌, refl, sym, ap, subst, ◌∙◌}
use mathlib.Core.Logic.{⊎_elim}
use native.Mathlib.Omega.{arith}
use lib.Dec.{eqb}
use lib.ListN.{length, length-map, replicate, get_or, drop}
use borrow.Author.Tests.{eqb-true, eq-eqb, ne_eqb}
use Rattle.laws.specs.Count.{total}
use Rattle.laws.specs.Listed.{In, Once}
use Rattle.laws.specs.Nest.{many}
use Rattle.laws.specs.Row.{pick}
use Rattle.laws.proofs.NestLaws.{at, at-within, at_some, run_none}
use Rattle.laws.proofs.ListedLaws.{in-same, in_map, map-in, once-map}
use Rattle.laws.proofs.ManyLaws.{many-run, places_in, places-long, places-once, place-stands, stands-place}
use Rattle.record.specs.declared.kind.Kind.{Kind}
use Rattle.record.specs.Table.{Which}
use Rattle.record.specs.declared.reason.Break.{Break}
use Rattle.record.specs.Breaks.{Finding}
use Rattle.std.specs.Prelude.{Ok, Err}
use Rattle.record.specs.Table.{file_of, file_count, which_of}
use Rattle.record.specs.Files.{Files}
use Rattle.record.specs.Breaks.{number_of}
use Rattle.record.proofs.TableLaws.{sane, file-same, which-file}
use Rattle.judge.specs.Broken.{groups, last_ten, holds, IsBroken, breaks_in, at_which, breaks_of, breaks, First, Finds}
use Rattle.judge.specs.Verdict.{judged, verdict_of}
use Rattle.judge.proofs.Exact.{stands, stood, accepted-plainly, exact}
use Rattle.grids.specs.Grid.{lowest, cell_of, grid_of}
use Rattle.grids.specs.Listed.{break_at, Breaks, BreaksIn}
use Rattle.grids.specs.Sum.{most_in_cell}
use Rattle.grids.proofs.TenLaws.{tests-none, file-most, shape-most}
use Rattle.grids.proofs.GridLaws.{positive, in-file, in-files, Lowest, lowest-is, lowest-at, lowest-none, first-ten, zeros-are, grid-total, not-long}

tail-same : (n : ℕ) (p q : List ℕ) → n ∷ p ≡ n ∷ q → p ≡ q
tail-same n p q e = ap (drop 1) e

module _ (files : Files) where
  -- A TEST that holds is a break of its ten and file
  holds-stands : (n : ℕ) (k : Kind) (i f : ℕ) → holds files n k i f ≡ true → (b : Break) × (n / 10 < last_ten + 1) × (at (breaks_of files (n / 10)) (file_of k ∷ i ∷ f ∷ n % 10 ∷ []) ≡ some b)
  unfolding breaks
  holds-stands n k i f e =
      let w = at_some (last_ten + 1) (λ t. breaks_of files t) (n / 10) _ (stood files n k i f e) in
      (_, w.0, w.1)

  holds-many : (n : ℕ) (k : Kind) (i f : ℕ) → holds files n k i f ≡ true → 0 < many (breaks_of files (n / 10))
  holds-many n k i f e =
      let w = holds-stands n k i f e in
      positive _ (λ z. run_none (breaks_of files (n / 10)) _ (many-run _ z) w.2)

  holds-in-file : (n : ℕ) (k : Kind) (i f : ℕ) → holds files n k i f ≡ true → 0 < many (breaks_in files (n / 10) k)
  unfolding breaks_of
  holds-in-file n k i f e =
      let w = holds-stands n k i f e in
      let v = at_some (file_count + 1) (λ m. at_which (breaks_in files (n / 10)) (which_of m)) (file_of k) _ w.2 in
      let a = rw (which-file k) at v.1 in
      positive _ (λ z. run_none (breaks_in files (n / 10) k) _ (many-run _ z) a)

  -- a ten in which no test holds has no break
  none-hold : (t : ℕ) → ((n : ℕ) (k : Kind) (i f : ℕ) → n / 10 ≡ t → holds files n k i f ≡ false) → many (breaks_of files t) ≡ 0
  unfolding holds
  none-hold t quiet =
      in-files files t
      (λ k. tests-none files t k
      (λ i f u l.
      let a : (t * 10 + u) / 10 ≡ t = omega arith in
      let b : (t * 10 + u) % 10 ≡ u = omega arith in
      rw (a, b) at (quiet (t * 10 + u) k i f a)))

  -- WHERE SOMETHING IS BROKEN its ten is the lowest
  pub broken-lowest : (n : ℕ) (k : Kind) (i f : ℕ) → IsBroken files n k i f → lowest files ≡ n / 10
  broken-lowest n k i f w =
      lowest-at files (n / 10) (holds-stands n k i f w.here).1
      (λ t l. none-hold t (λ n' k' i' f' e. w.read n' k' i' f' (rw e l)))
      (holds-many n k i f w.here)

  -- and what holds of the lowest ten is broken
  lowest-broken : Lowest files → (n : ℕ) (k : Kind) (i f : ℕ) → holds files n k i f ≡ true → n / 10 ≡ lowest files → IsBroken files n k i f
  lowest-broken w n k i f h e =
      record {
        here = h;
        read = λ n' k' i' f' l. no-hold n' k' i' f' (w.below (n' / 10) (rw e at l));
      }
    where
      no-hold : (n' : ℕ) (k' : Kind) (i' f' : ℕ) → many (breaks_of files (n' / 10)) ≡ 0 → holds files n' k' i' f' ≡ false
      no-hold n' k' i' f' z = go (holds files n' k' i' f') refl
        where
          go : (b : Bool) → holds files n' k' i' f' ≡ b → b ≡ false
          go true e = absurd (let p = holds-many n' k' i' f' e in omega arith)
          go false e = refl

  in-breaks : (q : List ℕ) → lowest files < last_ten + 1 → at (breaks files) (lowest files ∷ q) ≡ at (breaks_of files (lowest files)) q
  unfolding breaks
  in-breaks q l = at-within (last_ten + 1) (λ t. breaks_of files t) (lowest files) q l

  -- THE LIST of all breaks
  list_of : List (List ℕ)
  list_of = map (λ p. lowest files ∷ p) (places_in (breaks_of files (lowest files)))

  list-once : Once list_of
  unfolding list_of
  list-once = once-map (λ p. lowest files ∷ p) (tail-same (lowest files)) _ (places-once (breaks_of files (lowest files)))

  list-broken : (p : List ℕ) → In p list_of → (n : ℕ) × (k : Kind) × (i : ℕ) × (f : ℕ) × (p ≡ break_at n k i f) × IsBroken files n k i f
  unfolding list_of
  list-broken p h = ⊎_elim quiet here (lowest-is files)
    where
      quiet : (lowest files ≡ 0) × ((t : ℕ) → t < last_ten + 1 → many (breaks_of files t) ≡ 0) → (n : ℕ) × (k : Kind) × (i : ℕ) × (f : ℕ) × (p ≡ break_at n k i f) × IsBroken files n k i f
      quiet w =
          let a = map-in (λ q. lowest files ∷ q) (places_in (breaks_of files (lowest files))) h in
          let b = place-stands (breaks_of files (lowest files)) a.0 a.1 in
          let z : many (breaks_of files (lowest files)) ≡ 0 = w.1 (lowest files) (let e = w.0 in omega arith) in
          absurd (run_none (breaks_of files (lowest files)) a.0 (many-run _ z) b.1)

      here : Lowest files → (n : ℕ) × (k : Kind) × (i : ℕ) × (f : ℕ) × (p ≡ break_at n k i f) × IsBroken files n k i f
      here w =
          let a = map-in (λ q. lowest files ∷ q) (places_in (breaks_of files (lowest files))) h in
          let b = place-stands (breaks_of files (lowest files)) a.0 a.1 in
          let s = stands files p b.0 (ap (at (breaks files)) a.2 ∙ in-breaks a.0 w.within ∙ b.1) in
          let e : s.n / 10 ≡ lowest files = ap (λ (x : List ℕ). get_or x 0 0) (sym s.place ∙ a.2) in
          (s.n, s.k, s.i, s.f, s.place, lowest-broken w s.n s.k s.i s.f s.here e)

  list_all : (n : ℕ) (k : Kind) (i f : ℕ) → IsBroken files n k i f → In (break_at n k i f) list_of
  unfolding list_of
  list_all n k i f w =
      let e = broken-lowest n k i f w in
      let s = holds-stands n k i f w.here in
      let h = stands-place (breaks_of files (n / 10)) (file_of k ∷ i ∷ f ∷ n % 10 ∷ []) s.2 in
      rw e (in_map (λ p. n / 10 ∷ p) h)

  pub every-break-once : (list : List (List ℕ)) × Breaks files list × (length list ≡ total (map total (grid_of files)))
  unfolding list_of
  every-break-once = (
    list_of,
    record { once = list-once; broken = list-broken; all = list_all },
    length-map (places_in (breaks_of files (lowest files))) (λ p. lowest files ∷ p) ∙ places-long (breaks_of files (lowest files)) ∙ sym (grid-total files),
  )

  -- OF ONE FILE
  file_list : Kind → List (List ℕ)
  file_list k = map (λ p. lowest files ∷ file_of k ∷ p) (places_in (breaks_in files (lowest files) k))

  in-file-breaks : (k : Kind) (q : List ℕ) → at (breaks_of files (lowest files)) (file_of k ∷ q) ≡ at (breaks_in files (lowest files) k) q
  unfolding breaks_of
  in-file-breaks k q =
      at-within (file_count + 1) (λ m. at_which (breaks_in files (lowest files)) (which_of m)) (file_of k) q (omega (arith, sane k))
      ∙ ap (λ (w : Which). at (at_which (breaks_in files (lowest files)) w) q) (which-file k)

  file-broken : (k : Kind) (p : List ℕ) → In p (file_list k) → (n : ℕ) × (i : ℕ) × (f : ℕ) × (p ≡ break_at n k i f) × IsBroken files n k i f
  unfolding file_list list_of
  file-broken k p h =
      let a = map-in (λ q. lowest files ∷ file_of k ∷ q) (places_in (breaks_in files (lowest files) k)) h in
      let b = place-stands (breaks_in files (lowest files) k) a.0 a.1 in
      let c = stands-place (breaks_of files (lowest files)) (file_of k ∷ a.0) (in-file-breaks k a.0 ∙ b.1) in
      let w = list-broken p (in-same (sym a.2) (in_map (λ q. lowest files ∷ q) c)) in
      let e : file_of w.1 ≡ file_of k = ap (λ (x : List ℕ). get_or x 1 0) (sym w.4 ∙ a.2) in
      let q = file-same w.1 k e in
      (w.0, w.2, w.3, w.4 ∙ ap (λ (x : Kind). break_at w.0 x w.2 w.3) q, subst (λ (x : Kind). IsBroken files w.0 x w.2 w.3) q w.5)

  file-all : (k : Kind) (n i f : ℕ) → IsBroken files n k i f → In (break_at n k i f) (file_list k)
  unfolding file_list
  file-all k n i f w =
      let e = broken-lowest n k i f w in
      let s = holds-stands n k i f w.here in
      let a : at (breaks_in files (lowest files) k) (i ∷ f ∷ n % 10 ∷ []) ≡ some s.0 =
      sym (in-file-breaks k (i ∷ f ∷ n % 10 ∷ [])) ∙ ap (λ (t : ℕ). at (breaks_of files t) (file_of k ∷ i ∷ f ∷ n % 10 ∷ [])) e ∙ s.2 in
      in-same (ap (λ (t : ℕ). t ∷ file_of k ∷ i ∷ f ∷ n % 10 ∷ []) e) (in_map (λ p. lowest files ∷ file_of k ∷ p) (stands-place (breaks_in files (lowest files) k) (i ∷ f ∷ n % 10 ∷ []) a))

  file-once : (k : Kind) → Once (file_list k)
  unfolding file_list
  file-once k =
      once-map (λ p. lowest files ∷ file_of k ∷ p) (λ p q e. tail-same (file_of k) p q (tail-same (lowest files) (file_of k ∷ p) (file_of k ∷ q) e)) _
      (places-once (breaks_in files (lowest files) k))

  cell-lowest : (k : Kind) → cell_of files k (lowest files) ≡ many (breaks_in files (lowest files) k)
  unfolding cell_of
  cell-lowest k = rw (eq-eqb (lowest files) (lowest files) refl)

  pub each-file-once : (k : Kind) → (list : List (List ℕ)) × BreaksIn files k list × (length list ≡ cell_of files k (lowest files))
  unfolding file_list
  each-file-once k = (
    file_list k,
    record { once = file-once k; broken = file-broken k; all = file-all k },
    length-map (places_in (breaks_in files (lowest files) k)) (λ p. lowest files ∷ file_of k ∷ p) ∙ places-long (breaks_in files (lowest files) k) ∙ sym (cell-lowest k),
  )

  pub other-tens-zero : (k : Kind) (t : ℕ) → (t ≡ lowest files → ⊥) → cell_of files k t ≡ 0
  unfolding cell_of
  other-tens-zero k t ne = rw (ne_eqb t (lowest files) ne)

  -- IT IS ZERO exactly if the delivery is accepted
  no_test : ((t : ℕ) → t < last_ten + 1 → many (breaks_of files t) ≡ 0) → (n : ℕ) (k : Kind) (i f : ℕ) → holds files n k i f ≡ false
  no_test quiet n k i f = go (holds files n k i f) refl
    where
      go : (b : Bool) → holds files n k i f ≡ b → b ≡ false
      go true e = absurd (let z = quiet (n / 10) (holds-stands n k i f e).1 in let p = holds-many n k i f e in omega arith)
      go false e = refl

  zero-accepted : many (breaks_of files (lowest files)) ≡ 0 → judged files ≡ Ok tt
  zero-accepted z =
      ⊎_elim (λ w. (accepted-plainly files).1 (no_test w.1)) (λ w. absurd (let p = w.has in omega arith)) (lowest-is files)

  pub zero-exactly :
      (judged files ≡ Ok tt → grid_of files ≡ replicate file_count (replicate groups 0))
      × (grid_of files ≡ replicate file_count (replicate groups 0) → judged files ≡ Ok tt)
  unfolding total
  zero-exactly = (
    λ e. sym (zeros-are files (lowest-none files (λ t _. none-hold t (λ n k i f _. (accepted-plainly files).0 e n k i f)))),
    λ e. zero-accepted (sym (grid-total files) ∙ ap (λ (g : List (List ℕ)). total (map total g)) e),
  )

  -- THE BREAK SHOWN is of the grid's ten, and its file's cell isn't zero
  first_of : (b : Break) → judged files ≡ Err b → First files b
  unfolding verdict_of Finds
  first_of b e = subst (λ (v : Finding). Finds files v) e (exact files).finds

  pub shown-counted :
      (b : Break) → judged files ≡ Err b
      → (k : Kind) × (file_of k ≡ b.file) × (lowest files ≡ number_of b.reason / 10) × (0 < cell_of files k (number_of b.reason / 10))
  unfolding cell_of
  shown-counted b e =
      let w = first_of b e in
      let low = broken-lowest w.n w.k w.i w.f w.really in
      let many-here = holds-in-file w.n w.k w.i w.f w.really.here in
      let n = w.number in (
        w.k,
        sym (ap (λ (x : Break). x.file) w.shown),
        low ∙ ap (λ (m : ℕ). m / 10) (sym n),
        rw (n, low, eq-eqb (w.n / 10) (w.n / 10) refl) many-here,
      )

  -- EVERY CELL fits ten digits
  cell-most : (k : Kind) → many (breaks_in files (lowest files) k) ≤ most_in_cell
  cell-most k = ⊎_elim quiet here (lowest-is files)
    where
      quiet : (lowest files ≡ 0) × ((t : ℕ) → t < last_ten + 1 → many (breaks_of files t) ≡ 0) → many (breaks_in files (lowest files) k) ≤ most_in_cell
      quiet w = let z = in-file files (lowest files) k (w.1 (lowest files) (let e = w.0 in omega arith)) in omega arith

      here : Lowest files → many (breaks_in files (lowest files) k) ≤ most_in_cell
      here w = go (lowest files) refl
        where
          go : (t : ℕ) → lowest files ≡ t → many (breaks_in files t k) ≤ most_in_cell
          go zero e = absurd (let l = first-ten files w in omega arith)
          go (suc zero) e = let m = shape-most files k in omega arith
          go (suc (suc t)) e = let m = file-most files (suc (suc t)) k (not-long files k (w.below 1 (omega arith))) in omega arith

  pub cell-fits : (k : Kind) (t : ℕ) → cell_of files k t ≤ most_in_cell
  unfolding cell_of
  cell-fits k t = go (eqb t (lowest files)) refl
    where
      go : (b : Bool) → eqb t (lowest files) ≡ b → pick b (many (breaks_in files t k)) 0 ≤ most_in_cell
      go true e = rw (eqb-true t (lowest files) e) (cell-most k)
      go false e = omega arith
