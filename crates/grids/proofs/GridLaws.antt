-- The grid as the code fills it, the lowest ten that has a break, and the grid's total.
-- Assumes nothing.
use Prim.Native.Nat.{ℕ, zero, suc, ◌+◌, ◌-◌, ◌<◌, ◌≤◌}
use mathlib.Core.Bool.{Bool, true, false, not, ◌&&◌, ◌||◌}
use mathlib.Core.List.{List, [], ◌∷◌, map}
use mathlib.Core.Option.{Option, none, some}
use mathlib.Core.Path.{◌≡◌, refl, sym, ap, ap₂, ◌∙◌}
use mathlib.Core.Logic.{◌⊎◌, inl, inr, ⊎_elim}
use native.Mathlib.Nat.{le_of_suc-le-suc, eq-or-lt_of_le}
use native.Mathlib.Omega.{arith}
use lib.Dec.{ltb, eqb}
use lib.ListN.{get_or, replicate}
use borrow.Author.Tests.{ltb-true, ltb-false, lt-ltb, eqb-true, eq-eqb, ne_eqb, not-false}
use Rattle.std.proofs.lemmas.List.{get_or-map}
use Rattle.laws.specs.Find.{any, first_index, first_of}
use Rattle.laws.specs.Count.{bit, sum_of, total}
use Rattle.laws.specs.Nest.{many}
use Rattle.laws.specs.Row.{pick, row}
use Rattle.laws.proofs.FindLaws.{index-here, index-none, index-none-at, index-some-at, any_at, any-no}
use Rattle.laws.proofs.RowLaws.{and-true, row_same}
use Rattle.laws.proofs.SumLaws.{sum-none, sum-no, sum_one, total-row}
use Rattle.record.specs.declared.kind.Kind.{Kind}
use Rattle.record.specs.declared.kind.Kind.TheVariants.{Catalogo}
use Rattle.record.specs.Table.{Which}
use Rattle.std.specs.Prelude.{None, Some}
use Rattle.record.specs.Table.{file_of, file_count, which_of, on_file, kinds}
use Rattle.record.specs.Files.{Files, delivery_of}
use Rattle.record.specs.Rules.{breaks10}
use Rattle.record.specs.machinery.Counts.{shape_many, fields_many}
use Rattle.laws.proofs.MatchLaws.{NoneOf, numbers}
use Rattle.record.proofs.TableLaws.{sane, kind_at, which-file}
use Rattle.fifties.proofs.FiftyLaws.{plain, end, other, else-default}
use Rattle.keys.specs.Rules.{or_first}
use Rattle.judge.specs.Broken.{groups, last_ten, is_there, said_tests, tests_of, breaks_in, at_which, breaks_of}
use Rattle.grids.specs.Grid.{ten_of, lowest, cell_of, grid_of}
use Rattle.grids.specs.machinery.Counted.{counted_in, counted_of, column_of}
use Rattle.grids.proofs.FillLaws.{Shaped, shaped_row}
use Rattle.grids.proofs.TenLaws.{shape-many, fields-many, thirties-many, forties-many, fifties-many, seventies-many, tests-none}

zero_is : (x : ℕ) → ltb 0 x ≡ false → x ≡ 0
zero_is x e = let l = ltb-false 0 x e in omega arith

pub positive : (x : ℕ) → (x ≡ 0 → ⊥) → 0 < x
positive zero h = absurd (h refl)
positive (suc x) h = omega arith

map_same : {A B : Type 0} (f g : A → B) (xs : List A) → ((x : A) → f x ≡ g x) → map f xs ≡ map g xs
map_same f g [] same = refl
map_same {A} {B} f g (x ∷ xs) same = ap₂ (λ (y : B) (ys : List B). y ∷ ys) (same x) (map_same f g xs same)

-- the total of rows' totals
total-rows : {A : Type 0} (r : A → List ℕ) (n : A → ℕ) (xs : List A) → ((x : A) → total (r x) ≡ n x) → total (map total (map r xs)) ≡ total (map n xs)
unfolding total
total-rows r n [] same = refl
total-rows r n (x ∷ xs) same = ap₂ (λ (a b : ℕ). a + b) (same x) (total-rows r n xs same)

-- COLUMNS AND TENS: the column of a ten, which is the only one that has it, and each ten with reasons has one
column_for : ℕ → ℕ
column_for t = pick (eqb t 7) 5 (t - 1)

columns-all : any (λ g. not (ltb 0 (ten_of g) && eqb (column_for (ten_of g)) g)) groups ≡ false
unfolding any first_index first_of column_for
columns-all = refl

column-ten : (g : ℕ) → g < groups → (0 < ten_of g) × (column_for (ten_of g) ≡ g)
column-ten g l =
    let e = and-true _ _ (not-false _ (any-no (λ g. not (ltb 0 (ten_of g) && eqb (column_for (ten_of g)) g)) groups columns-all l)) in
    (ltb-true _ _ e.0, eqb-true _ _ e.1)

abbrev columned : ℕ → Bool
columned t = ltb (column_for t) groups && eqb (ten_of (column_for t)) t

tens-all : any (λ t. not (eqb t 0 || eqb t 6 || columned t)) (last_ten + 1) ≡ false
unfolding any first_index first_of column_for
tens-all = refl

ten-column : (t : ℕ) → t < last_ten + 1 → (t ≡ 0 → ⊥) → (t ≡ 6 → ⊥) → (column_for t < groups) × (ten_of (column_for t) ≡ t)
ten-column t l h g =
    let e : (eqb t 0 || eqb t 6 || columned t) ≡ true = not-false _ (any-no (λ t. not (eqb t 0 || eqb t 6 || columned t)) (last_ten + 1) tens-all l) in
    let w = and-true (ltb (column_for t) groups) (eqb (ten_of (column_for t)) t) (rw (ne_eqb t 0 h, ne_eqb t 6 g) at e) in
    (ltb-true _ _ w.0, eqb-true _ _ w.1)

none-picked : (b : Bool) (u : ℕ) → get_or (pick b [] []) u false ≡ false
none-picked true u = refl
none-picked false u = refl

-- WHAT THE LOOPS FILL: a cell of a column, the numbers of tallies, those of the files' shapes or fields
abbrev pub column_cell : ℕ → List ℕ → ℕ → ℕ → ℕ
column_cell t counts i g = pick (eqb (ten_of g) t) (get_or counts i 0) 0

abbrev pub bytes_in : Bool → Files → Kind → ℕ
bytes_in shape files k = pick shape (shape_many (files k) k) (fields_many (files k) k)

unfoldable pub bytes_no : Bool → Files → ℕ → ℕ
bytes_no shape files n = on_file (bytes_in shape files) (which_of (n + 1))

pub bytes-row : (shape : Bool) (files : Files) → row (bytes_no shape files) file_count ≡ counted_of files (pick shape 1 2)
unfolding bytes_no counted_of counted_in row which_of on_file
bytes-row true files = refl
bytes-row false files = refl

module _ (files : Files) where
  -- A TEN'S BREAKS, in all files and in one
  pub in-file : (t : ℕ) (k : Kind) → many (breaks_of files t) ≡ 0 → many (breaks_in files t k) ≡ 0
  unfolding many breaks_of
  in-file t k e =
      let z = sum-no (λ n. many (at_which (breaks_in files t) (which_of n))) (file_count + 1) {k = file_of k} e (omega (arith, sane k)) in
      rw (which-file k) at z

  pub in-files : (t : ℕ) → ((k : Kind) → many (breaks_in files t k) ≡ 0) → many (breaks_of files t) ≡ 0
  unfolding many breaks_of
  in-files t quiet = sum-none _ (file_count + 1) (λ n _. at (which_of n))
    where
      at : (w : Which) → many (at_which (breaks_in files t) w) ≡ 0
      at None = refl
      at (Some k) = quiet k

  pub ten-total : (t : ℕ) → many (breaks_of files t) ≡ total (map (λ k. many (breaks_in files t k)) kinds)
  unfolding many breaks_of sum_of which_of total
  ten-total t = omega arith

  -- no reason that can be broken has the ten 0 or 6
  pub zero-none : (k : Kind) → many (breaks_in files 0 k) ≡ 0
  unfolding tests_of
  zero-none k = tests-none files 0 k (λ i f u l. refl)

  six-none : (k : Kind) → many (breaks_in files 6 k) ≡ 0
  unfolding tests_of said_tests
  six-none k = tests-none files 6 k (λ i f u l. none-picked (is_there (delivery_of files k).count k i f) u)

  -- THE LOWEST TEN that has a break: there is none,
  pub lowest-none : ((t : ℕ) → t < last_ten + 1 → many (breaks_of files t) ≡ 0) → lowest files ≡ 0
  unfolding lowest
  lowest-none quiet =
      ap or_first (index-none (λ t. ltb 0 (many (breaks_of files t))) (last_ten + 1) (λ t l. rw (quiet t l)))

  -- or it is t,
  pub lowest-at : (t : ℕ) → t < last_ten + 1 → ((t' : ℕ) → t' < t → many (breaks_of files t') ≡ 0) → 0 < many (breaks_of files t) → lowest files ≡ t
  unfolding lowest
  lowest-at t l below h =
      ap or_first
      (index-here (λ t. ltb 0 (many (breaks_of files t))) (last_ten + 1)
      (index-none (λ t. ltb 0 (many (breaks_of files t))) t (λ t' b. rw (below t' b))) l (lt-ltb 0 _ h))

  lowest-some : (t : ℕ) → first_index (λ t. ltb 0 (many (breaks_of files t))) (last_ten + 1) ≡ some t → lowest files ≡ t
  unfolding lowest
  lowest-some t e = ap or_first e

  -- and these are all
  pub record Lowest : Type 0 where
    pub within : lowest files < last_ten + 1
    pub below : (t : ℕ) → t < lowest files → many (breaks_of files t) ≡ 0
    pub has : 0 < many (breaks_of files (lowest files))

  pub lowest-is : ((lowest files ≡ 0) × ((t : ℕ) → t < last_ten + 1 → many (breaks_of files t) ≡ 0)) ⊎ Lowest
  lowest-is = go (first_index (λ t. ltb 0 (many (breaks_of files t))) (last_ten + 1)) refl
    where
      go : (o : Option ℕ) → first_index (λ t. ltb 0 (many (breaks_of files t))) (last_ten + 1) ≡ o → ((lowest files ≡ 0) × ((t : ℕ) → t < last_ten + 1 → many (breaks_of files t) ≡ 0)) ⊎ Lowest
      go none e =
          let all : (t : ℕ) → t < last_ten + 1 → many (breaks_of files t) ≡ 0 =
          λ t l. zero_is (many (breaks_of files t)) (index-none-at (λ t. ltb 0 (many (breaks_of files t))) (last_ten + 1) e l) in
          inl (lowest-none all, all)
      go (some t) e =
          let w = index-some-at (λ t. ltb 0 (many (breaks_of files t))) (last_ten + 1) e in
          let q = lowest-some t e in
          inr
          (record {
            within = rw q w.0;
            below = λ t' l. zero_is _ (w.2 t' (rw q at l));
            has = rw q (ltb-true 0 _ w.1);
          })

  -- WHAT IS COUNTED of a ten in a file is how many breaks it has, where no lower ten has one
  pub not-long : (k : Kind) → many (breaks_of files 1) ≡ 0 → breaks10 (files k) k ≡ false
  unfolding shape_many
  not-long k e = go (breaks10 (files k) k) (let z = in-file 1 k e in let h = shape-many files k in omega arith)
    where
      go : (b : Bool) → bit b ≡ 0 → b ≡ false
      go true h = absurd (let z : ◌≡◌ {A = ℕ} 1 0 = h in omega arith)
      go false h = refl

  pub counted_is : (t : ℕ) (k : Kind) → t < last_ten + 1 → ((t' : ℕ) → t' < t → many (breaks_of files t') ≡ 0) → counted_in files t k ≡ many (breaks_in files t k)
  unfolding counted_in
  counted_is zero k l below = sym (zero-none k)
  counted_is (suc zero) k l below = shape-many files k
  counted_is (suc (suc zero)) k l below = fields-many files k (not-long k (below 1 (omega arith)))
  counted_is (suc (suc (suc zero))) k l below = thirties-many files k
  counted_is (suc (suc (suc (suc zero)))) k l below = forties-many files k
  counted_is (suc (suc (suc (suc (suc zero))))) k l below = fifties-many files k
  counted_is (suc (suc (suc (suc (suc (suc zero)))))) k l below = sym (six-none k)
  counted_is (suc (suc (suc (suc (suc (suc (suc zero))))))) k l below = seventies-many files k
  counted_is (suc (suc (suc (suc (suc (suc (suc (suc t)))))))) k l below = absurd (omega arith)

  -- THE GRID by rows and columns
  pub grid-row : grid_of files ≡ row (λ i. row (λ g. cell_of files (get_or kinds i Catalogo) (ten_of g)) groups) file_count
  unfolding grid_of row
  grid-row = refl

  pub shaped-grid : Shaped (grid_of files)
  shaped-grid = rw grid-row (shaped_row (λ i g. cell_of files (get_or kinds i Catalogo) (ten_of g)))

  counted-at : (t i : ℕ) → i < file_count → get_or (counted_of files t) i 0 ≡ counted_in files t (get_or kinds i Catalogo)
  unfolding counted_of
  counted-at t i l = get_or-map (counted_in files t) kinds i Catalogo 0 l

  -- whether any file has one tells whether the ten has
  pub none-counted :
      (t : ℕ) → ((k : Kind) → counted_in files t k ≡ many (breaks_in files t k)) → any (λ i. ltb 0 (get_or (counted_of files t) i 0)) file_count ≡ false
      → many (breaks_of files t) ≡ 0
  none-counted t same e = in-files t (λ k. sym (same k) ∙ zero-at k)
    where
      zero-at : (k : Kind) → counted_in files t k ≡ 0
      zero-at k =
          let l : file_of k - 1 < file_count = omega (arith, sane k) in
          let h = any-no (λ i. ltb 0 (get_or (counted_of files t) i 0)) file_count e l in
          ap (counted_in files t) (sym (kind_at k)) ∙ sym (counted-at t (file_of k - 1) l) ∙ zero_is _ h

  pub some-counted :
      (t : ℕ) → ((k : Kind) → counted_in files t k ≡ many (breaks_in files t k)) → any (λ i. ltb 0 (get_or (counted_of files t) i 0)) file_count ≡ true
      → 0 < many (breaks_of files t)
  some-counted t same e =
      let w = any_at (λ i. ltb 0 (get_or (counted_of files t) i 0)) file_count e in
      let k = get_or kinds w.0 Catalogo in
      let h : 0 < get_or (counted_of files t) w.0 0 = ltb-true 0 (get_or (counted_of files t) w.0 0) w.2 in
      let q = counted-at t w.0 w.1 ∙ same k in
      positive _ (λ z. let n = in-file t k z in omega arith)

  -- with the counts in the lowest ten's column,
  pub column-is : (t : ℕ) → lowest files ≡ t → ((k : Kind) → counted_in files t k ≡ many (breaks_in files t k)) → column_of t (counted_of files t) ≡ grid_of files
  unfolding column_of cell_of
  column-is t e same =
      row_same _ _ file_count
      (λ i l. row_same _ _ groups
      (λ g _. ap (λ (n : ℕ). pick (eqb (ten_of g) t) n 0) (counted-at t i l ∙ same (get_or kinds i Catalogo)) ∙ cell (ten_of g) (get_or kinds i Catalogo) (eqb (ten_of g) t) refl))
      ∙ sym grid-row
    where
      cell : (v : ℕ) (k : Kind) (b : Bool) → eqb v t ≡ b → pick b (many (breaks_in files t k)) 0 ≡ pick (eqb v (lowest files)) (many (breaks_in files v k)) 0
      cell v k true h = let q = eqb-true v t h in rw (e, h, q)
      cell v k false h = rw (e, h)

  -- and of zeros where there is none
  pub zeros-are : lowest files ≡ 0 → replicate file_count (replicate groups 0) ≡ grid_of files
  unfolding grid_of cell_of row
  zeros-are e = rw e

  -- a ten that has a break isn't 0
  pub first-ten : Lowest → 1 ≤ lowest files
  first-ten w = positive (lowest files) (λ z. let n = in-files 0 zero-none in let h = ap (λ (t : ℕ). many (breaks_of files t)) z in let p = w.has in omega arith)

  -- nor 6
  not-six : Lowest → lowest files ≡ 6 → ⊥
  not-six w z = let n = in-files 6 six-none in let h = ap (λ (t : ℕ). many (breaks_of files t)) z in let p = w.has in omega arith

  -- ITS TOTAL is the number of the lowest ten's breaks
  row-total : (k : Kind) → total (row (λ g. cell_of files k (ten_of g)) groups) ≡ many (breaks_in files (lowest files) k)
  unfolding cell_of
  row-total k = total-row (λ g. cell_of files k (ten_of g)) groups ∙ ⊎_elim quiet here lowest-is
    where
      quiet : (lowest files ≡ 0) × ((t : ℕ) → t < last_ten + 1 → many (breaks_of files t) ≡ 0) → sum_of (λ g. cell_of files k (ten_of g)) groups ≡ many (breaks_in files (lowest files) k)
      quiet w =
          sum-none _ groups (λ g l. rw (w.0, ne_eqb (ten_of g) 0 (λ (q : ten_of g ≡ 0). omega (arith, (column-ten g l).0))))
          ∙ sym (ap (λ (t : ℕ). many (breaks_in files t k)) w.0 ∙ zero-none k)

      here : Lowest → sum_of (λ g. cell_of files k (ten_of g)) groups ≡ many (breaks_in files (lowest files) k)
      here w =
          let low : 1 ≤ lowest files = first-ten w in
          let c = ten-column (lowest files) w.within (λ z. omega arith) (not-six w) in
          sum_one (λ g. cell_of files k (ten_of g)) groups {k = column_for (lowest files)} c.0
          (λ g l ne. rw (ne_eqb (ten_of g) (lowest files) (λ (z : ten_of g ≡ lowest files). ne (sym (column-ten g l).1 ∙ ap column_for z))))
          ∙ rw (c.1, eq-eqb (lowest files) (lowest files) refl)

  pub grid-total : total (map total (grid_of files)) ≡ many (breaks_of files (lowest files))
  unfolding grid_of
  grid-total = total-rows (λ k. row (λ g. cell_of files k (ten_of g)) groups) _ kinds row-total ∙ sym (ten-total (lowest files))

  -- LOOPS over the tens: those before t have no break. At the start,
  abbrev pub Quiet : ℕ → Type 0
  Quiet t = (t' : ℕ) → t' < t → many (breaks_of files t') ≡ 0

  pub quiet-start : Quiet 1
  quiet-start t l = let e : t ≡ 0 = omega arith in rw e (in-files 0 zero-none)

  module _ {t : ℕ} (below : Quiet t) (l : t < last_ten + 1) where
    same : (k : Kind) → counted_in files t k ≡ many (breaks_in files t k)
    same k = counted_is t k l below

    -- after a ten that has none,
    pub quiet-more : any (λ i. ltb 0 (get_or (counted_of files t) i 0)) file_count ≡ false → Quiet (t + 1)
    quiet-more e t' u =
        ⊎_elim (λ (q : t' ≡ t). rw q (none-counted t same e)) (λ b. below t' b) (eq-or-lt_of_le (le_of_suc-le-suc (one_more u)))
      where
        one_more : t' < t + 1 → suc t' ≤ suc t
        one_more u = omega arith

    -- at one that has,
    pub quiet-here : any (λ i. ltb 0 (get_or (counted_of files t) i 0)) file_count ≡ true → column_of t (counted_of files t) ≡ grid_of files
    quiet-here e = column-is t (lowest-at t l below (some-counted t same e)) same

  -- and after all
  pub quiet-end : {t : ℕ} → Quiet t → last_ten < t → replicate file_count (replicate groups 0) ≡ grid_of files
  quiet-end {t} below l = zeros-are (lowest-none (λ t' u. below t' (omega arith)))

  -- A NUMBER that is no ten's has no counts
  else-zero : (t : ℕ) → NoneOf (7 ∷ numbers 1 5) t → (k : Kind) → 0 ≡ counted_in files t k
  unfolding counted_in
  else-zero t o k =
      sym
      (else-default
      (plain
      (other o.0.0.0.0.0.1
      (other o.0.0.0.0.1
      (other o.0.0.0.1
      (other o.0.0.1
      (other o.0.1
      (plain
      (other o.1 end)))))))))

  pub counted-else : (t : ℕ) → NoneOf (7 ∷ numbers 1 5) t → replicate file_count 0 ≡ counted_of files t
  unfolding counted_of
  counted-else t o = map_same (λ k. 0) (counted_in files t) kinds (else-zero t o)
