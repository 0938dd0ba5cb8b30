-- Adding grids: refused exactly if a cell's sum is over ten digits; else cell by cell, in any order and grouping.
-- Assumes nothing.
use Prim.Native.Nat.{ℕ, ◌+◌, ◌<◌, ◌≤◌}
use mathlib.Core.Bool.{Bool, true, false}
use mathlib.Core.Path.{◌≡◌, refl, sym, ap, ◌∙◌}
use native.Mathlib.Omega.{arith}
use lib.Dec.{ltb}
use borrow.Author.Tests.{ltb-true, ltb-false, lt-ltb, le-ltb}
use Rattle.laws.specs.Find.{any}
use Rattle.laws.specs.Row.{pick}
use Rattle.laws.proofs.FindLaws.{any_at, any-no, any-true, any_false, true-false}
use Rattle.laws.proofs.RowLaws.{row_same}
use Rattle.std.specs.Prelude.{Ok}
use Rattle.record.specs.Table.{file_count}
use Rattle.record.specs.Breaks.{fine}
use Rattle.judge.specs.Broken.{groups}
use Rattle.grids.specs.Grid.{Grid}
use Rattle.grids.specs.Sum.{most_in_cell, cell_at, too_many, plus, add_finding, add_of, refused67}
use Rattle.grids.proofs.FillLaws.{Shaped, grid-same, shaped_row, cell_row}

-- a cell's sum, and whether it is too large
abbrev pub sum_cell : Grid → Grid → ℕ → ℕ → ℕ
sum_cell a b i g = cell_at a i g + cell_at b i g

abbrev pub over_at : Grid → Grid → ℕ → ℕ → Bool
over_at a b i g = ltb most_in_cell (sum_cell a b i g)

-- WHERE A CELL'S SUM IS TOO LARGE, and where none is
pub over-at : (a b : Grid) → too_many a b ≡ true → (i : ℕ) × (g : ℕ) × (i < file_count) × (g < groups) × (most_in_cell < cell_at a i g + cell_at b i g)
unfolding too_many
over-at a b e =
    let w = any_at _ file_count e in
    let v = any_at _ groups w.2 in
    (w.0, v.0, w.1, v.1, ltb-true most_in_cell _ v.2)

pub over-is : (a b : Grid) (i g : ℕ) → i < file_count → g < groups → most_in_cell < cell_at a i g + cell_at b i g → too_many a b ≡ true
unfolding too_many
over-is a b i g l u h = any-true _ file_count l (any-true (λ g. ltb most_in_cell (cell_at a i g + cell_at b i g)) groups u (lt-ltb most_in_cell _ h))

pub fits-at : (a b : Grid) (i g : ℕ) → too_many a b ≡ false → i < file_count → g < groups → cell_at a i g + cell_at b i g ≤ most_in_cell
unfolding too_many
fits-at a b i g e l u =
    ltb-false most_in_cell _ (any-no (λ g. ltb most_in_cell (cell_at a i g + cell_at b i g)) groups (any-no (λ i. any (λ g. ltb most_in_cell (cell_at a i g + cell_at b i g)) groups) file_count e l) u)

pub fits-is : (a b : Grid) → ((i g : ℕ) → i < file_count → g < groups → cell_at a i g + cell_at b i g ≤ most_in_cell) → too_many a b ≡ false
unfolding too_many
fits-is a b h = any_false _ file_count (λ i l. any_false _ groups (λ g u. le-ltb most_in_cell _ (h i g l u)))

-- THE SUM'S CELLS
pub plus-at : (a b : Grid) (i g : ℕ) → i < file_count → g < groups → cell_at (plus a b) i g ≡ cell_at a i g + cell_at b i g
unfolding plus
plus-at a b i g l u = cell_row (λ i g. cell_at a i g + cell_at b i g) i g l u

fine-broken : refused67 ≡ Ok tt → ⊥
fine-broken e = true-false (sym (ap fine e))

-- REFUSED with 67 exactly if a cell's sum is too large, and then the grid is as it was; else it is the sum
pub refused-exactly :
    (a b : Grid)
    → (add_finding a b ≡ refused67 → (i : ℕ) × (g : ℕ) × (i < file_count) × (g < groups) × (most_in_cell < cell_at a i g + cell_at b i g))
    × ((i g : ℕ) → i < file_count → g < groups → most_in_cell < cell_at a i g + cell_at b i g → (add_finding a b ≡ refused67) × (add_of a b ≡ a))
unfolding add_finding add_of
refused-exactly a b = (λ e. over-at a b (over e), λ i g l u h. let t = over-is a b i g l u h in (rw t refl, rw t refl))
  where
    over : pick (too_many a b) refused67 (Ok tt) ≡ refused67 → too_many a b ≡ true
    over e = go (too_many a b) refl e
      where
        go : (t : Bool) → too_many a b ≡ t → pick t refused67 (Ok tt) ≡ refused67 → t ≡ true
        go true q e = refl
        go false q e = absurd (fine-broken (sym e))

pub added-exactly :
    (a b : Grid) → add_finding a b ≡ Ok tt → (i g : ℕ) → i < file_count → g < groups → cell_at (add_of a b) i g ≡ cell_at a i g + cell_at b i g
unfolding add_finding add_of
added-exactly a b e i g l u = go (too_many a b) refl e
  where
    go : (t : Bool) → too_many a b ≡ t → pick t refused67 (Ok tt) ≡ Ok tt → cell_at (pick t a (plus a b)) i g ≡ cell_at a i g + cell_at b i g
    go true q e = absurd (fine-broken e)
    go false q e = plus-at a b i g l u

-- IN ANY ORDER
pub plus-swapped : (a b : Grid) → plus a b ≡ plus b a
unfolding plus
plus-swapped a b = row_same _ _ file_count (λ i _. row_same _ _ groups (λ g _. omega arith))

pub over-swapped : (a b : Grid) → too_many a b ≡ false → too_many b a ≡ false
over-swapped a b e = fits-is b a (λ i g l u. let h = fits-at a b i g e l u in omega arith)

-- AND GROUPING
shaped-plus : (a b : Grid) → Shaped (plus a b)
unfolding plus
shaped-plus a b = shaped_row (λ i g. cell_at a i g + cell_at b i g)

pub plus-grouped : (a b c : Grid) → plus (plus a b) c ≡ plus a (plus b c)
plus-grouped a b c =
    grid-same _ _ (shaped-plus (plus a b) c) (shaped-plus a (plus b c))
    (λ i g l u.
    let p = plus-at (plus a b) c i g l u in
    let q = plus-at a b i g l u in
    let r = plus-at a (plus b c) i g l u in
    let s = plus-at b c i g l u in
    omega arith)

pub over-grouped : (a b c : Grid) → too_many a b ≡ false → too_many (plus a b) c ≡ false → (too_many b c ≡ false) × (too_many a (plus b c) ≡ false)
over-grouped a b c e h = (
  fits-is b c
      (λ i g l u. let x = fits-at (plus a b) c i g h l u in let p = plus-at a b i g l u in omega arith),
  fits-is a (plus b c)
      (λ i g l u. let x = fits-at (plus a b) c i g h l u in let p = plus-at a b i g l u in let q = plus-at b c i g l u in omega arith),
)

-- THE SAME OF ADDING, of which the answer is Ok where nothing is too large
pub fits-fine : (a b : Grid) → add_finding a b ≡ Ok tt → too_many a b ≡ false
unfolding add_finding
fits-fine a b e = go (too_many a b) e
  where
    go : (t : Bool) → pick t refused67 (Ok tt) ≡ Ok tt → t ≡ false
    go true e = absurd (fine-broken e)
    go false e = refl

fine-fits : (a b : Grid) → too_many a b ≡ false → add_finding a b ≡ Ok tt
unfolding add_finding
fine-fits a b e = rw e refl

pub added_is : (a b : Grid) → too_many a b ≡ false → add_of a b ≡ plus a b
unfolding add_of
added_is a b e = rw e refl

pub added-any-order : (a b : Grid) → add_finding a b ≡ Ok tt → (add_finding b a ≡ Ok tt) × (add_of a b ≡ add_of b a)
added-any-order a b e =
    let fit = fits-fine a b e in
    let back = over-swapped a b fit in
    (fine-fits b a back, added_is a b fit ∙ plus-swapped a b ∙ sym (added_is b a back))

pub added-any-grouping :
    (a b c : Grid) → add_finding a b ≡ Ok tt → add_finding (add_of a b) c ≡ Ok tt
    → (add_finding b c ≡ Ok tt) × (add_finding a (add_of b c) ≡ Ok tt) × (add_of (add_of a b) c ≡ add_of a (add_of b c))
added-any-grouping a b c e h =
    let fit = fits-fine a b e in
    let all = rw (added_is a b fit) at (fits-fine (add_of a b) c h) in
    let other = over-grouped a b c fit all in
    let right = added_is b c other.0 in (
      fine-fits b c other.0,
      rw right (fine-fits a (plus b c) other.1),
      ap (λ (x : Grid). add_of x c) (added_is a b fit)
          ∙ added_is (plus a b) c all
          ∙ plus-grouped a b c
          ∙ sym (added_is a (plus b c) other.1)
          ∙ ap (λ (x : Grid). add_of a x) (sym right),
    )
