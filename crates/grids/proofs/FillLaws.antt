-- Loops that fill a grid cell by cell, row after row.
-- Assumes nothing.
use Prim.Native.Nat.{ℕ, suc, ◌+◌, ◌<◌, ◌≤◌}
use mathlib.Core.Bool.{Bool, true, false}
use mathlib.Core.List.{List, []}
use mathlib.Core.Path.{◌≡◌, refl, sym, ap, ◌∙◌}
use mathlib.Core.Logic.{◌⊎◌, inl, inr, ⊎_elim}
use native.Mathlib.Nat.{eq-or-lt_of_le, le_of_suc-le-suc}
use native.Mathlib.Omega.{arith}
use lib.Dec.{eqb}
use lib.ListN.{length, get_or, set, length-set, replicate}
use lib.Seq.{get_or-set_same, get_or-set_other}
use borrow.Author.Tests.{eqb-true, eqb-false}
use Rattle.std.proofs.lemmas.List.{ext_get_or}
use Rattle.laws.specs.Row.{row}
use Rattle.laws.proofs.RowLaws.{length-row, row_at}
use Rattle.record.specs.Table.{file_count}
use Rattle.judge.specs.Broken.{groups}
use Rattle.grids.specs.Grid.{Grid}
use Rattle.grids.specs.Sum.{cell_at}

-- a grid's shape
pub record Shaped (a : Grid) : Type 0 where
  pub tall : length a ≡ file_count
  pub wide : (i : ℕ) → i < file_count → length (get_or a i []) ≡ groups

-- the rows before i, and of row i the cells before g, are filled
pub record Filling (f : ℕ → ℕ → ℕ) (a : Grid) (i g : ℕ) : Type 0 where
  pub shaped : Shaped a
  pub rows : (j h : ℕ) → j < i → h < groups → cell_at a j h ≡ f j h
  pub cells : (h : ℕ) → h < g → cell_at a i h ≡ f i h

-- a grid is its cells
pub grid-same : (a b : Grid) → Shaped a → Shaped b → ((i g : ℕ) → i < file_count → g < groups → cell_at a i g ≡ cell_at b i g) → a ≡ b
unfolding cell_at
grid-same a b s t same =
    ext_get_or [] a b (s.tall ∙ sym t.tall)
    (λ i l.
    let li : i < file_count = omega (arith, s.tall) in
    ext_get_or 0 (get_or a i []) (get_or b i []) (s.wide i li ∙ sym (t.wide i li)) (λ g u. same i g li (omega (arith, s.wide i li))))

-- one that is given by its cells
pub shaped_row : (f : ℕ → ℕ → ℕ) → Shaped (row (λ i. row (f i) groups) file_count)
shaped_row f =
    record {
      tall = length-row _ file_count;
      wide = λ i l. ap length (row_at (λ i. row (f i) groups) file_count [] l) ∙ length-row (f i) groups;
    }

pub cell_row : (f : ℕ → ℕ → ℕ) (i g : ℕ) → i < file_count → g < groups → cell_at (row (λ i. row (f i) groups) file_count) i g ≡ f i g
unfolding cell_at
cell_row f i g l u = ap (λ (r : List ℕ). get_or r g 0) (row_at (λ i. row (f i) groups) file_count [] l) ∙ row_at (f i) groups 0 u

same_or : (x y : ℕ) → (x ≡ y) ⊎ (x ≡ y → ⊥)
same_or x y = go (eqb x y) refl
  where
    go : (b : Bool) → eqb x y ≡ b → (x ≡ y) ⊎ (x ≡ y → ⊥)
    go true e = inl (eqb-true x y e)
    go false e = inr (eqb-false x y e)

-- LOOPS: at the start,
pub fill_start : (f : ℕ → ℕ → ℕ) → Filling f (replicate file_count (replicate groups 0)) 0 0
unfolding row
fill_start f =
    record {
      shaped = shaped_row (λ i g. 0);
      rows = λ j h l u. absurd (omega arith);
      cells = λ h l. absurd (omega arith);
    }

-- at a cell more,
pub fill-cell : {f : ℕ → ℕ → ℕ} {a : Grid} {i g v : ℕ} → i < file_count → g < groups → Filling f a i g → v ≡ f i g → Filling f (set a i (set (get_or a i []) g v)) i (g + 1)
unfolding cell_at
fill-cell {f} {a} {i} {g} {v} li lg s e =
    let tall = s.shaped.tall in
    let wide = s.shaped.wide i li in
    let new = set (get_or a i []) g v in
    let here : get_or (set a i new) i [] ≡ new = get_or-set_same a i new [] (omega arith) in
    let other : (j : ℕ) → (j ≡ i → ⊥) → get_or (set a i new) j [] ≡ get_or a j [] = λ j ne. get_or-set_other a i j new [] ne in
    record {
      shaped =
          record {
            tall = length-set a i new ∙ tall;
            wide =
                λ j l.
                ⊎_elim
                (λ (q : j ≡ i). rw (q, here) (length-set (get_or a i []) g v ∙ wide))
                (λ ne. rw (other j ne) (s.shaped.wide j l))
                (same_or j i);
          };
      rows = λ j h lj lh. rw (other j (λ (q : j ≡ i). omega arith)) (s.rows j h lj lh);
      cells =
          λ h l.
          ap (λ (r : List ℕ). get_or r h 0) here
          ∙ ⊎_elim
          (λ (q : h ≡ g). rw q (get_or-set_same (get_or a i []) g v 0 (omega arith) ∙ e))
          (λ ne. get_or-set_other (get_or a i []) g h v 0 ne ∙ s.cells h (below h ne l))
          (same_or h g);
    }
  where
    below : (h : ℕ) → (h ≡ g → ⊥) → h < g + 1 → h < g
    below h ne l = ⊎_elim (λ (q : h ≡ g). absurd (ne q)) (λ b. b) (eq-or-lt_of_le (le_of_suc-le-suc (one_more h l)))
      where
        one_more : (h : ℕ) → h < g + 1 → suc h ≤ suc g
        one_more h l = omega arith

-- at a row more,
pub fill-row : {f : ℕ → ℕ → ℕ} {a : Grid} {i g : ℕ} → groups ≤ g → Filling f a i g → Filling f a (i + 1) 0
fill-row {f} {a} {i} {g} l s =
    record {
      shaped = s.shaped;
      rows =
          λ j h lj lh.
          ⊎_elim (λ (e : j ≡ i). rw e (s.cells h (omega arith))) (λ b. s.rows j h b lh) (eq-or-lt_of_le (le_of_suc-le-suc (below j i lj)));
      cells = λ h l. absurd (omega arith);
    }
  where
    below : (j i : ℕ) → j < i + 1 → suc j ≤ suc i
    below j i l = omega arith

-- and at the end
pub fill_end : {f : ℕ → ℕ → ℕ} {a : Grid} {i g : ℕ} → file_count ≤ i → Filling f a i g → a ≡ row (λ i. row (f i) groups) file_count
fill_end {f} {a} {i} {g} l s =
    grid-same a _ s.shaped (shaped_row f) (λ j h lj lh. s.rows j h (omega arith) lh ∙ sym (cell_row f j h lj lh))
