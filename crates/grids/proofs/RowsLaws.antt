-- The rows as the program's code writes them: a count after the other.
-- Assumes nothing.
use Prim.Native.Nat.{ℕ, ◌+◌, ◌*◌, ◌-◌, ◌≤◌}
use mathlib.Core.List.{List, ◌++◌, append_assoc, append-nil}
use mathlib.Core.Path.{◌≡◌, refl, sym, ap, ap₂, ◌∙◌}
use native.Mathlib.Numerals.{add-one}
use native.Mathlib.Omega.{arith}
use lib.ListN.{length, take, drop, replicate}
use lib.Seq.{take_all}
use Rattle.laws.specs.Row.{strung}
use Rattle.field.specs.Digits.{digits}
use Rattle.record.specs.Table.{file_count}
use Rattle.judge.specs.Broken.{groups}
use Rattle.judge.specs.declared.line.Line.{Line}
use Rattle.judge.specs.Line.{big_line, line_in}
use Rattle.grids.specs.Grid.{Grid}
use Rattle.grids.specs.Sum.{cell_at}
use Rattle.grids.specs.Rows.{count_text, row_text, rows_text, rows_room, rows_in}

-- LOOPS: the rows before i, and of row i the counts before g, are written
pub record Writing (grid : Grid) (bytes : List ℕ) (at i g : ℕ) : Type 0 where
  pub long : length bytes ≡ rows_room
  pub place : at ≡ (i * groups + g) * 11
  pub text : take at bytes ≡ strung (row_text grid) i ++ strung (λ h. count_text h (cell_at grid i h)) g

pub writing_start : (grid : Grid) (bytes : List ℕ) → length bytes ≡ rows_room → Writing grid bytes 0 0 0
unfolding strung
writing_start grid bytes e = record { long = e; place = omega arith; text = refl }

pub writing_more :
    {grid : Grid} {bytes bytes' : List ℕ} {at at' i g n : ℕ} → Writing grid bytes at i g → n ≡ cell_at grid i g
    → (at' ≡ at + 11) × (take at' bytes' ≡ take at bytes ++ count_text g n) × (length bytes' ≡ length bytes) → Writing grid bytes' at' i (g + 1)
unfolding strung
writing_more {grid} {bytes} {bytes'} {at} {at'} {i} {g} {n} w e p =
    record {
      long = p.2 ∙ w.long;
      place = omega (arith, p.0, w.place);
      text =
          p.1
          ∙ ap₂ (λ (s t : List ℕ). s ++ t) w.text (ap (count_text g) e)
          ∙ append_assoc (strung (row_text grid) i) (strung (λ h. count_text h (cell_at grid i h)) g) (count_text g (cell_at grid i g))
          ∙ ap (λ (m : ℕ). strung (row_text grid) i ++ strung (λ h. count_text h (cell_at grid i h)) m) (sym (add-one g));
    }

pub writing-row : {grid : Grid} {bytes : List ℕ} {at i g : ℕ} → g ≤ groups → groups ≤ g → Writing grid bytes at i g → Writing grid bytes at (i + 1) 0
unfolding strung
writing-row {grid} {bytes} {at} {i} {g} l u w =
    let q : g ≡ groups = omega arith in
    record {
      long = w.long;
      place = omega (arith, w.place);
      text =
          w.text
          ∙ ap (λ (m : ℕ). strung (row_text grid) i ++ strung (λ h. count_text h (cell_at grid i h)) m) q
          ∙ ap (λ (m : ℕ). strung (row_text grid) m) (sym (add-one i))
          ∙ sym (append-nil (strung (row_text grid) (i + 1)));
    }

pub writing-end : {grid : Grid} {bytes : List ℕ} {at i : ℕ} → i ≤ file_count → file_count ≤ i → Writing grid bytes at i 0 → record { len = rows_room; bytes = bytes } ≡ rows_in (rows_text grid)
unfolding rows_in rows_text strung
writing-end {grid} {bytes} {at} {i} l u w =
    let q : i ≡ file_count = omega arith in
    let all : List ℕ = strung (row_text grid) file_count in
    let e : bytes ≡ all =
    sym (take_all at bytes (omega (arith, w.long, w.place))) ∙ w.text ∙ append-nil (strung (row_text grid) i) ∙ ap (strung (row_text grid)) q in
    let long : length all ≡ rows_room = ap length (sym e) ∙ w.long in
    let z : rows_room - length all ≡ 0 = omega arith in
    ap₂ (λ (n : ℕ) (b : List ℕ). record { len = n; bytes = b }) (sym long) (e ∙ sym (append-nil all) ∙ ap (λ (m : ℕ). all ++ replicate m 0) (sym z))

-- A LINE in the rows' stead
pub big-copied :
    {part : List ℕ} {line : Line} (file : ℕ) → line ≡ line_in (big_line file) → part ≡ take 6 line.bytes
    → record { len = 6; bytes = part ++ drop 6 (replicate rows_room 0) } ≡ rows_in (big_line file)
unfolding rows_in line_in digits
big-copied file e h = rw (h, e) refl
