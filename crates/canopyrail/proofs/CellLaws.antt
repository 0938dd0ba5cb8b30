-- Grids in lent memory (specs/Cells.antt): what is put is what is held, refusals leave it, and each call has one outcome.
-- Assumes nothing.
use Prim.Native.Nat.{ℕ, ◌+◌, ◌*◌, ◌/◌, ◌%◌, ◌<◌, ◌≤◌}
use mathlib.Core.Bool.{Bool, true, false, ◌||◌}
use mathlib.Core.List.{List, [], ◌∷◌, ◌++◌, map}
use mathlib.Core.Path.{◌≡◌, refl, sym, ap, ◌∙◌}
use native.Mathlib.Omega.{arith}
use lib.Dec.{eqb}
use lib.ListN.{length, get_or, drop, replicate, get_or-append}
use borrow.Author.Tests.{lt-ltb, le-ltb, eqb-true, eqb-false}
use Rattle.laws.proofs.FindLaws.{true-false}
use Rattle.laws.proofs.RowLaws.{row_at, length-row}
use Rattle.record.specs.declared.reason.Reason.TheVariants.{ShortRoom61}
use Rattle.record.specs.declared.reason.Break.{Break}
use Rattle.record.specs.Breaks.{Finding}
use Rattle.std.specs.Prelude.{Ok, Err}
use Rattle.record.specs.Breaks.{fine}
use Rattle.record.specs.Table.{file_count}
use Rattle.record.specs.Files.{Files, files_of}
use Rattle.judge.specs.Broken.{groups}
use Rattle.judge.proofs.Cases.{no-files}
use Rattle.grids.specs.Grid.{Grid, grid_of}
use Rattle.grids.specs.Sum.{cell_at, plus, add_finding, add_of}
use Rattle.grids.proofs.FillLaws.{Shaped, grid-same, shaped_row, cell_row}
use Rattle.grids.proofs.GridLaws.{shaped-grid}
use Rattle.grids.proofs.Meaning.{zero-exactly}
use Rattle.grids.proofs.SumLaws.{fits-fine, added_is}
use Rattle.canopyrail.specs.Answers.{break_word, refusal_word, finding_word}
use Rattle.canopyrail.specs.Cells.{cell_count, lent_cells, grid_in, too_few, Counts, Adds}
use Rattle.canopyrail.proofs.CallLaws.{refusal-told, zero-fine}

-- the cell that lent memory holds
abbrev pub held_cell : List ℕ → ℕ → ℕ → ℕ
held_cell cells i g = get_or cells (i * groups + g) 0

-- A GRID THAT WAS PUT is the one that is held
pub put-held : (a : Grid) (rest : List ℕ) → Shaped a → grid_in (lent_cells a ++ rest) ≡ a
put-held a rest s =
    grid-same _ a (shaped_row (held_cell (lent_cells a ++ rest))) s
    (λ i g l u.
    let c : i * groups + g < cell_count = omega arith in
    let row_of : (i * groups + g) / groups ≡ i = omega arith in
    let column : (i * groups + g) % groups ≡ g = omega arith in
    cell_row (held_cell (lent_cells a ++ rest)) i g l u
    ∙ get_or-append (lent_cells a) rest 0 (i * groups + g) (rw length-row c)
    ∙ row_at (λ c. cell_at a (c / groups) (c % groups)) cell_count 0 c
    ∙ rw (row_of, column) refl)

pub grid-held : (files : Files) (rest : List ℕ) → grid_in (lent_cells (grid_of files) ++ rest) ≡ grid_of files
grid-held files rest = put-held (grid_of files) rest (shaped-grid files)

-- THE GRID OF NO FILES is of zeros
pub none-grid : {A : Type 0} (f : A → List ℕ) (l : List A) → length l ≡ 0 → replicate file_count (replicate groups 0) ≡ grid_of (files_of (map f l))
none-grid f [] e = sym ((zero-exactly (files_of [])).0 no-files)
none-grid f (x ∷ l) e = absurd (omega arith)

-- THE CALLS, by what they found: too few cells,
few-refused : {r : ℕ} → r ≡ refusal_word ShortRoom61 0 → r ≡ 0 → ⊥
few-refused e z = refusal-told ShortRoom61 0 (sym e ∙ z)

pub counts-few : (files : Files) (cells : List ℕ) {r : ℕ} → length cells < cell_count → r ≡ refusal_word ShortRoom61 0 → Counts files cells r cells
counts-few files cells l e =
    record { says = rw (lt-ltb (length cells) cell_count l) e; holds = λ z. absurd (few-refused e z); stays = λ _. refl }

pub counts-put :
    (files : Files) (cells : List ℕ) {a : Grid} {after : List ℕ} → cell_count ≤ length cells → a ≡ grid_of files → after ≡ lent_cells a ++ drop cell_count cells
    → Counts files cells 0 after
counts-put files cells l e h =
    record { says = rw (le-ltb (length cells) cell_count l); holds = λ _. h ∙ ap (λ (x : Grid). lent_cells x ++ drop cell_count cells) e; stays = λ no_zero. absurd (no_zero refl) }

adds-short : (into from : List ℕ) {r : ℕ} → (too_few into || too_few from) ≡ true → r ≡ refusal_word ShortRoom61 0 → Adds into from r into
adds-short into from l e = record { says = rw l e; holds = λ z. absurd (few-refused e z); stays = λ _. refl }

pub adds-few : (into from : List ℕ) {r : ℕ} → length into < cell_count → r ≡ refusal_word ShortRoom61 0 → Adds into from r into
adds-few into from l e = adds-short into from (rw (lt-ltb (length into) cell_count l)) e

pub adds-few-from : (into from : List ℕ) {r : ℕ} → cell_count ≤ length into → length from < cell_count → r ≡ refusal_word ShortRoom61 0 → Adds into from r into
adds-few-from into from u l e = adds-short into from (rw (le-ltb (length into) cell_count u, lt-ltb (length from) cell_count l)) e

-- a sum that is refused,
module _ (into from : List ℕ) (li : cell_count ≤ length into) (lf : cell_count ≤ length from) {a b : Grid} (ea : a ≡ grid_in into) (eb : b ≡ grid_in from) {v : Finding} (ev : v ≡ add_finding a b) where
  l : (too_few into || too_few from) ≡ false
  l = rw (le-ltb (length into) cell_count li, le-ltb (length from) cell_count lf)

  found : v ≡ add_finding (grid_in into) (grid_in from)
  found = ev ∙ ap (λ (x : Grid). add_finding x b) ea ∙ ap (add_finding (grid_in into)) eb

  pub adds-refused : {r : ℕ} {o : Break} → v ≡ Err o → r ≡ break_word o → Adds into from r into
  adds-refused {r} {o} h e = record { says = rw l (e ∙ ap finding_word (sym h ∙ found)); holds = λ z. absurd (not-zero (sym e ∙ z)); stays = λ _. refl }
    where
      not-zero : break_word o ≡ 0 → ⊥
      not-zero z = true-false (sym (ap fine (zero-fine (Err o) z)))

  -- and one that is not
  pub adds-put : {s : Grid} {after : List ℕ} → v ≡ Ok tt → s ≡ add_of a b → after ≡ lent_cells s ++ drop cell_count into → Adds into from 0 after
  adds-put {s} {after} h es e =
      let fine-is : add_finding (grid_in into) (grid_in from) ≡ Ok tt = sym found ∙ h in
      let sum : s ≡ plus (grid_in into) (grid_in from) =
      es ∙ ap (λ (x : Grid). add_of x b) ea ∙ ap (add_of (grid_in into)) eb ∙ added_is (grid_in into) (grid_in from) (fits-fine (grid_in into) (grid_in from) fine-is) in
      record {
        says = rw l (sym (ap finding_word fine-is));
        holds = λ _. e ∙ ap (λ (x : Grid). lent_cells x ++ drop cell_count into) sum;
        stays = λ no_zero. absurd (no_zero refl);
      }

-- ONE OUTCOME of each call
pub counts-once : (files : Files) (cells : List ℕ) (r r' : ℕ) (after after' : List ℕ) → Counts files cells r after → Counts files cells r' after' → (r ≡ r') × (after ≡ after')
counts-once files cells r r' after after' w w' =
    let e = w.says ∙ sym w'.says in
    (e, either (too_few cells) refl)
  where
    either : (b : Bool) → too_few cells ≡ b → after ≡ after'
    either true h = w.stays (few-refused (rw h at w.says)) ∙ sym (w'.stays (few-refused (rw h at w'.says)))
    either false h = w.holds (rw h at w.says) ∙ sym (w'.holds (rw h at w'.says))

pub adds-once :
    (into from : List ℕ) (r r' : ℕ) (after after' : List ℕ) → Adds into from r after → Adds into from r' after' → (r ≡ r') × (after ≡ after')
adds-once into from r r' after after' w w' =
    let e = w.says ∙ sym w'.says in
    (e, either (eqb r 0) refl)
  where
    either : (b : Bool) → eqb r 0 ≡ b → after ≡ after'
    either true h =
        let z = eqb-true r 0 h in
        w.holds z ∙ sym (w'.holds (w'.says ∙ sym w.says ∙ z))
    either false h =
        let nz = eqb-false r 0 h in
        w.stays nz ∙ sym (w'.stays (λ z. nz (w.says ∙ sym w'.says ∙ z)))
