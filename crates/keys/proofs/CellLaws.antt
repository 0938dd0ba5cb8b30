-- The first answer of records and cells, by record and then cell, is what a tally of the cells tells; and how a tally goes on over the
-- cells of a file.
-- Assumes nothing.
use Prim.Native.Nat.{ℕ, zero, suc, ◌+◌, ◌*◌, ◌/◌, ◌%◌, ◌<◌, ◌≤◌}
use mathlib.Core.Bool.{Bool, true, false, ◌&&◌}
use mathlib.Core.List.{List}
use mathlib.Core.Option as math
use mathlib.Core.Option.{none, some}
use mathlib.Core.Path.{◌≡◌, refl, sym, ap, ap₂, ◌∙◌}
use mathlib.Core.Logic.{⊎_elim}
use native.Mathlib.Nat.{le_of_suc-le-suc, not-suc-le-zero, eq-or-lt_of_le}
use native.Mathlib.Numerals.{add-one}
use native.Mathlib.Omega.{arith}
use lib.Dec.{leb, eqb}
use lib.ListN.{get_or}
use borrow.Author.Tests.{leb-true, leb-false, eqb-true}
use Rattle.laws.specs.Find.{hit, first_of, first_index}
use Rattle.laws.specs.Row.{pick}
use Rattle.laws.proofs.FindLaws.{hit-some, hit-none, none-at, some_at, first-none, first-here, index_same, index-none-at, index-some-at}
use Rattle.laws.specs.Count.{how_many}
use Rattle.laws.proofs.CountLaws.{count_same, count_most}
use Rattle.std.specs.Prelude.{Option, Some, None}
use Rattle.index.specs.declared.tally.First.{First}
use Rattle.index.specs.declared.tally.Tally.{Tally}
use Rattle.index.specs.Keys.{found_of}
use Rattle.index.specs.Marks.{Marked, is_marked}
use Rattle.index.specs.Tally.{no_tally, earlier, with_cell, tally_of}
use Rattle.index.proofs.MarkLaws.{marked-as, marked-first}
use Rattle.index.proofs.TallyLaws.{marked-many, with-many, tally-start, tally-more, tally-marks, tally-skip, tally-most}
use Rattle.record.specs.declared.kind.Kind.{Kind}
use Rattle.record.specs.declared.reason.Reason.TheVariants.{LongFile10}
use Rattle.record.specs.declared.reason.Break.{Break}
use Rattle.std.specs.Prelude.{Ok, Err}
use Rattle.record.specs.Breaks.{break_of, finding_of}
use Rattle.keys.specs.machinery.Groups.{Tests, Reasons, cell_break, cells_of, group_finding}
use Rattle.keys.specs.machinery.Cells.{cell_test, tally_in, OneMore}
pub use Rattle.keys.specs.machinery.Cells.{TalliedTo}

-- of n records and m cells the test holds nowhere
abbrev pub Clear : (ℕ → ℕ → Bool) → ℕ → ℕ → Type 0
Clear test n m = (i c : ℕ) → i < n → c < m → test i c ≡ false

-- record i and cell c are the first at which it holds
pub record Least (test : ℕ → ℕ → Bool) (n m i c : ℕ) : Type 0 where
  pub row : i < n
  pub cell : c < m
  pub holds : test i c ≡ true
  pub above : Clear test i m
  pub left : (c' : ℕ) → c' < c → test i c' ≡ false

-- FIRST ANSWERS of n records and m cells
unfoldable pub first_cell : {B : Type 0} → (ℕ → ℕ → Bool) → (ℕ → ℕ → B) → ℕ → ℕ → math.Option B
first_cell test ans n m = first_of (λ i. first_of (λ c. hit (test i c) (ans i c)) m) n

module _ {B : Type 0} (test : ℕ → ℕ → Bool) (ans : ℕ → ℕ → B) (n m : ℕ) where
  unfoldable in_row : ℕ → math.Option B
  in_row i = first_of (λ c. hit (test i c) (ans i c)) m

  row-none : (i : ℕ) → ((c : ℕ) → c < m → test i c ≡ false) → in_row i ≡ none
  unfolding in_row
  row-none i all = first-none _ m (λ c l. rw (all c l))

  none_row : {i c : ℕ} → in_row i ≡ none → c < m → test i c ≡ false
  unfolding in_row
  none_row {i} {c} e l = hit-none (test i c) (ans i c) (none-at _ m e l)

  pub cells-none : Clear test n m → first_cell test ans n m ≡ none
  unfolding first_cell in_row
  cells-none all = first-none in_row n (λ i l. row-none i (λ c. all i c l))

  pub none-cells : first_cell test ans n m ≡ none → Clear test n m
  unfolding first_cell in_row
  none-cells e i c l u = none_row (none-at in_row n e l) u

  pub cells-some : {i c : ℕ} → Least test n m i c → first_cell test ans n m ≡ some (ans i c)
  unfolding first_cell in_row
  cells-some {i} {c} s =
      first-here in_row n (first-none in_row i (λ i' l. row-none i' (λ c'. s.above i' c' l))) s.row
      (first-here _ m (first-none _ c (λ c' l. rw (s.left c' l))) s.cell (rw s.holds))

  pub some-cells : {b : B} → first_cell test ans n m ≡ some b → (i : ℕ) × (c : ℕ) × Least test n m i c × (ans i c ≡ b)
  unfolding first_cell in_row
  some-cells {b} e =
      let r = some_at in_row n e in
      let s = some_at _ m r.2 in
      let i = r.0 in
      let c = s.0 in
      let h = hit-some (test i c) (ans i c) b s.2 in (
        i,
        c,
        record {
          row = r.1;
          cell = s.1;
          holds = h.0;
          above = λ i' c' l u. none_row (none-at in_row i r.3 l) u;
          left = λ c' l. hit-none (test i c') (ans i c') (none-at _ c s.3 l);
        },
        h.1,
      )

-- what a tally of m cells says of the first record
abbrev pub Says : (ℕ → ℕ → Bool) → ℕ → ℕ → Option First → Type 0
Says test n m None = Clear test n m
Says test n m (Some f) = Least test n m f.at f.cell

module _ (test : ℕ → ℕ → Bool) (n : ℕ) where
  -- one cell more, at which the test does not hold above record i
  clear-more : {i m : ℕ} → Clear test i m → ((i' : ℕ) → i' < i → test i' m ≡ false) → Clear test i (suc m)
  clear-more past here i' c l u =
      ⊎_elim (λ e. rw e (here i' l)) (λ u'. past i' c l u') (eq-or-lt_of_le (le_of_suc-le-suc u))

  -- it tells nothing better
  least-kept : {m i c : ℕ} → Least test n m i c → ((i' : ℕ) → i' < i → test i' m ≡ false) → Least test n (suc m) i c
  least-kept w earlier = record { row = w.row; cell = omega (arith, w.cell); holds = w.holds; above = clear-more w.above earlier; left = w.left }

  -- or record i, before which the cells before have nothing
  least-new : {m i : ℕ} → i < n → test i m ≡ true → ((j : ℕ) → j < i → test j m ≡ false) → Clear test (suc i) m → Least test n (suc m) i m
  least-new {m} {i} l here above past =
      record {
        row = l;
        cell = omega arith;
        holds = here;
        above = clear-more (λ i' c l' u. past i' c (omega arith) u) above;
        left = λ c u. past i c (omega arith) u;
      }

  with-says : (m : ℕ) (first : Option First) (o : math.Option ℕ) → first_index (λ i. test i m) n ≡ o → Says test n m first
      → Says test n (suc m) (earlier first (found_of o) m)
  with-says m None none e s = clear-more s (λ i l. index-none-at _ n e l)
  with-says m (Some f) none e s = least-kept s (λ i l. index-none-at _ n e (omega (arith, s.row)))
  with-says m None (some i) e s =
      let at = index-some-at (λ j. test j m) n e in
      least-new at.0 at.1 at.2 (λ i' c l u. s i' c (omega (arith, at.0)) u)
  with-says m (Some f) (some i) e s = go (leb f.at i) refl
    where
      at : (i < n) × (test i m ≡ true) × ((j : ℕ) → j < i → test j m ≡ false)
      at = index-some-at (λ j. test j m) n e

      go : (l : Bool) → leb f.at i ≡ l → Says test n (suc m) (pick l (Some f) (Some (record { at = i; cell = m })))
      go true h = least-kept s (λ j u. at.2 j (omega (arith, leb-true f.at i h)))
      go false h = least-new at.0 at.1 at.2 (λ i' c l u. s.above i' c (omega (arith, leb-false f.at i h)) u)

  tally-says : (m : ℕ) → Says test n m (tally_of test n m).first
  unfolding tally_of
  tally-says zero = λ i c l u. absurd (not-suc-le-zero u)
  tally-says (suc m) = with-says m (tally_of test n m).first (first_index (λ i. test i m) n) refl (tally-says m)

-- OF A GROUP of reasons: its breaks by cells
unfoldable pub cell_answer : Reasons → Kind → ℕ → ℕ → Break
cell_answer reasons k i c = break_of (get_or (reasons i (c / 10)) (c % 10) LongFile10) k (i + 1) (c / 10)

pub group-is : (tests : Tests) (reasons : Reasons) (k : Kind) (n : ℕ)
    → group_finding tests reasons k n ≡ finding_of (first_cell (cell_test tests) (cell_answer reasons k) n (cells_of k))
unfolding group_finding cell_break first_cell cell_test cell_answer
group-is tests reasons k n = refl

-- THE FINDING of a file from its tally
module _ (tests : Tests) (k : Kind) (n : ℕ) {t : Tally} (e : t ≡ tally_in tests k n) where
  said : Says (cell_test tests) n (cells_of k) t.first
  unfolding tally_in
  said = rw e (tally-says (cell_test tests) n (cells_of k))

  least : {f : First} → t.first ≡ Some f → Least (cell_test tests) n (cells_of k) f.at f.cell
  least h = rw h at said

  pub tally-row : {f : First} → t.first ≡ Some f → f.at < n
  tally-row h = (least h).row

  pub tally-broken : (reasons : Reasons) {f : First} {x : Break} → t.first ≡ Some f
      → x ≡ break_of (get_or (reasons f.at (f.cell / 10)) (f.cell % 10) LongFile10) k (f.at + 1) (f.cell / 10)
      → Err x ≡ group_finding tests reasons k n
  unfolding cell_answer
  tally-broken reasons h q =
      ap Err q
      ∙ ap finding_of (sym (cells-some (cell_test tests) (cell_answer reasons k) n (cells_of k) (least h)))
      ∙ sym (group-is tests reasons k n)

  pub tally-fine : (reasons : Reasons) → t.first ≡ None → Ok tt ≡ group_finding tests reasons k n
  tally-fine reasons h =
      ap finding_of (sym (cells-none (cell_test tests) (cell_answer reasons k) n (cells_of k) (rw h at said)))
      ∙ sym (group-is tests reasons k n)

-- A CELL c that is not the one of field f and reason u
pub not-cell : (c f u : ℕ) → (c ≡ f * 10 + u → ⊥) → (eqb (c / 10) f && eqb (c % 10) u) ≡ false
not-cell c f u ne = go (eqb (c / 10) f) refl (eqb (c % 10) u) refl
  where
    go : (s : Bool) → eqb (c / 10) f ≡ s → (t : Bool) → eqb (c % 10) u ≡ t → (s && t) ≡ false
    go true a true b = absurd (ne (omega (arith, eqb-true (c / 10) f a, eqb-true (c % 10) u b)))
    go true a false b = refl
    go false a t b = refl

-- CELLS of a file, gone over by ranges
cell_at : (tests : Tests) (f u i : ℕ) → u < 10 → get_or (tests i f) u false ≡ cell_test tests i (f * 10 + u)
unfolding cell_test
cell_at tests f u i l =
    let a : (f * 10 + u) / 10 ≡ f = omega arith in
    let b : (f * 10 + u) % 10 ≡ u = omega arith in
    rw (a, b)

module _ (tests : Tests) (n : ℕ) where
  pub tallied-start : TalliedTo tests n 0 no_tally
  tallied-start = record { is = tally-start _ n }

  -- the cell of field f and reason u, by its marks
  pub tallied-marks :
      (f u : ℕ) {t t' : Tally} {before marks : List ℕ} → u < 10 → TalliedTo tests n (f * 10 + u) t
      → Marked before marks (λ i. get_or (tests i f) u false) n
      → t' ≡ with_cell t (found_of (first_index (is_marked marks) n)) (how_many (is_marked marks) n) (f * 10 + u) → TalliedTo tests n (f * 10 + u + 1) t'
  tallied-marks f u l e s w =
      record { is = rw add-one (tally-marks (cell_test tests) n (f * 10 + u) e.is (marked-as (λ i _. cell_at tests f u i l) s) w) }

  -- cells at which no test holds
  pub tallied-skip :
      {t : Tally} {a : ℕ} (b : ℕ) → a ≤ b → ((i c : ℕ) → i < n → a ≤ c → c < b → get_or (tests i (c / 10)) (c % 10) false ≡ false)
      → TalliedTo tests n a t → TalliedTo tests n b t
  unfolding cell_test
  tallied-skip b l quiet e = record { is = tally-skip (cell_test tests) n b l quiet e.is }

  -- all cells of the file
  pub tallied-end : (k : Kind) {m : ℕ} {t : Tally} → m ≡ cells_of k → TalliedTo tests n m t → t ≡ tally_in tests k n
  unfolding tally_in
  tallied-end k e h = h.is ∙ ap (tally_of (cell_test tests) n) e

  -- it counts at most all records of its cells
  pub tallied-most : (t : Tally) (m : ℕ) → n ≤ 16384 → TalliedTo tests n m t → t.many ≤ m * 16384
  tallied-most t m l e = rw e.is (tally-most (cell_test tests) n l m)

-- ONE CELL MORE, by what is found and counted or by marks; it is the tally's next
pub one-by :
    {t r : Tally} {test : ℕ → Bool} {n c m : ℕ} {f : Option ℕ} → f ≡ found_of (first_index test n) → m ≡ how_many test n → r ≡ with_cell t f m c
    → OneMore t test n c r
one-by {t} {c = c} e h w = record { is = w ∙ ap₂ (λ (g : Option ℕ) (x : ℕ). with_cell t g x c) e h }

pub one-marks :
    {t r : Tally} {before marks : List ℕ} {test : ℕ → Bool} {n c : ℕ} → Marked before marks test n
    → r ≡ with_cell t (found_of (first_index (is_marked marks) n)) (how_many (is_marked marks) n) c → OneMore t test n c r
one-marks s w = one-by (ap found_of (marked-first s)) (marked-many s) w

-- another test that says the same
pub one-as :
    {t r : Tally} {test other : ℕ → Bool} {n m c : ℕ} → m ≡ n → ((i : ℕ) → i < n → test i ≡ other i) → OneMore t test m c r → OneMore t other n c r
one-as {test = test} {other} {n} e same s =
    one-by (ap found_of (ap (first_index test) e ∙ index_same test other n same)) (ap (how_many test) e ∙ count_same test other n same) s.is

pub one-most : {t r : Tally} {test : ℕ → Bool} {n c : ℕ} → OneMore t test n c r → r.many ≤ t.many + n
one-most {t} {test = test} {n} {c} s =
    omega (arith, ap (λ (x : Tally). x.many) s.is, with-many t (found_of (first_index test n)) (how_many test n) c, count_most test n)

pub tallied-one :
    (tests : Tests) (n f u : ℕ) {t r : Tally} {test : ℕ → Bool} {m c : ℕ} → c ≡ f * 10 + u → u < 10 → m ≡ n
    → ((i : ℕ) → test i ≡ get_or (tests i f) u false) → OneMore t test m c r → TalliedTo tests n c t → TalliedTo tests n (c + 1) r
tallied-one tests n f u {c = c} q l e same s b =
    let h = one-as e (λ i _. same i ∙ cell_at tests f u i l ∙ ap (cell_test tests i) (sym q)) s in
    record { is = rw add-one (tally-more (cell_test tests) n c b.is refl refl h.is) }

-- the rest of a field's cells, where no test holds from reason u on
pub tallied-rest :
    (tests : Tests) (n f u : ℕ) {t : Tally} {c : ℕ} → c ≡ f * 10 + u → u ≤ 10 → ((i v : ℕ) → u ≤ v → get_or (tests i f) v false ≡ false)
    → TalliedTo tests n c t → TalliedTo tests n (f * 10 + 10) t
tallied-rest tests n f u q l quiet b =
    tallied-skip tests n (f * 10 + 10) (omega arith)
    (λ i c' _ lo hi. let e : c' / 10 ≡ f = omega arith in rw e (quiet i (c' % 10) (omega arith)))
    b
