-- The tallies of the thirties and forties: 30's of a file, 40's and 41's of a field by what it refers to, those of the files by their
-- numbers, and a file's finding from its tally.
-- Assumes nothing.
use Prim.Native.Nat.{ℕ, zero, suc, ◌+◌, ◌-◌, ◌*◌, ◌/◌, ◌%◌, ◌<◌, ◌≤◌}
use mathlib.Core.Bool.{Bool, true, false, not, ◌||◌}
use mathlib.Core.List.{List}
use mathlib.Core.Path.{◌≡◌, refl, sym, ap, ap₂, ◌∙◌}
use native.Mathlib.Decide.{dec_lt}
use native.Mathlib.Nat.{min-le_left}
use native.Mathlib.Omega.{arith}
use lib.Dec.{eqb, leb}
use lib.ListN.{get_or}
use borrow.Author.Tests.{eq-eqb, ne_eqb, eqb-true, leb-true}
use Rattle.laws.specs.Find.{names}
use Rattle.laws.specs.Count.{how_many}
use Rattle.laws.specs.Row.{row, each}
use Rattle.laws.proofs.FindLaws.{true-false}
use Rattle.laws.proofs.RowLaws.{and-true}
use Rattle.std.specs.Prelude.{Option, Some, None}
use Rattle.index.specs.declared.tally.First.{First}
use Rattle.index.specs.declared.tally.Tally.{Tally}
use Rattle.index.specs.Keys.{found_of, listed, first_duplicate}
use Rattle.index.specs.Marks.{Marked, is_marked}
use Rattle.index.specs.Tally.{no_tally, with_cell}
use Rattle.index.proofs.TallyLaws.{marked-many}
use Rattle.record.specs.declared.kind.Kind.{Kind}
use Rattle.record.specs.declared.kind.Kind.TheVariants.{Catalogo, Nodo}
use Rattle.record.specs.Table.{Which}
use Rattle.record.specs.declared.kind.Target.{Target}
use Rattle.record.specs.declared.kind.Target.TheVariants.{Free, Nowhere, To}
use Rattle.record.specs.declared.reason.Reason.TheVariants.{LongFile10}
use Rattle.record.specs.declared.reason.Break.{Break}
use Rattle.std.specs.Prelude.{Ok, Err}
use Rattle.record.specs.Breaks.{break_of}
use Rattle.record.specs.Table.{Col, col_at, keys_of, fields_of, file_of, file_count, which_of, target_of, letter_of, kinds, limit}
use Rattle.record.specs.Says.{Table, table_of}
use Rattle.record.specs.Cut.{count_of}
use Rattle.record.specs.Files.{Files, Delivery, delivery_of}
use Rattle.record.specs.Names.{name_at, key_of}
use Rattle.record.specs.machinery.Columns.{Fills}
use Rattle.record.proofs.FileLaws.{inside}
use Rattle.record.proofs.TableLaws.{every, everywhere, every-place, past, sane, kind_at, file-same}
use Rattle.keys.specs.machinery.Groups.{Tests, cells_of}
use Rattle.keys.specs.Rules.{repeats, breaks30, dangles, breaks40, refers_to_catalogue, breaks41, key_tests, key_reasons}
use Rattle.keys.specs.machinery.Findings.{keys_in}
use Rattle.keys.specs.machinery.Cells.{tally_in, TalliedTo, OneMore, TwoMore, repeat_tests, key_tally, tally_at, key_tallies}
use Rattle.keys.specs.machinery.Lent.{refers_to_nodes}
use Rattle.keys.specs.machinery.Types.{Letters, mistyped_by}
use Rattle.keys.proofs.ReferLaws.{dangles-filled, mistyped-column}
use Rattle.keys.proofs.RepeatLaws.{first-filled, repeats-filled}
use Rattle.keys.proofs.KeyCells.{other-default, other-ten, free-tests}
use Rattle.keys.proofs.CellLaws.{one-by, tallied-one, tallied-rest, tallied-start, tallied-skip, tallied-end, tallied-most, tally-row, tally-broken, tally-fine}

-- 30: the keys of a file's records are in an array, those that repeat one are marked
keys-few : (k : Kind) → keys_of k ≤ fields_of k
unfolding each
keys-few k = leb-true _ _ (every (λ j. leb (keys_of j) (fields_of j)) refl k)

pub keys-small : (k : Kind) → keys_of k ≤ 14
keys-small k = omega (arith, keys-few k, sane k)

module _ (k : Kind) (own : Table) where
  repeat-quiet : (i f u : ℕ) → (f ≡ keys_of k → u ≡ 0 → ⊥) → get_or (repeat_tests k own i f) u false ≡ false
  unfolding repeat_tests
  repeat-quiet i f zero h = rw (ne_eqb f (keys_of k) (λ e. h e refl))
  repeat-quiet i f (suc u) h = refl

  repeat-cell : (i : ℕ) → repeats (key_of k own) i ≡ get_or (repeat_tests k own i (keys_of k)) 0 false
  unfolding repeat_tests
  repeat-cell i = rw (eq-eqb (keys_of k) (keys_of k) refl)

  -- its one cell, of n records
  repeat-one : (n : ℕ) {c : ℕ} {r : Tally} → c ≡ keys_of k * 10 → OneMore no_tally (λ i. repeats (key_of k own) i) n c r → r ≡ tally_in (repeat_tests k own) k n
  repeat-one n {c} e s =
      let tests = repeat_tests k own in
      let before =
      tallied-skip tests n c (omega arith) (λ i c' _ lo hi. repeat-quiet i (c' / 10) (c' % 10) (λ h _. absurd (omega arith)))
      (tallied-start tests n)
      in
      let here = tallied-one tests n (keys_of k) 0 (omega arith) (omega arith) refl repeat-cell s before in
      tallied-end tests n k refl
      (tallied-skip tests n (cells_of k) (omega (arith, keys-few k))
      (λ i c' _ lo hi. repeat-quiet i (c' / 10) (c' % 10) (λ h z. absurd (omega arith))) here)

  pub repeat-tally :
      {keys before marks : List ℕ} {n m c : ℕ} {found : Option ℕ} {many : ℕ} {t r : Tally} → Fills keys (λ i. key_of k own i) n m
      → Marked before marks (λ i. names (listed keys) i (get_or keys i 0)) m → found ≡ found_of (first_duplicate (listed keys) m)
      → many ≡ how_many (is_marked marks) m → t ≡ no_tally → c ≡ keys_of k → r ≡ with_cell t found many (c * 10) → r ≡ tally_in (repeat_tests k own) k n
  repeat-tally {marks = marks} {n = n} {c = c} {found} {many} fills s f h e q w =
      repeat-one n (ap (λ (x : ℕ). x * 10) q)
      (one-by (first-filled _ fills f) (h ∙ ap (how_many (is_marked marks)) fills.count ∙ marked-many (repeats-filled _ fills s))
      (w ∙ ap (λ (x : Tally). with_cell x found many (c * 10)) e))

-- 40 AND 41: a field that refers to the catalogue refers to its codes
abbrev by_code : Target → Bool
by_code Free = true
by_code Nowhere = true
by_code (To k g) = not (eqb (file_of k) (file_of Catalogo)) || eqb g 1

by_code_lem : (k : Kind) (f : ℕ) → by_code (target_of k f) ≡ true
unfolding everywhere each row target_of col_at
by_code_lem k f = go (dec_lt f 16)
  where
    go : Dec (f < 16) → by_code (target_of k f) ≡ true
    go (yes l) = every-place (λ j g. by_code (target_of j g)) refl k f l
    go (no l) = ap (λ (t : Target). by_code t) (sym (past (λ (c : Col). c.refers) k f (omega arith)))

code-target : (t : Target) → by_code t ≡ true → refers_to_catalogue t ≡ true → t ≡ To Catalogo 1
code-target Free h r = absurd (true-false (sym r))
code-target Nowhere h r = absurd (true-false (sym r))
code-target (To k g) h r =
    ap₂ (λ (j : Kind) (x : ℕ). To j x) (file-same k Catalogo (eqb-true _ _ r)) (eqb-true g 1 (sym (ap (λ (b : Bool). not b || eqb g 1) r) ∙ h))

nodes-target : (t : Target) → refers_to_nodes t ≡ true → t ≡ To Nodo 1
nodes-target Free r = absurd (true-false (sym r))
nodes-target Nowhere r = absurd (true-false (sym r))
nodes-target (To k g) r =
    let p = and-true (eqb (file_of k) (file_of Nodo)) (eqb g 1) r in
    ap₂ (λ (j : Kind) (x : ℕ). To j x) (file-same k Nodo (eqb-true _ _ p.0)) (eqb-true g 1 p.1)

-- fields that have no test from a reason on
module _ (d : Delivery) (k : Kind) (f : ℕ) where
  past-41 : (i v : ℕ) → 2 ≤ v → get_or (key_tests 4 d k i f) v false ≡ false
  unfolding key_tests
  past-41 i zero l = absurd (omega arith)
  past-41 i (suc zero) l = absurd (omega arith)
  past-41 i (suc (suc v)) l = refl

  past-40 : refers_to_catalogue (target_of k f) ≡ false → (i v : ℕ) → 1 ≤ v → get_or (key_tests 4 d k i f) v false ≡ false
  unfolding key_tests breaks41
  past-40 h i zero l = absurd (omega arith)
  past-40 h i (suc zero) l = rw h
  past-40 h i (suc (suc v)) l = refl

module _ (files : Files) (k : Kind) (f : ℕ) {target : Target} (q : target ≡ target_of k f) {n : ℕ} {t : Tally} (b : TalliedTo (key_tests 4 (delivery_of files) k) n (f * 10) t) where
  -- no reference
  pub field-free : target ≡ Free → TalliedTo (key_tests 4 (delivery_of files) k) n (f * 10 + 10) t
  field-free w = tallied-rest _ n f 0 (omega arith) (omega arith) (λ i v _. free-tests (delivery_of files) k i f v (sym q ∙ w)) b

  -- a reference to another file than the catalogue: one cell
  one_cell :
      {test : ℕ → Bool} {m : ℕ} {r : Tally} → refers_to_catalogue target ≡ false → m ≡ n
      → ((i : ℕ) → test i ≡ get_or (key_tests 4 (delivery_of files) k i f) 0 false) → OneMore t test m (f * 10) r → TalliedTo (key_tests 4 (delivery_of files) k) n (f * 10 + 10) r
  one_cell h e same s =
      tallied-rest _ n f 1 (omega arith) (omega arith) (past-40 (delivery_of files) k f (ap refers_to_catalogue (sym q) ∙ h))
      (tallied-one _ n f 0 (omega arith) (omega arith) e same s b)

  module _ {own : List ℕ} (e : own ≡ files k) (same : (delivery_of files k).count ≡ n) {r : Tally} where
    pub field-absent : target ≡ Nowhere → OneMore t (λ i. not (eqb (name_at k (table_of own k) i f) 0)) (table_of own k).count (f * 10) r
        → TalliedTo (key_tests 4 (delivery_of files) k) n (f * 10 + 10) r
    unfolding key_tests breaks40
    field-absent w s = one_cell (rw w) (rw e same) (λ i. rw (e, ← q, w)) s

    pub field-to : {other : Kind} {g : ℕ} {to : List ℕ} → refers_to_catalogue target ≡ false → target ≡ To other g → to ≡ files other
        → OneMore t (λ i. dangles (λ j. name_at other (table_of to other) j g) (table_of to other).count (name_at k (table_of own k) i f)) (table_of own k).count (f * 10) r
        → TalliedTo (key_tests 4 (delivery_of files) k) n (f * 10 + 10) r
    unfolding key_tests breaks40
    field-to h w u s = one_cell h (rw e same) (λ i. rw (e, ← q, w, u)) s

    -- to the nodes, whose ids are in hand
    pub field-nodes : {ids : List ℕ} {m : ℕ} → refers_to_catalogue target ≡ false → refers_to_nodes target ≡ true
        → Fills ids (λ j. name_at Nodo (delivery_of files Nodo) j 1) (delivery_of files Nodo).count m
        → OneMore t (λ i. dangles (listed ids) m (name_at k (table_of own k) i f)) (table_of own k).count (f * 10) r
        → TalliedTo (key_tests 4 (delivery_of files) k) n (f * 10 + 10) r
    unfolding key_tests breaks40
    field-nodes h u fills s =
        let w : target ≡ To Nodo 1 = nodes-target target u in
        one_cell h (rw e same) (λ i. dangles-filled fills (name_at k (table_of own k) i f) ∙ rw (e, ← q, w)) s

    -- a CODIGO, with the catalogue in hand: two
    pub field_codes : {codes letters : List ℕ} {m wanted : ℕ} → refers_to_catalogue target ≡ true
        → Fills codes (λ j. name_at Catalogo (delivery_of files Catalogo) j 1) (delivery_of files Catalogo).count m
        → Letters letters (delivery_of files Catalogo) m → wanted ≡ letter_of k
        → TwoMore t (λ i. dangles (listed codes) m (name_at k (table_of own k) i f)) (λ i. mistyped_by codes letters m wanted (name_at k (table_of own k) i f)) (table_of own k).count (f * 10) r
        → TalliedTo (key_tests 4 (delivery_of files) k) n (f * 10 + 10) r
    unfolding key_tests breaks40 breaks41
    field_codes {wanted = wanted} h fills typed v s =
        let w : target_of k f ≡ To Catalogo 1 = code-target (target_of k f) (by_code_lem k f) (ap refers_to_catalogue (sym q) ∙ h) in
        tallied-rest _ n f 2 (omega arith) (omega arith) (past-41 (delivery_of files) k f)
        (tallied-one _ n f 1 refl (omega arith) (rw e same)
        (λ i. mistyped-column (delivery_of files Catalogo) fills typed wanted (name_at k (table_of own k) i f) ∙ rw (e, w, v)) s.second
        (tallied-one _ n f 0 (omega arith) (omega arith) (rw e same)
        (λ i. dangles-filled fills (name_at k (table_of own k) i f) ∙ rw (e, w)) s.first b))

-- a field's tally counts little, so that it can go on
pub field-small :
    (files : Files) (k : Kind) (f : ℕ) (t : Tally) → f ≤ fields_of k → TalliedTo (key_tests 4 (delivery_of files) k) (delivery_of files k).count (f * 10) t
    → t.many ≤ 4294950912
field-small files k f t l b =
    omega (arith, sane k, tallied-most _ _ t (f * 10) (min-le_left limit (count_of (files k) k)) b)

pub fields-start : (tests : Tests) (n : ℕ) {t : Tally} → t ≡ no_tally → TalliedTo tests n 0 t
fields-start tests n e = record { is = e ∙ (tallied-start tests n).is }

pub fields-next : (f : ℕ) {tests : Tests} {n : ℕ} {t : Tally} → TalliedTo tests n (f * 10 + 10) t → TalliedTo tests n ((f + 1) * 10) t
fields-next f {tests} {n} {t} b = let e : (f + 1) * 10 ≡ f * 10 + 10 = omega arith in rw e b

pub fields-end :
    (d : Delivery) (k : Kind) {f m : ℕ} {t : Tally} → m ≡ fields_of k → f ≤ m + 1 → m < f → TalliedTo (key_tests 4 d k) (d k).count (f * 10) t → t ≡ key_tally 4 d k
unfolding key_tally
fields-end d k e l u b = tallied-end _ _ k (omega arith) b

-- A FILE, by the ten t: the thirties, the forties, and no other
module _ (files : Files) (k : Kind) {t : ℕ} {r : Tally} where
  pub file-30 : {own : List ℕ} → t ≡ 3 → own ≡ files k → r ≡ tally_in (repeat_tests k (table_of own k)) k (table_of own k).count → r ≡ key_tally t (delivery_of files) k
  unfolding key_tally key_tests breaks30 repeat_tests
  file-30 e q h = rw e (h ∙ rw q refl)

  pub file-40 : t ≡ 4 → r ≡ key_tally 4 (delivery_of files) k → r ≡ key_tally t (delivery_of files) k
  file-40 e h = rw e h

  pub file-else : (t ≡ 3 → ⊥) → (t ≡ 4 → ⊥) → r ≡ no_tally → r ≡ key_tally t (delivery_of files) k
  unfolding key_tally key_tests
  file-else a b h =
      h
      ∙ tallied-end (key_tests t (delivery_of files) k) _ k refl
      (tallied-skip _ _ (cells_of k) (omega arith) (λ i c _ _ _. sym (other-default false _ _ _ t (c % 10) (other-ten a b))) (tallied-start _ _))

-- BY THEIR NUMBERS: the tally of the file with the number n + 1
unfoldable pub tally_no : ℕ → Delivery → ℕ → Tally
tally_no t d n = tally_at (key_tally t d) (which_of (n + 1))

module _ (t : ℕ) (d : Delivery) where
  pub tally-turn : (n : ℕ) {w : Which} {r : Tally} → w ≡ which_of (n + 1) → r ≡ tally_at (key_tally t d) w → r ≡ tally_no t d n
  unfolding tally_no
  tally-turn n e h = rw (← e) h

  pub tallies-row : row (tally_no t d) file_count ≡ key_tallies t d
  unfolding tally_no key_tallies row which_of
  tallies-row = refl

  pub tally-own : (k : Kind) {tallies : List Tally} → tallies ≡ key_tallies t d → get_or tallies (file_of k - 1) no_tally ≡ key_tally t d k
  unfolding key_tallies
  tally-own k e =
      ap (λ (l : List Tally). get_or l (file_of k - 1) no_tally) e
      ∙ sym (inside (key_tally t d) kinds (file_of k - 1) Catalogo no_tally (omega (arith, sane k)))
      ∙ ap (key_tally t d) (kind_at k)

-- THE FINDING of a file from its tally
module _ (t : ℕ) (d : Delivery) (k : Kind) {tally : Tally} (e : tally ≡ key_tally t d k) where
  pub key_row : {f : First} → tally.first ≡ Some f → f.at < (d k).count
  unfolding key_tally
  key_row h = tally-row (key_tests t d k) k (d k).count e h

  pub key-broken :
      {f : First} {x : Break} → tally.first ≡ Some f
      → x ≡ break_of (get_or (key_reasons t d k f.at (f.cell / 10)) (f.cell % 10) LongFile10) k (f.at + 1) (f.cell / 10)
      → Err x ≡ keys_in t d k
  unfolding key_tally keys_in
  key-broken h q = tally-broken (key_tests t d k) k (d k).count e (key_reasons t d k) h q

  pub key-fine : tally.first ≡ None → Ok tt ≡ keys_in t d k
  unfolding key_tally keys_in
  key-fine h = tally-fine (key_tests t d k) k (d k).count e (key_reasons t d k) h
