-- Loops that look for the first break: over the tests of a place, the places of a record, the records of a file; and the first
-- break of a file's shape.
-- Assumes nothing.
use Prim.Native.Nat.{ℕ, ◌+◌, ◌*◌, ◌%◌, ◌<◌, ◌≤◌}
use mathlib.Core.Bool.{Bool, true, false, ◌&&◌, and-false}
use mathlib.Core.List.{List}
use mathlib.Core.Option.{Option, none, some}
use mathlib.Core.Path.{◌≡◌, refl, sym, ap, ◌∙◌}
use native.Mathlib.Numerals.{add-one}
use native.Mathlib.Nat.{div-le_self}
use native.Mathlib.Omega.{arith}
use lib.Dec.{eqb}
use lib.ListN.{length, get_or}
use borrow.Author.Tests.{eq-eqb, ne_eqb, lt-ltb, le-ltb}
use Rattle.laws.specs.Find.{hit, first_of, first_index, or_end}
use Rattle.laws.specs.Nest.{run}
use Rattle.laws.proofs.FindLaws.{true-false, then, first-start, first_more, first-here, first-none, first-end, first-shift, map_option, first-map, index-here, index-end, index-some-at}
use Rattle.record.specs.declared.kind.Kind.{Kind}
use Rattle.record.specs.declared.reason.Reason.{Reason}
use Rattle.record.specs.declared.reason.Reason.TheVariants as R
use Rattle.record.specs.declared.reason.Break.{Break}
use Rattle.record.specs.Breaks.{Finding}
use Rattle.std.specs.Prelude.{Ok, Err}
use Rattle.record.specs.Table.{fields_of, length_of}
use Rattle.record.specs.Cut.{count_of, record_of}
use Rattle.record.specs.Rules.{breaks10, breaks11, twenties}
use Rattle.record.specs.Breaks.{break_of, finding_of, fine, index_of, at_place, shape_breaks, twenty_reasons, record_breaks, field_breaks_at, field_breaks, shape_finding, record_finding, fields_finding}

pub fine-none : (o : Option Break) → fine (finding_of o) ≡ true → o ≡ none
fine-none none e = refl
fine-none (some b) e = absurd (true-false (sym e))

pub break-of_err : (o : Option Break) {b : Break} → Err b ≡ finding_of o → o ≡ some b
break-of_err none e = absurd (true-false (sym (ap fine e)))
break-of_err (some b') e = ap (λ (v : Finding). elim v [ Ok u ↦ none | Err b ↦ some b ]) (sym e)

-- LOOPS over findings: the invariant is `first_of f i ≡ none`, which holds at 0 by first-start.
module _ (f : ℕ → Option Break) where
  -- a turn that tells nothing keeps it,
  pub finding-more : (i : ℕ) → Ok tt ≡ finding_of (f i) → first_of f i ≡ none → first_of f (i + 1) ≡ none
  finding-more i e past = first_more f past (fine-none (f i) (ap fine (sym e)))

  -- the break that a turn tells is the answer, which the function returns,
  pub finding-here : (n : ℕ) {i : ℕ} {b : Break} → Err b ≡ finding_of (f i) → first_of f i ≡ none → i < n → Err b ≡ finding_of (first_of f n)
  finding-here n {i} e past l = ap finding_of (sym (first-here f n past l (break-of_err (f i) e)))

  -- and after n turns, which is m, there is none
  pub finding-end : {i n : ℕ} (m : ℕ) → n ≡ m → i ≤ n → n ≤ i → first_of f i ≡ none → Ok tt ≡ finding_of (first_of f m)
  finding-end m e l u past = ap finding_of (sym (first-end f m e l u past))

-- the first test that holds
module _ (t : List Bool) (n : ℕ) where
  pub test-here : {j : ℕ} → first_index (λ u. get_or t u false) j ≡ none → j < n → get_or t j false ≡ true → j ≡ index_of t n
  unfolding index_of
  test-here past l e = ap (or_end n) (sym (index-here (λ u. get_or t u false) n past l e))

  pub test-end : {j : ℕ} → j ≤ n → n ≤ j → first_index (λ u. get_or t u false) j ≡ none → n ≡ index_of t n
  unfolding index_of
  test-end l u past = ap (or_end n) (sym (index-end (λ u. get_or t u false) n refl l u past))

-- the first break of a place, by the first of its tests that holds
module _ (t : List Bool) (reasons : List Reason) (k : Kind) (i f : ℕ) where
  place_map : run (at_place t reasons k i f) ≡ map_option (λ u. break_of (get_or reasons u R.LongFile10) k i f) (first_index (λ u. get_or t u false) (length t))
  unfolding run at_place
  place_map = first-map (λ u. get_or t u false) (λ u. break_of (get_or reasons u R.LongFile10) k i f) (length t)

  pub place-broken : {j : ℕ} {b : Break} → j ≡ index_of t (length t) → j < length t → b ≡ break_of (get_or reasons j R.LongFile10) k i f → Err b ≡ finding_of (run (at_place t reasons k i f))
  unfolding index_of
  place-broken {j} {b} e l h = go (first_index (λ u. get_or t u false) (length t)) refl e
    where
      go : (o : Option ℕ) → first_index (λ u. get_or t u false) (length t) ≡ o → j ≡ or_end (length t) o → Err b ≡ finding_of (run (at_place t reasons k i f))
      go none q e = absurd (omega arith)
      go (some u) q e = rw (place_map, q, h, e)

  pub place-fine : {j : ℕ} → j ≡ index_of t (length t) → length t ≤ j → Ok tt ≡ finding_of (run (at_place t reasons k i f))
  unfolding index_of
  place-fine {j} e l = go (first_index (λ u. get_or t u false) (length t)) refl e
    where
      go : (o : Option ℕ) → first_index (λ u. get_or t u false) (length t) ≡ o → j ≡ or_end (length t) o → Ok tt ≡ finding_of (run (at_place t reasons k i f))
      go none q e = rw (place_map, q)
      go (some u) q e = absurd (omega (arith, (index-some-at (λ u. get_or t u false) (length t) q).0))

-- the first break of a place of a record, and of a record of a file
unfoldable pub in_record : List ℕ → Kind → ℕ → ℕ → Option Break
in_record s k i f = run (at_place (twenties s k f) twenty_reasons k i f)

unfoldable pub in_file : List ℕ → Kind → ℕ → Option Break
in_file s k i = run (record_breaks (record_of s k i) k (i + 1))

pub record_is : (s : List ℕ) (k : Kind) (i : ℕ) → record_finding s k i ≡ finding_of (first_of (in_record s k i) (fields_of k + 1))
unfolding record_finding record_breaks run in_record
record_is s k i = refl

pub fields-is : (s : List ℕ) (k : Kind) → fields_finding s k ≡ finding_of (first_of (in_file s k) (count_of s k))
unfolding fields_finding field_breaks field_breaks_at run in_file
fields-is s k = ap finding_of (ap (first_of (λ i. run (field_breaks_at s k i))) (add-one (count_of s k)) ∙ first-shift (λ i. run (field_breaks_at s k i)) (count_of s k) refl)

-- what a turn of each loop tells
pub place-turn : (s : List ℕ) (k : Kind) (i f : ℕ) → finding_of (run (at_place (twenties s k f) twenty_reasons k i f)) ≡ finding_of (in_record s k i f)
unfolding in_record
place-turn s k i f = refl

pub record-turn : (s : List ℕ) (k : Kind) (i : ℕ) → record_finding (record_of s k i) k (i + 1) ≡ finding_of (in_file s k i)
unfolding record_finding in_file
record-turn s k i = refl

-- the whole records are counted in room
pub count_room : (s : List ℕ) (k : Kind) → count_of s k ≤ length s
unfolding count_of
count_room s k = div-le_self (length s) (length_of k)

-- a file's shape: the first answer is that of 10, which stands at record 0, else that of 11, at the whole records plus 1
module _ (s : List ℕ) (k : Kind) where
  -- of record i, by whether 10 and 11 are broken
  shape_at : Bool → Bool → ℕ → Option Break
  shape_at long ragged i =
      then (hit (eqb i 0 && long) (break_of R.LongFile10 k i 0)) (hit (eqb i (count_of s k + 1) && ragged) (break_of R.RaggedFile11 k i 0))

  shape-first : (long ragged : Bool) → first_of (shape_at long ragged) (count_of s k + 2) ≡ then (hit long (break_of R.LongFile10 k 0 0)) (hit ragged (break_of R.RaggedFile11 k (count_of s k + 1) 0))
  unfolding then shape_at
  shape-first true ragged = first-here _ _ (first-start _) (omega arith) refl
  shape-first false true =
      first-here _ _ {i = count_of s k + 1}
      (first-none _ _ (λ i l. rw (and-false, ne_eqb i (count_of s k + 1) (λ e. omega arith)))) (omega arith)
      (rw (and-false, eq-eqb (count_of s k + 1) (count_of s k + 1) refl))
  shape-first false false = first-none _ _ (λ i l. simp and-false)

  pub shape_is :
      shape_finding s k
      ≡ finding_of (then (hit (breaks10 s k) (break_of R.LongFile10 k 0 0)) (hit (breaks11 s k) (break_of R.RaggedFile11 k (count_of s k + 1) 0)))
  unfolding shape_finding shape_breaks at_place run first_of then shape_at
  shape_is = ap finding_of (shape-first (breaks10 s k) (breaks11 s k))

-- as the code finds it, with n for the record's length
module _ (s : List ℕ) (k : Kind) {n : ℕ} (e : n ≡ length_of k) where
  pub shape-long : {b : Break} → 16384 * n < length s → b ≡ break_of R.LongFile10 k 0 0 → Err b ≡ shape_finding s k
  unfolding breaks10 then
  shape-long l h = rw (shape_is, lt-ltb (16384 * length_of k) (length s) (omega arith), h)

  pub shape-ragged :
      {b : Break} {m : ℕ} → length s ≤ 16384 * n → 0 < length s % n → m ≡ count_of s k → b ≡ break_of R.RaggedFile11 k (m + 1) 0
      → Err b ≡ shape_finding s k
  unfolding breaks10 breaks11 then
  shape-ragged l u q h =
      rw (shape_is, le-ltb (16384 * length_of k) (length s) (omega arith), lt-ltb 0 (length s % length_of k) (omega (arith, ap (λ (x : ℕ). length s % x) e)), h, q)

  pub shape-fine : length s ≤ 16384 * n → length s % n ≤ 0 → Ok tt ≡ shape_finding s k
  unfolding breaks10 breaks11 then
  shape-fine l u =
      rw (shape_is, le-ltb (16384 * length_of k) (length s) (omega arith), le-ltb 0 (length s % length_of k) (omega (arith, ap (λ (x : ℕ). length s % x) e)))
