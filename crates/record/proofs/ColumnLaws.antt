-- The loops that read a column into an array (specs/Columns.antt): what is read so far, from the start to the end, and what is cut of each
-- record.
-- Assumes nothing.
use Prim.Native.Nat.{ℕ, ◌+◌, ◌-◌, ◌*◌, ◌≤◌, ◌<◌, min}
use mathlib.Core.List.{List, []}
use mathlib.Core.Path.{◌≡◌, refl, sym, ◌∙◌}
use native.Mathlib.Nat.{min-le_right, suc-mul}
use native.Mathlib.Numerals.{add-one}
use native.Mathlib.Omega.{arith}
use borrow.Author.Count.{below_none, below_more}
use lib.ListN.{length, get_or, set, take, drop, length-set}
use lib.Seq.{get_or-set_same, get_or-set_other}
use Rattle.record.specs.declared.kind.Kind.{Kind}
use Rattle.record.specs.declared.kind.Form.{Form}
use Rattle.record.specs.Table.{limit, length_of, keys_of, form_at, offset_at, width_at}
use Rattle.record.specs.Cut.{count_of, record_of, text_of}
use Rattle.record.specs.Says.{said_as, said_in, table_of, number_in, key_in, place_in}
use Rattle.record.proofs.TableLaws.{sane, within}
use Rattle.record.proofs.CutLaws.{record-within, record-field}
use Rattle.record.proofs.SaysLaws.{number-before, key-before}
use Rattle.record.specs.Names.{name_at, key_of}
use Rattle.record.specs.machinery.Columns.{Fills, ReadInto}
use Rattle.record.proofs.NameLaws.{key-name}

-- the loop's invariant: of the column's n numbers, the first i are in the room, and the rest of it is as before
pub record Filling (column : ℕ → ℕ) (n : ℕ) (before out : List ℕ) (i : ℕ) : Type 0 where
  pub within : i ≤ n
  pub long : length out ≡ length before
  pub filled : (j : ℕ) → j < i → get_or out j 0 ≡ column j
  pub rest : (j : ℕ) → i ≤ j → get_or out j 0 ≡ get_or before j 0

pub filling-none : (column : ℕ → ℕ) {n : ℕ} (before : List ℕ) → Filling column n before before 0
filling-none column before =
    record { within = omega arith; long = refl; filled = below_none (λ j. get_or before j 0 ≡ column j); rest = λ j lj. refl }

module _ {column : ℕ → ℕ} {n : ℕ} {before out : List ℕ} {i : ℕ} (f : Filling column n before out i) (room : n ≤ length before) where
  pub filling-more : {x : ℕ} → i < n → x ≡ column i → Filling column n before (set out i x) (i + 1)
  filling-more {x} l e =
      record {
        within = omega arith;
        long = length-set out i x ∙ f.long;
        filled =
            below_more (λ j. get_or (set out i x) j 0 ≡ column j) i
            (λ j lj. get_or-set_other out i j x 0 (λ q. omega arith) ∙ f.filled j lj)
            (get_or-set_same out i x 0 (omega (arith, f.long)) ∙ e);
        rest = λ j lj. get_or-set_other out i j x 0 (λ q. omega arith) ∙ f.rest j (omega arith);
      }

  pub filling-all : {m : ℕ} → m ≤ limit → n ≤ i → n ≡ m → ReadInto before out column m n
  filling-all small l e =
      record {
        small = small;
        fits = λ h. e;
        short = λ h. omega (arith, room, e);
        long = f.long;
        holds = λ j lj. f.filled j (omega arith);
        rest = λ j lj. f.rest j (omega (arith, f.within));
      }

-- ROOM: too short, nothing is read; of the limit, a table's column always fits
pub read_none : (column : ℕ → ℕ) {n m : ℕ} (before : List ℕ) → m ≤ limit → length before < n → n ≡ m → ReadInto before before column m 0
read_none column before small l e =
    record {
      small = small;
      fits = λ h. omega (arith, l, e);
      short = λ h. refl;
      long = refl;
      holds = λ j lj. omega arith;
      rest = λ j lj. refl;
    }

pub read-fills : {before out : List ℕ} {column : ℕ → ℕ} {n r : ℕ} → n ≤ length before → ReadInto before out column n r → Fills out column n r
read-fills l f =
    let e = f.fits l in
    record { count = e; small = f.small; long = omega (arith, f.long); holds = λ i li. f.holds i (omega (arith, e)) }

-- WHERE RECORD i STARTS, and that it is near enough for sums to fit
pub record Starts (k : Kind) (i at : ℕ) : Type 0 where
  pub here : at ≡ i * length_of k
  pub near : at ≤ 149 * i

pub starts_first : (k : Kind) → Starts k 0 0
starts_first k = record { here = omega arith; near = omega arith }

pub starts-next : {k : Kind} {i at len : ℕ} → Starts k i at → len ≡ length_of k → Starts k (i + 1) (at + len)
starts-next {k} {i} {at} {len} h e = record { here = rw (e, h.here) (sym (next-mul i (length_of k))); near = omega (arith, sane k) }
  where
    next-mul : (a b : ℕ) → (a + 1) * b ≡ a * b + b
    next-mul a b = rw (add-one, suc-mul)

-- WHAT IS CUT of a field of a record of the file's table
module _ (s : List ℕ) (k : Kind) {n i : ℕ} (e : n ≡ min limit (count_of s k)) (l : i < n) where
  counted : i < count_of s k
  counted = omega (arith, min-le_right limit (count_of s k))

  pub cut_field : {at : ℕ} → Starts k i at → (f o w : ℕ) (t : List ℕ) → o ≡ offset_at k f → w ≡ width_at k f → t ≡ take w (drop (at + o) s) → t ≡ text_of (record_of s k i) k f
  cut_field h f o w t p q r = r ∙ record-field s k i counted f h.here p q

  -- which is there
  pub cut-room : {at : ℕ} → Starts k i at → (f : ℕ) {o w : ℕ} → o ≡ offset_at k f → w ≡ width_at k f → at + o + w ≤ length s
  cut-room h f p q = omega (arith, h.here, within k f, record-within s k i counted)

-- and what is said there
module _ (s : List ℕ) (k : Kind) (i f : ℕ) {form : Form} {t : List ℕ} (p : form ≡ form_at k f) (q : t ≡ text_of (record_of s k i) k f) where
  pub key-cut : {x : ℕ} → x ≡ key_in (said_as form t []) → x ≡ key_in ((table_of s k).says i f)
  unfolding said_in
  key-cut e = e ∙ rw (p, q) (key-before _ _ _ _)

  pub number_cut : {x : ℕ} → x ≡ number_in (said_as form t []) → x ≡ number_in ((table_of s k).says i f)
  unfolding said_in
  number_cut e = e ∙ rw (p, q) (number-before _ _ _ _)

  pub place-cut : {b : List ℕ} → b ≡ text_of (record_of s k i) k (f - 1) → {x : ℕ} → x ≡ place_in (said_as form t b) → x ≡ place_in ((table_of s k).says i f)
  unfolding said_in
  place-cut r e = e ∙ rw (p, q, r)

-- a column that is the same number by number
read_same : {before out : List ℕ} {column : ℕ → ℕ} (other : ℕ → ℕ) {n r : ℕ} → ((i : ℕ) → column i ≡ other i) → ReadInto before out column n r → ReadInto before out other n r
read_same other same h =
    record {
      small = h.small;
      fits = h.fits;
      short = h.short;
      long = h.long;
      holds = λ i l. h.holds i l ∙ same i;
      rest = h.rest;
    }

-- KEYS of one field are names
pub keys-names : {before out : List ℕ} (s : List ℕ) {r : ℕ} (k : Kind) → (keys_of k ≡ 2 → ⊥)
    → ReadInto before out (λ i. name_at k (table_of s k) i 1) (table_of s k).count r → ReadInto before out (λ i. key_of k (table_of s k) i) (table_of s k).count r
keys-names s k e h = read_same (λ i. key_of k (table_of s k) i) (λ i. key-name k (table_of s k) i e) h
