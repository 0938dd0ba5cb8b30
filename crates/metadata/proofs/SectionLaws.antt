-- What stands in a section of a file, line by line: the rules 83 to 86.
-- Assumes nothing.
use Prim.Native.Nat.{ℕ, zero, suc, ◌+◌, ◌<◌, ◌≤◌}
use mathlib.Core.Bool.{Bool, true, false, not, ◌&&◌, ◌||◌, or-false, or-true}
use mathlib.Core.List.{List}
use mathlib.Core.Path.{◌≡◌, refl, sym, ap, ◌∙◌}
use native.Mathlib.Numerals.{add-one}
use native.Mathlib.Omega.{arith}
use lib.Dec.{eqb, leb, ltb}
use lib.ListN.{drop}
use borrow.Author.Tests.{leb-true, le-leb, lt-leb, ne_eqb}
use Rattle.std.specs.Prelude.{Option, None}
use Rattle.laws.specs.Find.{any}
use Rattle.laws.proofs.FindLaws.{true-false, any-start, any-more, any-true}
use Rattle.metadata.specs.declared.told.File.{File}
use Rattle.metadata.specs.declared.told.Told.{Told}
use Rattle.metadata.specs.declared.told.Told.TheVariants as T
use Rattle.metadata.specs.declared.told.Key.{Key}
use Rattle.metadata.specs.declared.told.Key.TheVariants as K
use Rattle.metadata.specs.declared.sections.Search.{Search}
use Rattle.metadata.specs.Rules.{is_head, is_file, is_name, is_count, is_size, file_told, line_at, in_file, seen, leads, file_of, named, complete, gives, again, rank_in, of_file, same_file, is_unlisted, file_at, most_files, misplaced, breaks83, breaks84, differs}
use Rattle.metadata.specs.Searches.{is_key, search_at, past, is_first, is_again}
use Rattle.metadata.proofs.RuleLaws.{Clear}

-- A SECTION'S LINE is no key's,
pub head-keys : (t : Told) → is_head t ≡ true → (is_name t ≡ false) × (is_count t ≡ false) × (is_size t ≡ false)
head-keys T.Section e = (refl, refl, refl)
head-keys T.Fichero e = (refl, refl, refl)
head-keys T.Nothing e = absurd (true-false (sym e))
head-keys T.Empty e = absurd (true-false (sym e))
head-keys T.Other e = absurd (true-false (sym e))
head-keys (T.Version one) e = absurd (true-false (sym e))
head-keys (T.Name file) e = absurd (true-false (sym e))
head-keys (T.Count n) e = absurd (true-false (sym e))
head-keys (T.Size n) e = absurd (true-false (sym e))

pub head-figure : (k : Key) (t : Told) → is_head t ≡ true → is_key k t ≡ false
head-figure K.Name t e = (head-keys t e).0
head-figure K.Count t e = (head-keys t e).1
head-figure K.Size t e = (head-keys t e).2

-- and what is no section's line is none of a file's
pub key-no-file : (t : Told) → is_head t ≡ false → is_file t ≡ false
key-no-file T.Section e = absurd (true-false e)
key-no-file T.Fichero e = absurd (true-false e)
key-no-file T.Nothing e = refl
key-no-file T.Empty e = refl
key-no-file T.Other e = refl
key-no-file (T.Version one) e = refl
key-no-file (T.Name file) e = refl
key-no-file (T.Count n) e = refl
key-no-file (T.Size n) e = refl

-- a line that is not the key's is not its first
pub no_lead : (p : Told → Bool) (ts : List Told) (i : ℕ) → p (line_at ts i) ≡ false → leads p ts i ≡ false
no_lead p ts i e = rw e

pub head-lead : (ts : List Told) (i : ℕ) → is_head (line_at ts i) ≡ true → leads is_name ts i ≡ false
head-lead ts i e = no_lead is_name ts i (head-keys (line_at ts i) e).0

-- A SEARCH FOR A KEY, before line i + 1
module _ (ts : List Told) (i : ℕ) {k : Key} {s : Search} (q : s ≡ search_at k ts i) where
  pub search-past : {r : Search} → r ≡ past s (line_at ts i) → r ≡ search_at k ts (i + 1)
  unfolding in_file seen
  search-past e = e ∙ ap (λ (x : Search). past x (line_at ts i)) q ∙ rw add-one

  pub leads-is : {b : Bool} → b ≡ is_first s (line_at ts i) → b ≡ leads (is_key k) ts i
  leads-is e = e ∙ ap (λ (x : Search). is_first x (line_at ts i)) q

  pub again-is : {b : Bool} → b ≡ is_again s (line_at ts i) → b ≡ (in_file ts i && again (is_key k) ts i)
  again-is e = e ∙ ap (λ (x : Search). is_again x (line_at ts i)) q

-- the file that a section names
module _ (ts : List Told) (i : ℕ) where
  pub file-head : is_head (line_at ts i) ≡ true → named (drop (i + 1) ts) ≡ file_of ts (i + 1)
  unfolding file_of
  file-head e = rw (add-one, e)

  pub file-more : is_head (line_at ts i) ≡ false → file_of ts i ≡ file_of ts (i + 1)
  unfolding file_of
  file-more e = rw (add-one, e)

pub file-start : (ts : List Told) → None ≡ file_of ts 0
unfolding file_of
file-start ts = refl

-- 84
abbrev pub lack : Bool → Bool → Bool
lack a b = a && not b

module _ (ts : List Told) (i : ℕ) where
  pub lacks-84 : lack (is_file (line_at ts i)) (complete (drop (i + 1) ts)) ≡ true → breaks84 ts (i + 1) ≡ true
  unfolding breaks84
  lacks-84 e =
      let q : lack (is_file (line_at ts i)) (complete (drop (suc i) ts)) ≡ true = rw (← add-one i) e in
      rw (add-one) (rw q)

  pub again-84 :
      {a b c : Bool} → lack (is_file (line_at ts i)) (complete (drop (i + 1) ts)) ≡ false → a ≡ (in_file ts i && again is_name ts i) → b ≡ (in_file ts i && again is_count ts i)
      → c ≡ (in_file ts i && again is_size ts i) → (a || b || c) ≡ breaks84 ts (i + 1)
  unfolding breaks84
  again-84 e qa qb qc =
      let q : lack (is_file (line_at ts i)) (complete (drop (suc i) ts)) ≡ false = rw (← add-one i) e in
      rw (add-one) (rw (q, qa, qb, qc) (go (in_file ts i) (again is_name ts i) (again is_count ts i) (again is_size ts i)))
    where
      go : (x a b c : Bool) → ((x && a) || (x && b) || (x && c)) ≡ (x && (a || b || c))
      go true a b c = refl
      go false a b c = refl

pub clear-84 : (ts : List Told) → Clear (breaks84 ts) 1
unfolding breaks84
clear-84 ts zero l = refl
clear-84 ts (suc j) l = absurd (omega arith)

-- 85 and 86
module _ (p : Told → Bool) (numbers : List ℕ) (ts : List Told) (i : ℕ) where
  pub is-differing :
      {a b : Bool} {file : Option File} {n : ℕ} → a ≡ leads p ts i → file ≡ file_of ts i → n ≡ of_file numbers file → b ≡ gives (line_at ts i) n
      → (a && not b) ≡ differs p numbers ts (i + 1)
  unfolding differs
  is-differing ea ef en eb = rw (add-one, ea, eb, en, ef)

pub clear-differs : (p : Told → Bool) (numbers : List ℕ) (ts : List Told) → Clear (differs p numbers ts) 1
unfolding differs
clear-differs p numbers ts zero l = refl
clear-differs p numbers ts (suc j) l = absurd (omega arith)

-- 83: THE FILES, in the list,
abbrev pub Lists : List Told → File → ℕ → Bool
Lists ts f j = leads is_name ts j && same_file (file_told (line_at ts j)) f

pub head-lists : (ts : List Told) (f : File) (i : ℕ) → is_head (line_at ts i) ≡ true → Lists ts f i ≡ false
head-lists ts f i e = rw (no_lead is_name ts i (head-keys (line_at ts i) e).0)

-- in their order
abbrev pub Above : List Told → ℕ → ℕ → Bool
Above ts r j = leads is_name ts j && leb r (rank_in (file_told (line_at ts j)))

-- top is the highest place of those before line i + 1
pub record Top (ts : List Told) (top i : ℕ) : Type 0 where
  pub over : (r : ℕ) → leb (suc r) top ≡ any (Above ts (suc r)) i

pub top_start : (ts : List Told) → Top ts 0 0
top_start ts = record { over = λ r. lt-leb (suc r) 0 (omega arith) ∙ sym (any-start _) }

module _ {ts : List Told} {top i : ℕ} (h : Top ts top i) where
  pub top-stays : leads is_name ts i ≡ false → Top ts top (i + 1)
  top-stays e = record { over = λ r. h.over r ∙ sym (or-false (any (Above ts (suc r)) i)) ∙ sym (any-more (Above ts (suc r)) i ∙ rw e) }

  pub top-rises : {x : ℕ} → leads is_name ts i ≡ true → x ≡ rank_in (file_told (line_at ts i)) → top < x → Top ts x (i + 1)
  top-rises {x} e q l = record { over = λ r. sym (higher r) ∙ ap (λ (y : Bool). y || leb (suc r) x) (h.over r) ∙ rw q (sym (any-more (Above ts (suc r)) i ∙ rw e)) }
    where
      higher : (r : ℕ) → (leb (suc r) top || leb (suc r) x) ≡ leb (suc r) x
      higher r = go (leb (suc r) top) refl
        where
          go : (y : Bool) → leb (suc r) top ≡ y → (y || leb (suc r) x) ≡ leb (suc r) x
          go true m = let b = leb-true (suc r) top m in sym (le-leb (suc r) x (omega arith))
          go false m = refl

  -- an unknown file, or one that is not above all before it
  out-of-place : (x : ℕ) → x ≡ rank_in (file_told (line_at ts i)) → (eqb x 0 || leb x top) ≡ (eqb (rank_in (file_told (line_at ts i))) 0 || misplaced ts i)
  unfolding misplaced
  out-of-place x q = rw (← q) (go x)
    where
      go : (x : ℕ) → (eqb x 0 || leb x top) ≡ (eqb x 0 || any (Above ts x) i)
      go zero = refl
      go (suc r) = ap (λ (y : Bool). eqb (suc r) 0 || y) (h.over r)

  module _ (counts : List ℕ) (e : leads is_name ts i ≡ true) {file : Option File} (q : file ≡ file_told (line_at ts i)) where
    is-83 : breaks83 counts ts (i + 1) ≡ (eqb (rank_in file) 0 || leb (rank_in file) top)
    unfolding breaks83
    is-83 = rw (add-one, e) (sym (out-of-place (rank_in file) (ap rank_in q)))

    pub misplaced-83 : rank_in file ≤ top → breaks83 counts ts (i + 1) ≡ true
    misplaced-83 l = is-83 ∙ rw (le-leb (rank_in file) top l, or-true)

    pub placed-83 : top < rank_in file → breaks83 counts ts (i + 1) ≡ false
    placed-83 l = is-83 ∙ rw (lt-leb (rank_in file) top l, ne_eqb (rank_in file) 0 (λ z. omega arith))

pub no-83 : (counts : List ℕ) (ts : List Told) (i : ℕ) → leads is_name ts i ≡ false → breaks83 counts ts (i + 1) ≡ false
unfolding breaks83
no-83 counts ts i e = rw (add-one, e)

pub clear-83 : (counts : List ℕ) (ts : List Told) → breaks83 counts ts 0 ≡ false → Clear (breaks83 counts ts) 1
clear-83 counts ts e zero l = e
clear-83 counts ts e (suc j) l = absurd (omega arith)

-- a file with records that is not listed, by the number of its records
abbrev pub unlisted_by : ℕ → Bool → Bool
unlisted_by n b = ltb 0 n && not b

abbrev pub Unlisted : List ℕ → List Told → ℕ → Bool
Unlisted counts ts k = is_unlisted counts ts (file_at k)

pub none-unlisted : (counts : List ℕ) (ts : List Told) → any (Unlisted counts ts) most_files ≡ false → false ≡ breaks83 counts ts 0
unfolding breaks83
none-unlisted counts ts e = sym e

pub one-unlisted : (counts : List ℕ) (ts : List Told) {k : ℕ} → k < most_files → Unlisted counts ts k ≡ true → true ≡ breaks83 counts ts 0
unfolding breaks83
one-unlisted counts ts {k} l e = sym (any-true (Unlisted counts ts) most_files {k = k} l e)
