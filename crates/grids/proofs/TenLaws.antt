-- What the code counts of a ten in a file is how many breaks the ten has there, where no lower ten has one: the sums over records, fields
-- and reasons of the tests in one list (judge's `tests_of`).
-- Assumes nothing.
use Prim.Native.Nat.{ℕ, zero, suc, ◌+◌, ◌-◌, ◌*◌, ◌/◌, ◌%◌, ◌<◌, ◌≤◌, min}
use mathlib.Core.Bool.{Bool, false, ◌&&◌, and-false}
use mathlib.Core.List.{List, [], ◌∷◌}
use mathlib.Core.Path.{◌≡◌, refl, sym, ap, ap₂, ◌∙◌}
use native.Mathlib.Nat.{le_refl, mul_comm, div-le_of_le-mul}
use native.Mathlib.Omega.{arith}
use lib.Dec.{eqb}
use lib.ListN.{length, get_or, get_or-eq_default}
use borrow.Author.Tests.{le-leb, lt-leb, eq-eqb, ne_eqb, ltb-false}
use Rattle.laws.specs.Find.{first_index}
use Rattle.laws.specs.Count.{bit, how_many, sum_of}
use Rattle.laws.specs.Nest.{many}
use Rattle.laws.specs.Row.{pick}
use Rattle.laws.proofs.CountLaws.{bit-most}
use Rattle.laws.proofs.SumLaws.{sum_same, sum-plus, sum-none, sum_past, sum-after, sum_one, sum-swap, sum-tens, sum-most, count-sum}
use Rattle.index.specs.Keys.{found_of}
use Rattle.index.specs.Tally.{tally_of}
use Rattle.index.proofs.TallyLaws.{with-many}
use Rattle.record.specs.declared.kind.Kind.{Kind}
use Rattle.record.specs.Table.{fields_of, length_of, limit}
use Rattle.record.specs.Cut.{count_of, record_of}
use Rattle.record.specs.Files.{Files, delivery_of}
use Rattle.record.specs.Rules.{breaks10, breaks11, twenties}
use Rattle.record.specs.Breaks.{shape_tests}
use Rattle.record.specs.machinery.Counts.{shape_many, place_many, record_many, fields_many}
use Rattle.record.proofs.TableLaws.{sane}
use Rattle.record.proofs.CountingLaws.{hit-one}
use Rattle.keys.specs.machinery.Groups.{Tests, cells_of}
use Rattle.keys.specs.machinery.Cells.{cell_test, tally_in, key_tally}
use Rattle.keys.specs.Rules.{key_tests}
use Rattle.topology.specs.Rules.{fifties}
use Rattle.fifties.specs.machinery.Cells.{fifty_tally}
use Rattle.objects.specs.Rules.{seventies}
use Rattle.objects.specs.machinery.Cells.{seventy_tally}
use Rattle.judge.specs.Broken.{is_there, said_tests, tests_of, breaks_in}

min-under : (a b : ℕ) → min a b ≤ b
min-under a b = omega arith

-- A FILE'S BREAKS of a ten are the sum over its places of how many tests hold
unfoldable pub placed : (ℕ → ℕ → List Bool) → Kind → ℕ → ℕ
placed tests k i = sum_of (λ f. sum_of (λ u. bit (get_or (tests i f) u false)) 10) (fields_of k + 1)

pub many-placed : (files : Files) (t : ℕ) (k : Kind) → many (breaks_in files t k) ≡ sum_of (placed (tests_of files t k) k) (count_of (files k) k + 2)
unfolding many breaks_in placed
many-placed files t k =
    sum_same _ _ (count_of (files k) k + 2)
    (λ i _. sum_same _ _ (fields_of k + 1) (λ f _. sum_same _ _ 10 (λ u _. hit-one (get_or (tests_of files t k i f) u false) _)))

-- where no test holds
placed-none : (tests : ℕ → ℕ → List Bool) (k : Kind) (i : ℕ) → ((f : ℕ) → f < fields_of k + 1 → tests i f ≡ []) → placed tests k i ≡ 0
unfolding placed
placed-none tests k i empty =
    sum-none _ (fields_of k + 1) (λ f l. sum-none _ 10 (λ u _. rw (empty f l)))

placed_same : (tests others : ℕ → ℕ → List Bool) (k : Kind) (i j : ℕ) → ((f : ℕ) → f < fields_of k + 1 → tests i f ≡ others j f) → placed tests k i ≡ placed others k j
unfolding placed
placed_same tests others k i j same =
    sum_same _ _ (fields_of k + 1) (λ f l. sum_same _ _ 10 (λ u _. ap (λ (ts : List Bool). bit (get_or ts u false)) (same f l)))

-- TESTS that are read of n records, told from 1
module _ (n : ℕ) (k : Kind) (tests : ℕ → ℕ → List Bool) where
  unfoldable told : ℕ → ℕ → List Bool
  told i f = pick (is_there n k i f) (tests (i - 1) f) []

  told-first : (f : ℕ) → told 0 f ≡ []
  unfolding told
  told-first f = refl

  told-past : (i f : ℕ) → n < i → told i f ≡ []
  unfolding told
  told-past i f l = rw (lt-leb i n l, and-false)

  told_here : (j f : ℕ) → j < n → f < fields_of k + 1 → told (suc j) f ≡ tests j f
  unfolding told
  told_here j f l u =
      let e : suc j - 1 ≡ j = omega arith in
      rw (le-leb 1 (suc j) (omega arith), le-leb (suc j) n (omega arith), le-leb f (fields_of k) (omega arith), e)

  pub there-many : (m : ℕ) → n ≤ m → sum_of (placed (λ i f. pick (is_there n k i f) (tests (i - 1) f) []) k) (m + 2) ≡ sum_of (placed tests k) n
  unfolding told
  there-many m l =
      sum_past (placed told k) (suc n) (m + 2) (omega arith) (λ i a b. placed-none told k i (λ f _. told-past i f (omega arith)))
      ∙ sum-after (placed told k) n (placed-none told k 0 (λ f _. told-first f))
      ∙ sum_same _ _ n (λ j b. placed_same told tests k (suc j) j (λ f u. told_here j f b u))

-- A TALLY counts the same, by cells
cell_at : (tests : Tests) (i f u : ℕ) → u < 10 → cell_test tests i (f * 10 + u) ≡ get_or (tests i f) u false
unfolding cell_test
cell_at tests i f u l =
    let a : (f * 10 + u) / 10 ≡ f = omega arith in
    let b : (f * 10 + u) % 10 ≡ u = omega arith in
    rw (a, b)

tally-sum : (test : ℕ → ℕ → Bool) (n c : ℕ) → (tally_of test n c).many ≡ sum_of (λ c. how_many (λ i. test i c) n) c
unfolding tally_of sum_of
tally-sum test n zero = refl
tally-sum test n (suc c) =
    with-many (tally_of test n c) (found_of (first_index (λ i. test i c) n)) (how_many (λ i. test i c) n) c
    ∙ ap (λ (x : ℕ). x + how_many (λ i. test i c) n) (tally-sum test n c)

pub tally-placed : (tests : Tests) (k : Kind) (n : ℕ) → (tally_in tests k n).many ≡ sum_of (placed tests k) n
unfolding tally_in placed
tally-placed tests k n =
    tally-sum (cell_test tests) n (cells_of k)
    ∙ sum_same _ _ (cells_of k) (λ c _. count-sum (λ i. cell_test tests i c) n)
    ∙ sym (sum-swap (λ i c. bit (cell_test tests i c)) n (cells_of k))
    ∙ sum_same _ _ n
    (λ i _. sum-tens (λ c. bit (cell_test tests i c)) (fields_of k + 1)
    ∙ sum_same _ _ (fields_of k + 1) (λ f _. sum_same _ _ 10 (λ u l. ap bit (cell_at tests i f u l))))

-- OF EACH TEN, in a file: from 30 on by tallies,
said-many :
    (files : Files) (t : ℕ) (k : Kind) (tests : Tests)
    → ((i f : ℕ) → tests_of files t k i f ≡ pick (is_there (delivery_of files k).count k i f) (tests (i - 1) f) [])
    → (tally_in tests k (delivery_of files k).count).many ≡ many (breaks_in files t k)
said-many files t k tests same =
    tally-placed tests k (delivery_of files k).count
    ∙ sym (there-many (delivery_of files k).count k tests (count_of (files k) k) (min-under _ _))
    ∙ sum_same _ _ (count_of (files k) k + 2) (λ i _. placed_same _ (tests_of files t k) k i i (λ f _. sym (same i f)))
    ∙ sym (many-placed files t k)

pub thirties-many : (files : Files) (k : Kind) → (key_tally 3 (delivery_of files) k).many ≡ many (breaks_in files 3 k)
unfolding key_tally key_tests tests_of said_tests
thirties-many files k = said-many files 3 k (key_tests 3 (delivery_of files) k) (λ i f. refl)

pub forties-many : (files : Files) (k : Kind) → (key_tally 4 (delivery_of files) k).many ≡ many (breaks_in files 4 k)
unfolding key_tally key_tests tests_of said_tests
forties-many files k = said-many files 4 k (key_tests 4 (delivery_of files) k) (λ i f. refl)

pub fifties-many : (files : Files) (k : Kind) → (fifty_tally (delivery_of files) k).many ≡ many (breaks_in files 5 k)
unfolding fifty_tally tests_of said_tests
fifties-many files k = said-many files 5 k (fifties (delivery_of files) k) (λ i f. refl)

pub seventies-many : (files : Files) (k : Kind) → (seventy_tally (delivery_of files) k).many ≡ many (breaks_in files 7 k)
unfolding seventy_tally tests_of said_tests
seventies-many files k = said-many files 7 k (seventies (delivery_of files) k) (λ i f. refl)

-- 20 to 25 in the records of a file that is not too long,
record-placed : (s : List ℕ) (k : Kind) (i : ℕ) → record_many (record_of s k i) k ≡ placed (λ j f. twenties (record_of s k j) k f) k i
unfolding record_many place_many placed
record-placed s k i =
    sum_same _ _ (fields_of k + 1)
    (λ f _. count-sum (λ u. get_or (twenties (record_of s k i) k f) u false) 6
    ∙ sym (sum_past (λ u. bit (get_or (twenties (record_of s k i) k f) u false)) 6 10 (omega arith)
    (λ u a b. ap bit (get_or-eq_default (twenties (record_of s k i) k f) false {n = u} a))))

pub count_small : (s : List ℕ) (k : Kind) → breaks10 s k ≡ false → count_of s k ≤ limit
unfolding breaks10 count_of
count_small s k e =
    let l = ltb-false (limit * length_of k) (length s) e in
    div-le_of_le-mul (length_of k) (rw (mul_comm (length_of k) limit) l)

pub fields-many : (files : Files) (k : Kind) → breaks10 (files k) k ≡ false → fields_many (files k) k ≡ many (breaks_in files 2 k)
unfolding fields_many tests_of
fields-many files k e =
    let small = count_small (files k) k e in
    let all : min limit (count_of (files k) k) ≡ count_of (files k) k = omega arith in
    ap (sum_of (λ i. record_many (record_of (files k) k i) k)) all
    ∙ sum_same _ _ (count_of (files k) k) (λ i _. record-placed (files k) k i)
    ∙ sym (there-many (count_of (files k) k) k (λ j f. twenties (record_of (files k) k j) k f) (count_of (files k) k) (le_refl _))
    ∙ sym (many-placed files 2 k)

-- and 10 and 11
two-tests : (a b : Bool) → sum_of (λ u. bit (get_or (a ∷ b ∷ []) u false)) 10 ≡ bit a + bit b
unfolding sum_of
two-tests a b = omega arith

no-tests : sum_of (λ u. bit (get_or [] u false)) 10 ≡ 0
unfolding sum_of
no-tests = refl

shape-placed :
    (s : List ℕ) (k : Kind) (i : ℕ)
    → placed (λ j f. pick (eqb f 0) (shape_tests s k j) []) k i ≡ bit (eqb i 0 && breaks10 s k) + bit (eqb i (count_of s k + 1) && breaks11 s k)
unfolding placed
shape-placed s k i =
    sum_one (λ f. sum_of (λ u. bit (get_or (pick (eqb f 0) (shape_tests s k i) []) u false)) 10) (fields_of k + 1) {k = 0} (omega arith)
    (λ f _ ne. rw (ne_eqb f 0 ne) no-tests)
    ∙ two-tests (eqb i 0 && breaks10 s k) (eqb i (count_of s k + 1) && breaks11 s k)

pub shape-many : (files : Files) (k : Kind) → shape_many (files k) k ≡ many (breaks_in files 1 k)
unfolding shape_many tests_of
shape-many files k =
    let s = files k in
    let n = count_of s k in
    let long = sum_one (λ i. bit (eqb i 0 && breaks10 s k)) (n + 2) {k = 0} (omega arith) (λ j _ ne. rw (ne_eqb j 0 ne)) in
    let ragged = sum_one (λ i. bit (eqb i (n + 1) && breaks11 s k)) (n + 2) {k = n + 1} (omega arith) (λ j _ ne. rw (ne_eqb j (n + 1) ne)) in
    let last : bit (eqb (n + 1) (n + 1) && breaks11 s k) ≡ bit (breaks11 s k) = rw (eq-eqb (n + 1) (n + 1) refl) in
    sym (ap₂ (λ (x y : ℕ). x + y) long (ragged ∙ last))
    ∙ sym (sum-plus (λ i. bit (eqb i 0 && breaks10 s k)) (λ i. bit (eqb i (n + 1) && breaks11 s k)) (n + 2))
    ∙ sum_same _ _ (n + 2) (λ i _. sym (shape-placed s k i))
    ∙ sym (many-placed files 1 k)

-- WHERE NO TEST HOLDS there is no break
pub tests-none : (files : Files) (t : ℕ) (k : Kind) → ((i f u : ℕ) → u < 10 → get_or (tests_of files t k i f) u false ≡ false) → many (breaks_in files t k) ≡ 0
unfolding placed
tests-none files t k quiet =
    many-placed files t k
    ∙ sum-none _ (count_of (files k) k + 2) (λ i _. sum-none _ (fields_of k + 1) (λ f _. sum-none _ 10 (λ u l. ap bit (quiet i f u l))))

-- THE MOST breaks of a file that is not too long: a record has at most 14 fields and itself, each ten reasons
pub file-most : (files : Files) (t : ℕ) (k : Kind) → breaks10 (files k) k ≡ false → many (breaks_in files t k) ≤ 2457900
unfolding placed
file-most files t k e =
    let n = count_of (files k) k in
    let m = fields_of k + 1 in
    let small = count_small (files k) k e in
    let few = (sane k).few in
    let r = many-placed files t k in
    let each : (i : ℕ) → placed (tests_of files t k) k i ≤ m * 10 =
    λ i. sum-most _ m 10 (λ f _. sum-most (λ u. bit (get_or (tests_of files t k i f) u false)) 10 1 (λ u _. bit-most (get_or (tests_of files t k i f) u false))) in
    let all = sum-most (placed (tests_of files t k) k) (n + 2) 150 (λ i _. let q = each i in omega arith) in
    omega arith

pub shape-most : (files : Files) (k : Kind) → many (breaks_in files 1 k) ≤ 2
unfolding shape_many
shape-most files k =
    let e = shape-many files k in
    let a = bit-most (breaks10 (files k) k) in
    let b = bit-most (breaks11 (files k) k) in
    omega arith
