-- The laws of marks (specs/Marks.antt): a loop that fills them, and what is read off them.
-- Assumes nothing.
use Prim.Native.Nat.{ℕ, zero, suc, ◌+◌, ◌<◌, ◌≤◌}
use mathlib.Core.Bool.{Bool, true, false}
use mathlib.Core.List.{List}
use mathlib.Core.Path.{◌≡◌, refl, sym, ap, ◌∙◌}
use native.Mathlib.Nat.{add-zero}
use native.Mathlib.Omega.{arith}
use lib.Dec.{eqb}
use lib.ListN.{length, get_or, set, take, length-set}
use lib.Seq.{get_or-set_same, get_or-set_other}
use borrow.Author.Count.{below_none, below_more}
use Rattle.laws.specs.Find.{first_index}
use Rattle.std.specs.List.{count_by}
use Rattle.std.proofs.Common.{add-one}
use Rattle.std.proofs.lemmas.List.Sums.{count_by_more_yes, count_by_more_no}
use Rattle.laws.specs.Count.{bit, how_many}
use Rattle.laws.proofs.FindLaws.{index_same}
use Rattle.index.specs.Marks.{Marked, is_marked}

-- A LOOP: none is marked yet, one more is, all are
pub marked_start : (marks : List ℕ) (test : ℕ → Bool) → Marked marks marks test 0
marked_start marks test = record { long = refl; says = below_none _ }

pub marked_more :
    {before marks : List ℕ} {test : ℕ → Bool} {i x : ℕ} → i < length marks → x ≡ bit (test i) → Marked before marks test i
    → Marked before (set marks i x) test (i + 1)
marked_more {before} {marks} {test} {i} {x} l e m =
    record {
      long = length-set marks i x ∙ m.long;
      says =
          below_more (λ (j : ℕ). get_or (set marks i x) j 0 ≡ bit (test j)) i
          (λ j lj. get_or-set_other marks i j x 0 (λ (q : j ≡ i). omega arith) ∙ m.says j lj)
          (get_or-set_same marks i x 0 l ∙ e);
    }

pub marked-end : {before marks : List ℕ} {test : ℕ → Bool} {i n : ℕ} (m : ℕ) → n ≡ m → n ≤ i → Marked before marks test i → Marked before marks test m
marked-end m e le s = record { long = s.long; says = λ j l. s.says j (omega arith) }

-- marks in hand, whatever they were before
pub marked-kept : {before marks : List ℕ} {test : ℕ → Bool} {n : ℕ} → Marked before marks test n → Marked marks marks test n
marked-kept s = record { long = refl; says = s.says }

-- another test that says the same
pub marked-as :
    {before marks : List ℕ} {test other : ℕ → Bool} {n : ℕ} → ((i : ℕ) → i < n → test i ≡ other i) → Marked before marks test n → Marked before marks other n
marked-as same s = record { long = s.long; says = λ i l. s.says i l ∙ ap bit (same i l) }

bit_is : (t : Bool) → eqb (bit t) 1 ≡ t
bit_is true = refl
bit_is false = refl

-- a mark says the test
pub marked-at : {before marks : List ℕ} {test : ℕ → Bool} {n : ℕ} {i : ℕ} → Marked before marks test n → i < n → is_marked marks i ≡ test i
marked-at {test} {i} s l = ap (λ (x : ℕ). eqb x 1) (s.says i l) ∙ bit_is (test i)

-- THE FIRST that is marked is the first at which the test holds
pub marked-first : {before marks : List ℕ} {test : ℕ → Bool} {n : ℕ} → Marked before marks test n → first_index (is_marked marks) n ≡ first_index test n
marked-first {before} {marks} {test} {n} s =
    index_same (is_marked marks) test n (λ i l. marked-at s l)

-- HOW MANY are marked, as the library counts them in a list
count_one :
    (marks : List ℕ) (n : ℕ) (t : Bool) → n < length marks → is_marked marks n ≡ t → count_by (λ m. eqb m 1) (take n marks) ≡ how_many (is_marked marks) n
    → count_by (λ m. eqb m 1) (take (n + 1) marks) ≡ how_many (is_marked marks) n + bit t
count_one marks n true l e rest = count_by_more_yes (λ m. eqb m 1) marks n 0 l e ∙ ap (λ (k : ℕ). k + 1) rest
count_one marks n false l e rest = count_by_more_no (λ m. eqb m 1) marks n 0 l e ∙ rest ∙ sym (add-zero _)

pub count-marked : (marks : List ℕ) (n : ℕ) → n ≤ length marks → count_by (λ m. eqb m 1) (take n marks) ≡ how_many (is_marked marks) n
unfolding how_many
count-marked marks zero l = refl
count-marked marks (suc n) l = rw (← add-one n) (count_one marks n (is_marked marks n) (omega arith) refl (count-marked marks n (omega arith)))
