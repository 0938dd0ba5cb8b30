-- The laws of tallies (specs/Tally.antt): a loop that counts marks, a cell more by its marks, cells that have nothing, and what a tally
-- tells of the first record.
-- Assumes nothing.
use Prim.Native.Nat.{ℕ, zero, suc, ◌+◌, ◌-◌, ◌*◌, ◌<◌, ◌≤◌}
use mathlib.Core.Bool.{Bool, false}
use mathlib.Core.List.{List}
use mathlib.Core.Path.{◌≡◌, refl, sym, ap, ◌∙◌}
use native.Mathlib.Omega.{arith}
use Rattle.laws.specs.Find.{first_index}
use Rattle.laws.specs.Count.{how_many}
use Rattle.laws.proofs.FindLaws.{index-none}
use Rattle.laws.proofs.CountLaws.{count_none, count_same, count_most}
use Rattle.index.specs.Keys.{found_of}
use Rattle.index.specs.Marks.{Marked, is_marked}
use Rattle.index.specs.Tally.{no_tally, with_cell, tally_of}
use Rattle.std.specs.Prelude.{Option}
use Rattle.index.specs.declared.tally.Tally.{Tally}
use Rattle.index.proofs.MarkLaws.{marked-at, marked-first}

-- marks tell how often the test holds
pub marked-many : {before marks : List ℕ} {test : ℕ → Bool} {n : ℕ} → Marked before marks test n → how_many (is_marked marks) n ≡ how_many test n
marked-many {before} {marks} {test} {n} s = count_same (is_marked marks) test n (λ i l. marked-at s l)

-- A TALLY: of no cell, of one more,
pub with-many : (t : Tally) (f : Option ℕ) (m c : ℕ) → (with_cell t f m c).many ≡ t.many + m
with-many t f m c = refl

with_none : (t : Tally) → record { first = t.first; many = t.many + 0 } ≡ t
with_none t = let e : t.many + 0 ≡ t.many = omega arith in rw e refl

module _ (test : ℕ → ℕ → Bool) (n : ℕ) where
  pub tally-start : no_tally ≡ tally_of test n 0
  unfolding tally_of
  tally-start = refl

  pub tally-more :
      (c : ℕ) {t t' : Tally} {m : ℕ} {f : Option ℕ} → t ≡ tally_of test n c → f ≡ found_of (first_index (λ i. test i c) n) → m ≡ how_many (λ i. test i c) n
      → t' ≡ with_cell t f m c → t' ≡ tally_of test n (suc c)
  unfolding tally_of
  tally-more c e h q w = rw (w, e, h, q)

  -- of one more by its marks,
  pub tally-marks :
      (c : ℕ) {t t' : Tally} {before marks : List ℕ} → t ≡ tally_of test n c → Marked before marks (λ i. test i c) n
      → t' ≡ with_cell t (found_of (first_index (is_marked marks) n)) (how_many (is_marked marks) n) c → t' ≡ tally_of test n (suc c)
  tally-marks c e s w = tally-more c e (ap found_of (marked-first s)) (marked-many s) w

  -- of cells at which no test holds
  tally-same : (c : ℕ) → ((i : ℕ) → i < n → test i c ≡ false) → tally_of test n (suc c) ≡ tally_of test n c
  unfolding tally_of
  tally-same c quiet =
      rw (index-none (λ i. test i c) n quiet, count_none (λ i. test i c) n quiet) (with_none (tally_of test n c))

  tally-on : {a : ℕ} (more : ℕ) → ((i c : ℕ) → i < n → a ≤ c → c < a + more → test i c ≡ false) → tally_of test n a ≡ tally_of test n (a + more)
  tally-on {a} zero quiet = ap (tally_of test n) (omega arith)
  tally-on {a} (suc more) quiet =
      let e : a + suc more ≡ suc (a + more) = omega arith in
      tally-on more (λ i c l u v. quiet i c l u (omega arith)) ∙ sym (tally-same (a + more) (λ i l. quiet i (a + more) l (omega arith) (omega arith))) ∙ ap (tally_of test n) (sym e)

  pub tally-skip : {t : Tally} {a : ℕ} (b : ℕ) → a ≤ b → ((i c : ℕ) → i < n → a ≤ c → c < b → test i c ≡ false) → t ≡ tally_of test n a → t ≡ tally_of test n b
  tally-skip {t} {a} b l quiet e =
      let more = b - a in
      let q : a + more ≡ b = omega arith in
      e ∙ tally-on more (λ i c li u v. quiet i c li u (omega arith)) ∙ ap (tally_of test n) q

  -- it counts at most all records of its cells
  pub tally-most : n ≤ 16384 → (c : ℕ) → (tally_of test n c).many ≤ c * 16384
  unfolding tally_of
  tally-most l zero = omega arith
  tally-most l (suc c) =
      let e = with-many (tally_of test n c) (found_of (first_index (λ i. test i c) n)) (how_many (λ i. test i c) n) c in
      omega (arith, tally-most l c, count_most (λ i. test i c) n)
