-- The laws of two columns as one (specs/Pairs.antt).
-- Assumes nothing.
use Prim.Native.Nat.{ℕ, ◌+◌, ◌*◌, ◌/◌, ◌<◌, ◌≤◌}
use mathlib.Core.Bool.{Bool, false, ◌&&◌}
use mathlib.Core.List.{List}
use mathlib.Core.Logic.{⊎_elim}
use mathlib.Core.Path.{◌≡◌, refl, sym, ap, ap₂, subst, ◌∙◌}
use native.Mathlib.Omega.{arith}
use lib.Dec.{eqb}
use lib.ListN.{length, get_or, set}
use lib.Seq.{get_or-set_same, get_or-set_other}
use borrow.Author.Tests.{ne_eqb}
use Rattle.laws.specs.Row.{Narrow}
use Rattle.index.specs.Keys.{room}
use Rattle.index.specs.Look.{Sought}
use Rattle.index.specs.Way.{Stands}
use Rattle.index.specs.Pairs.{wide, Joined, Pairs, PairIs}
use Rattle.std.specs.Prelude.{Option, Some, None}
use Rattle.index.proofs.LookLaws.{pair_same}
use Rattle.index.proofs.OrderLaws.{less-or}

-- JOINING, a loop's: the first i are joined, the rest are as they were
pub record Joining (before seconds after : List ℕ) (i : ℕ) : Type 0 where
  pub done : (e : ℕ) → e < i → get_or after e 0 ≡ get_or before e 0 * wide + get_or seconds e 0
  pub left : (e : ℕ) → i ≤ e → get_or after e 0 ≡ get_or before e 0

pub joining-start : (before seconds : List ℕ) → Joining before seconds before 0
joining-start before seconds = record { done = λ e l. absurd (omega arith); left = λ e l. refl }

pub joining-more :
    {before seconds after : List ℕ} {i : ℕ} → i < length after → Joining before seconds after i
    → Joining before seconds (set after i (get_or after i 0 * wide + get_or seconds i 0)) (i + 1)
joining-more {before} {seconds} {after} {i} l j =
    record {
      done =
          λ e le.
          split e le
          (λ (k : e < i). get_or-set_other after i e _ 0 (λ (z : e ≡ i). omega arith) ∙ j.done e k)
          (λ (z : e ≡ i).
          ap (λ (x : ℕ). get_or (set after i (get_or after i 0 * wide + get_or seconds i 0)) x 0) z
          ∙ get_or-set_same after i _ 0 l
          ∙ ap (λ (x : ℕ). x * wide + get_or seconds i 0) (j.left i (omega arith))
          ∙ ap (λ (x : ℕ). get_or before x 0 * wide + get_or seconds x 0) (sym z));
      left = λ e le. get_or-set_other after i e _ 0 (λ (z : e ≡ i). omega arith) ∙ j.left e (omega arith);
    }
  where
    split : {A : Type 0} (e : ℕ) → e < i + 1 → (e < i → A) → (e ≡ i → A) → A
    split e le past here = ⊎_elim past (λ (k : i ≤ e). here (omega arith)) (less-or e i)

pub joining-end : {before seconds after : List ℕ} {i n : ℕ} → n ≤ i → Joining before seconds after i → Joined before seconds after n
joining-end le j = record { each = λ e l. j.done e (omega arith) }

-- what is left is narrow as it was
pub joining-narrow : {before seconds after : List ℕ} {i n bound : ℕ} → Joining before seconds after i → Narrow before n bound → i < n → get_or after i 0 < bound
joining-narrow {i} j w l = rw (j.left i (omega arith)) (w.below i l)

-- PAIRS: numbers that stand for the first parts, joined
pub stands-narrow : {keys out : List ℕ} {n : ℕ} → n ≤ room → Stands keys out n → Narrow out n room
stands-narrow small s = record { below = λ i l. let h = s.within i l in omega arith }

part : (a b : ℕ) → b < wide → (a * wide + b) / wide ≡ a
part a b l = omega arith

pub pairs : {firsts seconds numbers out : List ℕ} {n : ℕ} → n ≤ room → Stands firsts numbers n → Narrow seconds n wide → Joined numbers seconds out n → Pairs firsts seconds out n
pairs {firsts} {seconds} {numbers} {out} {n} small s w j =
    record {
      whole = λ e l. j.each e l ∙ ap (λ (x : ℕ). x * wide + get_or seconds e 0) (sym (number e l));
      same =
          λ a b y la lb ly.
          ap₂ eqb (j.each a la) (ap (λ (x : ℕ). x * wide + y) (number b lb))
          ∙ pair_same wide (get_or numbers a 0) (get_or seconds a 0) (get_or numbers b 0) y (w.below a la) ly
          ∙ ap (λ (t : Bool). t && eqb (get_or seconds a 0) y) (s.same a b la lb);
      small = λ e l. let h = s.within e l in let q = number e l in omega arith;
    }
  where
    number : (e : ℕ) → e < n → get_or out e 0 / wide ≡ get_or numbers e 0
    number e l = ap (λ (x : ℕ). x / wide) (j.each e l) ∙ part (get_or numbers e 0) (get_or seconds e 0) (w.below e l)

-- THE NUMBER OF A PAIR: where no record has the first part, one that no pair has,
abbrev pub no_pair : ℕ
no_pair = 18014398509481984

pub no-pair : {firsts seconds out : List ℕ} {n : ℕ} (j : ℕ) → Pairs firsts seconds out n → j < n → eqb (get_or out j 0) no_pair ≡ false
no-pair {out = out} j p l = let h = p.small j l in ne_eqb (get_or out j 0) no_pair (λ (e : get_or out j 0 ≡ no_pair). omega arith)

pub pair-nowhere :
    {firsts seconds out : List ℕ} {n x y : ℕ} {f : Option ℕ} → Pairs firsts seconds out n → Sought firsts n x f → f ≡ None
    → PairIs firsts seconds out n x y no_pair
unfolding Sought
pair-nowhere {firsts} {seconds} {n = n} {x} {y} p s e =
    let h = subst (λ (f : Option ℕ). Sought firsts n x f) e s in
    record { each = λ k l. no-pair k p l ∙ sym (ap (λ (t : Bool). t && eqb (get_or seconds k 0) y) (ne_eqb (get_or firsts k 0) x (h k l))) }

-- and else that of the record found, with the second part in its place
pub pair_found :
    {firsts seconds out : List ℕ} {n x y j : ℕ} {f : Option ℕ} → Pairs firsts seconds out n → y < wide → Sought firsts n x f → f ≡ Some j
    → PairIs firsts seconds out n x y (get_or out j 0 / wide * wide + y)
unfolding Sought
pair_found {firsts} {seconds} {n = n} {x} {y} {j} p ly s e =
    let h = subst (λ (f : Option ℕ). Sought firsts n x f) e s in
    record { each = λ k l. p.same k j y l h.0 ly ∙ ap (λ (z : ℕ). eqb (get_or firsts k 0) z && eqb (get_or seconds k 0) y) h.1 }

-- the found record is one of n
pub found_within : (keys : List ℕ) (n x : ℕ) {f : Option ℕ} {j : ℕ} → Sought keys n x f → f ≡ Some j → j < n
unfolding Sought
found_within keys n x s e = (subst (λ (f : Option ℕ). Sought keys n x f) e s).0
