-- The laws of vertex numbering (specs/Rules.antt, 50 and 51): each rule by cases of the order, and marks over the array of the
-- keys as over the column that fills it.
-- Assumes nothing.
use Prim.Native.Nat.{ℕ, ◌+◌, ◌-◌, ◌<◌, ◌≤◌}
use mathlib.Core.Bool.{Bool, true, false, not}
use mathlib.Core.List.{List}
use mathlib.Core.Path.{◌≡◌}
use native.Mathlib.Omega.{arith}
use borrow.Author.Tests.{eq-eqb, ne_eqb, lt-ltb, le-ltb}
use Rattle.laws.specs.Find.{names}
use Rattle.index.specs.Keys.{listed}
use Rattle.index.specs.Marks.{Marked}
use Rattle.index.proofs.MarkLaws.{marked-as, marked-end}
use Rattle.record.specs.machinery.Columns.{Fills}
use Rattle.topology.proofs.LentLaws.{names-lent}
use Rattle.topology.specs.Rules.{order_of, gap, unpaired}

module _ (key : ℕ → ℕ) (n i : ℕ) where
  -- 50
  pub gap-zero : order_of (key i) ≡ 0 → true ≡ gap key n i
  unfolding gap
  gap-zero e = rw (eq-eqb (order_of (key i)) 0 e)

  pub gap-over : {r : Bool} → (order_of (key i) ≡ 0 → ⊥) → 1 < order_of (key i) → r ≡ names key n (key i - 1) → not r ≡ gap key n i
  unfolding gap
  gap-over d l e = rw (ne_eqb (order_of (key i)) 0 d, lt-ltb 1 (order_of (key i)) l, e)

  pub gap-one : (order_of (key i) ≡ 0 → ⊥) → order_of (key i) ≤ 1 → false ≡ gap key n i
  unfolding gap
  gap-one d l = rw (ne_eqb (order_of (key i)) 0 d, le-ltb 1 (order_of (key i)) l)

  -- 51
  pub alone-one : {r : Bool} → order_of (key i) ≡ 1 → r ≡ names key n (key i + 1) → not r ≡ unpaired key n i
  unfolding unpaired
  alone-one e q = rw (eq-eqb (order_of (key i)) 1 e, q)

  pub alone-other : (order_of (key i) ≡ 1 → ⊥) → false ≡ unpaired key n i
  unfolding unpaired
  alone-other d = rw (ne_eqb (order_of (key i)) 1 d)

-- THE ARRAY as the column
module _ {l : List ℕ} {key : ℕ → ℕ} {m n : ℕ} (lent : Fills l key m n) where
  pub marks-lent : {before after : List ℕ} (p q : ℕ → Bool) → Marked before after p n → ((i : ℕ) → i < m → p i ≡ q i) → Marked before after q m
  marks-lent p q s same = marked-as same (marked-end m lent.count (omega arith) s)

  pub gap-lent : (i : ℕ) → i < m → gap (listed l) n i ≡ gap key m i
  unfolding gap
  gap-lent i u = rw (lent.holds i u, names-lent lent (key i - 1))

  pub alone-lent : (i : ℕ) → i < m → unpaired (listed l) n i ≡ unpaired key m i
  unfolding unpaired
  alone-lent i u = rw (lent.holds i u, names-lent lent (key i + 1))
