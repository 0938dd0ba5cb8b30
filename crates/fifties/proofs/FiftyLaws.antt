-- The cells of the fifties (specs/Rules.antt): those of each file at which no rule is read, where no test holds. The reasons with their data.
-- Assumes nothing.
use Prim.Native.Nat.{ℕ, zero, suc, ◌+◌, ◌/◌, ◌%◌, ◌≤◌}
use mathlib.Core.Bool.{Bool, true, false, ◌&&◌}
use mathlib.Core.List.{List, [], ◌∷◌}
use mathlib.Core.Option as math
use mathlib.Core.Option.{none, some}
use mathlib.Core.Path.{◌≡◌, refl, sym, ◌∙◌}
use native.Mathlib.Omega.{arith}
use lib.Dec.{eqb}
use lib.ListN.{get_or}
use borrow.Author.Tests.{eq-eqb}
use Rattle.laws.specs.Find.{first_index}
use Rattle.laws.proofs.FindLaws.{true-false, index-some-at}
use Rattle.std.specs.Prelude.{Option, unwrap_or}
use Rattle.index.specs.Keys.{found_of}
use Rattle.record.specs.declared.kind.Kind.{Kind}
use Rattle.record.specs.declared.kind.Kind.TheVariants.{ObPun, ObLin, Tramo, Vertice, Nodo}
use Rattle.record.specs.declared.reason.Reason.TheVariants.{LongFile10}
use Rattle.laws.proofs.MatchLaws.{NoneOf, numbers, default-at}
use Rattle.record.specs.Table.{file_of}
use Rattle.record.specs.Says.{Table}
use Rattle.record.specs.Files.{Delivery}
use Rattle.keys.specs.Rules.{or_first}
use Rattle.keys.proofs.CellLaws.{not-cell}
use Rattle.topology.specs.Rules.{is_at, breaks50, breaks51, breaks52, breaks53, breaks54, breaks55, breaks56, breaks57, breaks58, breaks59, fifties, reasons_at}

-- IN A LIST, whose first is number n: the default d stands at the number u, where it does at each number that u can be
pub data Else {A : Type 0} (d : A) (u : ℕ) : ℕ → List A → Type 0 where
  end : {n : ℕ} → Else d u n []
  plain : {n : ℕ} {xs : List A} → Else d u (suc n) xs → Else d u n (d ∷ xs)
  past : {n : ℕ} {x : A} {xs : List A} → (u ≡ n → x ≡ d) → Else d u (suc n) xs → Else d u n (x ∷ xs)

pub other : {A : Type 0} {d : A} {u n : ℕ} {x : A} {xs : List A} → (u ≡ n → ⊥) → Else d u (suc n) xs → Else d u n (x ∷ xs)
other h o = past (λ e. absurd (h e)) o

else-from : {A : Type 0} {d : A} {u n : ℕ} {xs : List A} → Else d u n xs → (v : ℕ) → u ≡ n + v → get_or xs v d ≡ d
else-from end v e = refl
else-from (plain o) zero e = refl
else-from (plain o) (suc v) e = else-from o v (omega arith)
else-from (past h o) zero e = h (omega arith)
else-from (past h o) (suc v) e = else-from o v (omega arith)

pub else-default : {A : Type 0} {d : A} {u : ℕ} {xs : List A} → Else d u 0 xs → get_or xs u d ≡ d
else-default {u = u} o = else-from o u (omega arith)

-- WHERE A RULE IS READ: no rule is read of file k at field f for the reason u
pub record Free (k : Kind) (f u : ℕ) : Type 0 where
  pub gap : (is_at Vertice 2 k f && eqb u 0) ≡ false
  pub alone : (is_at Vertice 2 k f && eqb u 1) ≡ false
  pub start : (is_at Tramo 6 k f && eqb u 2) ≡ false
  pub last : (is_at Tramo 7 k f && eqb u 3) ≡ false
  pub place : (is_at Nodo 0 k f && eqb u 4) ≡ false
  pub point : (is_at ObPun 3 k f && eqb u 5) ≡ false
  pub idle : (is_at Nodo 0 k f && eqb u 6) ≡ false
  pub object : (is_at ObLin 0 k f && eqb u 7) ≡ false
  pub code : (is_at Nodo 2 k f && eqb u 8) ≡ false
  pub line : (is_at Tramo 4 k f && eqb u 9) ≡ false

not-read : (b t : Bool) {u v : ℕ} → (b && eqb u v) ≡ false → u ≡ v → (b && t) ≡ false
not-read true t {u} {v} h e = absurd (true-false (sym (eq-eqb u v e) ∙ h))
not-read false t h e = refl

pub free-tests : (d : Delivery) {k : Kind} (i : ℕ) {f u : ℕ} → Free k f u → Else false u 0 (fifties d k i f)
unfolding breaks50 breaks51 breaks52 breaks53 breaks54 breaks55 breaks56 breaks57 breaks58 breaks59 fifties
free-tests d {k} i {f} o =
    past (not-read (is_at Vertice 2 k f) _ o.gap)
    (past (not-read (is_at Vertice 2 k f) _ o.alone)
    (past (not-read (is_at Tramo 6 k f) _ o.start)
    (past (not-read (is_at Tramo 7 k f) _ o.last)
    (past (not-read (is_at Nodo 0 k f) _ o.place)
    (past (not-read (is_at ObPun 3 k f) _ o.point)
    (past (not-read (is_at Nodo 0 k f) _ o.idle)
    (past (not-read (is_at ObLin 0 k f) _ o.object)
    (past (not-read (is_at Nodo 2 k f) _ o.code)
    (past (not-read (is_at Tramo 4 k f) _ o.line) end)))))))))

-- THE REASONS
first-index : (o : math.Option ℕ) → unwrap_or (found_of o) 0 ≡ or_first o
first-index none = refl
first-index (some j) = refl

module _ (p : ℕ → Bool) (n : ℕ) {g : Option ℕ} (e : g ≡ found_of (first_index p n)) where
  pub index-under : unwrap_or g 0 ≤ n
  index-under = rw (e, first-index) (go (first_index p n) refl)
    where
      go : (o : math.Option ℕ) → first_index p n ≡ o → or_first o ≤ n
      go none q = omega arith
      go (some j) q = omega (arith, (index-some-at p n q).0)

module _ (nodes : Table) (i u : ℕ) where
  pub reason-else : NoneOf (numbers 0 10) u → LongFile10 ≡ get_or (reasons_at nodes i) u LongFile10
  reason-else o = default-at LongFile10 0 (reasons_at nodes i) u o

-- THE CELLS of each file that have no rule
pub free-vertice : (c : ℕ) → (c ≡ 20 → ⊥) → (c ≡ 21 → ⊥) → Free Vertice (c / 10) (c % 10)
free-vertice c a b =
    record {
      gap = not-cell c 2 0 a;
      alone = not-cell c 2 1 b;
      start = refl;
      last = refl;
      place = refl;
      point = refl;
      idle = refl;
      object = refl;
      code = refl;
      line = refl;
    }

pub free-tramo : (c : ℕ) → (c ≡ 49 → ⊥) → (c ≡ 62 → ⊥) → (c ≡ 73 → ⊥) → Free Tramo (c / 10) (c % 10)
free-tramo c a b e =
    record {
      gap = refl;
      alone = refl;
      start = not-cell c 6 2 b;
      last = not-cell c 7 3 e;
      place = refl;
      point = refl;
      idle = refl;
      object = refl;
      code = refl;
      line = not-cell c 4 9 a;
    }

pub free-nodo : (c : ℕ) → (c ≡ 4 → ⊥) → (c ≡ 6 → ⊥) → (c ≡ 28 → ⊥) → Free Nodo (c / 10) (c % 10)
free-nodo c a b e =
    record {
      gap = refl;
      alone = refl;
      start = refl;
      last = refl;
      place = not-cell c 0 4 a;
      point = refl;
      idle = not-cell c 0 6 b;
      object = refl;
      code = not-cell c 2 8 e;
      line = refl;
    }

pub free-ob-pun : (c : ℕ) → (c ≡ 35 → ⊥) → Free ObPun (c / 10) (c % 10)
free-ob-pun c a =
    record {
      gap = refl;
      alone = refl;
      start = refl;
      last = refl;
      place = refl;
      point = not-cell c 3 5 a;
      idle = refl;
      object = refl;
      code = refl;
      line = refl;
    }

pub free-ob-lin : (c : ℕ) → (c ≡ 7 → ⊥) → Free ObLin (c / 10) (c % 10)
free-ob-lin c a =
    record {
      gap = refl;
      alone = refl;
      start = refl;
      last = refl;
      place = refl;
      point = refl;
      idle = refl;
      object = not-cell c 0 7 a;
      code = refl;
      line = refl;
    }

-- a file of which no rule is read
elsewhere : {b : Bool} (s t : Bool) → b ≡ false → ((b && s) && t) ≡ false
elsewhere s t e = rw e

pub free-none :
    (k : Kind) (c : ℕ) → eqb (file_of k) 2 ≡ false → eqb (file_of k) 4 ≡ false → eqb (file_of k) 5 ≡ false → eqb (file_of k) 6 ≡ false → eqb (file_of k) 7 ≡ false
    → Free k (c / 10) (c % 10)
free-none k c point object tramo vertex node =
    record {
      gap = elsewhere _ _ vertex;
      alone = elsewhere _ _ vertex;
      start = elsewhere _ _ tramo;
      last = elsewhere _ _ tramo;
      place = elsewhere _ _ node;
      point = elsewhere _ _ point;
      idle = elsewhere _ _ node;
      object = elsewhere _ _ object;
      code = elsewhere _ _ node;
      line = elsewhere _ _ tramo;
    }
