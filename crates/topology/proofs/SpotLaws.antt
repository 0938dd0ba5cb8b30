-- The laws of places as numbers (specs/machinery/Places.antt): columns read into lent room, pairs of columns that tell places apart, marks of
-- what is repeated, and spots, which are equal where places are.
-- Assumes nothing.
use Prim.Native.Nat.{ℕ, ◌<◌}
use mathlib.Core.Bool.{Bool, true, false, not, ◌&&◌, and_assoc}
use mathlib.Core.List.{List}
use mathlib.Core.Option.{none}
use mathlib.Core.Path.{◌≡◌, refl, sym, ap, ap₂, ◌∙◌}
use native.Mathlib.Omega.{arith}
use borrow.Author.Tests.{eqb-true, eqb-false}
use lib.Dec.{eqb}
use lib.ListN.{length, get_or}
use Rattle.laws.specs.Row.{Narrow}
use Rattle.laws.specs.Find.{any, names}
use Rattle.laws.proofs.FindLaws.{any_same, any-no, any_false, index-none-at}
use Rattle.laws.proofs.RowLaws.{and-true}
use Rattle.index.specs.Keys.{listed, first_duplicate}
use Rattle.index.specs.Marks.{Marked, is_marked}
use Rattle.index.specs.Pairs.{wide, Pairs}
use Rattle.index.proofs.MarkLaws.{marked-as}
use Rattle.record.specs.declared.kind.Kind.{Kind}
use Rattle.record.specs.declared.kind.Kind.TheVariants.{Vertice, Nodo}
use Rattle.record.specs.Says.{Table}
use Rattle.record.specs.machinery.Columns.{Fills}
use Rattle.topology.specs.Rules.{x_at, y_at, z_at, same_place, placed_before, placed}
use Rattle.topology.specs.machinery.Places.{spot_of, same_in, Positions, Nodes}
use Rattle.topology.specs.machinery.Used.{}

-- counted as another column of the file is,
pub positions-with :
    {l xs ys : List ℕ} {key : ℕ → ℕ} {k : Kind} {t : Table} {n m : ℕ} → Fills l key t.count m → Positions xs ys k t n → Positions xs ys k t m
positions-with {n = n} {m = m} h p =
    let e : n ≡ m = omega (arith, p.x.count, h.count) in
    rw e at p

-- WHERE A RECORD IS, read in the columns: a record of the file stands in both, and is where they say
module _ {xs ys : List ℕ} {k : Kind} {t : Table} {n : ℕ} (p : Positions xs ys k t n) {j : ℕ} (l : j < t.count) where
  pub x-stands : j < length xs
  x-stands = omega (arith, l, p.x.long)

  pub y-stands : j < length ys
  y-stands = omega (arith, l, p.y.long)

  pub place-stands :
      (x y : ℕ) {b : Bool} → (eqb (get_or xs j 0) x && eqb (get_or ys j 0) y) ≡ b → (eqb (x_at k t j) x && eqb (y_at k t j) y) ≡ b
  place-stands x y h = rw (← p.x.holds j l, ← p.y.holds j l) h

-- TWO COLUMNS AS ONE tell their pairs apart
pairs-equal :
    {firsts seconds out : List ℕ} {n : ℕ} → Pairs firsts seconds out n → Narrow seconds n wide → (i j : ℕ) → i < n → j < n
    → eqb (get_or out i 0) (get_or out j 0) ≡ (eqb (get_or firsts i 0) (get_or firsts j 0) && eqb (get_or seconds i 0) (get_or seconds j 0))
pairs-equal {seconds = seconds} {out} p w i j li lj = ap (eqb (get_or out i 0)) (p.whole j lj) ∙ p.same i j (get_or seconds j 0) li lj (w.below j lj)

-- PLACES THAT OCCUR TWICE: by their numbers,
pub same-marks :
    {before marks xs ys zs pairs spots : List ℕ} {n : ℕ} → Pairs xs ys pairs n → Pairs pairs zs spots n → Narrow ys n wide → Narrow zs n wide
    → Marked before marks (λ i. names (listed spots) i (get_or spots i 0)) n → Marked before marks (λ i. any (same_in xs ys zs i) i) n
unfolding same_in
same-marks {xs = xs} {ys} {zs} {pairs} {spots} {n} p q wy wz m =
    marked-as (λ i l. any_same (λ j. eqb (get_or spots j 0) (get_or spots i 0)) (same_in xs ys zs i) i (λ j lj. same i j l (omega arith))) m
  where
    same : (i j : ℕ) → i < n → j < n
        → eqb (get_or spots j 0) (get_or spots i 0) ≡ (eqb (get_or xs j 0) (get_or xs i 0) && (eqb (get_or ys j 0) (get_or ys i 0) && eqb (get_or zs j 0) (get_or zs i 0)))
    same i j li lj =
        pairs-equal q wz j i lj li
        ∙ ap (λ (b : Bool). b && eqb (get_or zs j 0) (get_or zs i 0)) (pairs-equal p wy j i lj li)
        ∙ and_assoc (eqb (get_or xs j 0) (get_or xs i 0)) (eqb (get_or ys j 0) (get_or ys i 0)) (eqb (get_or zs j 0) (get_or zs i 0))

-- or none, where no two spots are equal: equal places have equal spots
same_spot :
    (xs ys zs : List ℕ) (i j : ℕ) → same_in xs ys zs i j ≡ true
    → spot_of (get_or xs j 0) (get_or ys j 0) (get_or zs j 0) ≡ spot_of (get_or xs i 0) (get_or ys i 0) (get_or zs i 0)
unfolding same_in
same_spot xs ys zs i j e =
    let h = and-true (eqb (get_or xs j 0) (get_or xs i 0)) _ e in
    let g = and-true (eqb (get_or ys j 0) (get_or ys i 0)) _ h.1 in
    rw (eqb-true (get_or xs j 0) (get_or xs i 0) h.0, eqb-true (get_or ys j 0) (get_or ys i 0) g.0, eqb-true (get_or zs j 0) (get_or zs i 0) g.1)

pub apart_marks :
    (xs ys zs : List ℕ) {before marks spots : List ℕ} {n : ℕ} → Fills spots (λ i. spot_of (get_or xs i 0) (get_or ys i 0) (get_or zs i 0)) n n
    → first_duplicate (listed spots) n ≡ none → Marked before marks (λ i. false) n → Marked before marks (λ i. any (same_in xs ys zs i) i) n
apart_marks xs ys zs {spots = spots} {n} h d m = marked-as (λ i l. sym (any_false (same_in xs ys zs i) i (λ j lj. other i j l lj (same_in xs ys zs i j) refl))) m
  where
    other : (i j : ℕ) → i < n → j < i → (b : Bool) → same_in xs ys zs i j ≡ b → b ≡ false
    other i j l lj false e = refl
    other i j l lj true e =
        absurd
        (eqb-false (get_or spots j 0) (get_or spots i 0) (any-no _ i (index-none-at (λ r. names (listed spots) r (get_or spots r 0)) n d l) lj)
        (h.holds j (omega arith) ∙ same_spot xs ys zs i j e ∙ sym (h.holds i l)))

-- 54, by the columns of the nodes
pub place-marks :
    {before marks xs ys zs : List ℕ} (t : Table) {n : ℕ} → Nodes xs ys zs t n → Marked before marks (λ i. any (same_in xs ys zs i) i) n
    → Marked before marks (placed_before t) t.count
unfolding same_in same_place placed_before
place-marks {xs = xs} {ys} {zs} t {n} h m =
    marked-as (λ i l. any_same (same_in xs ys zs i) (same_place t i) i (λ j lj. same i j l (omega arith))) (rw h.z.count at m)
  where
    same : (i j : ℕ) → i < t.count → j < t.count
        → (eqb (get_or xs j 0) (get_or xs i 0) && (eqb (get_or ys j 0) (get_or ys i 0) && eqb (get_or zs j 0) (get_or zs i 0)))
        ≡ (eqb (x_at Nodo t j) (x_at Nodo t i) && (eqb (y_at Nodo t j) (y_at Nodo t i) && eqb (z_at Nodo t j) (z_at Nodo t i)))
    same i j li lj =
        ap₂ ◌&&◌ (ap₂ eqb (h.plane.x.holds j lj) (h.plane.x.holds i li))
        (ap₂ ◌&&◌ (ap₂ eqb (h.plane.y.holds j lj) (h.plane.y.holds i li)) (ap₂ eqb (h.z.holds j lj) (h.z.holds i li)))

-- 56: a vertex at X and Y, by the columns of both
placed-columns :
    {xs ys : List ℕ} (t : Table) {n : ℕ} → Positions xs ys Vertice t n → (x y : ℕ)
    → any (λ j. eqb (get_or xs j 0) x && eqb (get_or ys j 0) y) n ≡ placed Vertice t t.count x y
unfolding placed
placed-columns {xs} {ys} t {n} p x y =
    ap (any (λ j. eqb (get_or xs j 0) x && eqb (get_or ys j 0) y)) p.x.count
    ∙ any_same _ _ t.count (λ j l. ap₂ ◌&&◌ (ap (λ (z : ℕ). eqb z x) (p.x.holds j l)) (ap (λ (z : ℕ). eqb z y) (p.y.holds j l)))

-- and marks that are left where there is none
pub unplaced-marks :
    {before marks xs ys : List ℕ} (t : Table) {m n : ℕ} (x y : ℕ → ℕ) → Positions xs ys Vertice t m
    → Marked before marks (λ i. is_marked before i && not (any (λ j. eqb (get_or xs j 0) (x i) && eqb (get_or ys j 0) (y i)) m)) n
    → Marked before marks (λ i. is_marked before i && not (placed Vertice t t.count (x i) (y i))) n
unplaced-marks {before} t x y p h = marked-as (λ i l. ap (λ (b : Bool). is_marked before i && not b) (placed-columns t p (x i) (y i))) h
