-- The laws of what a node is (specs/machinery/Nodes.antt): which vertices are a line's first or last, nodes at their places and at those of the
-- others, and 56 and 58 by the marks that say what a node is not.
-- Assumes nothing.
use Prim.Native.Nat.{ℕ, zero, suc, ◌<◌, ◌≤◌}
use mathlib.Core.Bool.{Bool, true, false, not, ◌&&◌, ◌||◌}
use mathlib.Core.List.{List}
use mathlib.Core.Path.{◌≡◌, refl, sym, ap, ap₂, ◌∙◌}
use native.Mathlib.Omega.{arith}
use borrow.Author.Tests.{eqb-true, not-false}
use lib.Dec.{eqb, ltb}
use lib.ListN.{length, get_or}
use Rattle.laws.specs.Count.{bit, how_many}
use Rattle.laws.specs.Find.{any}
use Rattle.laws.proofs.FindLaws.{any_same, any-no}
use Rattle.laws.proofs.RowLaws.{neither}
use Rattle.index.specs.Keys.{listed}
use Rattle.index.specs.Look.{key_line}
use Rattle.index.specs.Marks.{Marked, is_marked}
use Rattle.index.proofs.MarkLaws.{marked-as, marked-at}
use Rattle.record.specs.declared.kind.Kind.TheVariants.{ObPun, Vertice, Nodo}
use Rattle.record.specs.machinery.Columns.{Fills}
use Rattle.record.specs.Says.{Table, letter_in}
use Rattle.record.specs.Names.{name_at, key_of}
use Rattle.topology.specs.Rules.{x_at, y_at, placed, order_of, highest_in, ends_tramo, namers, node_idle, is_tip, vertex_with, is_end, is_middle, agrees, disagrees}
use Rattle.topology.specs.machinery.Nodes.{Tips, asks_place, idle_by, odd_by}
use Rattle.topology.specs.machinery.Places.{Positions}
use Rattle.topology.specs.machinery.Spotted.{sorted_at, any_sorted}
use Rattle.topology.proofs.EndLaws.{highest-lent}
use Rattle.topology.proofs.UsedLaws.{hand-marks}

-- A LINE'S FIRST AND LAST vertex, by the column of the keys
pub tips-lent :
    {keys before tips : List ℕ} (t : Table) {n : ℕ} → Fills keys (key_of Vertice t) t.count n → n ≤ length before → Marked before tips (is_tip (listed keys) n) n
    → Tips tips t
unfolding is_tip
tips-lent {keys} {tips = tips} t {n} f l m =
    record {
      room = omega (arith, f.count, m.long);
      each =
          λ j lj.
          m.says j (omega (arith, f.count))
          ∙ ap bit
          (ap (λ (k : ℕ). eqb (order_of k) 1 || eqb k (highest_in (listed keys) (key_line k) n)) (f.holds j lj)
          ∙ ap (λ (h : ℕ). eqb (order_of (key_of Vertice t j)) 1 || eqb (key_of Vertice t j) h) (highest-lent f (key_line (key_of Vertice t j))));
    }

-- A VERTEX OF ONE SORT at X and Y, by the columns
sorted-as :
    (tips vx vy : List ℕ) (t : Table) {v : ℕ} (mark : ℕ) (test : ℕ → Bool) → ((j : ℕ) → j < t.count → eqb (get_or tips j 0) mark ≡ test j)
    → Positions vx vy Vertice t v → (x y : ℕ) → any_sorted tips vx vy mark v x y ≡ vertex_with test t x y
unfolding any_sorted sorted_at vertex_with
sorted-as tips vx vy t mark test same p x y =
    ap (any (λ j. eqb (get_or tips j 0) mark && (eqb (get_or vx j 0) x && eqb (get_or vy j 0) y))) p.x.count
    ∙ any_same _ _ t.count
    (λ j l. ap₂ ◌&&◌ (same j l) (ap₂ ◌&&◌ (ap (λ (z : ℕ). eqb z x) (p.x.holds j l)) (ap (λ (z : ℕ). eqb z y) (p.y.holds j l))))

bit-one : (b : Bool) → eqb (bit b) 1 ≡ b
bit-one true = refl
bit-one false = refl

bit-zero : (b : Bool) → eqb (bit b) 0 ≡ not b
bit-zero true = refl
bit-zero false = refl

-- A VERTEX AT X AND Y is of one sort or the other
either-sort : (p c : ℕ → Bool) (n : ℕ) → any p n ≡ (any (λ j. c j && p j) n || any (λ j. not (c j) && p j) n)
unfolding any
either-sort p c zero = refl
either-sort p c (suc n) = go (any (λ j. c j && p j) n) (any (λ j. not (c j) && p j) n) (c n) (p n) (either-sort p c n)
  where
    go : (a b d q : Bool) {r : Bool} → r ≡ (a || b) → (r || q) ≡ ((a || (d && q)) || (b || (not d && q)))
    go true b d q e = rw e
    go false true true true e = rw e
    go false true true false e = rw e
    go false true false q e = rw e
    go false false true true e = rw e
    go false false true false e = rw e
    go false false false q e = rw e

-- OF TRUTH VALUES
all-four : (l t o f : Bool) → (l && not t && not o && f) ≡ (l && not (t || o) && f)
all-four true true o f = refl
all-four true false o f = refl
all-four false t o f = refl

an-end : (l t : Bool) → not (l && not t) ≡ (not l || t)
an-end true true = refl
an-end true false = refl
an-end false t = refl

not-not : (b : Bool) → not (not b) ≡ b
not-not true = refl
not-not false = refl

none-idle : (l p f : Bool) → (l && f) ≡ false → false ≡ (l && p && f)
none-idle true true f e = sym e
none-idle true false f e = refl
none-idle false p f e = refl

-- BOTH RULES, by the marks of what a node is not
module _
    {tips vx vy nx ny : List ℕ} (vertices nodes : Table) {v n : ℕ} (t : Tips tips vertices) (at : Positions vx vy Vertice vertices v)
    (p : Positions nx ny Nodo nodes n) where
  abbrev tip : ℕ → Bool
  tip = is_tip (key_of Vertice vertices) vertices.count

  tips-at : (i : ℕ) → i < n → any_sorted tips vx vy 1 v (get_or nx i 0) (get_or ny i 0) ≡ vertex_with tip vertices (x_at Nodo nodes i) (y_at Nodo nodes i)
  tips-at i l =
      sorted-as tips vx vy vertices 1 tip (λ j lj. ap (λ (m : ℕ). eqb m 1) (t.each j lj) ∙ bit-one (tip j)) at (get_or nx i 0) (get_or ny i 0)
      ∙ ap₂ (vertex_with tip vertices) (p.x.holds i (omega (arith, p.x.count))) (p.y.holds i (omega (arith, p.x.count)))

  others-at : (i : ℕ) → i < n → any_sorted tips vx vy 0 v (get_or nx i 0) (get_or ny i 0) ≡ is_middle vertices nodes i
  unfolding is_middle
  others-at i l =
      sorted-as tips vx vy vertices 0 (λ j. not (tip j)) (λ j lj. ap (λ (m : ℕ). eqb m 0) (t.each j lj) ∙ bit-zero (tip j)) at (get_or nx i 0) (get_or ny i 0)
      ∙ ap₂ (vertex_with (λ j. not (tip j)) vertices) (p.x.holds i (omega (arith, p.x.count))) (p.y.holds i (omega (arith, p.x.count)))

  placed-either : (i : ℕ)
      → placed Vertice vertices vertices.count (x_at Nodo nodes i) (y_at Nodo nodes i)
      ≡ (vertex_with tip vertices (x_at Nodo nodes i) (y_at Nodo nodes i) || is_middle vertices nodes i)
  unfolding placed vertex_with is_middle
  placed-either i = either-sort _ tip vertices.count

  module _
      {before₁ before₀ off others : List ℕ}
      (m₁ : Marked before₁ off (λ i. not (any_sorted tips vx vy 1 v (get_or nx i 0) (get_or ny i 0))) n)
      (m₀ : Marked before₀ others (λ i. not (any_sorted tips vx vy 0 v (get_or nx i 0) (get_or ny i 0))) n) where
    off-tips : (i : ℕ) → i < n → is_marked off i ≡ not (vertex_with tip vertices (x_at Nodo nodes i) (y_at Nodo nodes i))
    off-tips i l = marked-at m₁ l ∙ ap not (tips-at i l)

    off-others : (i : ℕ) → i < n → is_marked others i ≡ not (is_middle vertices nodes i)
    off-others i l = marked-at m₀ l ∙ ap not (others-at i l)

    -- 56
    pub idle-by : (loose few : List ℕ) {before marks : List ℕ}
        → Marked before marks (λ i. is_marked loose i && is_marked off i && is_marked others i && is_marked few i) n
        → Marked before marks (idle_by loose few vertices nodes) n
    unfolding idle_by
    idle-by loose few m =
        marked-as
        (λ i l.
        ap₂ (λ (a b : Bool). is_marked loose i && a && b && is_marked few i) (off-tips i l) (off-others i l)
        ∙ all-four (is_marked loose i) (vertex_with tip vertices (x_at Nodo nodes i) (y_at Nodo nodes i)) (is_middle vertices nodes i) (is_marked few i)
        ∙ ap (λ (b : Bool). is_marked loose i && not b && is_marked few i) (sym (placed-either i)))
        m

    -- 58
    pub odd-by : (loose : List ℕ) {before marks : List ℕ}
        → Marked before marks (λ i. not (agrees (letter_in (nodes.says i 2)) (not (is_marked loose i && is_marked off i)) (not (is_marked others i)))) n
        → Marked before marks (odd_by loose vertices nodes) n
    unfolding odd_by
    odd-by loose m =
        marked-as
        (λ i l.
        ap₂ (λ (a b : Bool). not (agrees (letter_in (nodes.says i 2)) a b))
        (ap (λ (b : Bool). not (is_marked loose i && b)) (off-tips i l) ∙ an-end (is_marked loose i) (vertex_with tip vertices (x_at Nodo nodes i) (y_at Nodo nodes i)))
        (ap not (off-others i l) ∙ not-not (is_middle vertices nodes i)))
        m

-- WHERE NO NODE'S PLACE MATTERS neither is broken
module _ (loose few : List ℕ) (vertices nodes : Table) {n : ℕ} (none : any (asks_place loose few nodes) n ≡ false) where
  plain : (i : ℕ) → i < n → (letter_in (nodes.says i 2) ≡ 0) × ((is_marked loose i && is_marked few i) ≡ false)
  unfolding asks_place
  plain i l =
      let q = neither (not (eqb (letter_in (nodes.says i 2)) 0)) (is_marked loose i && is_marked few i) (any-no _ n none l) in
      (eqb-true (letter_in (nodes.says i 2)) 0 (not-false _ q.0), q.1)

  pub idle-clear : {before marks : List ℕ} → Marked before marks (λ i. false) n → Marked before marks (idle_by loose few vertices nodes) n
  unfolding idle_by
  idle-clear m = marked-as (λ i l. none-idle (is_marked loose i) _ (is_marked few i) (plain i l).1) m

  pub odd-clear : {before marks : List ℕ} → Marked before marks (λ i. false) n → Marked before marks (odd_by loose vertices nodes) n
  unfolding odd_by agrees
  odd-clear m = marked-as (λ i l. rw (plain i l).0) m

-- BOTH RULES as they stand, by what names the nodes
module _
    (points tramos vertices nodes : Table) {ids before₀ before₁ loose few : List ℕ} {n : ℕ} (f : Fills ids (λ j. name_at Nodo nodes j 1) nodes.count n)
    (named : Marked before₀ loose (λ i. not (ends_tramo tramos (get_or ids i 0))) n)
    (counted : Marked before₁ few (λ i. ltb (how_many (λ j. eqb (name_at ObPun points j 3) (get_or ids i 0)) points.count) 2) n) where
  loose-is : (i : ℕ) → i < nodes.count → is_marked loose i ≡ not (ends_tramo tramos (name_at Nodo nodes i 1))
  loose-is i l = marked-at (hand-marks (λ x. not (ends_tramo tramos x)) f named) l

  few-is : (i : ℕ) → i < nodes.count → is_marked few i ≡ ltb (namers points (name_at Nodo nodes i 1)) 2
  unfolding namers
  few-is i l = marked-at (hand-marks (λ x. ltb (how_many (λ j. eqb (name_at ObPun points j 3) x) points.count) 2) f counted) l

  pub nodes-idle : {before marks : List ℕ} → Marked before marks (idle_by loose few vertices nodes) n
      → Marked before marks (node_idle points tramos vertices nodes) nodes.count
  unfolding idle_by node_idle
  nodes-idle m =
      record {
        long = m.long;
        says =
            λ i l.
            m.says i (omega (arith, f.count))
            ∙ ap bit
            (ap₂ (λ (a b : Bool). a && not (placed Vertice vertices vertices.count (x_at Nodo nodes i) (y_at Nodo nodes i)) && b) (loose-is i l) (few-is i l));
      }

  pub nodes-odd : {before marks : List ℕ} → Marked before marks (odd_by loose vertices nodes) n
      → Marked before marks (disagrees tramos vertices nodes) nodes.count
  unfolding odd_by disagrees is_end
  nodes-odd m =
      record {
        long = m.long;
        says =
            λ i l.
            m.says i (omega (arith, f.count))
            ∙ ap (λ (b : Bool). bit (not (agrees (letter_in (nodes.says i 2)) (b || vertex_with (is_tip (key_of Vertice vertices) vertices.count) vertices (x_at Nodo nodes i) (y_at Nodo nodes i)) (is_middle vertices nodes i))))
            (ap not (loose-is i l) ∙ not-not (ends_tramo tramos (name_at Nodo nodes i 1)));
      }
