-- The laws of line ends (specs/Rules.antt, 52, 53, 55 and 59): the highest vertex of a line, and where an end or a point object
-- meets its node.
-- Assumes nothing.
use Prim.Native.Nat.{ℕ, zero, suc, ◌<◌, ◌≤◌, max}
use mathlib.Core.Bool.{Bool, true, false, not, ◌&&◌}
use mathlib.Core.List.{List}
use mathlib.Core.Logic.{⊎_elim}
use mathlib.Core.Option.{none}
use mathlib.Core.Path.{◌≡◌, refl, sym, ap, ap₂, ◌∙◌}
use native.Mathlib.Decide.{ℕ_discrete}
use native.Mathlib.Nat.{le_of_suc-le-suc, not-suc-le-zero, eq-or-lt_of_le, le_trans, le-max_left, le-max_right, max-eq_left, max-eq_right}
use native.Mathlib.Omega.{arith}
use lib.Dec.{eqb}
use lib.ListN.{get_or}
use borrow.Author.Tests.{eq-eqb, ne_eqb, eqb-true, eqb-false}
use Rattle.laws.specs.Find.{any, names}
use Rattle.laws.proofs.FindLaws.{any-true, any_false}
use Rattle.laws.proofs.RowLaws.{picked}
use Rattle.index.specs.Keys.{listed, first_duplicate}
use Rattle.index.specs.Look.{Sought, key_line}
use Rattle.index.specs.Marks.{Marked}
use Rattle.std.specs.Prelude.{Option, Some, None}
use Rattle.index.proofs.LookLaws.{sought-record, sought-yes, sought-none}
use Rattle.index.proofs.MarkLaws.{marked-as}
use Rattle.index.proofs.OrderLaws.{less-or}
use Rattle.record.specs.declared.kind.Kind.TheVariants.{ObPun, Vertice}
use Rattle.record.specs.Says.{Table}
use Rattle.record.specs.machinery.Columns.{Fills}
use Rattle.record.specs.Names.{name_at, key_of, vertex_key}
use Rattle.topology.proofs.LentLaws.{names-lent, lent-apart}
use Rattle.topology.specs.declared.ends.End.{End}
use Rattle.topology.specs.declared.ends.End.TheVariants.{Start, Last}
use Rattle.topology.specs.machinery.Ends.{end_key, is_gone, node_at, apart_at, apart, astray_at}
use Rattle.topology.specs.machinery.Places.{Positions}
use Rattle.topology.specs.Rules.{x_at, y_at, node_in, highest_in, highest, tramo_line, meets, elsewhere, start_elsewhere, end_elsewhere, point_elsewhere}

-- THE ARRAY of the keys as the column
module _ {l : List ℕ} {key : ℕ → ℕ} {m n : ℕ} (lent : Fills l key m n) where
  highest-same : (line i : ℕ) → i ≤ m → highest_in (listed l) line i ≡ highest_in key line i
  unfolding highest_in
  highest-same line zero u = refl
  highest-same line (suc i) u = rw (lent.holds i (omega arith), highest-same line i (omega arith))

  pub highest-lent : (line : ℕ) → highest_in (listed l) line n ≡ highest_in key line m
  highest-lent line = rw lent.count (highest-same line m (omega arith))

-- THE HIGHEST KEY of a line: no key of the line is over it, and it is of the line where it isn't 0
module _ (key : ℕ → ℕ) (line : ℕ) where
  pub highest-above : (n : ℕ) {j : ℕ} → j < n → key_line (key j) ≡ line → key j ≤ highest_in key line n
  unfolding highest_in
  highest-above zero l e = absurd (not-suc-le-zero l)
  highest-above (suc n) {j} l e =
      ⊎_elim
      (λ q. rw q (picked (λ m. key n ≤ m) (eqb (key_line (key n)) line) _ _ (λ _. le-max_left (key n) _) (λ f. absurd (eqb-false _ _ f (rw q at e)))))
      (λ h. picked (λ m. key j ≤ m) (eqb (key_line (key n)) line) _ _ (λ _. le_trans (highest-above n h e) (le-max_right (key n) _)) (λ _. highest-above n h e))
      (eq-or-lt_of_le (le_of_suc-le-suc l))

  greater-line : (a b : ℕ) → key_line a ≡ line → ((b ≡ 0 → ⊥) → key_line b ≡ line) → (max a b ≡ 0 → ⊥) → key_line (max a b) ≡ line
  greater-line a b p q h =
      ⊎_elim
      (λ (l : a < b). let e : max a b ≡ b = max-eq_right (omega arith) in ap key_line e ∙ q (λ z. h (e ∙ z)))
      (λ (l : b ≤ a). ap key_line (max-eq_left l) ∙ p)
      (less-or a b)

  highest-line : (n : ℕ) → (highest_in key line n ≡ 0 → ⊥) → key_line (highest_in key line n) ≡ line
  unfolding highest_in
  highest-line zero h = absurd (h refl)
  highest-line (suc n) h =
      picked (λ m. (m ≡ 0 → ⊥) → key_line m ≡ line) (eqb (key_line (key n)) line) _ _
      (λ e. greater-line (key n) (highest_in key line n) (eqb-true _ _ e) (λ d. highest-line n d))
      (λ e d. highest-line n d)
      h

  -- where it is 0, the line has no vertex of order 1
  first-gone : (n : ℕ) → highest_in key line n ≡ 0 → names key n (vertex_key line 1) ≡ false
  first-gone n z = any_false _ n (λ j l. go j l (ℕ_discrete (key j) (vertex_key line 1)))
    where
      go : (j : ℕ) → j < n → Dec (key j ≡ vertex_key line 1) → eqb (key j) (vertex_key line 1) ≡ false
      go j l (no d) = ne_eqb _ _ d
      go j l (yes e) =
          let own : key_line (vertex_key line 1) ≡ line = omega arith in
          absurd (omega (arith, highest-above n l (ap key_line e ∙ own), z, e))

-- MEETING: vertex j has the key, and the node that has the name is there
unfoldable pub meets_at : Table → Table → ℕ → ℕ → ℕ → Bool
meets_at vertices nodes key name j = eqb (key_of Vertice vertices j) key && node_in nodes name (x_at Vertice vertices j) (y_at Vertice vertices j)

module _ (vertices nodes : Table) (key name : ℕ) where
  pub meets_any : {r : Bool} → r ≡ any (meets_at vertices nodes key name) vertices.count → r ≡ meets vertices nodes key name
  unfolding meets meets_at
  meets_any e = e

  module _ (j : ℕ) {v : ℕ} (e : v ≡ key_of Vertice vertices j) where
    pub meets-key : {x y : ℕ} {r : Bool} → v ≡ key → x ≡ x_at Vertice vertices j → y ≡ y_at Vertice vertices j → r ≡ node_in nodes name x y
        → meets_at vertices nodes key name j ≡ r
    unfolding meets_at
    meets-key h p q s = rw (← e, eq-eqb _ _ h, ← p, ← q, s)

  -- ELSEWHERE, where f is what a look-up of the vertex says
  module _ {keys : List ℕ} {n : ℕ} (lent : Fills keys (key_of Vertice vertices) vertices.count n) {f : Option ℕ} (s : Sought keys n key f) where
    pub elsewhere-none : f ≡ None → false ≡ elsewhere vertices nodes key name
    elsewhere-none e = rw (← names-lent lent key, ← sought-none keys n key s e)

    pub elsewhere-found : {j : ℕ} {r : Bool} → f ≡ Some j → r ≡ meets vertices nodes key name → not r ≡ elsewhere vertices nodes key name
    elsewhere-found e h = rw (← names-lent lent key, ← sought-yes keys n key s e, h)

    pub elsewhere-met :
        {j x y : ℕ} {r : Bool} → f ≡ Some j → x ≡ x_at Vertice vertices j → y ≡ y_at Vertice vertices j → r ≡ node_in nodes name x y → r ≡ true
        → false ≡ elsewhere vertices nodes key name
    elsewhere-met {j} e p q h t =
        let at = sought-record keys n key s e in
        let u : j < vertices.count = omega (arith, lent.count) in
        elsewhere-found e (meets_any (sym (any-true _ _ u (meets-key j (lent.holds j u) at.1 p q h ∙ t))))

    pub elsewhere-apart :
        {j x y : ℕ} {r : Bool} → first_duplicate (listed keys) n ≡ none → f ≡ Some j → x ≡ x_at Vertice vertices j → y ≡ y_at Vertice vertices j
        → r ≡ node_in nodes name x y → r ≡ false → true ≡ elsewhere vertices nodes key name
    unfolding meets
    elsewhere-apart d e p q h t =
        elsewhere-found e
        (lent-apart lent key s (λ j. node_in nodes name (x_at Vertice vertices j) (y_at Vertice vertices j)) d e
        (ap₂ (node_in nodes name) (sym p) (sym q) ∙ sym h ∙ t))

-- AN END of a line, by the line's highest key
module _ (end : End) (vertices nodes : Table) (top name : ℕ) where
  pub apart-gone : {r : Bool} → r ≡ is_gone end top → r ≡ true → false ≡ apart_at end vertices nodes top name
  unfolding apart_at
  apart-gone e q = rw (← e, q)

  pub apart-there :
      {r s : Bool} {key : ℕ} → r ≡ is_gone end top → r ≡ false → key ≡ end_key end top → s ≡ elsewhere vertices nodes key name
      → s ≡ apart_at end vertices nodes top name
  unfolding apart_at
  apart-there e q k h = rw (← e, q, ← k) h

-- and it is the rule of that end, where the highest key is the line's own
apart-start : (vertices nodes : Table) (line name : ℕ) → apart_at Start vertices nodes (highest vertices line) name ≡ elsewhere vertices nodes (vertex_key line 1) name
unfolding apart_at
apart-start vertices nodes line name = go (ℕ_discrete (highest vertices line) 0)
  where
    go :
        Dec (highest vertices line ≡ 0)
        → (not (eqb (highest vertices line) 0) && elsewhere vertices nodes (vertex_key (key_line (highest vertices line)) 1) name)
        ≡ elsewhere vertices nodes (vertex_key line 1) name
    go (yes z) = rw (eq-eqb _ _ z, first-gone (key_of Vertice vertices) line vertices.count z)
    go (no d) = rw (ne_eqb _ _ d, highest-line (key_of Vertice vertices) line vertices.count d)

apart-own :
    (end : End) (tramos vertices nodes : Table) (i : ℕ)
    → apart_at end vertices nodes (highest vertices (tramo_line tramos i)) (node_at end tramos i) ≡ apart end tramos vertices nodes i
unfolding start_elsewhere end_elsewhere apart_at
apart-own Start tramos vertices nodes i = apart-start vertices nodes (tramo_line tramos i) (node_at Start tramos i)
apart-own Last tramos vertices nodes i = refl

-- THE MARKS of the tramos by their columns are those of the rules
module _ (tramos vertices nodes : Table) {keys ends : List ℕ} {n t : ℕ} (lent : Fills keys (key_of Vertice vertices) vertices.count n)
    (tops : Fills ends (λ i. highest_in (listed keys) (tramo_line tramos i) n) tramos.count t) where
  top-own : (i : ℕ) → i < t → get_or ends i 0 ≡ highest vertices (tramo_line tramos i)
  top-own i l = tops.holds i (omega (arith, tops.count)) ∙ highest-lent lent (tramo_line tramos i)

  pub endless-marks :
      {before marks : List ℕ} → Marked before marks (λ i. eqb (get_or ends i 0) 0) t
      → Marked before marks (λ i. eqb (highest vertices (tramo_line tramos i)) 0) tramos.count
  endless-marks m = rw tops.count at (marked-as (λ i l. ap (λ (x : ℕ). eqb x 0) (top-own i l)) m)

  pub apart_marks :
      (end : End) {wanted before marks : List ℕ} → Fills wanted (node_at end tramos) tramos.count t
      → Marked before marks (λ i. apart_at end vertices nodes (get_or ends i 0) (get_or wanted i 0)) t
      → Marked before marks (apart end tramos vertices nodes) tramos.count
  apart_marks end w m =
      rw tops.count at
      (marked-as (λ i l. ap₂ (apart_at end vertices nodes) (top-own i l) (w.holds i (omega (arith, w.count))) ∙ apart-own end tramos vertices nodes i) m)

-- A POINT OBJECT by what it names and where it lies
module _ (nodes : Table) (name x y : ℕ) where
  pub astray-free : name ≡ 0 → false ≡ astray_at nodes name x y
  unfolding astray_at
  astray-free h = rw (eq-eqb _ _ h)

  pub astray-named : {r : Bool} → (name ≡ 0 → ⊥) → r ≡ node_in nodes name x y → not r ≡ astray_at nodes name x y
  unfolding astray_at
  astray-named h s = rw (ne_eqb _ _ h, s)

-- and the marks of them
pub astray-marks :
    (points nodes : Table) {wanted xs ys before marks : List ℕ} {n m : ℕ} → Fills wanted (λ i. name_at ObPun points i 3) points.count n
    → Positions xs ys ObPun points m → Marked before marks (λ i. astray_at nodes (get_or wanted i 0) (get_or xs i 0) (get_or ys i 0)) n
    → Marked before marks (point_elsewhere points nodes) points.count
unfolding astray_at point_elsewhere
astray-marks points nodes w p m =
    rw w.count at
    (marked-as {other = point_elsewhere points nodes}
    (λ i l. let u : i < points.count = omega (arith, w.count) in rw (w.holds i u, p.x.holds i u, p.y.holds i u))
    m)
