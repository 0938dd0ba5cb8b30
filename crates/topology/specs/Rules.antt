-- The rules of vertex numbering, line ends and nodes, and objects in use: one test for each of the reasons 50 to 59, true
-- where the rule is broken at field f of record i (counted from 0) of file k (document 01, "What the reasons are").
-- Assumes nothing.
use Rattle.std.specs.Prelude.{ℕ, zero, suc, ◌+◌, ◌-◌, ◌%◌, max, Bool, not, ◌&&◌, ◌||◌, List, [], ◌∷◌, ltb, eqb}
use Rattle.laws.specs.Count.{how_many}
use Rattle.laws.specs.Find.{first_index, any, names}
use Rattle.laws.specs.Row.{pick}
use Rattle.index.specs.Look.{key_line}
use Rattle.record.specs.declared.kind.Kind.{Kind}
use Rattle.record.specs.declared.kind.Kind.TheVariants.{ObPun, ObLin, Tramo, Vertice, Nodo}
use Rattle.record.specs.declared.reason.Reason.{Reason}
use Rattle.record.specs.declared.reason.Reason.TheVariants as R
use Rattle.record.specs.Table.{file_of, x_field}
use Rattle.record.specs.Says.{Table, letter_in, place_in}
use Rattle.record.specs.Files.{Delivery}
use Rattle.record.specs.Names.{name_at, vertex_key, key_of}
use Rattle.keys.specs.Rules.{or_first}

-- the rule is read of this file at this field
abbrev pub is_at : Kind → ℕ → Kind → ℕ → Bool
is_at file field k f = eqb (file_of k) (file_of file) && eqb f field

-- X, Y and Z of record i, each as one number
abbrev pub x_at : Kind → Table → ℕ → ℕ
x_at k t i = place_in (t.says i (x_field k))

abbrev pub y_at : Kind → Table → ℕ → ℕ
y_at k t i = place_in (t.says i (x_field k + 2))

abbrev pub z_at : Kind → Table → ℕ → ℕ
z_at k t i = place_in (t.says i (x_field k + 4))

-- one of the first n records has this X and Y
unfoldable pub placed : Kind → Table → ℕ → ℕ → ℕ → Bool
placed k t n x y = any (λ j. eqb (x_at k t j) x && eqb (y_at k t j) y) n

-- the node that has the name is at this X and Y
unfoldable pub node_in : Table → ℕ → ℕ → ℕ → Bool
node_in t name x y = any (λ j. eqb (name_at Nodo t j 1) name && (eqb (x_at Nodo t j) x && eqb (y_at Nodo t j) y)) t.count

-- VERTICES by their keys, a line and an order together
abbrev pub order_of : ℕ → ℕ
order_of key = key % 100000

abbrev pub has_vertex : Table → ℕ → Bool
has_vertex vertices key = names (key_of Vertice vertices) vertices.count key

-- the key of the line's vertex of highest order among the first n; 0 where it has none
unfoldable pub highest_in : (ℕ → ℕ) → ℕ → ℕ → ℕ
highest_in key line zero = 0
highest_in key line (suc n) = pick (eqb (key_line (key n)) line) (max (key n) (highest_in key line n)) (highest_in key line n)

abbrev pub highest : Table → ℕ → ℕ
highest vertices line = highest_in (key_of Vertice vertices) line vertices.count

-- a vertex that has the key is where the node that has the name is, in X and Y
unfoldable pub meets : Table → Table → ℕ → ℕ → Bool
meets vertices nodes key name =
    any (λ j. eqb (key_of Vertice vertices j) key && node_in nodes name (x_at Vertice vertices j) (y_at Vertice vertices j)) vertices.count

-- the vertex that has the key exists and lies elsewhere than the node. (Where no lower ten is broken, keys are unique and there is one
-- such vertex and one such node.)
abbrev pub elsewhere : Table → Table → ℕ → ℕ → Bool
elsewhere vertices nodes key name = has_vertex vertices key && not (meets vertices nodes key name)

-- a tramo's line, nodes and object
abbrev pub tramo_line : Table → ℕ → ℕ
tramo_line tramos i = name_at Tramo tramos i 4

abbrev pub tramo_start : Table → ℕ → ℕ
tramo_start tramos i = name_at Tramo tramos i 6

abbrev pub tramo_end : Table → ℕ → ℕ
tramo_end tramos i = name_at Tramo tramos i 7

abbrev pub tramo_object : Table → ℕ → ℕ
tramo_object tramos i = name_at Tramo tramos i 2

-- 50: VERTICE order is 0, or is over 1 and its line has no order one less
unfoldable pub gap : (ℕ → ℕ) → ℕ → ℕ → Bool
gap key n i = eqb (order_of (key i)) 0 || ltb 1 (order_of (key i)) && not (names key n (key i - 1))

unfoldable pub breaks50 : Delivery → Kind → ℕ → ℕ → Bool
breaks50 d k i f = is_at Vertice 2 k f && gap (key_of Vertice (d Vertice)) (d Vertice).count i

-- 51: VERTICE order 1 and its line has no order 2
unfoldable pub unpaired : (ℕ → ℕ) → ℕ → ℕ → Bool
unpaired key n i = eqb (order_of (key i)) 1 && not (names key n (key i + 1))

unfoldable pub breaks51 : Delivery → Kind → ℕ → ℕ → Bool
breaks51 d k i f = is_at Vertice 2 k f && unpaired (key_of Vertice (d Vertice)) (d Vertice).count i

-- 52: line's vertex of order 1 exists and lies elsewhere in X or Y than the start node
unfoldable pub start_elsewhere : Table → Table → Table → ℕ → Bool
start_elsewhere tramos vertices nodes i = elsewhere vertices nodes (vertex_key (tramo_line tramos i) 1) (tramo_start tramos i)

unfoldable pub breaks52 : Delivery → Kind → ℕ → ℕ → Bool
breaks52 d k i f = is_at Tramo 6 k f && start_elsewhere (d Tramo) (d Vertice) (d Nodo) i

-- 53: line's vertex of highest order lies elsewhere in X or Y than the end node
unfoldable pub end_elsewhere : Table → Table → Table → ℕ → Bool
end_elsewhere tramos vertices nodes i = elsewhere vertices nodes (highest vertices (tramo_line tramos i)) (tramo_end tramos i)

unfoldable pub breaks53 : Delivery → Kind → ℕ → ℕ → Bool
breaks53 d k i f = is_at Tramo 7 k f && end_elsewhere (d Tramo) (d Vertice) (d Nodo) i

-- 54: same X, Y, Z as an earlier node; missing Z equals only missing Z
unfoldable pub same_place : Table → ℕ → ℕ → Bool
same_place t i j = eqb (x_at Nodo t j) (x_at Nodo t i) && (eqb (y_at Nodo t j) (y_at Nodo t i) && eqb (z_at Nodo t j) (z_at Nodo t i))

unfoldable pub placed_before : Table → ℕ → Bool
placed_before t i = any (same_place t i) i

unfoldable pub breaks54 : Delivery → Kind → ℕ → ℕ → Bool
breaks54 d k i f = is_at Nodo 0 k f && placed_before (d Nodo) i

-- 55: point object names a node and differs from it in X or Y
unfoldable pub point_elsewhere : Table → Table → ℕ → Bool
point_elsewhere points nodes i =
    not (eqb (name_at ObPun points i 3) 0) && not (node_in nodes (name_at ObPun points i 3) (x_at ObPun points i) (y_at ObPun points i))

unfoldable pub breaks55 : Delivery → Kind → ℕ → ℕ → Bool
breaks55 d k i f = is_at ObPun 3 k f && point_elsewhere (d ObPun) (d Nodo) i

-- a node that has the name starts or ends a tramo
unfoldable pub ends_tramo : Table → ℕ → Bool
ends_tramo tramos name = names (tramo_start tramos) tramos.count name || names (tramo_end tramos) tramos.count name

-- how many point objects name the node that has the name
unfoldable pub namers : Table → ℕ → ℕ
namers points name = how_many (λ j. eqb (name_at ObPun points j 3) name) points.count

-- 56: node starts or ends no tramo, has the X and Y of no vertex, and is named by fewer than two point objects
unfoldable pub node_idle : Table → Table → Table → Table → ℕ → Bool
node_idle points tramos vertices nodes i =
    not (ends_tramo tramos (name_at Nodo nodes i 1))
    && not (placed Vertice vertices vertices.count (x_at Nodo nodes i) (y_at Nodo nodes i))
    && ltb (namers points (name_at Nodo nodes i 1)) 2

unfoldable pub breaks56 : Delivery → Kind → ℕ → ℕ → Bool
breaks56 d k i f = is_at Nodo 0 k f && node_idle (d ObPun) (d Tramo) (d Vertice) (d Nodo) i

-- 57: linear object named by no tramo
unfoldable pub object_idle : Table → Table → ℕ → Bool
object_idle objects tramos i = not (names (tramo_object tramos) tramos.count (name_at ObLin objects i 1))

unfoldable pub breaks57 : Delivery → Kind → ℕ → ℕ → Bool
breaks57 d k i f = is_at ObLin 0 k f && object_idle (d ObLin) (d Tramo) i

-- a line's first vertex is its vertex of order 1, its last the one of highest order
unfoldable pub is_tip : (ℕ → ℕ) → ℕ → ℕ → Bool
is_tip key n j = eqb (order_of (key j)) 1 || eqb (key j) (highest_in key (key_line (key j)) n)

-- a vertex of which the test holds has this X and Y
unfoldable pub vertex_with : (ℕ → Bool) → Table → ℕ → ℕ → Bool
vertex_with test vertices x y = any (λ j. test j && (eqb (x_at Vertice vertices j) x && eqb (y_at Vertice vertices j) y)) vertices.count

-- a node is an end: it starts or ends a tramo or has the X and Y of a line's first or last vertex
unfoldable pub is_end : Table → Table → Table → ℕ → Bool
is_end tramos vertices nodes i =
    ends_tramo tramos (name_at Nodo nodes i 1)
    || vertex_with (is_tip (key_of Vertice vertices) vertices.count) vertices (x_at Nodo nodes i) (y_at Nodo nodes i)

-- and intermediate: it has those of another vertex
unfoldable pub is_middle : Table → Table → ℕ → Bool
is_middle vertices nodes i =
    vertex_with (λ j. not (is_tip (key_of Vertice vertices) vertices.count j)) vertices (x_at Nodo nodes i) (y_at Nodo nodes i)

-- which nodes a code of NODO TIPO agrees with: blank (0) with every one, A with an isolated one, C (connected) with one that is not isolated,
-- E with an end that is not intermediate, I with an intermediate that is no end, H with one that is both
unfoldable pub agrees : ℕ → Bool → Bool → Bool
agrees code end middle =
    eqb code 0
    || eqb code 65 && not (end || middle)
    || eqb code 67 && (end || middle)
    || eqb code 69 && (end && not middle)
    || eqb code 73 && (middle && not end)
    || eqb code 72 && (end && middle)

-- 58: the code disagrees with what the node is
unfoldable pub disagrees : Table → Table → Table → ℕ → Bool
disagrees tramos vertices nodes i = not (agrees (letter_in (nodes.says i 2)) (is_end tramos vertices nodes i) (is_middle vertices nodes i))

unfoldable pub breaks58 : Delivery → Kind → ℕ → ℕ → Bool
breaks58 d k i f = is_at Nodo 2 k f && disagrees (d Tramo) (d Vertice) (d Nodo) i

-- 59: tramo whose line has no vertex of highest order
unfoldable pub breaks59 : Delivery → Kind → ℕ → ℕ → Bool
breaks59 d k i f = is_at Tramo 4 k f && eqb (highest (d Vertice) (tramo_line (d Tramo) i)) 0

-- the tests of a place, in the order of the reasons
unfoldable pub fifties : Delivery → Kind → ℕ → ℕ → List Bool
fifties d k i f =
    breaks50 d k i f
    ∷ breaks51 d k i f
    ∷ breaks52 d k i f
    ∷ breaks53 d k i f
    ∷ breaks54 d k i f
    ∷ breaks55 d k i f
    ∷ breaks56 d k i f
    ∷ breaks57 d k i f
    ∷ breaks58 d k i f
    ∷ breaks59 d k i f
    ∷ []

-- the reasons; 54's with the number of the first earlier node at the place
abbrev pub reasons_at : Table → ℕ → List Reason
reasons_at nodes i =
    R.OrderGap50
    ∷ R.OrderAlone51
    ∷ R.StartElsewhere52
    ∷ R.EndElsewhere53
    ∷ R.SamePlace54 (suc (or_first (first_index (same_place nodes i) i)))
    ∷ R.PointElsewhere55
    ∷ R.IdleNode56
    ∷ R.IdleObject57
    ∷ R.NodeType58
    ∷ R.NoLastVertex59
    ∷ []

unfoldable pub fifty_reasons : Delivery → Kind → ℕ → ℕ → List Reason
fifty_reasons d k i f = reasons_at (d Nodo) i
