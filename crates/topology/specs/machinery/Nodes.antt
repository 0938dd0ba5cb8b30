-- Machinery: nodes by marks of what they are not, which the code makes for 56 and 58 together. No promise cites this file.
-- Assumes nothing.
use Rattle.std.specs.Prelude.{ℕ, ◌<◌, ◌≤◌, Bool, not, ◌&&◌, ◌||◌, List, ◌≡◌, eqb, length, get_or}
use Rattle.laws.specs.Count.{bit}
use Rattle.index.specs.Marks.{is_marked}
use Rattle.record.specs.declared.kind.Kind.TheVariants.{Vertice, Nodo}
use Rattle.record.specs.Says.{Table, letter_in}
use Rattle.record.specs.Names.{key_of}
use Rattle.topology.specs.Rules.{x_at, y_at, placed, is_tip, vertex_with, is_middle, agrees}

-- the marks of the vertices say which are a line's first or last
pub record Tips (tips : List ℕ) (vertices : Table) : Type 0 where
  pub room : vertices.count ≤ length tips
  pub each : (j : ℕ) → j < vertices.count → get_or tips j 0 ≡ bit (is_tip (key_of Vertice vertices) vertices.count j)

-- node i's place matters to 56 or 58: it has a code, or both marks
unfoldable pub asks_place : List ℕ → List ℕ → Table → ℕ → Bool
asks_place loose few nodes i = not (eqb (letter_in (nodes.says i 2)) 0) || is_marked loose i && is_marked few i

-- 56, by the marks of the nodes that start and end no tramo and of those that fewer than two point objects name
unfoldable pub idle_by : List ℕ → List ℕ → Table → Table → ℕ → Bool
idle_by loose few vertices nodes i =
    is_marked loose i && not (placed Vertice vertices vertices.count (x_at Nodo nodes i) (y_at Nodo nodes i)) && is_marked few i

-- 58, by the first of those marks
unfoldable pub odd_by : List ℕ → Table → Table → ℕ → Bool
odd_by loose vertices nodes i =
    not
    (agrees (letter_in (nodes.says i 2))
    (not (is_marked loose i) || vertex_with (is_tip (key_of Vertice vertices) vertices.count) vertices (x_at Nodo nodes i) (y_at Nodo nodes i))
    (is_middle vertices nodes i))
