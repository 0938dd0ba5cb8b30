-- Machinery: the highest vertex of each line, by a look-up of the line among the lines of the vertices. No promise cites this file.
-- Assumes nothing.
use Rattle.std.specs.Prelude.{ℕ, ◌<◌, ◌≤◌, List, ◌≡◌, length, get_or, Some}
use Rattle.index.specs.Keys.{listed}
use Rattle.index.specs.Look.{key_line}
use Rattle.index.specs.Way.{look_of, Ready}
use Rattle.index.specs.declared.way.Way.{Way}
use Rattle.topology.specs.machinery.Lent.{Holds}
use Rattle.topology.specs.Rules.{highest_in}

-- the line of a vertex
abbrev pub line_of : List ℕ → ℕ → ℕ
line_of keys i = key_line (get_or keys i 0)

-- n vertices with their lines in hand, of which m are gone over: at the vertex that a look-up of its own line finds stands the highest of
-- the line's keys among the m
pub record Tops (keys lines order hints tops : List ℕ) (n : ℕ) (way : Way) (m : ℕ) : Type 0 where
  pub ready : Ready lines order hints n way
  pub of : Holds lines (line_of keys) n
  pub room : n ≤ length tops
  pub top : (r : ℕ) → r < n → look_of lines order hints way.hinted n (get_or lines r 0) ≡ Some r → get_or tops r 0 ≡ highest_in (listed keys) (get_or lines r 0) m
