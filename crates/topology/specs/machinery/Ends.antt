-- Machinery: the two ends of a tramo, as the code's searches ask of them: 52 is of the start and 53 of the end; and 55 by what the code has of a
-- point object. No promise cites this file.
-- Assumes nothing.
use Rattle.std.specs.Prelude.{ℕ, Bool, false, not, ◌&&◌, eqb}
use Rattle.index.specs.Look.{key_line}
use Rattle.record.specs.Says.{Table}
use Rattle.record.specs.Names.{vertex_key}
use Rattle.topology.specs.declared.ends.End.{End}
use Rattle.topology.specs.declared.ends.End.TheVariants.{Start, Last}
use Rattle.topology.specs.Rules.{elsewhere, node_in, start_elsewhere, end_elsewhere, tramo_start, tramo_end}

-- the key of the vertex at that end of a line, by the highest key of the line
abbrev pub end_key : End → ℕ → ℕ
end_key Start top = vertex_key (key_line top) 1
end_key Last top = top

-- no vertex of the line is that end: where no key is over 0
abbrev pub is_gone : End → ℕ → Bool
is_gone Start top = eqb top 0
is_gone Last top = false

-- that end of a line with the highest key lies elsewhere than the node
unfoldable pub apart_at : End → Table → Table → ℕ → ℕ → Bool
apart_at end vertices nodes top name = not (is_gone end top) && elsewhere vertices nodes (end_key end top) name

-- the name of a tramo's node at that end, and the rule
abbrev pub node_at : End → Table → ℕ → ℕ
node_at Start tramos i = tramo_start tramos i
node_at Last tramos i = tramo_end tramos i

abbrev pub apart : End → Table → Table → Table → ℕ → Bool
apart Start tramos vertices nodes i = start_elsewhere tramos vertices nodes i
apart Last tramos vertices nodes i = end_elsewhere tramos vertices nodes i

-- a point object that names a node lies elsewhere
unfoldable pub astray_at : Table → ℕ → ℕ → ℕ → Bool
astray_at nodes name x y = not (eqb name 0) && not (node_in nodes name x y)
