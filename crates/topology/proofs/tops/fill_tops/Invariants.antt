-- `topology::tops::fill_tops` meets its contract. The loop's invariant: what stands at the vertex of each line is the highest of the line's keys before `j`.
-- Assumes nothing.
use mathlib.Core.Path.{◌≡◌}
use lib.ListN.{length}
use Rattle.topology.specs.machinery.Tops.{Tops}
use Rattle.topology.proofs.tops.fill_tops.Given as goal

abbrev pub invariant-loop-j : goal.invariant-loop-j
invariant-loop-j l = (length l.tops ≡ length l.initial.tops) × Tops l.keys l.lines.keys.now l.lines.order.now l.lines.hints.now l.tops l.lines.n l.lines.way l.j
