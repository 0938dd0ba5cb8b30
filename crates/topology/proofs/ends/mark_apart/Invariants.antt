-- `topology::ends::mark_apart` meets its contract. The loop's invariant: the marks of the tramos before `i` say whether the end lies elsewhere than its node, and their nodes are in use.
-- Assumes nothing.
use lib.ListN.{get_or}
use Rattle.laws.specs.Find.{names}
use Rattle.index.specs.Keys.{listed}
use Rattle.index.specs.Marks.{Marked}
use Rattle.record.specs.declared.kind.Kind.TheVariants.{Vertice, Nodo}
use Rattle.record.specs.Says.{table_of}
use Rattle.topology.specs.machinery.Ends.{apart_at}
use Rattle.topology.specs.machinery.Used.{Used}
use Rattle.topology.proofs.ends.mark_apart.Given as goal

abbrev pub invariant-loop-i : goal.invariant-loop-i
invariant-loop-i l =
    Marked l.initial.marks l.marks (λ j. apart_at l.end (table_of l.vertices.file.now Vertice) (table_of l.nodes.file.now Nodo) (get_or l.ends j 0) (get_or l.wanted j 0)) l.i
    × Used l.nodes.ids.keys.now l.nodes.ids.order.now l.nodes.ids.hints.now l.nodes.ids.way.hinted l.nodes.ids.n l.initial.used l.used (names (listed l.wanted) l.i)
