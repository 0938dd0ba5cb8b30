-- `topology::ends::mark_astray` meets its contract. The loop's invariant: the marks of the point objects before `i` say 55, and how often nodes are named is counted.
-- Assumes nothing.
use mathlib.Core.Path.{◌≡◌}
use lib.ListN.{length, get_or}
use Rattle.index.specs.Keys.{listed}
use Rattle.index.specs.Marks.{Marked}
use Rattle.record.specs.declared.kind.Kind.TheVariants.{Nodo}
use Rattle.record.specs.Says.{table_of}
use Rattle.topology.specs.machinery.Ends.{astray_at}
use Rattle.topology.specs.machinery.Used.{Counted}
use Rattle.topology.proofs.ends.mark_astray.Given as goal

abbrev pub invariant-loop-i : goal.invariant-loop-i
invariant-loop-i l =
    Marked l.initial.marks l.marks (λ j. astray_at (table_of l.nodes.file.now Nodo) (get_or l.wanted j 0) (get_or l.xs j 0) (get_or l.ys j 0)) l.i
    × Counted l.nodes.ids.keys.now l.nodes.ids.order.now l.nodes.ids.hints.now l.nodes.ids.way.hinted l.nodes.ids.n l.counts (listed l.wanted) l.i
    × (length l.counts ≡ length l.initial.counts)
