-- `topology::used::mark_named` meets its contract. The loop's invariant: the records that the first `x-index` names find are in use.
-- Assumes nothing.
use Rattle.laws.specs.Find.{names}
use Rattle.index.specs.Keys.{listed}
use Rattle.topology.specs.machinery.Used.{Used}
use Rattle.topology.proofs.used.mark_named.Given as goal

abbrev pub invariant-loop-x : goal.invariant-loop-x
invariant-loop-x l =
    Used l.ids.keys.now l.ids.order.now l.ids.hints.now l.ids.way.hinted l.ids.n l.initial.used l.used (names (listed l.refs) l.x-index)
