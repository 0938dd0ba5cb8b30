-- `topology::sorts::mark_by_place` meets its contract. By the marks where a place matters, and none where it does not.
-- Assumes nothing.
use mathlib.Core.Path.{sym, ◌∙◌}
use Rattle.topology.proofs.SortLaws.{idle-by, odd-by, idle-clear, odd-clear}
use Rattle.topology.proofs.sorts.mark_by_place.Goals as goal

pub returns-then-asks_places : goal.returns-then-asks_places
returns-then-asks_places c = let p = c.requires in
    let f = c.fill_positions-v.ensures in record { marked = idle-by _ _ p.0 f c.args.nodes.now.placed c.mark_sorts.ensures.marked c.mark_sorts.ensures.others _ _ c.mark_idle.ensures; others = odd-by _ _ p.0 f c.args.nodes.now.placed c.mark_sorts.ensures.marked c.mark_sorts.ensures.others _ c.mark_odd.ensures }

pub returns-else-asks_places : goal.returns-else-asks_places
returns-else-asks_places c = let none = sym c.asks_places.ensures ∙ c.if-asks_places.false in record { marked = idle-clear _ _ _ _ none c.clear.ensures; others = odd-clear _ _ _ _ none c.clear-else-asks_places.ensures }
