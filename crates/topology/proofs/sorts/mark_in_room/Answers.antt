-- `topology::sorts::mark_in_room` meets its contract. The marks of what names the nodes make the rules of the marks by place.
-- Assumes nothing.
use Rattle.topology.proofs.UsedLaws.{idle-named, few-marks}
use Rattle.topology.proofs.SortLaws.{nodes-idle, nodes-odd}
use Rattle.topology.proofs.sorts.mark_in_room.Goals as goal

pub returns : goal.returns
returns c = let p = c.requires in
    let l = idle-named p.0 c.mark_unheld.ensures in
    let w = few-marks p.1 c.mark_unheld-2.ensures in record { marked = nodes-idle _ _ _ _ c.args.nodes.now.named l w c.mark_by_place.ensures.marked; others = nodes-odd _ _ _ _ c.args.nodes.now.named l w c.mark_by_place.ensures.others }
