-- `fifties::nodes::tally_objects` meets its contract. 57's cell, and no other of the file has a rule.
-- Assumes nothing.
use mathlib.Core.List.{map}
use Rattle.record.specs.Files.{files_of}
use Rattle.record.proofs.ColumnLaws.{read-fills}
use Rattle.fifties.proofs.FiftyTallies.{objects-in}
use Rattle.fifties.proofs.nodes.tally_objects.Goals as goal

pub returns : goal.returns
returns c = let p = rw (← c.file_of-ob_lin.ensures) at c.requires in
    let f = read-fills p.0 c.fill_names-n.ensures in
    objects-in (files_of (map (λ x. x.now) c.args.files)) c.file_of-ob_lin.ensures c.file_of-tramo.ensures f.count c.no_tally.ensures c.mark_idle_objects.ensures c.with_marks.ensures
