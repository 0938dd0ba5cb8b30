-- `objects::composites::mark_named_by` meets its contract.
-- Assumes nothing.
use mathlib.Core.List.{map}
use Rattle.record.specs.Files.{files_of}
use Rattle.keys.proofs.LentLaws.{table-room}
use Rattle.objects.specs.Rules.{named_by}
use Rattle.objects.proofs.composites.mark_named_by.Goals as goal

pub mark_used-requires : goal.mark_used-requires
mark_used-requires c = let p = c.requires in
    (p.0, table-room (files_of (map (λ x. x.now) c.args.files)) c.file_of.ensures p.1)

pub returns : goal.returns
unfolding named_by
returns c = rw c.file_of.ensures at c.mark_used.ensures
