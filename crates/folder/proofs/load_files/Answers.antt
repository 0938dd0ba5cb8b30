-- `folder::load_files` meets its contract.
-- Assumes nothing.
use Rattle.std.proofs.Common.{refl, arith, length-set}
use Rattle.folder.proofs.FolderLaws.{lengths_start, lengths_more}
use Rattle.folder.proofs.load_files.Goals as goal

pub loop-i-init : goal.loop-i-init
loop-i-init g c = (refl, lengths_start 8)

pub loop-i-preserved : goal.loop-i-preserved
loop-i-preserved g c =
    let l = c.loop-i in
    (simp length-set l.invariant.0, lengths_more (omega (arith, l.invariant.0)) c.load_part.ensures l.invariant.1)
