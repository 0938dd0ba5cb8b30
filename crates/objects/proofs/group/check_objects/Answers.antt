-- `objects::group::check_objects` meets its contract: the first over the files of what each tells.
-- Assumes nothing.
use Rattle.objects.specs.machinery.Findings.{objects_finding}
use Rattle.objects.proofs.group.check_objects.Goals as goal

pub returns : goal.returns
unfolding objects_finding
returns c = c.first_of_files.ensures _ (λ k v e. e.1)
