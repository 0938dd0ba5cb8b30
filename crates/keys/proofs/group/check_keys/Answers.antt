-- `keys::group::check_keys` meets its contract: the first over the files of what each tells.
-- Assumes nothing.
use Rattle.keys.specs.machinery.Findings.{keys_finding}
use Rattle.keys.proofs.group.check_keys.Goals as goal

pub returns : goal.returns
unfolding keys_finding
returns c = c.first_of_files.ensures _ (λ k v e. e.1)
