-- `grids::grid::count_files` meets its contract.
-- Assumes nothing.
use Rattle.std.proofs.Common.{◌∙◌, map, rules}
use Rattle.record.specs.Files.{files_of}
use Rattle.laws.proofs.MadeLaws.{made}
use Rattle.grids.proofs.GridLaws.{bytes_no, bytes-row}
use Rattle.grids.proofs.grid.count_files.Goals as goal

pub returns : goal.returns
unfolding bytes_no
returns c = let files = files_of (map (λ x. x.now) c.args.files) in
    made (bytes_no c.args.shape files) (λ i r q k. (search rules, search rules)) c.from_fn.ensures.items ∙ bytes-row _ _
