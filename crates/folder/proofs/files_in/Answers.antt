-- `folder::files_in` meets its contract.
-- Assumes nothing.
use Rattle.std.proofs.Common.{◌*◌, get_or, take, drop, rules}
use Rattle.laws.proofs.MadeLaws.{made_by}
use Rattle.folder.specs.Folder.{file_room, files_read}
use Rattle.folder.proofs.files_in.Goals as goal

pub returns : goal.returns
unfolding files_read
returns c = made_by (λ x. x.now) (λ i. take (get_or c.args.lens i 0) (drop (file_room * i) c.args.room.now)) (λ i r q k. (search rules, search rules)) c.from_fn.ensures.items
