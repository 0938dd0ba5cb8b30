-- `folder::fail` meets its contract: the four writes, one after another, are the line.
use Rattle.std.proofs.lemmas.Result.{on_ok_weaker}
use Rattle.std.proofs.KnownBytes.{Appends-trans}
use Rattle.folder.proofs.fail.Goals as goal

pub returns : goal.returns
returns g c =
    on_ok_weaker c.write_all-4.result
    (λ end. (
      c.without_number-words.result.now,
      Appends-trans _ _ _ _ _
          (Appends-trans _ _ _ _ _ (Appends-trans _ _ _ _ _ c.in_ok-write_all.ensures.bytes c.in_ok-write_all-2.ensures.bytes) c.in_ok-write_all-3.ensures.bytes) end,
    ))
    c.write_all-4.ensures.bytes
