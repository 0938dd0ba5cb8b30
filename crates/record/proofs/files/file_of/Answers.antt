-- `record::files::file_of` meets its contract: a kind's number, less one, is a place of the array.
-- Assumes nothing.
use native.Mathlib.Omega.{arith}
use Rattle.record.specs.Files.{files_of}
use Rattle.record.proofs.TableLaws.{sane}
use Rattle.record.proofs.FileLaws.{inside}
use Rattle.record.proofs.files.file_of.Goals as goal

pub overflow_sub-n : goal.overflow_sub-n
overflow_sub-n c = omega (arith, sane c.args.k)

pub offset_bounds-files-n : goal.offset_bounds-files-n
offset_bounds-files-n c = omega (arith, sane c.args.k)

pub bounds-files-n : goal.bounds-files-n
bounds-files-n c = omega (arith, sane c.args.k)

pub returns : goal.returns
unfolding files_of
returns c = let a = c.args in
    rw (← c.number-n.ensures) (inside (λ x. x.now) c.args.files _ _ _ (omega (arith, sane a.k)))
