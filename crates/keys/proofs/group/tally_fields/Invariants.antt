-- `keys::group::tally_fields` meets its contract. The loop's invariant: the cells of the fields before `f` are tallied.
-- Assumes nothing.
use Prim.Native.Nat.{◌*◌}
use mathlib.Core.List.{map}
use Rattle.record.specs.Files.{files_of, delivery_of}
use Rattle.keys.specs.Rules.{key_tests}
use Rattle.keys.specs.machinery.Cells.{TalliedTo}
use Rattle.keys.proofs.group.tally_fields.Given as goal

abbrev pub invariant-loop-f : goal.invariant-loop-f
invariant-loop-f g l =
    let d = delivery_of (files_of (map (λ x. x.now) l.files)) in
    TalliedTo (key_tests 4 d l.k) (d l.k).count (l.f * 10) l.t
