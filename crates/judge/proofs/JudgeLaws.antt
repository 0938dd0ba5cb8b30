-- A file's finding and count by its number, and the findings of the tens of the reasons.
-- Assumes nothing.
use Prim.Native.Nat.{ℕ, ◌+◌}
use mathlib.Core.Bool.{Bool}
use mathlib.Core.List.{◌∷◌}
use mathlib.Core.Path.{◌≡◌, refl, sym}
use Rattle.record.specs.Cut.{count_of}
use Rattle.laws.specs.Row.{pick, row}
use Rattle.record.specs.declared.kind.Kind.{Kind}
use Rattle.record.specs.Table.{Which}
use Rattle.record.specs.Breaks.{Finding}
use Rattle.std.specs.Prelude.{Ok}
use Rattle.record.specs.Table.{which_of, file_count, on_file}
use Rattle.record.specs.Files.{Files}
use Rattle.record.specs.Breaks.{shape_finding, fields_finding}
use Rattle.laws.proofs.MatchLaws.{NoneOf, numbers}
use Rattle.fifties.proofs.FiftyLaws.{plain, end, other, else-default}
use Rattle.judge.specs.Broken.{counts_of}
use Rattle.judge.specs.machinery.Searched.{group_at}

-- a file's finding, of its shape or of its fields
abbrev pub bytes_in : Bool → Files → Kind → Finding
bytes_in shape files k = pick shape (shape_finding (files k) k) (fields_finding (files k) k)

-- the count of the file with the number n + 1
unfoldable pub count_no : Files → ℕ → ℕ
count_no files n = on_file (λ k. count_of (files k) k) (which_of (n + 1))

pub count_turn : (files : Files) (n : ℕ) {w : Which} {r : ℕ} → w ≡ which_of (n + 1) → r ≡ on_file (λ k. count_of (files k) k) w → r ≡ count_no files n
unfolding count_no
count_turn files n e h = rw (← e) h

pub counts-row : (files : Files) → row (count_no files) file_count ≡ counts_of files
unfolding count_no counts_of row which_of on_file
counts-row files = refl

-- OF A TEN: the others have no reasons
pub group-else : (files : Files) (t : ℕ) → NoneOf (7 ∷ numbers 1 5) t → Ok tt ≡ group_at files t
unfolding group_at
group-else files t o =
    sym
    (else-default
    (plain
    (other o.0.0.0.0.0.1
    (other o.0.0.0.0.1
    (other o.0.0.0.1
    (other o.0.0.1
    (other o.0.1
    (plain
    (other o.1 end)))))))))
