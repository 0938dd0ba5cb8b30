-- Machinery: how many breaks of a ten each file has, as the code counts them. No promise cites this file.
-- Assumes nothing.
use Rattle.std.specs.Prelude.{ℕ, List, [], ◌∷◌, map, eqb, get_or}
use Rattle.laws.specs.Row.{pick, row}
use Rattle.record.specs.declared.kind.Kind.{Kind}
use Rattle.record.specs.Table.{kinds, file_count}
use Rattle.record.specs.Files.{Files, delivery_of}
use Rattle.record.specs.machinery.Counts.{shape_many, fields_many}
use Rattle.keys.specs.machinery.Cells.{key_tally}
use Rattle.fifties.specs.machinery.Cells.{fifty_tally}
use Rattle.objects.specs.machinery.Cells.{seventy_tally}
use Rattle.judge.specs.Broken.{groups}
use Rattle.grids.specs.Grid.{Grid, ten_of}

unfoldable pub counted_in : Files → ℕ → Kind → ℕ
counted_in files t k =
    get_or
    (0
    ∷ shape_many (files k) k
    ∷ fields_many (files k) k
    ∷ (key_tally 3 (delivery_of files) k).many
    ∷ (key_tally 4 (delivery_of files) k).many
    ∷ (fifty_tally (delivery_of files) k).many
    ∷ 0
    ∷ (seventy_tally (delivery_of files) k).many
    ∷ [])
    t 0

unfoldable pub counted_of : Files → ℕ → List ℕ
counted_of files t = map (counted_in files t) kinds

-- a grid with counts in the column of the ten t
unfoldable pub column_of : ℕ → List ℕ → Grid
column_of t counts = row (λ i. row (λ g. pick (eqb (ten_of g) t) (get_or counts i 0) 0) groups) file_count
