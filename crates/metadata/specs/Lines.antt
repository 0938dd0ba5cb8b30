-- The lines of a metadata file, and 80 (document 02, W-206; READINGS-02): a line is the bytes up to 0D 0A, at most 2,048 of at most 256
-- bytes. A lone 0D or 0A is a byte of its line. What follows the last mark, if anything does, is a line without its end mark.
-- Assumes nothing.
use Rattle.std.specs.Prelude.{ℕ, ◌+◌, Bool, true, false, ◌&&◌, ◌||◌, List, [], ◌∷◌, ◌++◌, map, eqb, ltb, leb, length, get_or, Result, Ok, Err}
use Rattle.laws.specs.Row.{pick}
use Rattle.metadata.specs.declared.told.Told.{Told}
use Rattle.metadata.specs.declared.told.Told.TheVariants.{Nothing}
use Rattle.metadata.specs.declared.fault.Rule.TheVariants.{LongLine80}
use Rattle.metadata.specs.declared.fault.Fault.{Fault}
use Rattle.metadata.specs.Told.{told_of}
use Rattle.metadata.specs.Faults.{at_line}

-- its bytes, and whether its end mark stands
pub record Line : Type 0 where
  pub bytes : List ℕ
  pub ended : Bool

-- the lines of s, where the first has begun with the bytes of line; `skip` says that the next byte is the second of a mark
unfoldable pub lines_from : List ℕ → Bool → List ℕ → List Line
lines_from [] skip [] = []
lines_from [] skip (x ∷ line) = record { bytes = x ∷ line; ended = false } ∷ []
lines_from (b ∷ s) true line = lines_from s false line
lines_from (b ∷ s) false line =
    pick (eqb b 13 && eqb (get_or s 0 0) 10) (record { bytes = line; ended = true } ∷ lines_from s true []) (lines_from s false (line ++ (b ∷ [])))

abbrev pub lines_of : List ℕ → List Line
lines_of m = lines_from m false []

abbrev pub most_lines : ℕ
most_lines = 2048

abbrev pub longest : ℕ
longest = 256

-- 80: a line past the most, or too long; n lines stand before
unfoldable pub cut_from : ℕ → List Line → Result ℕ Fault
cut_from n [] = Ok n
cut_from n (l ∷ ls) = pick (leb most_lines n || ltb longest (length l.bytes)) (Err (at_line LongLine80 (n + 1))) (cut_from (n + 1) ls)

-- how many lines there are, or the first that is 80's
abbrev pub cut_of : List ℕ → Result ℕ Fault
cut_of m = cut_from 0 (lines_of m)

-- what the lines say; a last line without its end mark is 81's, as one that says nothing
abbrev pub line_told : Line → Told
line_told l = pick l.ended (told_of l.bytes) Nothing

abbrev pub told_in : List ℕ → List Told
told_in m = map line_told (lines_of m)
