-- The verdict program's line (document 01, "The verdict program"): `OK` and the counts, `NO` and the break, or `BIG` and the file.
-- Assumes nothing.
use Rattle.std.specs.Prelude.{ℕ, ◌+◌, ◌-◌, ◌*◌, Bool, false, List, [], ◌∷◌, ◌++◌, ltb, eqb, length, replicate}
use Rattle.laws.specs.Find.{first_index}
use Rattle.laws.specs.Row.{pick}
use Rattle.field.specs.Digits.{digits}
use Rattle.record.specs.Table.{Which}
use Rattle.std.specs.Prelude.{None, Some}
use Rattle.record.specs.declared.reason.Break.{Break}
use Rattle.record.specs.Breaks.{Finding}
use Rattle.std.specs.Prelude.{Ok, Err}
use Rattle.record.specs.Table.{which_of, file_count}
use Rattle.record.specs.Files.{Files}
use Rattle.record.specs.Breaks.{number_of}
use Rattle.keys.specs.Rules.{or_first}
use Rattle.judge.specs.declared.judge.Verdict.{Verdict}
use Rattle.judge.specs.declared.line.Line.{Line}
use Rattle.judge.specs.Verdict.{verdict_of}

-- each count after a blank, in five digits
unfoldable pub count_words : List ℕ → List ℕ
count_words [] = 10 ∷ []
count_words (n ∷ ns) = 32 ∷ (digits 5 n ++ count_words ns)

-- `NO`, reason in two digits, file in one, record in five, field in two
abbrev pub break_line : Break → List ℕ
break_line b =
    78 ∷ 79 ∷ 32 ∷ (digits 2 (number_of b.reason) ++ 32 ∷ (digits 1 b.file ++ 32 ∷ (digits 5 b.«record» ++ 32 ∷ (digits 2 b.field ++ 10 ∷ []))))

abbrev pub line_for : Finding → List ℕ → List ℕ
line_for (Ok u) counts = 79 ∷ 75 ∷ count_words counts
line_for (Err b) counts = break_line b

-- `OK` and the counts; or the break
unfoldable pub line_of : Verdict → List ℕ
line_of v = line_for v.finding v.counts

-- the program takes no file of more bytes
abbrev pub big : ℕ
big = 8192

-- the file has more
abbrev pub is_big : Files → Which → Bool
is_big files None = false
is_big files (Some k) = ltb big (length (files k))

-- the lowest number of such a file, and 0 where none is
unfoldable pub big_of : Files → ℕ
big_of files = or_first (first_index (λ n. is_big files (which_of n)) (file_count + 1))

-- `BIG` and the file in one digit
abbrev pub big_line : ℕ → List ℕ
big_line file = 66 ∷ 73 ∷ 71 ∷ 32 ∷ (digits 1 file ++ 10 ∷ [])

-- what a program prints that has a text for files of which none is big: BIG goes before everything
unfoldable pub or_big : (Files → List ℕ) → Files → List ℕ
or_big text files = pick (eqb (big_of files) 0) (text files) (big_line (big_of files))

-- THE LINE that the program prints
abbrev pub program_line : Files → List ℕ
program_line files = or_big (λ all. line_of (verdict_of all)) files

-- a line in the hand of the program: its length, and its bytes at the start of an array, in which those past it are 0. The longest is `OK`,
-- the counts and the line feed
abbrev pub line_room : ℕ
line_room = 3 + 6 * file_count

unfoldable pub line_in : List ℕ → Line
line_in s = record { len = length s; bytes = s ++ replicate (line_room - length s) 0 }
