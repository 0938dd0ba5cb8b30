-- The files that a program has read, one after another in one room. What a file has is the disk's: of it nothing is said here but how long
-- it can be.
-- Assumes nothing.
use Rattle.std.specs.Prelude.{ℕ, ◌+◌, ◌*◌, ◌≤◌, Bool, List, [], ◌∷◌, ◌++◌, Option, eqb, get_or, take, drop}
use Rattle.std.specs.Io.KnownBytes.{Appends}
use Rattle.laws.specs.Find.{any}
use Rattle.laws.specs.Row.{row}
use Rattle.record.specs.Table.{file_count}
use Rattle.judge.specs.Line.{big}

-- a file's part of the room: one byte more than a program takes
abbrev pub file_room : ℕ
file_room = big + 1

-- instead of a file's length: it can't be read
abbrev pub failed : ℕ
failed = file_room + 1

-- a writer's bytes grew by a line: the name, a colon and a blank, and words
abbrev pub TellsOf : List ℕ → Option (List ℕ) → Option (List ℕ) → Type 0
TellsOf name old new = (words : List ℕ) × Appends old new (name ++ (58 ∷ 32 ∷ []) ++ words ++ (10 ∷ []))

-- each is the length of a file that fits its part, or that it can't be read
pub record Lengths (lens : List ℕ) : Type 0 where
  pub most : (i : ℕ) → get_or lens i 0 ≤ failed

-- a file was not read
unfoldable pub any_failed : List ℕ → Bool
any_failed lens = any (λ i. eqb (get_or lens i 0) failed) file_count

-- THE FILES: each from the start of its part on, as long as it is
unfoldable pub files_read : List ℕ → List ℕ → List (List ℕ)
files_read room lens = row (λ i. take (get_or lens i 0) (drop (file_room * i) room)) file_count
