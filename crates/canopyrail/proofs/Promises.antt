-- WHAT THE PROJECT PROMISES, all of it: each promise stated in full in terms of specs/ alone, its proof a citation of where the work is
-- done. The code's contracts tie the code to the same definitions: `judge` gives verdict_of, `program_line` gives program_line, `grid_of`
-- gives grid_of, `add` and `add_finding` give add_of and add_finding, `program_rows` gives program_rows, codec's `read` and `write` do read_of and
-- Writes, the library's `canopyrail_read`, `canopyrail_write`, `canopyrail_grid` and `canopyrail_grid_add` do Reads, WritesLent, Counts and Adds. Of
-- lent memory N, C, L and T are the numbers, coordinates, lengths and texts before a call, N', C', L' and T' after it. docs/PROMISES.md has
-- the same in plain words.
-- Assumes nothing.
use Prim.Native.Nat.{ℕ, ◌+◌, ◌-◌, ◌/◌, ◌%◌, ◌<◌, ◌≤◌}
use mathlib.Core.Bool.{true, false}
use mathlib.Core.List.{List, [], ◌∷◌, map, ◌++◌}
use mathlib.Core.Path.{◌≡◌, sym, ap, ◌∙◌}
use mathlib.Core.Logic.{◌⊎◌}
use lib.Dec.{eqb}
use lib.IntN.{ℤ}
use lib.ListN.{length, take, drop, get_or, replicate}
use Rattle.laws.specs.Count.{total}
use Rattle.laws.specs.Nest.{before}
use Rattle.laws.specs.Row.{pick}
use Rattle.record.specs.declared.kind.Kind.{Kind}
use Rattle.std.specs.Prelude.{None, Some}
use Rattle.record.specs.declared.reason.Reason.{Reason}
use Rattle.record.specs.declared.reason.Reason.TheVariants.{NoFile60, ShortRoom61, NoSuchRecord66}
use Rattle.record.specs.declared.reason.Break.{Break}
use Rattle.std.specs.Prelude.{Ok, Err}
use Rattle.record.specs.Table.{fields_of, file_of, length_of, width_at, which_of, on_file, file_count, most_fields, limit}
use Rattle.record.specs.Files.{Files, files_of}
use Rattle.record.specs.Cut.{count_of, record_of}
use Rattle.record.specs.Rules.{twenties}
use Rattle.record.specs.Breaks.{number_of}
use Rattle.codec.specs.declared.values.Values.{Values}
use Rattle.codec.specs.Calls.{Answer}
use Rattle.std.specs.Prelude.{Ok, Err}
use Rattle.codec.specs.Calls.{refused}
use Rattle.codec.specs.Calls.{Reading, answer_read, values_read}
use Rattle.codec.specs.Values.{values_say}
use Rattle.codec.specs.Refusals.{sixties}
use Rattle.codec.specs.Calls.{read_of, answer_as, room_as, Writes}
use Rattle.codec.proofs.Theorems as one
use Rattle.judge.specs.declared.judge.Verdict.{Verdict}
use Rattle.judge.specs.declared.line.Line.{Line}
use Rattle.judge.specs.Verdict.{judged, verdict_of}
use Rattle.judge.specs.Line.{big, program_line, line_in}
use Rattle.judge.specs.Broken.{groups, holds, place_at, Judges}
use Rattle.judge.specs.Words.{SameButWords}
use Rattle.judge.specs.Obeys.{Records, Obeys, made_of, accepted, Shuffled}
use Rattle.judge.specs.Cases.{outcome, table}
use Rattle.judge.proofs.Exact as exactly
use Rattle.judge.proofs.FreeWords as words
use Rattle.judge.proofs.Writer as writer
use Rattle.judge.proofs.CutShort as short
use Rattle.judge.proofs.Cases as cases
use Rattle.grids.specs.declared.rows.Rows.{Rows}
use Rattle.grids.specs.Grid.{Grid, lowest, cell_of, grid_of}
use Rattle.grids.specs.Listed.{Breaks, BreaksIn}
use Rattle.grids.specs.Sum.{most_in_cell, cell_at, refused67, add_finding, add_of}
use Rattle.grids.specs.Rows.{program_rows, rows_in}
use Rattle.grids.proofs.Meaning as counted
use Rattle.grids.proofs.SumLaws as sums
use Rattle.canopyrail.specs.Answers.{other_of, finding_word, reason_in, file_in, record_in, field_in, other_in}
use Rattle.canopyrail.specs.Lent.{lent_offset, lent_form, roomy, Reads, lent_values, WritesLent}
use Rattle.canopyrail.specs.Cells.{lent_cells, grid_in, Counts, Adds}
use Rattle.canopyrail.proofs.CallLaws as calls
use Rattle.canopyrail.proofs.CellLaws as cells
use Rattle.canopyrail.proofs.Fits as fits
use Rattle.canopyrail.proofs.Others as others
use Rattle.canopyrail.proofs.Border as border
use Rattle.canopyrail.proofs.Back as back

-- 1. TOTAL, AND LENT MEMORY. No call of the library asks for anything: each ends on every input with an outcome that its contract
-- allows, and 9 says that there is one. A refusal leaves every lent byte; success writes at the start of the room and touches no other.
pub refusal-leaves-room :
    (file : ℕ) (v : Values) (room after : List ℕ) (reason : Reason) (field : ℕ) → Writes file v room (refused reason field) after → after ≡ room
refusal-leaves-room = one.refusal-leaves-room

pub success-touches-no-other :
    (file : ℕ) (k : Kind) → which_of file ≡ Some k → (v : Values) (room after : List ℕ) → Writes file v room (Ok tt) after
    → (drop (length_of k) after ≡ drop (length_of k) room) × (length after ≡ length room)
success-touches-no-other = one.success-touches-no-other

-- So does the library: an answer that is not 0 is a refusal.
pub refused-reading-leaves-all :
    (file : ℕ) (s : List ℕ) (n : ℕ) (N : List ℕ) (C : List ℤ) (L T : List ℕ) (r : ℕ) (N' : List ℕ) (C' : List ℤ) (L' T' : List ℕ)
    → Reads file s n N C L T r N' C' L' T' → (r ≡ 0 → ⊥)
    → (N' ≡ N) × (C' ≡ C) × (L' ≡ L) × (T' ≡ T)
refused-reading-leaves-all file s n N C L T r N' C' L' T' w never = (w.numbers_stay never, w.coordinates_stay never, w.lengths_stay never, w.texts_stay never)

pub refused-writing-leaves-room : (file : ℕ) (v : Values) (room : List ℕ) (r : ℕ) (after : List ℕ) → WritesLent file v room r after → (r ≡ 0 → ⊥) → after ≡ room
refused-writing-leaves-room = border.room-left

pub refused-grid-leaves-cells : (files : Files) (cells : List ℕ) (r : ℕ) (after : List ℕ) → Counts files cells r after → (r ≡ 0 → ⊥) → after ≡ cells
refused-grid-leaves-cells files cells r after w = w.stays

pub refused-adding-leaves-cells : (into from : List ℕ) (r : ℕ) (after : List ℕ) → Adds into from r after → (r ≡ 0 → ⊥) → after ≡ into
refused-adding-leaves-cells into from r after w = w.stays

-- 2. CODEC. Reading what was written gives the same values;
pub reads-what-was-written :
    (file : ℕ) (k : Kind) → which_of file ≡ Some k → (v : Values) (room after : List ℕ) → Writes file v room (Ok tt) after
    → (answer_read (read_of file after 1) ≡ Ok tt)
    × ((f : ℕ) → 1 ≤ f → f ≤ fields_of k → values_say k (values_read (read_of file after 1)) f ≡ values_say k v f)
reads-what-was-written = one.reads-what-was-written

-- writing what was read from a lawful record gives the same bytes.
pub writes-what-was-read :
    (file : ℕ) (k : Kind) → which_of file ≡ Some k → (s : List ℕ) (n : ℕ) → answer_read (read_of file s n) ≡ Ok tt
    → (room after : List ℕ) (a : Answer) → length_of k ≤ length room → Writes file (values_read (read_of file s n)) room a after
    → (a ≡ Ok tt) × (after ≡ record_of s k (n - 1) ++ drop (length_of k) room)
writes-what-was-read = one.writes-what-was-read

-- A record is read exactly if it is lawful: none of the tests 20 to 25 holds at any of its fields (0 is the record); what is written is.
pub lawful-exactly-if-read :
    (file : ℕ) (k : Kind) → which_of file ≡ Some k → (s : List ℕ) (n : ℕ) → 1 ≤ n → n ≤ count_of s k
    → (answer_read (read_of file s n) ≡ Ok tt → (f u : ℕ) → f ≤ fields_of k → get_or (twenties (record_of s k (n - 1)) k f) u false ≡ false)
    × (((f u : ℕ) → f ≤ fields_of k → get_or (twenties (record_of s k (n - 1)) k f) u false ≡ false) → answer_read (read_of file s n) ≡ Ok tt)
lawful-exactly-if-read = one.lawful-exactly-if-read

pub written-is-lawful :
    (file : ℕ) (k : Kind) → which_of file ≡ Some k → (v : Values) (room after : List ℕ) → Writes file v room (Ok tt) after
    → (f u : ℕ) → f ≤ fields_of k → get_or (twenties (record_of after k 0) k f) u false ≡ false
written-is-lawful = one.written-is-lawful

-- Values are written into a room that is long enough exactly if none of the tests 62 to 65 holds at any field;
pub sayable-exactly-if-written :
    (file : ℕ) (k : Kind) → which_of file ≡ Some k → (v : Values) (room : List ℕ) (a : Answer) (after : List ℕ) → Writes file v room a after
    → length_of k ≤ length room
    → (a ≡ Ok tt → (f u : ℕ) → f ≤ fields_of k → get_or (sixties k (values_say k v) f) u false ≡ false)
    × (((f u : ℕ) → f ≤ fields_of k → get_or (sixties k (values_say k v) f) u false ≡ false) → a ≡ Ok tt)
sayable-exactly-if-written = one.sayable-exactly-if-written

-- and those that say the same in each field are answered and written alike.
pub said-alike :
    (file : ℕ) (k : Kind) → which_of file ≡ Some k → (v w : Values)
    → ((f : ℕ) → 1 ≤ f → f ≤ fields_of k → values_say k v f ≡ values_say k w f) → (room : List ℕ)
    → (answer_as (which_of file) v (length room) ≡ answer_as (which_of file) w (length room))
    × ((a : Answer) → room_as (which_of file) v room a ≡ room_as (which_of file) w room a)
said-alike = one.said-alike

-- A refusal is the first. Of reading: 60 where no file has the number; 66 where the file has no such record; else the first by field and
-- reason of what is broken in the record, 20 to 25.
pub reading-refuses-first :
    (file : ℕ) (s : List ℕ) (n : ℕ)
    → (which_of file ≡ None → answer_read (read_of file s n) ≡ refused NoFile60 0)
    × ((k : Kind) → which_of file ≡ Some k
    → ((n ≡ 0) ⊎ (count_of s k < n) → answer_read (read_of file s n) ≡ refused NoSuchRecord66 0)
    × (1 ≤ n → n ≤ count_of s k → (reason : Reason) (field : ℕ) → answer_read (read_of file s n) ≡ refused reason field
    → (number_of reason / 10 ≡ 2)
    × (field ≤ fields_of k)
    × (get_or (twenties (record_of s k (n - 1)) k field) (number_of reason % 10) false ≡ true)
    × ((m f : ℕ) → m / 10 ≡ 2 → f ≤ fields_of k → get_or (twenties (record_of s k (n - 1)) k f) (m % 10) false ≡ true
    → before (f ∷ m ∷ []) (field ∷ number_of reason ∷ []) ≡ true → ⊥)))
reading-refuses-first = one.reading-refuses-first

-- Of writing: 60 where no file has the number; 61 where the room is too short; else the first by field and reason of 62 to 65.
pub writing-refuses-first :
    (file : ℕ) (v : Values) (room : List ℕ) (a : Answer) (after : List ℕ) → Writes file v room a after
    → (which_of file ≡ None → a ≡ refused NoFile60 0)
    × ((k : Kind) → which_of file ≡ Some k
    → (length room < length_of k → a ≡ refused ShortRoom61 0)
    × (length_of k ≤ length room → (reason : Reason) (field : ℕ) → a ≡ refused reason field
    → (62 ≤ number_of reason)
    × (number_of reason ≤ 65)
    × (field ≤ fields_of k)
    × (get_or (sixties k (values_say k v) field) (number_of reason - 62) false ≡ true)
    × ((m f : ℕ) → 62 ≤ m → f ≤ fields_of k → get_or (sixties k (values_say k v) f) (m - 62) false ≡ true
    → before (f ∷ m ∷ []) (field ∷ number_of reason ∷ []) ≡ true → ⊥)))
writing-refuses-first = one.writing-refuses-first

-- The library's calls: a record that is read into lent arrays is written back from them, into any room that is long enough: 0, and the
-- room begins with the record that was read, byte by byte, and is else as it was;
pub read-is-written-back :
    (file : ℕ) (k : Kind) → which_of file ≡ Some k
    → (s : List ℕ) (n : ℕ) (N : List ℕ) (C : List ℤ) (L T N' : List ℕ) (C' : List ℤ) (L' T' : List ℕ) → Reads file s n N C L T 0 N' C' L' T'
    → (room : List ℕ) (r : ℕ) (after : List ℕ) → length_of k ≤ length room → WritesLent file (lent_values N' C' L' T') room r after
    → (r ≡ 0) × (after ≡ record_of s k (n - 1) ++ drop (length_of k) room)
read-is-written-back file k e s n N C L T N' C' L' T' w = back.written_back file k e s n w

-- what is written from lent arrays is read back into any that are long enough: 0, and they say the same in each field.
pub written-is-read-back :
    (file : ℕ) (k : Kind) → which_of file ≡ Some k
    → (N : List ℕ) (C : List ℤ) (L T room after : List ℕ) → WritesLent file (lent_values N C L T) room 0 after
    → (N0 : List ℕ) (C0 : List ℤ) (L0 T0 : List ℕ) (r : ℕ) (N' : List ℕ) (C' : List ℤ) (L' T' : List ℕ)
    → roomy (length N0) (length C0) (length L0) (length T0) ≡ true → Reads file after 1 N0 C0 L0 T0 r N' C' L' T'
    → (r ≡ 0) × ((f : ℕ) → 1 ≤ f → f ≤ fields_of k → values_say k (lent_values N' C' L' T') f ≡ values_say k (lent_values N C L T) f)
written-is-read-back file k e N C L T room after w = back.read_back file k e (lent_values N C L T) room after w

-- Of a refusal, reason and field are had back from the answer: those that `read_of` refuses with, or 61 at no field, where it would
-- read the record and the arrays are too short for it;
pub refused-reading-tells :
    (file : ℕ) (s : List ℕ) (n : ℕ) (N : List ℕ) (C : List ℤ) (L T : List ℕ) (r : ℕ) (N' : List ℕ) (C' : List ℤ) (L' T' : List ℕ)
    → Reads file s n N C L T r N' C' L' T' → (r ≡ 0 → ⊥)
    → (reason : Reason) × (field : ℕ)
    × ((answer_read (read_of file s n) ≡ refused reason field)
    ⊎ ((answer_read (read_of file s n) ≡ Ok tt) × (roomy (length N) (length C) (length L) (length T) ≡ false) × (reason ≡ ShortRoom61) × (field ≡ 0)))
    × (reason_in r ≡ number_of reason)
    × (field_in r ≡ field)
refused-reading-tells = border.read-tells

-- and those that writing is refused with.
pub refused-writing-tells :
    (file : ℕ) (v : Values) (room : List ℕ) (r : ℕ) (after : List ℕ) → WritesLent file v room r after → (r ≡ 0 → ⊥)
    → (reason : Reason) × (field : ℕ)
    × (answer_as (which_of file) v (length room) ≡ refused reason field)
    × (reason_in r ≡ number_of reason)
    × (field_in r ≡ field)
refused-writing-tells = border.written-tells

-- 3. THE VERDICT. Its finding is Ok exactly if no rule is broken; else it is the break that is broken and before which none is. Its
-- counts are the whole records of each file. Only one verdict means that. (A rule is broken where its test holds and no test of a lower ten
-- does.)
pub exact : (files : Files) → Judges files (verdict_of files)
exact = exactly.exact

pub exact_one : (files : Files) (v w : Verdict) → Judges files v → Judges files w → v ≡ w
exact_one = exactly.exact_one

-- It would be the same if rules were read whatever lower tens have: accepted exactly if no test holds anywhere; else no test holds before the
-- break shown.
pub accepted-plainly :
    (files : Files)
    → (judged files ≡ Ok tt → (n : ℕ) (k : Kind) (i f : ℕ) → holds files n k i f ≡ false)
    × (((n : ℕ) (k : Kind) (i f : ℕ) → holds files n k i f ≡ false) → judged files ≡ Ok tt)
accepted-plainly = exactly.accepted-plainly

pub first-plainly :
    (files : Files) (b : Break) → judged files ≡ Err b → (n : ℕ) (k : Kind) (i f : ℕ) → holds files n k i f ≡ true
    → before (place_at n k i f) (number_of b.reason / 10 ∷ b.file ∷ b.«record» ∷ b.field ∷ number_of b.reason ∷ []) ≡ true → ⊥
first-plainly = exactly.first-plainly

-- The library's answer is 0 exactly if the delivery is accepted;
pub accepted-is-zero : (files : Files) → judged files ≡ Ok tt → finding_word (judged files) ≡ 0
accepted-is-zero files e = ap finding_word e

pub zero-is-accepted : (files : Files) → finding_word (judged files) ≡ 0 → judged files ≡ Ok tt
zero-is-accepted files e = calls.zero-fine (judged files) e

-- else reason, file, record and field are had back from it, and what the reason carries: the earlier record of 30 and 54, the letter of
-- 41. For all that is shown fits its digits.
pub place-fits : (files : Files) (b : Break) → judged files ≡ Err b → (b.file ≤ file_count) × (b.«record» ≤ limit + 1) × (b.field ≤ most_fields)
place-fits = fits.place-fits

pub other_fits : (files : Files) (b : Break) → judged files ≡ Err b → other_of b.reason ≤ pick (eqb (number_of b.reason) 41) 255 limit
other_fits = others.other_fits

pub answer-tells :
    (files : Files) (b : Break) → judged files ≡ Err b
    → (reason_in (finding_word (judged files)) ≡ number_of b.reason)
    × (file_in (finding_word (judged files)) ≡ b.file)
    × (record_in (finding_word (judged files)) ≡ b.«record»)
    × (field_in (finding_word (judged files)) ≡ b.field)
    × (other_in (finding_word (judged files)) ≡ other_of b.reason)
answer-tells = others.answer-tells

-- 4. THE WRITER'S PROMISE: values that obey the rules, as files that the writer makes of them, are accepted, with their counts,
pub writer-promise : (vs : Records) → Obeys vs → verdict_of (made_of vs) ≡ accepted vs
writer-promise = writer.writer-promise

-- in any order of records.
pub writer-promise-any-order : (vs ws : Records) → Obeys vs → ((k : Kind) → Shuffled (vs k) (ws k)) → verdict_of (made_of ws) ≡ accepted vs
writer-promise-any-order = writer.writer-promise-any-order

-- 5. FREE WORDS: two deliveries that differ only in the names, LITERAL and DEFINICI, all lawful, get the same verdict.
pub free-words : (files others : Files) → SameButWords files others → verdict_of files ≡ verdict_of others
free-words = words.free-words

-- 6. THE PROGRAM'S LINE: the program reads no more than one byte past the 8,192 that it takes of a file, and its line is that of the
-- whole files.
pub program-reads-enough : (files cut : Files) → ((k : Kind) → cut k ≡ take (big + 1) (files k)) → program_line cut ≡ program_line files
program-reads-enough files cut h = short.cut_short files cut h _

-- 7. THE 14 CASES of document 01: one table, computed.
pub fourteen-cases : map (λ c. outcome c.0) table ≡ map (λ c. c.1) table
fourteen-cases = cases.cases

-- 8. THE GRID (document 02, W-201). There is a list of reasons with their places, each in it once and in it exactly if it is broken, and the
-- grid's total is its length. (What is broken is of the lowest ten that has a break.)
pub every-break-once : (files : Files) → (list : List (List ℕ)) × Breaks files list × (length list ≡ total (map total (grid_of files)))
every-break-once = counted.every-break-once

-- So it is in each file: of its breaks there is such a list, and the cell of the lowest ten is its length; the cells of the others are 0.
pub each-file-once :
    (files : Files) (k : Kind) → (list : List (List ℕ)) × BreaksIn files k list × (length list ≡ cell_of files k (lowest files))
each-file-once = counted.each-file-once

pub other-tens-zero : (files : Files) (k : Kind) (t : ℕ) → (t ≡ lowest files → ⊥) → cell_of files k t ≡ 0
other-tens-zero = counted.other-tens-zero

-- It is zero exactly if the delivery is accepted;
pub grid-zero-exactly :
    (files : Files)
    → (judged files ≡ Ok tt → grid_of files ≡ replicate file_count (replicate groups 0))
    × (grid_of files ≡ replicate file_count (replicate groups 0) → judged files ≡ Ok tt)
grid-zero-exactly = counted.zero-exactly

-- else the break shown is of the grid's ten, and its file's cell isn't zero.
pub shown-is-counted :
    (files : Files) (b : Break) → judged files ≡ Err b
    → (k : Kind) × (file_of k ≡ b.file) × (lowest files ≡ number_of b.reason / 10) × (0 < cell_of files k (number_of b.reason / 10))
shown-is-counted = counted.shown-counted

-- Every cell fits ten digits.
pub cell-fits : (files : Files) (k : Kind) (t : ℕ) → cell_of files k t ≤ most_in_cell
cell-fits = counted.cell-fits

-- Adding is refused with 67 exactly if a cell's sum is over 9,999,999,999, and then the grid is as it was;
pub refused-67-exactly :
    (a b : Grid)
    → (add_finding a b ≡ refused67 → (i : ℕ) × (g : ℕ) × (i < file_count) × (g < groups) × (most_in_cell < cell_at a i g + cell_at b i g))
    × ((i g : ℕ) → i < file_count → g < groups → most_in_cell < cell_at a i g + cell_at b i g → (add_finding a b ≡ refused67) × (add_of a b ≡ a))
refused-67-exactly = sums.refused-exactly

-- else each cell is the sum,
pub added-exactly :
    (a b : Grid) → add_finding a b ≡ Ok tt → (i g : ℕ) → i < file_count → g < groups → cell_at (add_of a b) i g ≡ cell_at a i g + cell_at b i g
added-exactly = sums.added-exactly

-- in any order, and in any grouping, of which none is refused where one isn't.
pub added-any-order : (a b : Grid) → add_finding a b ≡ Ok tt → (add_finding b a ≡ Ok tt) × (add_of a b ≡ add_of b a)
added-any-order = sums.added-any-order

pub added-any-grouping :
    (a b c : Grid) → add_finding a b ≡ Ok tt → add_finding (add_of a b) c ≡ Ok tt
    → (add_finding b c ≡ Ok tt) × (add_finding a (add_of b c) ≡ Ok tt) × (add_of (add_of a b) c ≡ add_of a (add_of b c))
added-any-grouping = sums.added-any-grouping

-- The grid that the library puts into lent cells is the one that it takes from them.
pub put-is-held : (files : Files) (rest : List ℕ) → grid_in (lent_cells (grid_of files) ++ rest) ≡ grid_of files
put-is-held = cells.grid-held

-- The program `grid` reads no more than one byte past the 8,192 that it takes of a file, and its rows are those of the whole files.
pub rows-read-enough : (files cut : Files) → ((k : Kind) → cut k ≡ take (big + 1) (files k)) → program_rows cut ≡ program_rows files
rows-read-enough files cut h = short.cut_short files cut h _

-- 9. ONE OUTCOME A CALL: any two that its contract allows coincide. Of `judge`, `program_line`, and codec's `read` and `write`:
pub one-verdict : (files : Files) (v w : Verdict) → v ≡ verdict_of files → w ≡ verdict_of files → v ≡ w
one-verdict files v w e e' = e ∙ sym e'

pub one_line : (files : Files) (l l' : Line) → l ≡ line_in (program_line files) → l' ≡ line_in (program_line files) → l ≡ l'
one_line files l l' e e' = e ∙ sym e'

pub one-reading : (file : ℕ) (s : List ℕ) (n : ℕ) (r r' : Reading) → r ≡ read_of file s n → r' ≡ read_of file s n → r ≡ r'
one-reading = one.one-reading

pub one-writing :
    (file : ℕ) (v : Values) (room : List ℕ) (a a' : Answer) (after after' : List ℕ) → Writes file v room a after → Writes file v room a' after'
    → (a ≡ a') × (after ≡ after')
one-writing = one.one-writing

-- Of the grid, of grids added, and of the rows:
pub one-grid : (files : Files) (a b : Grid) → a ≡ grid_of files → b ≡ grid_of files → a ≡ b
one-grid files a b e e' = e ∙ sym e'

pub one-sum : (a b s s' : Grid) → s ≡ add_of a b → s' ≡ add_of a b → s ≡ s'
one-sum a b s s' e e' = e ∙ sym e'

pub one-rows : (files : Files) (r r' : Rows) → r ≡ rows_in (program_rows files) → r' ≡ rows_in (program_rows files) → r ≡ r'
one-rows files r r' e e' = e ∙ sym e'

-- Of the library's calls on a delivery,
pub judge-once : (files : List (List ℕ)) (r r' : ℕ) → r ≡ finding_word (judged (files_of files)) → r' ≡ finding_word (judged (files_of files)) → r ≡ r'
judge-once files r r' e e' = e ∙ sym e'

pub count-once : (file : ℕ) (s : List ℕ) (r r' : ℕ) → r ≡ on_file (count_of s) (which_of file) → r' ≡ on_file (count_of s) (which_of file) → r ≡ r'
count-once file s r r' e e' = e ∙ sym e'

-- and on grids, what the lent cells hold included,
pub grid-once :
    (files : Files) (cells : List ℕ) (r r' : ℕ) (after after' : List ℕ) → Counts files cells r after → Counts files cells r' after' → (r ≡ r') × (after ≡ after')
grid-once = cells.counts-once

pub grid-add-once :
    (into from : List ℕ) (r r' : ℕ) (after after' : List ℕ) → Adds into from r after → Adds into from r' after' → (r ≡ r') × (after ≡ after')
grid-add-once = cells.adds-once

-- on one record, what the lent memory holds included,
pub read-once :
    (file : ℕ) (s : List ℕ) (n : ℕ) (N : List ℕ) (C : List ℤ) (L T : List ℕ)
    (r : ℕ) (N' : List ℕ) (C' : List ℤ) (L' T' : List ℕ) (r' : ℕ) (N'' : List ℕ) (C'' : List ℤ) (L'' T'' : List ℕ)
    → Reads file s n N C L T r N' C' L' T' → Reads file s n N C L T r' N'' C'' L'' T''
    → (r ≡ r') × (N' ≡ N'') × (C' ≡ C'') × (L' ≡ L'') × (T' ≡ T'')
read-once = border.read-once

pub write-once :
    (file : ℕ) (N : List ℕ) (C : List ℤ) (L T room : List ℕ) (r r' : ℕ) (after after' : List ℕ)
    → WritesLent file (lent_values N C L T) room r after → WritesLent file (lent_values N C L T) room r' after'
    → (r ≡ r') × (after ≡ after')
write-once file N C L T = border.written_once file (lent_values N C L T)

-- on the table of the files,
pub fields-once : (file r r' : ℕ) → r ≡ on_file fields_of (which_of file) → r' ≡ on_file fields_of (which_of file) → r ≡ r'
fields-once file r r' e e' = e ∙ sym e'

pub length-once : (file r r' : ℕ) → r ≡ on_file length_of (which_of file) → r' ≡ on_file length_of (which_of file) → r ≡ r'
length-once file r r' e e' = e ∙ sym e'

pub offset-once :
    (file field r r' : ℕ) → r ≡ on_file (λ k. lent_offset k field) (which_of file) → r' ≡ on_file (λ k. lent_offset k field) (which_of file) → r ≡ r'
offset-once file field r r' e e' = e ∙ sym e'

pub width-once : (file field r r' : ℕ) → r ≡ on_file (λ k. width_at k field) (which_of file) → r' ≡ on_file (λ k. width_at k field) (which_of file) → r ≡ r'
width-once file field r r' e e' = e ∙ sym e'

pub form-once : (file field r r' : ℕ) → r ≡ on_file (λ k. lent_form k field) (which_of file) → r' ≡ on_file (λ k. lent_form k field) (which_of file) → r ≡ r'
form-once file field r r' e e' = e ∙ sym e'

-- of those that take an answer apart, and of the version.
pub reason-once : (answer r r' : ℕ) → r ≡ reason_in answer → r' ≡ reason_in answer → r ≡ r'
reason-once answer r r' e e' = e ∙ sym e'

pub file-once : (answer r r' : ℕ) → r ≡ file_in answer → r' ≡ file_in answer → r ≡ r'
file-once answer r r' e e' = e ∙ sym e'

pub record-once : (answer r r' : ℕ) → r ≡ record_in answer → r' ≡ record_in answer → r ≡ r'
record-once answer r r' e e' = e ∙ sym e'

pub field-once : (answer r r' : ℕ) → r ≡ field_in answer → r' ≡ field_in answer → r ≡ r'
field-once answer r r' e e' = e ∙ sym e'

pub other-once : (answer r r' : ℕ) → r ≡ other_in answer → r' ≡ other_in answer → r ≡ r'
other-once answer r r' e e' = e ∙ sym e'

pub version-once : (r r' : ℕ) → r ≡ 204 → r' ≡ 204 → r ≡ r'
version-once r r' e e' = e ∙ sym e'
