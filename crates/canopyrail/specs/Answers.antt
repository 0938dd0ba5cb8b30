-- The number that a call of the library answers with: 0, or a reason and its place in decimal digits.
-- Assumes nothing.
use Rattle.std.specs.Prelude.{ℕ, ◌+◌, ◌*◌, ◌/◌, ◌%◌}
use Rattle.record.specs.declared.reason.Reason.{Reason}
use Rattle.record.specs.declared.reason.Reason.TheVariants as R
use Rattle.record.specs.declared.reason.Break.{Break}
use Rattle.record.specs.Breaks.{Finding}
use Rattle.std.specs.Prelude.{Ok, Err}
use Rattle.record.specs.Breaks.{number_of}
use Rattle.codec.specs.Calls.{Answer}
use Rattle.std.specs.Prelude.{Ok, Err}

-- what a reason carries besides its place: the earlier record (30, 54), the letter that the code is catalogued under (41)
abbrev pub other_of : Reason → ℕ
other_of R.LongFile10 = 0
other_of R.RaggedFile11 = 0
other_of R.BadEnd20 = 0
other_of R.NoBar21 = 0
other_of R.NotNumber22 = 0
other_of R.NotText23 = 0
other_of R.Missing24 = 0
other_of R.Outside25 = 0
other_of (R.SameKey30 earlier) = earlier
other_of R.NoRecord40 = 0
other_of (R.OtherType41 letter) = letter
other_of R.OrderGap50 = 0
other_of R.OrderAlone51 = 0
other_of R.StartElsewhere52 = 0
other_of R.EndElsewhere53 = 0
other_of (R.SamePlace54 earlier) = earlier
other_of R.PointElsewhere55 = 0
other_of R.IdleNode56 = 0
other_of R.IdleObject57 = 0
other_of R.NodeType58 = 0
other_of R.NoLastVertex59 = 0
other_of R.NoFile60 = 0
other_of R.ShortRoom61 = 0
other_of R.TooLarge62 = 0
other_of R.BadText63 = 0
other_of R.Missing64 = 0
other_of R.Outside65 = 0
other_of R.NoSuchRecord66 = 0
other_of R.TooMany67 = 0
other_of R.UnknownSeason68 = 0
other_of R.IdleComposite70 = 0
other_of R.LongLine80 = 0
other_of R.OddLine81 = 0
other_of R.OtherVersion82 = 0
other_of R.OtherList83 = 0
other_of R.OtherKeys84 = 0
other_of R.OtherCount85 = 0
other_of R.OtherSize86 = 0

-- reason, file, record, field and other, in 2, 2, 5, 2 and 5 digits
unfoldable pub answer_number : ℕ → ℕ → ℕ → ℕ → ℕ → ℕ
answer_number reason file rec field other =
    (((reason * 100 + file % 100) * 100000 + rec % 100000) * 100 + field % 100) * 100000 + other % 100000

-- and each of them back
abbrev pub reason_in : ℕ → ℕ
reason_in a = a / 100000000000000

abbrev pub file_in : ℕ → ℕ
file_in a = a / 1000000000000 % 100

abbrev pub record_in : ℕ → ℕ
record_in a = a / 10000000 % 100000

abbrev pub field_in : ℕ → ℕ
field_in a = a / 100000 % 100

abbrev pub other_in : ℕ → ℕ
other_in a = a % 100000

-- a break
unfoldable pub break_word : Break → ℕ
break_word b = answer_number (number_of b.reason) b.file b.«record» b.field (other_of b.reason)

-- a refusal of a call on one record: no file and no record is told
unfoldable pub refusal_word : Reason → ℕ → ℕ
refusal_word reason field = answer_number (number_of reason) 0 0 field 0

-- THE ANSWERS: of a judging, and of a call on one record
abbrev pub finding_word : Finding → ℕ
finding_word (Ok u) = 0
finding_word (Err b) = break_word b

abbrev pub answer_word : Answer → ℕ
answer_word (Ok u) = 0
answer_word (Err r) = refusal_word r.reason r.field
