-- A text in a field: its bytes, then blanks.
-- Assumes nothing.
use Rattle.std.specs.Prelude.{ℕ, zero, suc, ◌+◌, ◌-◌, ◌*◌, Bool, not, ◌&&◌, ◌||◌, List, ◌++◌, eqb, length, get_or, take, replicate}
use Rattle.laws.specs.Row.{pick}
use Rattle.field.specs.declared.class.Class.TheVariants.{Blank, Text}
use Rattle.field.specs.Bytes.{all_of, blanks}

-- the text, then blanks, up to the width w
unfoldable pub padded : ℕ → List ℕ → List ℕ
padded w t = take w (t ++ blanks w)

-- how many of the first k bytes are left without their trailing blanks
unfoldable pub trim_to : ℕ → List ℕ → ℕ
trim_to zero s = 0
trim_to (suc k) s = pick (eqb (get_or s k 0) 32) (trim_to k s) (suc k)

-- a field's text: its bytes without the trailing blanks
unfoldable pub trimmed : List ℕ → List ℕ
trimmed s = take (trim_to (length s) s) s

-- the text begins or ends in the byte
unfoldable pub edged_by : ℕ → List ℕ → Bool
edged_by b t = eqb (get_or t 0 0) b || eqb (get_or t (length t - 1) 0) b

-- the A rule, of a field's bytes: they are of the A set, the first is not blank unless all are, and the text neither begins nor ends in A0
unfoldable pub lawful_text : List ℕ → Bool
lawful_text s = all_of Text s && (all_of Blank s || not (eqb (get_or s 0 0) 32)) && not (edged_by 160 (trimmed s))

-- len bytes from the front; those past the end count as 0
unfoldable pub first_bytes : ℕ → List ℕ → List ℕ
first_bytes len s = take len (s ++ replicate len 0)

-- NA (not applicable) and ND (not available)
unfoldable pub not_given : List ℕ → Bool
not_given t = eqb (length t) 2 && eqb (get_or t 0 0) 78 && (eqb (get_or t 1 0) 65 || eqb (get_or t 1 0) 68)

-- the number that the first w bytes of s write with 256 for a base
unfoldable pub base256 : ℕ → List ℕ → ℕ
base256 zero s = 0
base256 (suc w) s = base256 w s * 256 + get_or s w 0

-- a text of up to eight bytes as one number: its bytes and then blanks
unfoldable pub word_of : List ℕ → ℕ
word_of t = base256 8 (padded 8 t)
