-- What one line of a metadata file says, by its bytes (document 02, W-206; READINGS-02).
-- Assumes nothing.
use Rattle.std.specs.Prelude.{ℕ, suc, ◌+◌, ◌-◌, ◌*◌, ◌^◌, Bool, false, not, ◌&&◌, ◌||◌, List, [], ◌∷◌, eqb, ltb, length, get_or, take, drop, Option, Some, None}
use Rattle.laws.specs.Row.{pick}
use Rattle.field.specs.declared.class.Class.TheVariants.{Digit}
use Rattle.field.specs.Bytes.{all_of}
use Rattle.field.specs.Texts.{trimmed}
use Rattle.metadata.specs.declared.told.Told.{Told}
use Rattle.metadata.specs.declared.told.Told.TheVariants.{Nothing, Empty, Section, Fichero, Other, Version, Name, Count, Size}
use Rattle.metadata.specs.Words.{is_word, version_key, name_key, count_key, count_key_accented, size_key, size_key_blank, section_word, file_named}

-- A SECTION: its first byte is [ and its last ]
unfoldable pub is_section : List ℕ → Bool
is_section t = eqb (get_or t 0 0) 91 && eqb (get_or t (length t - 1) 0) 93

-- FICHERO and digits, at least one, between them
unfoldable pub is_fichero : List ℕ → Bool
is_fichero t = ltb 9 (length t) && is_word section_word (take 8 t) && all_of Digit (take (length t - 9) (drop 8 t))

-- A KEY LINE: where its equals sign stands, the first with a byte before it that isn't blank; `some` says that there was one
unfoldable pub equals_from : Bool → List ℕ → ℕ
equals_from some [] = 0
equals_from some (b ∷ s) = pick (eqb b 61 && some) 0 (suc (equals_from (some || not (eqb b 32)) s))

abbrev pub equals_at : List ℕ → ℕ
equals_at t = equals_from false t

-- without the blanks before it
unfoldable pub unled : List ℕ → List ℕ
unled [] = []
unled (b ∷ s) = pick (eqb b 32) (unled s) (b ∷ s)

-- blanks are dropped beside the equals sign only
abbrev pub key_of : List ℕ → List ℕ
key_of t = trimmed (take (equals_at t) t)

abbrev pub value_of : List ℕ → List ℕ
value_of t = unled (drop (equals_at t + 1) t)

-- A NUMBER is digits, any number of them, after what they are added to
unfoldable pub decimal : ℕ → List ℕ → ℕ
decimal n [] = n
decimal n (b ∷ s) = decimal (n * 10 + (b - 48)) s

-- too large for any file
abbrev pub too_many : ℕ
too_many = 10 ^ 18

-- a number that a file may have; any other value differs from all of these
unfoldable pub number_in : List ℕ → Option ℕ
number_in t = pick (not (eqb (length t) 0) && all_of Digit t && ltb (decimal 0 t) too_many) (Some (decimal 0 t)) None

abbrev pub is_one : Option ℕ → Bool
is_one (Some n) = eqb n 1
is_one None = false

-- what a key with a value says; other keys are passed over
unfoldable pub key_told : List ℕ → List ℕ → Told
key_told key value =
    pick (is_word version_key key) (Version (is_one (number_in value)))
    (pick (is_word name_key key) (Name (file_named value))
    (pick (is_word count_key key || is_word count_key_accented key) (Count (number_in value))
    (pick (is_word size_key key || is_word size_key_blank key) (Size (number_in value)) Other)))

-- WHAT A LINE SAYS, by its bytes
unfoldable pub told_of : List ℕ → Told
told_of t =
    pick (eqb (length t) 0) Empty
    (pick (is_section t) (pick (is_fichero t) Fichero Section)
    (pick (ltb (equals_at t) (length t)) (key_told (key_of t) (value_of t)) Nothing))
