-- The rules of keys and references: one test for each of the reasons 30, 40 and 41, true where the rule is broken at field f of
-- record i (counted from 0) of file k.
-- Assumes nothing.
use Rattle.std.specs.Prelude.{ℕ, suc, Bool, false, not, ◌&&◌, List, [], ◌∷◌, eqb, get_or}
use Rattle.std.proofs.Math.Option.{Option, none, some}
use Rattle.laws.specs.Find.{any, first_index, names}
use Rattle.record.specs.declared.kind.Kind.{Kind}
use Rattle.record.specs.declared.kind.Kind.TheVariants.{Catalogo}
use Rattle.record.specs.declared.reason.Reason.{Reason}
use Rattle.record.specs.declared.reason.Reason.TheVariants.{SameKey30, NoRecord40, OtherType41}
use Rattle.record.specs.Table.{keys_of, file_of, target_of, letter_of}
use Rattle.record.specs.Says.{Table, letter_in}
use Rattle.record.specs.declared.kind.Target.{Target}
use Rattle.record.specs.declared.kind.Target.TheVariants.{Free, Nowhere, To}
use Rattle.record.specs.Files.{Delivery}
use Rattle.record.specs.Names.{name_at, key_of}

-- the first of n that has the number x, counted from 0; 0 where none has
abbrev pub or_first : Option ℕ → ℕ
or_first none = 0
or_first (some j) = j

abbrev pub first_with : (ℕ → ℕ) → ℕ → ℕ → ℕ
first_with key n x = or_first (first_index (λ j. eqb (key j) x) n)

-- the key of record i is an earlier record's
unfoldable pub repeats : (ℕ → ℕ) → ℕ → Bool
repeats key i = names key i (key i)

-- 30: key equals an earlier record's of the file; told at the key's last field, field 1, in VERTICE 2
unfoldable pub breaks30 : Delivery → Kind → ℕ → ℕ → Bool
breaks30 d k i f = eqb f (keys_of k) && repeats (key_of k (d k)) i

-- a name that isn't missing and that none of n has
unfoldable pub dangles : (ℕ → ℕ) → ℕ → ℕ → Bool
dangles key n x = not (eqb x 0) && not (names key n x)

abbrev pub dangles_to : Target → Delivery → ℕ → Bool
dangles_to Free d x = false
dangles_to Nowhere d x = not (eqb x 0)
dangles_to (To k g) d x = dangles (λ j. name_at k (d k) j g) (d k).count x

-- 40: a reference that isn't missing names no record
unfoldable pub breaks40 : Delivery → Kind → ℕ → ℕ → Bool
breaks40 d k i f = dangles_to (target_of k f) d (name_at k (d k) i f)

-- the code x is catalogued under the type
unfoldable pub typed_in : ℕ → Table → ℕ → Bool
typed_in letter c x = any (λ j. eqb (name_at Catalogo c j 1) x && eqb (letter_in (c.says j 2)) letter) c.count

-- the code x is catalogued, and not under the type
unfoldable pub mistyped : ℕ → Table → ℕ → Bool
mistyped letter c x = names (λ j. name_at Catalogo c j 1) c.count x && not (typed_in letter c x)

abbrev pub refers_to_catalogue : Target → Bool
refers_to_catalogue Free = false
refers_to_catalogue Nowhere = false
refers_to_catalogue (To k g) = eqb (file_of k) (file_of Catalogo)

-- 41: CODIGO is catalogued under another type than this file's
unfoldable pub breaks41 : Delivery → Kind → ℕ → ℕ → Bool
breaks41 d k i f = refers_to_catalogue (target_of k f) && mistyped (letter_of k) (d Catalogo) (name_at k (d k) i f)

-- the tests of a place, by the tens of the reason
unfoldable pub key_tests : ℕ → Delivery → Kind → ℕ → ℕ → List Bool
key_tests t d k i f =
    get_or ([] ∷ [] ∷ [] ∷ (breaks30 d k i f ∷ []) ∷ (breaks40 d k i f ∷ breaks41 d k i f ∷ []) ∷ []) t []

-- the reasons, with their data: the number of the first earlier record with the key; the first letter that the code is catalogued under
unfoldable pub key_reasons : ℕ → Delivery → Kind → ℕ → ℕ → List Reason
key_reasons t d k i f =
    get_or
    ([] ∷ [] ∷ []
    ∷ (SameKey30 (suc (first_with (key_of k (d k)) i (key_of k (d k) i))) ∷ [])
    ∷ (NoRecord40
    ∷ OtherType41 (letter_in ((d Catalogo).says (first_with (λ j. name_at Catalogo (d Catalogo) j 1) (d Catalogo).count (name_at k (d k) i f)) 2))
    ∷ [])
    ∷ [])
    t []
