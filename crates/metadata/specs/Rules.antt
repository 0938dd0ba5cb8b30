-- The rules 81 to 86 of a metadata file, over what its lines say and over the counts and sizes of the files (document 02, W-206;
-- READINGS-02). A test is of a line, counted from 1; line 0 is the file as a whole. Files are counted from 1.
-- Assumes nothing.
use Rattle.std.specs.Prelude.{ℕ, zero, suc, ◌+◌, Bool, true, false, not, ◌&&◌, ◌||◌, List, [], ◌∷◌, eqb, ltb, leb, length, get_or, drop, Option, Some, None, Result, Ok, Err}
use Rattle.laws.specs.Row.{pick}
use Rattle.laws.specs.Find.{first_of, first_index, any}
use Rattle.metadata.specs.declared.told.File.{File}
use Rattle.metadata.specs.declared.told.File.TheVariants.{Catalogo1, ObPun2, ObTex3, ObLin4, Tramo5, Vertice6, Nodo7, ObComp8}
use Rattle.metadata.specs.declared.told.Told.{Told}
use Rattle.metadata.specs.declared.told.Told.TheVariants.{Nothing, Section, Fichero, Version, Name, Count, Size}
use Rattle.metadata.specs.declared.fault.Rule.{Rule}
use Rattle.metadata.specs.declared.fault.Rule.TheVariants.{OddLine81, OtherVersion82, OtherList83, OtherKeys84, OtherCount85, OtherSize86}
use Rattle.metadata.specs.declared.fault.Fault.{Fault}
use Rattle.metadata.specs.Faults.{fault_at, or_right}
use Rattle.metadata.specs.Lines.{cut_of, told_in}

-- WHAT A LINE IS
abbrev pub is_nothing : Told → Bool
is_nothing Nothing = true
is_nothing _ = false

-- a section of a file, and any section
abbrev pub is_file : Told → Bool
is_file Fichero = true
is_file _ = false

abbrev pub is_head : Told → Bool
is_head Section = true
is_head Fichero = true
is_head _ = false

abbrev pub is_version : Told → Bool
is_version (Version one) = true
is_version _ = false

abbrev pub is_wrong : Told → Bool
is_wrong (Version one) = not one
is_wrong _ = false

abbrev pub is_name : Told → Bool
is_name (Name file) = true
is_name _ = false

abbrev pub is_count : Told → Bool
is_count (Count n) = true
is_count _ = false

abbrev pub is_size : Told → Bool
is_size (Size n) = true
is_size _ = false

-- the file that a name names
abbrev pub file_told : Told → Option File
file_told (Name file) = file
file_told _ = None

-- the line gives the number: as a count or as a size
abbrev pub is_number : Option ℕ → ℕ → Bool
is_number (Some n) x = eqb n x
is_number None x = false

abbrev pub gives : Told → ℕ → Bool
gives (Count n) x = is_number n x
gives (Size n) x = is_number n x
gives _ x = false

-- SECTIONS
abbrev pub line_at : List Told → ℕ → Told
line_at ts i = get_or ts i Nothing

-- line i + 1 stands in a section of a file
unfoldable pub in_file : List Told → ℕ → Bool
in_file ts zero = false
in_file ts (suc i) = pick (is_head (line_at ts i)) (is_file (line_at ts i)) (in_file ts i)

-- before line i + 1 its section has a line of the kind
unfoldable pub seen : (Told → Bool) → List Told → ℕ → Bool
seen p ts zero = false
seen p ts (suc i) = pick (is_head (line_at ts i)) false (p (line_at ts i) || seen p ts i)

-- line i + 1 is the first of its kind in a section of a file
abbrev pub leads : (Told → Bool) → List Told → ℕ → Bool
leads p ts i = p (line_at ts i) && in_file ts i && not (seen p ts i)

-- the lines up to the next section have one of the kind
unfoldable pub met : (Told → Bool) → List Told → Bool
met p [] = false
met p (t ∷ ts) = pick (is_head t) false (p t || met p ts)

-- and the file that they name first
unfoldable pub named : List Told → Option File
named [] = None
named (t ∷ ts) = pick (is_head t) None (pick (is_name t) (file_told t) (named ts))

-- the file that the section of line i + 1 names
unfoldable pub file_of : List Told → ℕ → Option File
file_of ts zero = None
file_of ts (suc i) = pick (is_head (line_at ts i)) (named (drop (suc i) ts)) (file_of ts i)

-- 81: neither section, key line nor empty line, or a last line without its end mark
unfoldable pub breaks81 : List Told → ℕ → Bool
breaks81 ts zero = false
breaks81 ts (suc i) = is_nothing (line_at ts i)

-- 82: version missing, or not 1
unfoldable pub breaks82 : List Told → ℕ → Bool
breaks82 ts zero = not (any (λ i. is_version (line_at ts i)) (length ts))
breaks82 ts (suc i) = is_wrong (line_at ts i)

-- THE FILES: each by its place in a list by files,
abbrev pub place : File → ℕ
place Catalogo1 = 0
place ObPun2 = 1
place ObTex3 = 2
place ObLin4 = 3
place Tramo5 = 4
place Vertice6 = 5
place Nodo7 = 6
place ObComp8 = 7

abbrev pub files : List File
files = Catalogo1 ∷ ObPun2 ∷ ObTex3 ∷ ObLin4 ∷ Tramo5 ∷ Vertice6 ∷ Nodo7 ∷ ObComp8 ∷ []

abbrev pub file_at : ℕ → File
file_at k = get_or files k Catalogo1

abbrev pub most_files : ℕ
most_files = 8

-- its number in such a list,
abbrev pub of_file : List ℕ → Option File → ℕ
of_file xs (Some file) = get_or xs (place file) 0
of_file xs None = 0

abbrev pub same_file : Option File → File → Bool
same_file (Some a) b = eqb (place a) (place b)
same_file None b = false

-- and the order of section 5.5: catalogue, composite, point, text, linear, (surface, perimeter,) tramo, vertex, node
abbrev pub rank : File → ℕ
rank Catalogo1 = 1
rank ObComp8 = 2
rank ObPun2 = 3
rank ObTex3 = 4
rank ObLin4 = 5
rank Tramo5 = 8
rank Vertice6 = 9
rank Nodo7 = 10

abbrev pub rank_in : Option File → ℕ
rank_in (Some file) = rank file
rank_in None = 0

-- the file is in the list of files
unfoldable pub listed : List Told → File → Bool
listed ts f = any (λ i. leads is_name ts i && same_file (file_told (line_at ts i)) f) (length ts)

-- a file with records is not in it
abbrev pub is_unlisted : List ℕ → List Told → File → Bool
is_unlisted counts ts f = ltb 0 (of_file counts (Some f)) && not (listed ts f)

-- an earlier section names the file, or one that comes after it
unfoldable pub misplaced : List Told → ℕ → Bool
misplaced ts i = any (λ j. leads is_name ts j && leb (rank_in (file_told (line_at ts i))) (rank_in (file_told (line_at ts j)))) i

-- 83: a file with records not listed; an unknown or misplaced file
unfoldable pub breaks83 : List ℕ → List Told → ℕ → Bool
breaks83 counts ts zero = any (λ k. is_unlisted counts ts (file_at k)) most_files
breaks83 counts ts (suc i) = leads is_name ts i && (eqb (rank_in (file_told (line_at ts i))) 0 || misplaced ts i)

-- 84: a key that a file needs is absent, or comes twice
abbrev pub complete : List Told → Bool
complete ts = met is_name ts && met is_count ts && met is_size ts

abbrev pub again : (Told → Bool) → List Told → ℕ → Bool
again p ts i = p (line_at ts i) && seen p ts i

unfoldable pub breaks84 : List Told → ℕ → Bool
breaks84 ts zero = false
breaks84 ts (suc i) =
    (is_file (line_at ts i) && not (complete (drop (suc i) ts))) || (in_file ts i && (again is_name ts i || again is_count ts i || again is_size ts i))

-- 85 and 86: the count, or the size, differs or is no number
unfoldable pub differs : (Told → Bool) → List ℕ → List Told → ℕ → Bool
differs p numbers ts zero = false
differs p numbers ts (suc i) = leads p ts i && not (gives (line_at ts i) (of_file numbers (file_of ts i)))

abbrev pub breaks85 : List ℕ → List Told → ℕ → Bool
breaks85 counts = differs is_count counts

abbrev pub breaks86 : List ℕ → List Told → ℕ → Bool
breaks86 sizes = differs is_size sizes

-- THE FIRST, by rule and line
abbrev pub breaks : List ℕ → List ℕ → List Told → ℕ → ℕ → Bool
breaks counts sizes ts zero = breaks81 ts
breaks counts sizes ts (suc zero) = breaks82 ts
breaks counts sizes ts (suc (suc zero)) = breaks83 counts ts
breaks counts sizes ts (suc (suc (suc zero))) = breaks84 ts
breaks counts sizes ts (suc (suc (suc (suc zero)))) = breaks85 counts ts
breaks counts sizes ts (suc (suc (suc (suc (suc k))))) = breaks86 sizes ts

abbrev pub rule_of : ℕ → Rule
rule_of zero = OddLine81
rule_of (suc zero) = OtherVersion82
rule_of (suc (suc zero)) = OtherList83
rule_of (suc (suc (suc zero))) = OtherKeys84
rule_of (suc (suc (suc (suc zero)))) = OtherCount85
rule_of (suc (suc (suc (suc (suc k))))) = OtherSize86

unfoldable pub told_fault : List ℕ → List ℕ → List Told → Result (Unit {0}) Fault
told_fault counts sizes ts = or_right (first_of (λ k. fault_at (rule_of k) (first_index (breaks counts sizes ts k) (length ts + 1))) 6)

abbrev pub cut_fault : List ℕ → List ℕ → List Told → Result ℕ Fault → Result (Unit {0}) Fault
cut_fault counts sizes ts (Ok n) = told_fault counts sizes ts
cut_fault counts sizes ts (Err fault) = Err fault

-- THE ANSWER, of a metadata file's bytes and the files' counts and sizes
unfoldable pub fault_of : List ℕ → List ℕ → List ℕ → Result (Unit {0}) Fault
fault_of m counts sizes = cut_fault counts sizes (told_in m) (cut_of m)
