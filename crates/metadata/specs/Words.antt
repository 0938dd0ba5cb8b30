-- The words of a metadata file (document 02, W-206; source 000, 5.5 and 6.4), and when bytes are a word: in any letter case, of ASCII's
-- letters and of those of ISO 8859-1. A word is written here in small letters.
-- Assumes nothing.
use Rattle.std.specs.Prelude.{ℕ, ◌+◌, Bool, true, false, not, ◌&&◌, ◌||◌, List, [], ◌∷◌, eqb, leb, Option, Some, None}
use Rattle.laws.specs.Row.{pick}
use Rattle.metadata.specs.declared.told.File.{File}
use Rattle.metadata.specs.declared.told.File.TheVariants.{Catalogo1, ObPun2, ObTex3, ObLin4, Tramo5, Vertice6, Nodo7, ObComp8}

-- a capital letter; its small one stands 32 after it. (215 is the sign of multiplication)
abbrev pub is_capital : ℕ → Bool
is_capital b = (leb 65 b && leb b 90) || (leb 192 b && leb b 222 && not (eqb b 215))

unfoldable pub small : ℕ → ℕ
small b = pick (is_capital b) (b + 32) b

-- the bytes are the word
unfoldable pub is_word : List ℕ → List ℕ → Bool
is_word [] [] = true
is_word [] (b ∷ t) = false
is_word (w ∷ word) [] = false
is_word (w ∷ word) (b ∷ t) = eqb (small b) w && is_word word t

-- THE KEYS that are read
-- VERSION_DE_MIGRA
abbrev pub version_key : List ℕ
version_key = 118 ∷ 101 ∷ 114 ∷ 115 ∷ 105 ∷ 111 ∷ 110 ∷ 95 ∷ 100 ∷ 101 ∷ 95 ∷ 109 ∷ 105 ∷ 103 ∷ 114 ∷ 97 ∷ []

-- NOMBRE_MIGRA
abbrev pub name_key : List ℕ
name_key = 110 ∷ 111 ∷ 109 ∷ 98 ∷ 114 ∷ 101 ∷ 95 ∷ 109 ∷ 105 ∷ 103 ∷ 114 ∷ 97 ∷ []

-- NUMERO_DE_REGISTROS
abbrev pub count_key : List ℕ
count_key = 110 ∷ 117 ∷ 109 ∷ 101 ∷ 114 ∷ 111 ∷ 95 ∷ 100 ∷ 101 ∷ 95 ∷ 114 ∷ 101 ∷ 103 ∷ 105 ∷ 115 ∷ 116 ∷ 114 ∷ 111 ∷ 115 ∷ []

-- NÚMERO_DE_REGISTROS
abbrev pub count_key_accented : List ℕ
count_key_accented = 110 ∷ 250 ∷ 109 ∷ 101 ∷ 114 ∷ 111 ∷ 95 ∷ 100 ∷ 101 ∷ 95 ∷ 114 ∷ 101 ∷ 103 ∷ 105 ∷ 115 ∷ 116 ∷ 114 ∷ 111 ∷ 115 ∷ []

-- TAMAÑO_EN_BYTES
abbrev pub size_key : List ℕ
size_key = 116 ∷ 97 ∷ 109 ∷ 97 ∷ 241 ∷ 111 ∷ 95 ∷ 101 ∷ 110 ∷ 95 ∷ 98 ∷ 121 ∷ 116 ∷ 101 ∷ 115 ∷ []

-- TAMAÑO_EN BYTES
abbrev pub size_key_blank : List ℕ
size_key_blank = 116 ∷ 97 ∷ 109 ∷ 97 ∷ 241 ∷ 111 ∷ 95 ∷ 101 ∷ 110 ∷ 32 ∷ 98 ∷ 121 ∷ 116 ∷ 101 ∷ 115 ∷ []

-- before a section's number: [FICHERO
abbrev pub section_word : List ℕ
section_word = 91 ∷ 102 ∷ 105 ∷ 99 ∷ 104 ∷ 101 ∷ 114 ∷ 111 ∷ []

-- THE NAMES of files
-- catalogo_de_elementos, file 1
abbrev pub catalogo : List ℕ
catalogo = 99 ∷ 97 ∷ 116 ∷ 97 ∷ 108 ∷ 111 ∷ 103 ∷ 111 ∷ 95 ∷ 100 ∷ 101 ∷ 95 ∷ 101 ∷ 108 ∷ 101 ∷ 109 ∷ 101 ∷ 110 ∷ 116 ∷ 111 ∷ 115 ∷ []

-- catálogo_de_elementos, file 1
abbrev pub catalogo_accented : List ℕ
catalogo_accented = 99 ∷ 97 ∷ 116 ∷ 225 ∷ 108 ∷ 111 ∷ 103 ∷ 111 ∷ 95 ∷ 100 ∷ 101 ∷ 95 ∷ 101 ∷ 108 ∷ 101 ∷ 109 ∷ 101 ∷ 110 ∷ 116 ∷ 111 ∷ 115 ∷ []

-- objeto_puntual, file 2
abbrev pub ob_pun : List ℕ
ob_pun = 111 ∷ 98 ∷ 106 ∷ 101 ∷ 116 ∷ 111 ∷ 95 ∷ 112 ∷ 117 ∷ 110 ∷ 116 ∷ 117 ∷ 97 ∷ 108 ∷ []

-- objeto_textual, file 3
abbrev pub ob_tex : List ℕ
ob_tex = 111 ∷ 98 ∷ 106 ∷ 101 ∷ 116 ∷ 111 ∷ 95 ∷ 116 ∷ 101 ∷ 120 ∷ 116 ∷ 117 ∷ 97 ∷ 108 ∷ []

-- objeto_lineal, file 4
abbrev pub ob_lin : List ℕ
ob_lin = 111 ∷ 98 ∷ 106 ∷ 101 ∷ 116 ∷ 111 ∷ 95 ∷ 108 ∷ 105 ∷ 110 ∷ 101 ∷ 97 ∷ 108 ∷ []

-- tramo, file 5
abbrev pub tramo : List ℕ
tramo = 116 ∷ 114 ∷ 97 ∷ 109 ∷ 111 ∷ []

-- vertice, file 6
abbrev pub vertice : List ℕ
vertice = 118 ∷ 101 ∷ 114 ∷ 116 ∷ 105 ∷ 99 ∷ 101 ∷ []

-- nodo, file 7
abbrev pub nodo : List ℕ
nodo = 110 ∷ 111 ∷ 100 ∷ 111 ∷ []

-- objeto_compuesto, file 8
abbrev pub ob_comp : List ℕ
ob_comp = 111 ∷ 98 ∷ 106 ∷ 101 ∷ 116 ∷ 111 ∷ 95 ∷ 99 ∷ 111 ∷ 109 ∷ 112 ∷ 117 ∷ 101 ∷ 115 ∷ 116 ∷ 111 ∷ []

-- the file that the bytes name, where they name one
unfoldable pub file_named : List ℕ → Option File
file_named t =
    pick (is_word catalogo t || is_word catalogo_accented t) (Some Catalogo1)
    (pick (is_word ob_pun t) (Some ObPun2)
    (pick (is_word ob_tex t) (Some ObTex3)
    (pick (is_word ob_lin t) (Some ObLin4)
    (pick (is_word tramo t) (Some Tramo5)
    (pick (is_word vertice t) (Some Vertice6)
    (pick (is_word nodo t) (Some Nodo7)
    (pick (is_word ob_comp t) (Some ObComp8) None)))))))
