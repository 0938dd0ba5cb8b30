-- What may be said in a field of a form: the shapes that values and bytes give.
-- Assumes nothing.
use mathlib.Core.Bool.{Bool, true, false}
use lib.Dec.{ltb}
use lib.ListN.{length}
use Rattle.record.specs.declared.kind.Form.{Form}
use Rattle.record.specs.declared.kind.Form.TheVariants.{Words, Code, Sign, Number, Size}
use Rattle.record.specs.Says.{Said, missing, number, text, coordinate}

-- nothing, or a text of some bytes
abbrev pub is_textual : Said → Bool
is_textual missing = true
is_textual (number n) = false
is_textual (text t) = ltb 0 (length t)
is_textual (coordinate z) = false

abbrev pub is_nothing : Said → Bool
is_nothing missing = true
is_nothing (number n) = false
is_nothing (text t) = false
is_nothing (coordinate z) = false

abbrev pub is_numeric : Said → Bool
is_numeric missing = true
is_numeric (number n) = true
is_numeric (text t) = false
is_numeric (coordinate z) = false

abbrev pub is_placed : Said → Bool
is_placed missing = true
is_placed (number n) = false
is_placed (text t) = false
is_placed (coordinate z) = true

unfoldable pub shaped : Form → Said → Bool
shaped Words s = is_textual s
shaped Code s = is_textual s
shaped Sign s = is_nothing s
shaped Number s = is_numeric s
shaped Size s = is_placed s
