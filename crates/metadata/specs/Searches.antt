-- What a search of lines for one key knows (src/sections.rt).
-- Assumes nothing.
use Rattle.std.specs.Prelude.{ℕ, Bool, false, not, ◌&&◌, ◌||◌, List}
use Rattle.laws.specs.Row.{pick}
use Rattle.metadata.specs.declared.told.Told.{Told}
use Rattle.metadata.specs.declared.told.Key.{Key}
use Rattle.metadata.specs.declared.told.Key.TheVariants.{Name, Count, Size}
use Rattle.metadata.specs.declared.sections.Search.{Search}
use Rattle.metadata.specs.Rules.{is_file, is_head, is_name, is_count, is_size, in_file, seen}

abbrev pub is_key : Key → Told → Bool
is_key Name = is_name
is_key Count = is_count
is_key Size = is_size

-- before line i + 1
abbrev pub search_at : Key → List Told → ℕ → Search
search_at k ts i = record { key = k; inside = in_file ts i; met = seen (is_key k) ts i }

-- past a line,
abbrev pub past : Search → Told → Search
past s t = record { key = s.key; inside = pick (is_head t) (is_file t) s.inside; met = pick (is_head t) false (is_key s.key t || s.met) }

-- and of it: the first of the key in a section of a file, and a further one
abbrev pub is_first : Search → Told → Bool
is_first s t = is_key s.key t && s.inside && not s.met

abbrev pub is_again : Search → Told → Bool
is_again s t = s.inside && (is_key s.key t && s.met)
