-- Free words (document 01): two deliveries that differ only in the names, LITERAL and DEFINICI, all lawful.
-- Assumes nothing.
use Rattle.std.specs.Prelude.{ℕ, ◌+◌, Bool, true, false, ◌&&◌, ◌≡◌, leb, ltb, length, get_or}
use Rattle.laws.specs.Find.{any}
use Rattle.record.specs.declared.kind.Kind.{Kind}
use Rattle.record.specs.Table.{fields_of, width_at, offset_at, is_free_word}
use Rattle.record.specs.Files.{Files}
use Rattle.record.specs.Cut.{record_of}
use Rattle.record.specs.Rules.{breaks23}

-- byte q of a record stands in a free field
unfoldable pub in_free : Kind → ℕ → Bool
in_free k q = any (λ f. is_free_word k f && (leb (offset_at k f) q && ltb q (offset_at k f + width_at k f))) (fields_of k + 1)

-- the files are as long, their records have the same bytes outside the free fields, and these keep the A rule in both
pub record SameButWords (files others : Files) : Type 0 where
  pub long : (k : Kind) → length (files k) ≡ length (others k)
  pub bytes : (k : Kind) (i q : ℕ) → in_free k q ≡ false → get_or (record_of (files k) k i) q 0 ≡ get_or (record_of (others k) k i) q 0
  pub lawful : (k : Kind) (i f : ℕ) → is_free_word k f ≡ true → breaks23 (record_of (files k) k i) k f ≡ false
  pub lawful-too : (k : Kind) (i f : ℕ) → is_free_word k f ≡ true → breaks23 (record_of (others k) k i) k f ≡ false
