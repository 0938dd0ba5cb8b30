-- The laws that the code's tests of a field cite (specs/Rules.antt).
-- Assumes nothing.
use Prim.Native.Nat.{ℕ, ◌+◌, ◌-◌}
use mathlib.Core.Bool.{false, and-true}
use mathlib.Core.List.{List}
use mathlib.Core.Path.{◌≡◌, refl}
use native.Mathlib.Omega.{arith}
use lib.ListN.{length, get_or}
use Rattle.laws.specs.Row.{row, each}
use Rattle.field.specs.declared.class.Class.TheVariants.{Blank}
use Rattle.field.specs.Bytes.{all_of}
use Rattle.field.specs.Texts.{trimmed, first_bytes, not_given}
use Rattle.field.proofs.TextLaws.{trimmed-le, first-bytes-le}
use Rattle.field.proofs.TextLoops.{length-trimmed}
use Rattle.record.specs.declared.kind.Kind.{Kind}
use Rattle.record.specs.declared.kind.Form.{Form}
use Rattle.record.specs.declared.kind.Form.TheVariants.{Words, Code, Sign, Number, Size}
use Rattle.record.specs.declared.kind.Domain.{Domain}
use Rattle.record.specs.declared.kind.Domain.TheVariants.{Any, ObjectType, PlusMinus, NodeType, Orientation, Justification}
use Rattle.record.specs.Table.{back_at, ahead_at, is_sign}
use Rattle.record.specs.Cut.{text_of}
use Rattle.record.specs.Rules.{partners_blank, word_within}

-- RULES: NA and ND are told of the bytes that are left
pub not-given-trimmed : (t : List ℕ) {len : ℕ} → len ≡ length (trimmed t) → not_given (first_bytes len t) ≡ not_given (trimmed t)
unfolding trimmed
not-given-trimmed t e = rw (e, first-bytes-le _ t (trimmed-le t), length-trimmed)

-- THE DOMAIN of a word is read of the first byte
pub domain-first : (d : Domain) (t u : List ℕ) → get_or t 0 0 ≡ get_or u 0 0 → word_within d t ≡ word_within d u
unfolding word_within
domain-first Any t u e = refl
domain-first ObjectType t u e = rw e
domain-first PlusMinus t u e = rw e
domain-first NodeType t u e = rw e
domain-first Orientation t u e = refl
domain-first Justification t u e = refl

-- no form but the sign's is a sign's
pub no_sign_lem : (form : Form) → (form ≡ Sign → ⊥) → is_sign form ≡ false
no_sign_lem Words h = refl
no_sign_lem Code h = refl
no_sign_lem Sign h = absurd (h refl)
no_sign_lem Number h = refl
no_sign_lem Size h = refl

-- PARTNERS: a field that has none is asked alone
pub partners-none : (s : List ℕ) (k : Kind) (f : ℕ) → back_at k f + ahead_at k f ≡ 0 → partners_blank s k f ≡ all_of Blank (text_of s k f)
unfolding partners_blank row each
partners-none s k f h =
    let b : back_at k f ≡ 0 = omega arith in
    let a : ahead_at k f ≡ 0 = omega arith in
    let e : f - 0 + 0 ≡ f = omega arith in
    rw (b, a, e, and-true)
