-- What a lawful record says can be written, and is written as the same bytes; and a record is written by what its fields say alone.
-- Assumes nothing.
use Prim.Native.Nat.{ℕ, zero, suc, ◌+◌, ◌-◌, ◌<◌, ◌≤◌}
use mathlib.Core.Bool.{Bool, true, false, not, ◌||◌}
use mathlib.Core.List.{List, []}
use mathlib.Core.Path.{◌≡◌, refl, sym, ap, ◌∙◌, subst}
use native.Mathlib.Numerals.{add-one}
use native.Mathlib.Omega.{arith}
use lib.ListN.{length, get_or, drop, length-take, length-drop}
use lib.Seq.{length-take-le}
use borrow.Author.Tests.{not-false}
use Rattle.laws.specs.Nest.{run}
use Rattle.laws.specs.Row.{row, each}
use Rattle.laws.proofs.FindLaws.{first-same}
use Rattle.laws.proofs.RowLaws.{then-false, neither, less, same_test, length-row, row_at, row_same, each_at, each_same}
use Rattle.field.specs.declared.class.Class.TheVariants.{Blank}
use Rattle.field.specs.Bytes.{all_of}
use Rattle.record.proofs.PackedLaws.{domain-fits, form_domain}
use Rattle.record.specs.declared.kind.Kind.{Kind}
use Rattle.record.specs.declared.kind.Form.{Form}
use Rattle.record.specs.declared.kind.Form.TheVariants.{Sign, Size}
use Rattle.record.specs.declared.kind.Domain.TheVariants.{PlusMinus}
use Rattle.std.specs.Prelude.{Ok}
use Rattle.record.specs.Table.{col_at, form_at, width_at, must_at, back_at, ahead_at, domain_at, offset_at, fields_of, length_of, widest, required, is_n}
use Rattle.record.specs.machinery.Packed.{form_digit}
use Rattle.record.specs.Cut.{text_of}
use Rattle.record.specs.Rules.{missing_in, outside, partners_blank, breaks22, breaks23, breaks24, breaks25, twenties}
use Rattle.record.specs.Breaks.{at_place, finding_of, record_finding}
use Rattle.record.specs.Says.{Said, said_as, said_in}
use Rattle.record.proofs.TableLaws.{sane, widths, within}
use Rattle.codec.specs.Values.{no_value, said_by, value_of, value_at, values_say, values_in}
use Rattle.codec.specs.Writes.{bytes_as, field_bytes, joined, encode}
use Rattle.codec.specs.Refusals.{too_large, bad_said, blank_as, blank_at, missing_as, partners_missing, refuses62, refuses63, refuses64, refuses65, sixties, sixty_reasons, value_breaks, values_finding}
use Rattle.codec.proofs.JoinLaws.{sign-wide, sign-next, sign-field, sign-partner, pair-partners, partners-within}
use Rattle.codec.proofs.EncodeLaws.{joined-cut}
use Rattle.codec.proofs.AllFalse.{record-fine, values-fine}
use Rattle.codec.proofs.InFields.{Kept, kept, was-missing, not-outside, sign_kept, value-says, heard, blank-own, sign-or, missing-blank, sign-there}

-- WRITING reads what the fields say, and no more
module _ (k : Kind) (v w : ℕ → Said) (same : (f : ℕ) → f ≤ fields_of k → v f ≡ w f) where
  next-same : (f : ℕ) → form_at k f ≡ Sign → v (f + 1) ≡ w (f + 1)
  next-same f e = same (f + 1) (omega (arith, sign-field k f e))

  field-same : (f : ℕ) → f ≤ fields_of k → field_bytes k v f ≡ field_bytes k w f
  unfolding field_bytes
  field-same f h = rw (same f h) (heard (form_at k f) (width_at k f) (w f) (v (f + 1)) (w (f + 1)) (next-same f)).0

  pub encode_same : encode k v ≡ encode k w
  unfolding encode
  encode_same = ap joined (row_same _ _ (fields_of k) (λ j l. field-same (j + 1) (omega arith)))

  blank-same : (f : ℕ) → f ≤ fields_of k → blank_at k v f ≡ blank_at k w f
  unfolding blank_at
  blank-same f h = rw (same f h) (heard (form_at k f) (width_at k f) (w f) (v (f + 1)) (w (f + 1)) (next-same f)).1

  partners-same : (f : ℕ) → f ≤ fields_of k → partners_missing k v f ≡ partners_missing k w f
  unfolding partners_missing
  partners-same f h =
      ap (each (λ b. b)) (row_same _ _ _ (λ j l. blank-same (f - back_at k f + j) (omega (arith, partners-within k f h))))

  sixties-same : (f : ℕ) → f ≤ fields_of k → sixties k v f ≡ sixties k w f
  unfolding refuses62 refuses63 refuses64 refuses65
  sixties-same f h =
      rw (same f h, partners-same f h, (heard (form_at k f) (width_at k f) (w f) (v (f + 1)) (w (f + 1)) (next-same f)).2)

  pub finding-same : values_finding k v ≡ values_finding k w
  unfolding values_finding value_breaks run
  finding-same =
      ap finding_of (first-same _ _ (fields_of k + 1) (λ f l. ap (λ (ts : List Bool). run (at_place ts sixty_reasons k 0 f)) (sixties-same f (omega arith))))

-- READING A LAWFUL RECORD
-- the bytes of each field
text-length : (s : List ℕ) (k : Kind) (f : ℕ) → length s ≡ length_of k → length (text_of s k f) ≡ width_at k f
unfolding text_of
text-length s k f l = length-take-le (width_at k f) (drop (offset_at k f) s) (rw length-drop (omega (arith, within k f)))

module _ (s : List ℕ) (k : Kind) (i : ℕ) (l : length s ≡ length_of k) (ok : record_finding s k i ≡ Ok tt) where
  -- no test holds at any place
  place : (f : ℕ) → f ≤ fields_of k → (u : ℕ) → get_or (twenties s k f) u false ≡ false
  place f h u = (record-fine s k i).0 ok f u h

  -- a field that is not missing is in its domain
  inside : (f : ℕ) → f ≤ fields_of k → missing_in (form_at k f) (text_of s k f) ≡ false → outside (form_at k f) (domain_at k f) (text_of s k f) (text_of s k (f + 1)) ≡ false
  unfolding breaks25
  inside f h m =
      let a : breaks22 s k f ≡ false = place f h 2 in
      let b : breaks23 s k f ≡ false = place f h 3 in
      rw (a, b, m) at (place f h 5)

  -- where a field is blank, its partners are
  partner-blank : (f j : ℕ) → f ≤ fields_of k → j < back_at k f + ahead_at k f + 1 → all_of Blank (text_of s k f) ≡ true → all_of Blank (text_of s k (f - back_at k f + j)) ≡ true
  unfolding breaks24 partners_blank
  partner-blank f j h m e =
      let g : ℕ → List ℕ = λ j. text_of s k (f - back_at k f + j) in
      let n = back_at k f + ahead_at k f + 1 in
      let b = then-false (missing_in (form_at k f) (text_of s k f)) (required (must_at k f) || not (partners_blank s k f)) (place f h 4) (missing-blank (form_at k f) (text_of s k f) e) in
      let p : partners_blank s k f ≡ true = not-false (partners_blank s k f) (neither (required (must_at k f)) (not (partners_blank s k f)) b).1 in
      ap (all_of Blank) (sym (row_at g n [] m)) ∙ each_at (all_of Blank) (row g n) j [] p (rw length-row m)

  -- a sign is blank exactly where its number is
  pair-blank : (f : ℕ) → form_at k f ≡ Sign → all_of Blank (text_of s k f) ≡ all_of Blank (text_of s k (f + 1))
  pair-blank f e =
      let d = sign-field k f e in
      let a = sign-partner k f e in
      let p = pair-partners k f e in
      let there : f - back_at k f + (back_at k f + 1) ≡ f + 1 = omega arith in
      let back : suc f - back_at k (suc f) + back_at k f ≡ f = omega arith in
      same_test (all_of Blank (text_of s k f)) (all_of Blank (text_of s k (f + 1)))
      (λ h. rw there at (partner-blank f (back_at k f + 1) (omega arith) (omega arith) h))
      (λ h. rw back at (partner-blank (suc f) (back_at k f) (omega arith) (omega arith) (rw add-one at h)))

  -- a field that is no sign
  short : (f : ℕ) → is_n (form_at k f) ≡ true → length (text_of s k f) ≤ 10
  short f n = rw (text-length s k f l) ((widths k f).1 n)

  kept_at :
      (f : ℕ) → f ≤ fields_of k → (form_at k f ≡ Sign → ⊥)
      → Kept (text_of s k f) (said_in s k f) (bytes_as (form_at k f) (length (text_of s k f)) (said_in s k f) (said_in s k (f + 1)))
  unfolding said_in breaks22 breaks23
  kept_at f h n = kept (form_at k f) (text_of s k f) (text_of s k (f - 1)) (said_in s k (f + 1)) (short f) (place f h 2) (place f h 3) n

  -- a sign's number
  size-at : (f : ℕ) → form_at k f ≡ Sign → form_at k (f + 1) ≡ Size
  size-at f e = rw add-one (sign-next k f e)

  number-no-sign : (f : ℕ) → form_at k f ≡ Sign → form_at k (f + 1) ≡ Sign → ⊥
  number-no-sign f e q = let z : form_digit Size ≡ form_digit Sign = ap form_digit (sym (size-at f e) ∙ q) in omega arith

  number-said : (f : ℕ) → form_at k f ≡ Sign → said_in s k (f + 1) ≡ said_as Size (text_of s k (f + 1)) (text_of s k f)
  unfolding said_in
  number-said f e =
      let q : f + 1 - 1 ≡ f = omega arith in
      rw (size-at f e, q)

  sign-domain : (f : ℕ) → form_at k f ≡ Sign → domain_at k f ≡ PlusMinus
  sign-domain f e = subst (λ (x : Form). domain_at k f ≡ form_domain x (domain_at k f)) e (domain-fits k f)

  -- WRITTEN: the same bytes
  field_back : (f : ℕ) → f ≤ fields_of k → field_bytes k (said_in s k) f ≡ text_of s k f
  unfolding field_bytes breaks22
  field_back f h = go (sign-or (form_at k f))
    where
      go : Dec (form_at k f ≡ Sign) → bytes_as (form_at k f) (width_at k f) (said_in s k f) (said_in s k (f + 1)) ≡ text_of s k f
      go (yes e) =
          rw (e, sign-wide k f e, number-said f e)
          (sign_kept (text_of s k f) (text_of s k (f + 1)) (said_in s k f) (text-length s k f l ∙ sign-wide k f e)
          (short (f + 1) (ap is_n (size-at f e))) (rw (size-at f e) at (place (f + 1) (omega (arith, sign-field k f e)) 2)) (pair-blank f e)
          (λ b. rw (e, sign-domain f e) at (inside f h (rw e (sign-there (text_of s k f) b)))))
      go (no n) = rw (← text-length s k f l) (kept_at f h n).same

  pub same_bytes : encode k (said_in s k) ≡ s
  unfolding encode
  same_bytes =
      ap joined (row_same _ _ (fields_of k) (λ j m. field_back (j + 1) (omega arith)))
      ∙ joined-cut s k l (place 0 (omega arith) 0) (λ f h. place f h 1)

  -- and nothing is refused
  blank-back : (f : ℕ) → f ≤ fields_of k → blank_at k (said_in s k) f ≡ all_of Blank (text_of s k f)
  unfolding blank_at
  blank-back f h = go (sign-or (form_at k f))
    where
      go : Dec (form_at k f ≡ Sign) → blank_as (form_at k f) (said_in s k f) (said_in s k (f + 1)) ≡ all_of Blank (text_of s k f)
      go (yes e) = rw e ((kept_at (f + 1) (omega (arith, sign-field k f e)) (number-no-sign f e)).gone ∙ sym (pair-blank f e))
      go (no n) = blank-own (form_at k f) (said_in s k f) (said_in s k (f + 1)) n ∙ (kept_at f h n).gone

  partners-back : (f : ℕ) → f ≤ fields_of k → partners_missing k (said_in s k) f ≡ partners_blank s k f
  unfolding partners_missing partners_blank
  partners-back f h =
      each_same _ _ _ _ _ (λ j m. blank-back (f - back_at k f + j) (omega (arith, partners-within k f h)))

  missing-back : (f : ℕ) → f ≤ fields_of k → missing_as (form_at k f) (said_in s k f) (said_in s k (f + 1)) ≡ true → missing_in (form_at k f) (text_of s k f) ≡ true
  unfolding said_in blank_at
  missing-back f h = go (sign-or (form_at k f))
    where
      go : Dec (form_at k f ≡ Sign) → missing_as (form_at k f) (said_in s k f) (said_in s k (f + 1)) ≡ true → missing_in (form_at k f) (text_of s k f) ≡ true
      go (yes e) m = missing-blank (form_at k f) (text_of s k f) (sym (blank-back f h) ∙ rw e (rw e at m))
      go (no n) m = was-missing (form_at k f) (text_of s k f) (text_of s k (f - 1)) (said_in s k (f + 1)) n m

  numbers-back : (f : ℕ) → f ≤ fields_of k → (refuses62 k (said_in s k) f ≡ false) × (refuses63 k (said_in s k) f ≡ false)
  unfolding refuses62 refuses63 said_in said_as
  numbers-back f h = go (sign-or (form_at k f))
    where
      go : Dec (form_at k f ≡ Sign) → (too_large (width_at k f) (said_in s k f) ≡ false) × (bad_said (width_at k f) (said_in s k f) ≡ false)
      go (yes e) = rw e (refl, refl)
      go (no n) = let q = kept_at f h n in rw (← text-length s k f l) (q.small, q.good)

  sixties-back : (f : ℕ) → f ≤ fields_of k → (u : ℕ) → get_or (sixties k (said_in s k) f) u false ≡ false
  unfolding refuses64 refuses65 breaks24 said_in
  sixties-back f h zero = (numbers-back f h).0
  sixties-back f h (suc zero) = (numbers-back f h).1
  sixties-back f h (suc (suc zero)) =
      rw (partners-back f h)
      (less (missing_in (form_at k f) (text_of s k f)) (missing_as (form_at k f) (said_in s k f) (said_in s k (f + 1))) _ (missing-back f h) (place f h 4))
  sixties-back f h (suc (suc (suc zero))) = not-outside (form_at k f) (domain_at k f) (text_of s k f) (text_of s k (f - 1)) (text_of s k (f + 1)) (domain-fits k f) (inside f h)
  sixties-back f h (suc (suc (suc (suc u)))) = refl

  pub read-writable : values_finding k (said_in s k) ≡ Ok tt
  read-writable = (values-fine k (said_in s k)).1 (λ f u h. sixties-back f h u)

-- AS VALUES: the struct says what the record says
text-short : (s : List ℕ) (k : Kind) (f : ℕ) → length (text_of s k f) ≤ widest
unfolding text_of
text-short s k f = rw length-take (omega (arith, widths k f))

-- place 0 says nothing
whole_says : (s : List ℕ) (k : Kind) → values_say k (values_in s k) 0 ≡ said_in s k 0
unfolding values_say value_at said_in said_as form_at width_at col_at text_of all_of each
whole_says s k = refl

pub values-say : (s : List ℕ) (k : Kind) (f : ℕ) → f ≤ fields_of k → values_say k (values_in s k) f ≡ said_in s k f
unfolding values_say value_at values_in said_in
values-say s k zero h = whole_says s k
values-say s k (suc f) h =
    ap (said_by (form_at k (suc f))) (row_at (λ i. value_of (said_in s k (i + 1))) 14 no_value (omega (arith, sane k)))
    ∙ rw add-one (value-says (form_at k (suc f)) (text_of s k (suc f)) (text_of s k (suc f - 1)) (text-short s k (suc f)))
