-- What is written is a lawful record, and says what was to be said.
-- Assumes nothing.
use Prim.Native.Nat.{ℕ, zero, suc, ◌+◌, ◌-◌, ◌≤◌, ◌<◌}
use mathlib.Core.Bool.{Bool, true, false, not, ◌&&◌}
use mathlib.Core.List.{List}
use mathlib.Core.Path.{◌≡◌, refl, ap₂, sym, ◌∙◌}
use mathlib.Core.Logic.{⊎_elim}
use native.Mathlib.Nat.{not-suc-le-zero}
use native.Mathlib.Numerals.{add-one}
use native.Mathlib.Omega.{arith}
use lib.Dec.{eqb}
use lib.ListN.{length, get_or}
use borrow.Author.Tests.{ltb-true, ltb-false, lt-ltb, not-true, eqb-false}
use Rattle.laws.specs.Row.{pick, row, each}
use Rattle.laws.proofs.FindLaws.{true-false}
use Rattle.laws.proofs.RowLaws.{and-true, and_last, neither, picked, Falses, end, more, falses, each_same}
use Rattle.field.specs.declared.class.Class.TheVariants.{Blank}
use Rattle.field.specs.Bytes.{all_of}
use Rattle.field.specs.Texts.{trim_to, trimmed, edged_by, lawful_text, first_bytes}
use Rattle.field.proofs.TextLoops.{length-first}
use Rattle.record.proofs.PackedLaws.{domain-fits}
use Rattle.record.specs.declared.kind.Kind.{Kind}
use Rattle.record.specs.declared.kind.Form.{Form}
use Rattle.record.specs.declared.kind.Form.TheVariants.{Words, Code, Sign, Number, Size}
use Rattle.std.specs.Prelude.{Ok}
use Rattle.record.specs.Table.{col_at, form_at, width_at, must_at, back_at, ahead_at, domain_at, fields_of}
use Rattle.record.specs.Cut.{text_of}
use Rattle.record.specs.Rules.{breaks22, breaks23, breaks24, breaks25, not_number, not_text, missing_in, outside, partners_blank, twenties}
use Rattle.record.specs.Breaks.{record_finding}
use Rattle.record.specs.Says.{Said, missing, number, text, coordinate, is_missing, said_in}
use Rattle.record.proofs.TableLaws.{widths}
use Rattle.codec.specs.declared.values.Value.{Value}
use Rattle.codec.specs.declared.values.Values.{Values}
use Rattle.codec.specs.Values.{said_by, text_by, value_at, values_say}
use Rattle.codec.specs.Writes.{number_bytes, sign_bytes, bytes_as, field_bytes, encode}
use Rattle.codec.specs.Refusals.{too_large, bad_text, bad_said, refuses62, refuses63, refuses64, refuses65, blank_at, missing_as, partners_missing, sixties, values_finding}
use Rattle.codec.proofs.Shapes.{is_textual, shaped}
use Rattle.codec.proofs.JoinLaws.{wide, sign-wide, sign-next, sign-field, size-before, pair-partners, partners-within}
use Rattle.codec.proofs.EncodeLaws.{text-encode, bar-encode, end-encode}
use Rattle.codec.proofs.AllFalse.{record-fine, values-fine}
use Rattle.codec.proofs.OutFields.{Sayable, out-number, out-text, out-blank, out-missing, out-inside, out-said}

-- THE SHAPES that structs of values give
text-shaped : (x : Value) → is_textual (text_by x) ≡ true
text-shaped x = go (eqb x.len 0) refl
  where
    go : (b : Bool) → eqb x.len 0 ≡ b → is_textual (pick b missing (text (first_bytes x.len x.text))) ≡ true
    go true e = refl
    go false e = rw length-first (lt-ltb 0 x.len (let d = eqb-false x.len 0 e in omega arith))

said-shaped : (form : Form) (x : Value) → shaped form (said_by form x) ≡ true
unfolding shaped
said-shaped Words x = text-shaped x
said-shaped Code x = text-shaped x
said-shaped Sign x = refl
said-shaped Number x = picked (λ s. shaped Number s ≡ true) x.given _ _ (λ _. refl) (λ _. refl)
said-shaped Size x = picked (λ s. shaped Size s ≡ true) x.given _ _ (λ _. refl) (λ _. refl)

pub values-shaped : (k : Kind) (x : Values) (f : ℕ) → shaped (form_at k f) (values_say k x f) ≡ true
unfolding values_say
values-shaped k x f = said-shaped (form_at k f) (value_at x f)

-- TESTS
unless : (x y m o : Bool) → (m ≡ false → o ≡ false) → (not x && not y && not m && o) ≡ false
unless x y m o h = and_last (not x && not y && not m) o (λ e. h (not-true m (and-true (not x && not y) (not m) e).1))

-- of place 0
no_text_lem : (own : Said) → is_textual own ≡ true → bad_said 0 own ≡ false → true ≡ is_missing own
unfolding bad_text
no_text_lem missing s e = refl
no_text_lem (number n) s e = absurd (true-false (sym s))
no_text_lem (text t) s e =
    let l = ltb-true 0 (length t) s in
    let h = ltb-false 0 (length t) (neither _ _ (neither _ _ (neither _ _ e).0).0).0 in
    absurd (omega arith)
no_text_lem (coordinate z) s e = absurd (true-false (sym s))

module _ (s : List ℕ) (k : Kind) where
  none-22 : breaks22 s k 0 ≡ false
  unfolding breaks22 not_number form_at col_at
  none-22 = refl

  none-23 : breaks23 s k 0 ≡ false
  unfolding breaks23 not_text form_at col_at text_of width_at lawful_text edged_by trimmed trim_to all_of each
  none-23 = refl

  none-24 : breaks24 s k 0 ≡ false
  unfolding breaks24 must_at form_at col_at text_of width_at all_of each missing_in partners_blank back_at ahead_at row
  none-24 = refl

  none-25 : breaks25 s k 0 ≡ false
  unfolding breaks25 breaks22 breaks23 not_number not_text lawful_text edged_by trimmed trim_to form_at col_at text_of width_at all_of each missing_in
  none-25 = refl

module _ (k : Kind) (v : ℕ → Said) (sh : (f : ℕ) → f ≤ fields_of k → shaped (form_at k f) (v f) ≡ true) (ok : values_finding k v ≡ Ok tt) where
  kept : (f u : ℕ) → f ≤ fields_of k → get_or (sixties k v f) u false ≡ false
  kept = (values-fine k v).0 ok

  sayable : (f : ℕ) → 1 ≤ f → f ≤ fields_of k → Sayable (form_at k f) (width_at k f) (v f) (v (f + 1))
  unfolding refuses62 refuses63
  sayable f a b =
      record {
        wide = wide k f a b;
        narrow = (widths k f).1;
        shape = sh f b;
        after = λ e. rw (add-one f) (rw (sign-next k f e) at (sh (suc f) (sign-field k f e).1));
        fits = kept f 0 b;
        lawful = kept f 1 b;
      }

  -- what is cut from the record
  cut : (f : ℕ) → 1 ≤ f → f ≤ fields_of k → text_of (encode k v) k f ≡ bytes_as (form_at k f) (width_at k f) (v f) (v (f + 1))
  unfolding field_bytes
  cut f a b = text-encode k v f a b

  -- of a coordinate, its digits and its sign
  digits-after : (f : ℕ) → form_at k f ≡ Sign
      → (0 < width_at k (suc f)) × (width_at k (suc f) ≤ 10) × (too_large (width_at k (suc f)) (v (suc f)) ≡ false)
      × (text_of (encode k v) k (suc f) ≡ number_bytes (width_at k (suc f)) (v (suc f)))
  unfolding bytes_as refuses62
  digits-after f e =
      let b = (sign-field k f e).1 in
      let n = sign-next k f e in
      (wide k (suc f) (omega arith) b, (widths k (suc f)).1 (rw n), kept (suc f) 0 b, cut (suc f) (omega arith) b ∙ rw n)

  sign-cut : (f : ℕ) → form_at k f ≡ Sign → text_of (encode k v) k f ≡ sign_bytes 1 (v (suc f))
  unfolding bytes_as
  sign-cut f e =
      let r = sign-field k f e in
      cut f r.0 (omega arith) ∙ rw (e, sign-wide k f e, add-one f)

  -- a field is blank where it is written blank, and so are its partners
  blank : (f : ℕ) → f ≤ fields_of k → all_of Blank (text_of (encode k v) k f) ≡ blank_at k v f
  unfolding blank_at text_of width_at col_at form_at all_of each shaped refuses63
  blank zero b = no_text_lem (v 0) (sh 0 b) (kept 0 1 b)
  blank (suc g) b = rw (cut (suc g) (omega arith) b) (out-blank _ _ _ _ (sayable (suc g) (omega arith) b))

  partners : (f : ℕ) → f ≤ fields_of k → partners_blank (encode k v) k f ≡ partners_missing k v f
  unfolding partners_blank partners_missing
  partners f b =
      let w = partners-within k f b in
      each_same (all_of Blank) (λ t. t) _ _ (back_at k f + ahead_at k f + 1) (λ j l. blank (f - back_at k f + j) (omega arith))

  -- a sign and its number have the same partners
  pair-missing : (f : ℕ) → form_at k f ≡ Sign → partners_missing k v (suc f) ≡ partners_missing k v f
  unfolding partners_missing
  pair-missing f e =
      let w = pair-partners k f e in
      let p : suc f - back_at k (suc f) ≡ f - back_at k f = omega arith in
      let q : back_at k (suc f) + ahead_at k (suc f) + 1 ≡ back_at k f + ahead_at k f + 1 = omega arith in
      ap₂ (λ (x n : ℕ). each (λ t. t) (row (λ j. blank_at k v (x + j)) n)) p q

  -- the rules of a field
  module _ (f : ℕ) (a : 1 ≤ f) (b : f ≤ fields_of k) where
    keeps-22 : breaks22 (encode k v) k f ≡ false
    unfolding breaks22
    keeps-22 = rw (cut f a b) (out-number _ _ _ _ (sayable f a b))

    keeps-23 : breaks23 (encode k v) k f ≡ false
    unfolding breaks23
    keeps-23 = rw (cut f a b) (out-text _ _ _ _ (sayable f a b))

    told_here : missing_in (form_at k f) (bytes_as (form_at k f) (width_at k f) (v f) (v (f + 1))) ≡ missing_as (form_at k f) (v f) (v (f + 1))
        → breaks24 (encode k v) k f ≡ false
    unfolding breaks24 refuses64
    told_here e = rw (cut f a b, e, partners f b) (kept f 2 b)

    inside : missing_in (form_at k f) (text_of (encode k v) k f) ≡ false → outside (form_at k f) (domain_at k f) (text_of (encode k v) k f) (text_of (encode k v) k (f + 1)) ≡ false
    unfolding missing_in refuses65
    inside e =
        let n : all_of Blank (text_of (encode k v) k f) ≡ false = (neither _ _ e).0 in
        rw (cut f a b, add-one f)
        (out-inside _ _ _ _ _ (width_at k (suc f)) _ (domain-fits k f) (rw (add-one f) at (sayable f a b)) (digits-after f) (kept f 3 b) (rw (cut f a b, add-one f) at n))

    keeps-25 : breaks25 (encode k v) k f ≡ false
    unfolding breaks25
    keeps-25 = unless (breaks22 (encode k v) k f) (breaks23 (encode k v) k f) _ _ inside

  -- of a coordinate 24 is ruled out at its sign
  told-before : (f : ℕ) → suc f ≤ fields_of k
      → (form_at k (suc f) ≡ Size)
      × (missing_in (form_at k (suc f)) (bytes_as (form_at k (suc f)) (width_at k (suc f)) (v (suc f)) (v (suc f + 1))) ≡ is_missing (v (suc f)))
      → breaks24 (encode k v) k (suc f) ≡ false
  unfolding breaks24 refuses64
  told-before f b e =
      let s = size-before k f e.0 in
      rw (cut (suc f) (omega arith) b, e.1, partners (suc f) b, pair-missing f s, (pair-partners k f s).2)
      (rw (s, add-one f) at (kept f 2 (omega arith)))

  keeps-24 : (f : ℕ) → 1 ≤ f → f ≤ fields_of k → breaks24 (encode k v) k f ≡ false
  keeps-24 zero a b = absurd (not-suc-le-zero a)
  keeps-24 (suc f) a b = ⊎_elim (told-before f b) (told_here (suc f) a b) (out-missing _ _ _ _ (sayable (suc f) a b))

  keeps : (f : ℕ) → f ≤ fields_of k → Falses (twenties (encode k v) k f)
  keeps zero b =
      let s = encode k v in
      more (end-encode k v 0) (more (bar-encode k v 0) (more (none-22 s k) (more (none-23 s k) (more (none-24 s k) (more (none-25 s k) end)))))
  keeps (suc g) b =
      let f = suc g in
      let a : 1 ≤ suc g = omega arith in
      more (end-encode k v f) (more (bar-encode k v f) (more (keeps-22 f a b) (more (keeps-23 f a b) (more (keeps-24 f a b) (more (keeps-25 f a b) end)))))

  pub written-lawful : (i : ℕ) → record_finding (encode k v) k i ≡ Ok tt
  written-lawful i = (record-fine (encode k v) k i).1 (λ f u h. falses (keeps f h) u)

  pub said-back : (f : ℕ) → 1 ≤ f → f ≤ fields_of k → said_in (encode k v) k f ≡ v f
  unfolding said_in
  said-back zero a b = absurd (not-suc-le-zero a)
  said-back (suc g) a b =
      let q : suc g - 1 ≡ g = omega arith in
      rw (cut (suc g) a b, q) (out-said _ _ _ _ _ (sayable (suc g) a b) (λ e. sign-cut g (size-before k g e)))
