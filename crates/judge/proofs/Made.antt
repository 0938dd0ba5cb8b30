-- The files that the writer makes, cut into records again: as many as there are values, each the bytes of its values, lawful, and
-- saying what these say.
-- Assumes nothing.
use Prim.Native.Nat.{ℕ, zero, suc, ◌+◌, ◌*◌, ◌<◌, ◌≤◌}
use mathlib.Core.List.{List, [], ◌∷◌}
use mathlib.Core.Path.{◌≡◌, refl, sym, ◌∙◌}
use native.Mathlib.Nat.{suc-mul, zero-mul, add_comm, mul-div_cancel, mul-mod_left, mul-le-mul_right, not-suc-le-zero, le_of_suc-le-suc}
use native.Mathlib.Omega.{arith}
use lib.ListN.{length, take, drop, get_or, length-append}
use lib.Seq.{take_at, drop-append-add}
use Rattle.record.specs.declared.kind.Kind.{Kind}
use Rattle.std.specs.Prelude.{Ok}
use Rattle.record.specs.Table.{length_of, fields_of, col_at, form_at, width_at}
use Rattle.record.specs.Cut.{count_of, record_of, text_of}
use Rattle.record.specs.Breaks.{shape_finding, fields_finding}
use Rattle.record.specs.Table.{limit}
use Rattle.record.specs.Says.{said_in, said_as}
use Rattle.record.proofs.TableLaws.{sane}
use Rattle.record.proofs.CutLaws.{record-part}
use Rattle.record.proofs.FindingLaws.{shape-fine}
use Rattle.field.specs.Bytes.{all_of}
use Rattle.laws.specs.Row.{each}
use Rattle.codec.specs.declared.values.Values.{Values}
use Rattle.codec.specs.Values.{value_at, values_say}
use Rattle.codec.specs.Writes.{encode}
use Rattle.codec.specs.Refusals.{values_finding}
use Rattle.codec.proofs.EncodeLaws.{length-encode}
use Rattle.codec.proofs.Out.{values-shaped, written-lawful, said-back}
use Rattle.judge.specs.Obeys.{no_values, written_of}
use Rattle.judge.proofs.NoneBroken.{fields-fine}

-- place 0 says nothing
whole_says : (s : List ℕ) (k : Kind) (x : Values) → said_in s k 0 ≡ values_say k x 0
unfolding said_in said_as text_of width_at form_at col_at values_say value_at all_of each
whole_says s k x = refl

-- the bytes of record i's values
abbrev pub bytes_of : Kind → List Values → ℕ → List ℕ
bytes_of k xs i = encode k (values_say k (get_or xs i no_values))

module _ (k : Kind) where
  pub length-written : (xs : List Values) → length (written_of k xs) ≡ length xs * length_of k
  unfolding written_of
  length-written [] = sym (zero-mul (length_of k))
  length-written (v ∷ xs) = rw (length-append, length-encode, length-written xs, suc-mul) (add_comm _ _)

  part-written : (xs : List Values) (i : ℕ) → i < length xs → take (length_of k) (drop (i * length_of k) (written_of k xs)) ≡ bytes_of k xs i
  unfolding written_of
  part-written [] i l = absurd (not-suc-le-zero l)
  part-written (v ∷ xs) zero l = rw zero-mul (take_at (encode k (values_say k v)) (written_of k xs) (length_of k) (length-encode k (values_say k v)))
  part-written (v ∷ xs) (suc i) l =
      let e : suc i * length_of k ≡ length (encode k (values_say k v)) + i * length_of k = rw (length-encode, suc-mul) (add_comm _ _) in
      rw (e, drop-append-add) (part-written xs i (le_of_suc-le-suc l))

  module _ (xs : List Values) where
    -- as many records
    pub count-written : count_of (written_of k xs) k ≡ length xs
    unfolding count_of
    count-written = rw (length-written xs) (mul-div_cancel (length xs) (omega (arith, sane k)))

    pub record-written : (i : ℕ) → i < length xs → record_of (written_of k xs) k i ≡ bytes_of k xs i
    record-written i l = sym (record-part (written_of k xs) k i (rw count-written l) refl) ∙ part-written xs i l

    -- of a file's shape nothing is broken
    pub shape-written : length xs ≤ limit → shape_finding (written_of k xs) k ≡ Ok tt
    shape-written h =
        sym
        (shape-fine (written_of k xs) k refl
        (rw (length-written xs) (mul-le-mul_right (length_of k) h)) (rw (length-written xs, mul-mod_left) (omega arith)))

    module _ (fields : (i : ℕ) → i < length xs → values_finding k (values_say k (get_or xs i no_values)) ≡ Ok tt) where
      -- nor of its fields,
      pub fields-written : fields_finding (written_of k xs) k ≡ Ok tt
      fields-written =
          fields-fine (written_of k xs) k
          (λ i l.
          let b : i < length xs = rw count-written at l in
          rw (record-written i b)
          (written-lawful k (values_say k (get_or xs i no_values)) (λ f _. values-shaped k (get_or xs i no_values) f) (fields i b) (i + 1)))

      -- and they say what the values say
      pub said-written : (i f : ℕ) → i < length xs → f ≤ fields_of k → said_in (record_of (written_of k xs) k i) k f ≡ values_say k (get_or xs i no_values) f
      said-written i f l b = rw (record-written i l) (go f b)
        where
          go : (f : ℕ) → f ≤ fields_of k → said_in (bytes_of k xs i) k f ≡ values_say k (get_or xs i no_values) f
          go zero b = whole_says (bytes_of k xs i) k (get_or xs i no_values)
          go (suc f) b = said-back k (values_say k (get_or xs i no_values)) (λ f _. values-shaped k (get_or xs i no_values) f) (fields i l) (suc f) (omega arith) b
