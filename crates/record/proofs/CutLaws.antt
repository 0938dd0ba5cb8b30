-- The laws of cutting: parts of a list, the records of a file (specs/Cut.antt).
-- Assumes nothing.
use Prim.Native.Nat.{ℕ, zero, suc, ◌+◌, ◌-◌, ◌*◌, ◌≤◌, ◌<◌}
use mathlib.Core.List.{List, [], ◌∷◌}
use mathlib.Core.Path.{◌≡◌, refl, sym, ◌∙◌}
use native.Mathlib.Decide.{dec_lt}
use native.Mathlib.Nat.{le-div_iff_mul-le, mul-le-mul, suc-mul}
use native.Mathlib.Omega.{arith}
use lib.ListN.{length, take, drop, length-take, length-drop, drop_of_length-le}
use lib.Seq.{take_all, take-nil, take-take, drop-drop}
use borrow.Author.Tests.{lt-ltb, le-ltb}
use Rattle.record.specs.declared.kind.Kind.{Kind}
use Rattle.record.specs.Table.{length_of, width_at, offset_at}
use Rattle.record.specs.Cut.{count_of, record_of, text_of}
use Rattle.record.proofs.TableLaws.{sane, within}

-- PARTS: past the end there is nothing,
pub part-past : (n a : ℕ) (s : List ℕ) → length s < a → [] ≡ take n (drop a s)
part-past n a s h = let l : length s ≤ a = omega arith in rw (drop_of_length-le s l, take-nil)

-- and what is left is a part that is too long
pub part_left : (n a : ℕ) (s : List ℕ) → length s - a < n → take (length s - a) (drop a s) ≡ take n (drop a s)
part_left n a s h =
    let l = length-drop a s in
    take_all (length s - a) (drop a s) (omega arith) ∙ sym (take_all n (drop a s) (omega arith))

-- a part of the first n is one of the whole
part-first : (w o n : ℕ) (s : List ℕ) → o + w ≤ n → take w (drop o (take n s)) ≡ take w (drop o s)
part-first w zero n s h = take-take w n s (omega arith)
part-first w (suc o) zero s h = absurd (omega arith)
part-first w (suc o) (suc n) [] h = refl
part-first w (suc o) (suc n) (x ∷ s) h = part-first w o n s (omega arith)

-- RECORDS: past the last there are none
pub record-past : (s : List ℕ) (k : Kind) (i : ℕ) → count_of s k ≤ i → record_of s k i ≡ []
unfolding record_of
record-past s k i h = rw (le-ltb i (count_of s k) h)

module _ (s : List ℕ) (k : Kind) (i : ℕ) (h : i < count_of s k) where
  -- a whole record stands within the file,
  pub record-within : i * length_of k + length_of k ≤ length s
  unfolding count_of
  record-within = rw (← suc-mul) ((le-div_iff_mul-le {k = length_of k} (omega (arith, sane k))).0 h)

  -- also as the code has its length,
  pub record-room : {n : ℕ} → n ≡ length_of k → i * n + n ≤ length s
  record-room e = rw e record-within

  -- is a part of it
  pub record-part : {n : ℕ} → n ≡ length_of k → take n (drop (i * n) s) ≡ record_of s k i
  unfolding record_of
  record-part e = rw (lt-ltb i (count_of s k) h, e)

  -- and has the length of its kind
  pub record-long : length (record_of s k i) ≡ length_of k
  record-long =
      let w = record-within in
      rw (← record-part {n = length_of k} refl, length-take, length-drop) (omega arith)

  -- a field of it is a part of the file, where the code knows where the record starts and what the table has of the field
  pub record-field : (f : ℕ) {at o w : ℕ} → at ≡ i * length_of k → o ≡ offset_at k f → w ≡ width_at k f → take w (drop (at + o) s) ≡ text_of (record_of s k i) k f
  unfolding text_of
  record-field f {at} {o} {w} p q e =
      let l = within k f in
      rw (p, ← q, ← e, ← record-part {n = length_of k} refl, part-first w o (length_of k) (drop (i * length_of k) s) (omega arith), drop-drop)

-- WHERE A RECORD ENDS, n being the length of its kind: a number in reach, where i is not too large;
module _ (k : Kind) (i : ℕ) {n : ℕ} (e : n ≡ length_of k) where
  pub end-small : i < 65536 → i * n + n ≤ 65536 * 149 + 149
  end-small l =
      let u : n ≤ 149 = omega (arith, sane k) in
      omega (arith, mul-le-mul {n₁ = i} {n₂ = 65536} {m₂ = 149} (omega arith) u)

  -- a record that ends within the file is whole, and any other is past the last
  pub end-within : (s : List ℕ) → i * n + n ≤ length s → i < count_of s k
  unfolding count_of
  end-within s h = (le-div_iff_mul-le {k = length_of k} (omega (arith, sane k))).1 (rw (suc-mul, ← e) h)

  pub end-past : (s : List ℕ) → length s < i * n + n → count_of s k ≤ i
  end-past s h = go (dec_lt i (count_of s k))
    where
      go : Dec (i < count_of s k) → count_of s k ≤ i
      go (yes l) = absurd (omega (arith, record-room s k i l e))
      go (no l) = omega arith
