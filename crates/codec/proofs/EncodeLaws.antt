-- A record's bytes, encoded: each field is a part, and what is cut is joined again.
-- Assumes nothing.
use Prim.Native.Nat.{ℕ, zero, suc, ◌+◌, ◌-◌, ◌<◌, ◌≤◌}
use mathlib.Core.Path.{◌≡◌, refl, sym, ap, ◌∙◌}
use mathlib.Core.Bool.{false, not, ◌&&◌}
use mathlib.Core.List.{List, []}
use native.Mathlib.Nat.{not-suc-le-zero}
use native.Mathlib.Decide.{dec_lt}
use native.Mathlib.Omega.{arith}
use lib.Dec.{ltb, eqb}
use lib.ListN.{length, get_or, take, drop, drop_of_length-le, take-append-drop}
use lib.Seq.{drop-cons, drop-drop}
use borrow.Author.Tests.{eqb-true, not-false, eq-eqb, le-ltb, lt-ltb}
use Rattle.laws.specs.Row.{row}
use Rattle.laws.proofs.RowLaws.{and-true, and_last, length-row}
use Rattle.record.specs.declared.kind.Kind.{Kind}
use Rattle.record.specs.Table.{width_at, offset_at, fields_of, length_of}
use Rattle.record.specs.Cut.{text_of}
use Rattle.record.specs.Rules.{breaks20, breaks21}
use Rattle.record.specs.Says.{Said}
use Rattle.record.proofs.TableLaws.{within, offset-end}
use Rattle.codec.specs.Writes.{field_bytes, ending, joined, fields_bytes, encode}
use Rattle.codec.proofs.JoinLaws.{last, length-field, offset-one, offset-after, some-field, last_end, joined-next, joined_end, ending-bar, ending-last, row_one, Parts, text-joined, after-joined, length-joined, last-joined}

-- THE TESTS of what stands after the fields, of any bytes
module _ (j n x : ℕ) where
  bar-there : suc j < n → (ltb 0 (suc j) && ltb (suc j) n && not (eqb x 124)) ≡ false → x ≡ 124
  bar-there l e = eqb-true x 124 (not-false (eqb x 124) (rw (lt-ltb 0 (suc j) (omega arith), lt-ltb (suc j) n l) at e))

  there-bar : (suc j < n → x ≡ 124) → (ltb 0 (suc j) && ltb (suc j) n && not (eqb x 124)) ≡ false
  there-bar h = go (dec_lt (suc j) n)
    where
      go : Dec (suc j < n) → (ltb 0 (suc j) && ltb (suc j) n && not (eqb x 124)) ≡ false
      go (yes l) = and_last (ltb 0 (suc j) && ltb (suc j) n) (not (eqb x 124)) (λ _. rw (eq-eqb x 124 (h l)))
      go (no m) = rw (lt-ltb 0 (suc j) (omega arith), le-ltb (suc j) n (omega arith))

-- ENCODED: a field's bytes are a part
parts-encode : (k : Kind) (v : ℕ → Said) → Parts k (fields_bytes k v)
parts-encode k v =
    record {
      count = length-row _ (fields_of k);
      sized = λ j l. rw (row_one (field_bytes k v) (fields_of k) j l) (length-field k v (suc j));
    }

module _ (k : Kind) (v : ℕ → Said) where
  pub length-encode : length (encode k v) ≡ length_of k
  unfolding encode
  length-encode = length-joined k (fields_bytes k v) (parts-encode k v)

  pub text-encode : (f : ℕ) → 1 ≤ f → f ≤ fields_of k → text_of (encode k v) k f ≡ field_bytes k v f
  unfolding encode
  text-encode zero a b = absurd (not-suc-le-zero a)
  text-encode (suc j) a b = text-joined k (fields_bytes k v) (parts-encode k v) j b ∙ row_one (field_bytes k v) (fields_of k) j b

  pub bar-encode : (f : ℕ) → breaks21 (encode k v) k f ≡ false
  unfolding encode breaks21
  bar-encode zero = refl
  bar-encode (suc j) =
      there-bar j (fields_of k) _
      (λ l. after-joined k (fields_bytes k v) (parts-encode k v) j (omega arith) ∙ ending-bar (fields_bytes k v) (suc j) (omega (arith, (parts-encode k v).count)))

  pub end-encode : (f : ℕ) → breaks20 (encode k v) k f ≡ false
  unfolding encode breaks20
  end-encode f =
      let p = parts-encode k v in
      let a : get_or (joined (fields_bytes k v)) (length_of k - 2) 0 ≡ 13 =
      ap (λ (i : ℕ). get_or (joined (fields_bytes k v)) i 0) (sym (last_end k))
      ∙ after-joined k (fields_bytes k v) p (last k) (omega (arith, some-field k))
      ∙ ending-last (fields_bytes k v) (suc (last k)) (omega (arith, p.count)) in
      and_last (eqb f 0) _ (λ _. rw (eq-eqb _ 13 a, eq-eqb _ 10 (last-joined k (fields_bytes k v) p)))

-- CUT AND JOINED AGAIN
module _ (s : List ℕ) (k : Kind) (l : length s ≡ length_of k) (e : breaks20 s k 0 ≡ false) (b : (f : ℕ) → f ≤ fields_of k → breaks21 s k f ≡ false) where
  abbrev cut : List (List ℕ)
  cut = row (λ i. text_of s k (i + 1)) (fields_of k)

  ends : (get_or s (length_of k - 2) 0 ≡ 13) × (get_or s (length_of k - 1) 0 ≡ 10)
  unfolding breaks20
  ends =
      let q = and-true _ _ (not-false _ e) in
      (eqb-true _ _ q.0, eqb-true _ _ q.1)

  cut-after : (j : ℕ) → j < fields_of k → ending (drop (suc j) cut) ≡ get_or s (offset_at k (suc j) + width_at k (suc j)) 0
  unfolding breaks21
  cut-after j h = go (dec_lt (suc j) (fields_of k))
    where
      go : Dec (suc j < fields_of k) → ending (drop (suc j) cut) ≡ get_or s (offset_at k (suc j) + width_at k (suc j)) 0
      go (yes m) = ending-bar cut (suc j) (rw length-row m) ∙ sym (bar-there j (fields_of k) _ m (b (suc j) h))
      go (no m) =
          let q : j ≡ last k = omega arith in
          ending-last cut (suc j) (rw length-row (omega arith)) ∙ sym ends.0 ∙ ap (λ (i : ℕ). get_or s i 0) (rw q (sym (last_end k)))

  cut-from : (m j : ℕ) → m + j ≡ fields_of k → joined (drop j cut) ≡ drop (offset_at k (suc j)) s
  unfolding text_of
  cut-from zero j h =
      let o = offset_at k (suc j) in
      let q : o + 1 ≡ length_of k = offset-end k (suc j) (omega arith) in
      let n : length_of k - 1 ≡ o = omega arith in
      let z : drop (suc o) s ≡ [] = drop_of_length-le s {i = suc o} (omega arith) in
      joined_end cut j (rw length-row (omega arith))
      ∙ sym (drop-cons s o 0 (omega arith) ∙ rw (z, ← n, ends.1))
  cut-from (suc m) j h =
      let o = offset_at k (suc j) in
      let w = width_at k (suc j) in
      let q : j < fields_of k = omega arith in
      let n : offset_at k (suc (suc j)) ≡ suc (o + w) = omega (arith, offset-after k j q) in
      let t : get_or cut j [] ≡ take w (drop o s) = row_one (text_of s k) (fields_of k) j q in
      joined-next cut j (rw length-row q)
      ∙ rw (t, cut-after j q, cut-from m (suc j) (omega arith), n, ← drop-cons s (o + w) 0 (omega (arith, within k (suc j))), ← drop-drop w o s)
      (take-append-drop w (drop o s))

  pub joined-cut : joined (row (λ i. text_of s k (i + 1)) (fields_of k)) ≡ s
  joined-cut = cut-from (fields_of k) 0 (omega arith) ∙ ap (λ (n : ℕ). drop n s) (offset-one k)
