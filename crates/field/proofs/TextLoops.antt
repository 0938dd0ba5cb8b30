-- What the loops over texts do in a turn: a class byte by byte, a padded text byte by byte, trailing blanks, a text as one number.
-- Assumes nothing.
use Prim.Native.Nat.{ℕ, zero, suc, ◌+◌, ◌-◌, ◌*◌, ◌^◌, ◌≤◌, ◌<◌, min}
use mathlib.Core.Path.{◌≡◌, refl, ap, ap₂, sym, ◌∙◌}
use mathlib.Core.Bool.{Bool, true, false, ◌&&◌, ◌||◌, and_assoc, and-true}
use mathlib.Core.List.{List, [], ◌∷◌, ◌++◌, append_assoc, append-nil}
use native.Mathlib.Nat.{pow-suc, not-suc-le-zero}
use native.Mathlib.Numerals.{add-one, sub-one}
use native.Mathlib.Decide.{dec_lt}
use native.Mathlib.Omega.{arith}
use lib.Dec.{ltb, eqb}
use lib.ListN.{length, get_or, take, drop, set, drop_of_length-le, replicate, length-append, length-replicate, length-drop, get_or-replicate, get_or-append, get_or-eq_default}
use lib.Seq.{drop-cons, take-suc, take-suc-set, take_all, get_or-take, get_or-append-add, length-take-le}
use borrow.Author.Tests.{ltb-true, ltb-false, lt-ltb, le-ltb, eqb-true, eq-eqb, ne_eqb}
use Rattle.std.proofs.lemmas.List.{get_or-append_right, take_at}
use Rattle.std.proofs.lemmas.Slice.{take-put_mid}
use borrow.Rule.Slice.PartMut.{put_mid}
use Rattle.std.proofs.lemmas.Grind.{same_number_lists}
use Rattle.laws.specs.Row.{pick, each}
use Rattle.field.specs.declared.class.Class.{Class}
use Rattle.field.specs.Bytes.{in_class, all_of, blanks}
use Rattle.field.specs.Texts.{padded, trim_to, trimmed, first_bytes, not_given, base256, word_of}

-- A CLASS: the invariant is `(b && all_of c (drop j s)) ≡ all_of c s`, with b for the bytes that were passed
pub class-more : (c : Class) (b : Bool) (s : List ℕ) (j : ℕ) {r : Bool} → j < length s → r ≡ in_class c (get_or s j 0)
    → (b && r && all_of c (drop (j + 1) s)) ≡ (b && all_of c (drop j s))
unfolding all_of each
class-more c b s j h e = rw (e, add-one, drop-cons s j 0 h) (and_assoc b (in_class c (get_or s j 0)) (each (in_class c) (drop (suc j) s)))

pub class-end : (c : Class) (b : Bool) (s : List ℕ) (j : ℕ) → length s ≤ j → (b && all_of c (drop j s)) ≡ b
unfolding all_of each
class-end c b s j h = rw (drop_of_length-le s h, and-true)

-- THE FIRST BYTES of a text
pub zeros-after : (s : List ℕ) (n k : ℕ) → get_or (s ++ replicate n 0) k 0 ≡ get_or s k 0
zeros-after [] zero k = refl
zeros-after [] (suc n) zero = refl
zeros-after [] (suc n) (suc k) = zeros-after [] n k
zeros-after (x ∷ s) n zero = refl
zeros-after (x ∷ s) n (suc k) = zeros-after s n k

pub length-first : (len : ℕ) (s : List ℕ) → length (first_bytes len s) ≡ len
unfolding first_bytes
length-first len s = length-take-le len (s ++ replicate len 0) (simp (length-append, length-replicate) (omega arith))

pub first-at : (len : ℕ) (s : List ℕ) (k : ℕ) → k < len → get_or (first_bytes len s) k 0 ≡ get_or s k 0
unfolding first_bytes
first-at len s k h = get_or-take len (s ++ replicate len 0) k 0 h ∙ zeros-after s len k

-- A PADDED TEXT
pub length-padded : (w : ℕ) (t : List ℕ) → length (padded w t) ≡ w
unfolding padded
length-padded w t = length-take-le w (t ++ blanks w) (simp (length-append, length-replicate) (omega arith))

pub padded-in : (w : ℕ) (t : List ℕ) (k : ℕ) → k < w → k < length t → get_or (padded w t) k 0 ≡ get_or t k 0
unfolding padded
padded-in w t k h l = get_or-take w (t ++ blanks w) k 0 h ∙ get_or-append t (blanks w) 0 k l

pub padded-past : (w : ℕ) (t : List ℕ) (k : ℕ) → k < w → length t ≤ k → get_or (padded w t) k 0 ≡ 32
unfolding padded
padded-past w t k h l =
    let e : k ≡ length t + (k - length t) = omega arith in
    get_or-take w (t ++ blanks w) k 0 h
    ∙ ap (λ (i : ℕ). get_or (t ++ blanks w) i 0) e
    ∙ get_or-append-add t (blanks w) (k - length t) 0
    ∙ get_or-replicate w (k - length t) 32 0 (omega arith)

-- byte by byte, where the text's bytes stand in s
pub padded-at : (w : ℕ) (t s : List ℕ) {len : ℕ} (k : ℕ) → length t ≡ len → (k < len → get_or t k 0 ≡ get_or s k 0) → k < w
    → get_or (padded w t) k 0 ≡ pick (ltb k len) (get_or s k 0) 32
padded-at w t s {len} k e f h = go (ltb k len) refl
  where
    go : (b : Bool) → ltb k len ≡ b → get_or (padded w t) k 0 ≡ pick b (get_or s k 0) 32
    go true q =
        let l = ltb-true k len q in
        padded-in w t k h (rw e l) ∙ f l
    go false q = padded-past w t k h (rw e (ltb-false k len q))

-- WRITING: byte by byte, where the invariant is `take k part ≡ take k whole`
pub bytes-more : (k : ℕ) (p whole : List ℕ) (b : ℕ) → k < length p → k < length whole → b ≡ get_or whole k 0 → take k p ≡ take k whole
    → take (k + 1) (set p k b) ≡ take (k + 1) whole
bytes-more k p whole b h g q e =
    rw (add-one, take-suc-set p k b h, take-suc whole k 0 g, e, q)

pub bytes-end : {k : ℕ} (p whole : List ℕ) → length whole ≡ length p → length p ≤ k → take k p ≡ take k whole → p ≡ whole
bytes-end {k = k} p whole l h e = sym (take_all k p h) ∙ e ∙ take_all k whole (omega arith)

-- and in parts: what the text has of its first len bytes, zeros for the others, and blanks, are the padded text,
abbrev pub three_parts : ℕ → List ℕ → ℕ → ℕ → List ℕ
three_parts w s given there = take there s ++ (replicate (given - there) 0 ++ replicate (w - given) 32)

module _ (w len : ℕ) (s : List ℕ) (given there : ℕ) (g : given ≡ min len w) (t : there ≡ min given (length s)) where
  length-there : length (take there s) ≡ there
  length-there = length-take-le there s (omega arith)

  past-there : (k : ℕ) → there ≤ k → get_or (three_parts w s given there) k 0 ≡ get_or (replicate (given - there) 0 ++ replicate (w - given) 32) (k - there) 0
  past-there k h = get_or-append_right (take there s) (replicate (given - there) 0 ++ replicate (w - given) 32) there k 0 length-there h

  parts-at : (k : ℕ) → k < w → get_or (three_parts w s given there) k 0 ≡ get_or (padded w (first_bytes len s)) k 0
  parts-at k h = go (dec_lt k there) (dec_lt k given) ∙ sym (padded-at w (first_bytes len s) s k (length-first len s) (first-at len s k) h)
    where
      go : Dec (k < there) → Dec (k < given) → get_or (three_parts w s given there) k 0 ≡ pick (ltb k len) (get_or s k 0) 32
      go (yes l) m =
          rw (lt-ltb k len (omega arith))
          (get_or-append (take there s) (replicate (given - there) 0 ++ replicate (w - given) 32) 0 k (omega (arith, length-there)) ∙ get_or-take there s k 0 l)
      go (no l) (yes m) =
          rw (lt-ltb k len (omega arith))
          (past-there k (omega arith)
          ∙ get_or-append (replicate (given - there) 0) (replicate (w - given) 32) 0 (k - there) (omega (arith, length-replicate {A = ℕ} (given - there) 0))
          ∙ get_or-replicate (given - there) (k - there) 0 0 (omega arith)
          ∙ sym (get_or-eq_default s 0 {n = k} (omega arith)))
      go (no l) (no m) =
          rw (le-ltb k len (omega arith))
          (past-there k (omega arith)
          ∙ get_or-append_right (replicate (given - there) 0) (replicate (w - given) 32) (given - there) (k - there) 0 (length-replicate {A = ℕ} (given - there) 0) (omega arith)
          ∙ get_or-replicate (w - given) (k - there - (given - there)) 32 0 (omega arith))

  length-parts : length (three_parts w s given there) ≡ w
  length-parts = simp (length-append, length-replicate, length-there) (omega arith)

  pub parts-padded : three_parts w s given there ≡ padded w (first_bytes len s)
  parts-padded =
      same_number_lists (three_parts w s given there) (padded w (first_bytes len s)) (length-parts ∙ sym (length-padded w (first_bytes len s)))
      (λ k h. parts-at k (omega (arith, length-parts)))

-- and so is what three writes leave, one after the other
pub written-parts : (p a b c : List ℕ) (given there : ℕ) → length a ≡ there → length b ≡ given - there → there ≤ given → given ≤ length p
    → put_mid given (length (put_mid there (given - there) (a ++ drop there p) b) - given) (put_mid there (given - there) (a ++ drop there p) b) c ≡ a ++ (b ++ c)
written-parts p a b c given there la lb l m =
    let front : take given (put_mid there (given - there) (a ++ drop there p) b) ≡ take there (a ++ drop there p) ++ b
    = take-put_mid there (given - there) (a ++ drop there p) b given (omega arith) (simp length-append (omega arith)) in
    let back : drop (length (put_mid there (given - there) (a ++ drop there p) b) - given) (drop given (put_mid there (given - there) (a ++ drop there p) b)) ≡ []
    = drop_of_length-le (drop given (put_mid there (given - there) (a ++ drop there p) b)) (omega (arith, length-drop given (put_mid there (given - there) (a ++ drop there p) b))) in
    ap₂ (λ (x y : List ℕ). x ++ (c ++ y)) front back ∙ rw (take_at a (drop there p) there la, append-nil) (append_assoc a b c)

-- TRAILING BLANKS: the invariant is `trim_to k part ≡ trim_to (length part) part`
pub trim-blank : (k : ℕ) (s : List ℕ) → 0 < k → get_or s (k - 1) 0 ≡ 32 → trim_to (k - 1) s ≡ trim_to k s
unfolding trim_to
trim-blank zero s h e = absurd (not-suc-le-zero h)
trim-blank (suc k) s h e =
    let e' : get_or s k 0 ≡ 32 = rw sub-one at e in
    rw (sub-one, eq-eqb (get_or s k 0) 32 e')

pub trim-stop : (k : ℕ) (s : List ℕ) → 0 < k → (get_or s (k - 1) 0 ≡ 32 → ⊥) → trim_to k s ≡ k
unfolding trim_to
trim-stop zero s h e = absurd (not-suc-le-zero h)
trim-stop (suc k) s h e = rw (ne_eqb (get_or s k 0) 32 (rw sub-one at e)) refl

pub trim-le : (k : ℕ) (s : List ℕ) → trim_to k s ≤ k
unfolding trim_to
trim-le zero s = omega arith
trim-le (suc k) s = go (eqb (get_or s k 0) 32) (trim-le k s)
  where
    go : (b : Bool) → trim_to k s ≤ k → pick b (trim_to k s) (suc k) ≤ suc k
    go true h = omega arith
    go false h = omega arith

pub length-trimmed : (s : List ℕ) → length (trimmed s) ≡ trim_to (length s) s
unfolding trimmed
length-trimmed s = length-take-le (trim_to (length s) s) s (trim-le (length s) s)

pub trimmed-at : (s : List ℕ) (k : ℕ) → k < length (trimmed s) → get_or (trimmed s) k 0 ≡ get_or s k 0
unfolding trimmed
trimmed-at s k h =
    let l : k < trim_to (length s) s = rw length-trimmed at h in
    get_or-take (trim_to (length s) s) s k 0 l

-- NA AND ND
pub not-given-is : (len : ℕ) (s : List ℕ)
    → not_given (first_bytes len s) ≡ (eqb len 2 && eqb (get_or s 0 0) 78 && (eqb (get_or s 1 0) 65 || eqb (get_or s 1 0) 68))
unfolding not_given
not-given-is len s = rw length-first (go (eqb len 2) refl)
  where
    t : List ℕ
    t = first_bytes len s

    go : (b : Bool) → eqb len 2 ≡ b
        → (b && eqb (get_or t 0 0) 78 && (eqb (get_or t 1 0) 65 || eqb (get_or t 1 0) 68))
        ≡ (b && eqb (get_or s 0 0) 78 && (eqb (get_or s 1 0) 65 || eqb (get_or s 1 0) 68))
    go true q =
        let e = eqb-true len 2 q in
        rw (first-at len s 0 (omega arith), first-at len s 1 (omega arith))
    go false q = refl

-- A TEXT AS ONE NUMBER: the invariant is `n ≡ base256 k whole`, with the bound `n < 256 ^ k`
pub base_more : (k : ℕ) (s : List ℕ) → base256 (k + 1) s ≡ base256 k s * 256 + get_or s k 0
unfolding base256
base_more k s = rw add-one refl

pub base-bound : (k n d : ℕ) → n < 256 ^ k → d < 256 → n * 256 + d < 256 ^ (k + 1)
base-bound k n d h g = rw add-one (omega (arith, pow-suc 256 k))

pub word_more : (k : ℕ) (s : List ℕ) {len n b : ℕ} → len ≡ length (trimmed s) → b ≡ pick (ltb k len) (get_or s k 0) 32 → k < 8
    → n ≡ base256 k (padded 8 (trimmed s)) → n * 256 + b ≡ base256 (k + 1) (padded 8 (trimmed s))
word_more k s {len} {n} {b} e q h i =
    let p : get_or (padded 8 (trimmed s)) k 0 ≡ pick (ltb k len) (get_or s k 0) 32
    = padded-at 8 (trimmed s) s k (sym e) (λ l. trimmed-at s k (rw e at l)) h in
    rw (base_more k (padded 8 (trimmed s)), p, i, q)

pub word_end : {k n : ℕ} (s : List ℕ) → k ≡ 8 → n ≡ base256 k (padded 8 (trimmed s)) → n ≡ word_of (trimmed s)
unfolding word_of
word_end s e i = i ∙ ap (λ (k : ℕ). base256 k (padded 8 (trimmed s))) e
