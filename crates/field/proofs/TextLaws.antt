-- The laws of a text in a field: padding, trimming, the first bytes, and a text as one number (specs/Texts.antt).
-- Assumes nothing.
use Prim.Native.Nat.{ℕ, zero, suc, ◌-◌, ◌≤◌, ◌<◌}
use mathlib.Core.Bool.{Bool, true, false, not, ◌&&◌, ◌||◌, and-false, or-true}
use mathlib.Core.Bool as bool
use mathlib.Core.List.{List, [], ◌∷◌, ◌++◌}
use mathlib.Core.Path.{◌≡◌, refl, ap, sym, ◌∙◌}
use mathlib.Core.Logic.{⊎_elim}
use native.Mathlib.Nat.{not-suc-le-zero, le_of_suc-le-suc, eq-or-lt_of_le}
use native.Mathlib.Decide.{dec_lt}
use native.Mathlib.Omega.{arith}
use lib.Dec.{leb, eqb}
use lib.ListN.{length, get_or, take, replicate, length-replicate, get_or-replicate, get_or-eq_default}
use lib.Seq.{take_all, take_at, take-take, take-append-le, ext_get_or}
use borrow.Author.Tests.{eqb-true, eq-eqb, ne_eqb, leb-true, le-leb}
use Rattle.laws.specs.Row.{pick, each}
use Rattle.laws.proofs.FindLaws.{true-false}
use Rattle.laws.proofs.RowLaws.{and-true, true-and, neither}
use Rattle.field.specs.declared.class.Class.{Class}
use Rattle.field.specs.declared.class.Class.TheVariants.{Blank, Text, Plain}
use Rattle.field.specs.Bytes.{in_class, all_of, blanks}
use Rattle.field.specs.Texts.{padded, trim_to, trimmed, edged_by, lawful_text, first_bytes, base256, word_of}
use Rattle.field.proofs.TextLoops.{length-first, first-at, length-padded, padded-in, padded-past, length-trimmed, trimmed-at, base_more}
use Rattle.field.proofs.DigitLaws.{all-at, not-all, all_append}

-- CLASSES: of blanks, of the first bytes
all-blanks : (c : Class) → in_class c 32 ≡ true → (w : ℕ) → all_of c (blanks w) ≡ true
unfolding all_of each
all-blanks c e zero = refl
all-blanks c e (suc w) = true-and (in_class c 32) (each (in_class c) (blanks w)) e (all-blanks c e w)

all_take : (c : Class) (n : ℕ) (s : List ℕ) → all_of c s ≡ true → all_of c (take n s) ≡ true
unfolding all_of each
all_take c zero s e = refl
all_take c (suc n) [] e = refl
all_take c (suc n) (b ∷ s) e =
    let q = and-true (in_class c b) (each (in_class c) s) e in
    true-and (in_class c b) (each (in_class c) (take n s)) q.0 (all_take c n s q.1)

pub blanks-are : (w : ℕ) → all_of Blank (blanks w) ≡ true
blanks-are w = all-blanks Blank refl w

pub blank-is : (s : List ℕ) → all_of Blank s ≡ true → s ≡ blanks (length s)
blank-is s e =
    ext_get_or 0 s (blanks (length s)) (sym (length-replicate (length s) 32))
    (λ k l. eqb-true (get_or s k 0) 32 (all-at Blank s k e l) ∙ sym (get_or-replicate (length s) k 32 0 l))

pub not-blank-first : (s : List ℕ) → 0 < length s → eqb (get_or s 0 0) 32 ≡ false → all_of Blank s ≡ false
not-blank-first s l e = not-all Blank s 0 l e

pub padded-first : (w : ℕ) (t : List ℕ) → 0 < w → 0 < length t → get_or (padded w t) 0 0 ≡ get_or t 0 0
padded-first w t h l = padded-in w t 0 h l

pub padded-empty : (w : ℕ) → padded w [] ≡ blanks w
unfolding padded
padded-empty w = take_all w (blanks w) (omega (arith, length-replicate {A = ℕ} w 32))

pub padded-text : (w : ℕ) (t : List ℕ) → all_of Text t ≡ true → all_of Text (padded w t) ≡ true
unfolding padded
padded-text w t e = all_take Text w (t ++ blanks w) (all_append Text t (blanks w) e (all-blanks Text refl w))

take-padded : (w : ℕ) (t : List ℕ) → length t ≤ w → take (length t) (padded w t) ≡ t
unfolding padded
take-padded w t h = take-take (length t) w (t ++ blanks w) h ∙ take_at t (blanks w) (length t) refl

-- TRIMMING: of the first k bytes n are left
record Ends (k : ℕ) (s : List ℕ) (n : ℕ) : Type 0 where
  within : n ≤ k
  past : (j : ℕ) → n ≤ j → j < k → eqb (get_or s j 0) 32 ≡ true
  last : 0 < n → eqb (get_or s (n - 1) 0) 32 ≡ false

ends : (k : ℕ) (s : List ℕ) → Ends k s (trim_to k s)
unfolding trim_to
ends zero s = record { within = omega arith; past = λ j l h. absurd (not-suc-le-zero h); last = λ h. absurd (not-suc-le-zero h) }
ends (suc k) s = go (eqb (get_or s k 0) 32) refl (ends k s)
  where
    go : (b : Bool) → eqb (get_or s k 0) 32 ≡ b → Ends k s (trim_to k s) → Ends (suc k) s (pick b (trim_to k s) (suc k))
    go true e r =
        record {
          within = omega (arith, r.within);
          past = λ j l h. ⊎_elim (λ q. rw q e) (λ h'. r.past j l h') (eq-or-lt_of_le (le_of_suc-le-suc h));
          last = r.last;
        }
    go false e r =
        let q : suc k - 1 ≡ k = omega arith in
        record { within = omega arith; past = λ j l h. absurd (omega arith); last = λ h. rw q e }

not-longer : {k : ℕ} {s : List ℕ} {m n : ℕ} → Ends k s m → Ends k s n → n < m → ⊥
not-longer {k} {s} {m} {n} p q h =
    true-false (sym (q.past (m - 1) (omega arith) (omega (arith, p.within))) ∙ p.last (omega arith))

ends_same : {k : ℕ} {s : List ℕ} {m n : ℕ} → Ends k s m → Ends k s n → m ≡ n
ends_same {k} {s} {m} {n} p q = go (dec_lt n m) (dec_lt m n)
  where
    go : Dec (n < m) → Dec (m < n) → m ≡ n
    go (yes h) d = absurd (not-longer p q h)
    go (no h) (yes l) = absurd (not-longer q p l)
    go (no h) (no l) = omega arith

ended : (s : List ℕ) → Ends (length s) s (length (trimmed s))
ended s = rw length-trimmed (ends (length s) s)

pub trimmed-le : (s : List ℕ) → length (trimmed s) ≤ length s
trimmed-le s = (ended s).within

pub trimmed-last : (s : List ℕ) → 0 < length (trimmed s) → eqb (get_or (trimmed s) (length (trimmed s) - 1) 0) 32 ≡ false
trimmed-last s h = rw (trimmed-at s (length (trimmed s) - 1) (omega arith)) ((ended s).last h)

pub trimmed-first : (s : List ℕ) → 0 < length (trimmed s) → get_or (trimmed s) 0 0 ≡ get_or s 0 0
trimmed-first s h = trimmed-at s 0 h

pub trimmed-text : (s : List ℕ) → all_of Text s ≡ true → all_of Text (trimmed s) ≡ true
unfolding trimmed
trimmed-text s e = all_take Text (trim_to (length s) s) s e

pub padded-trimmed : (s : List ℕ) → padded (length s) (trimmed s) ≡ s
padded-trimmed s = ext_get_or 0 (padded (length s) t) s (length-padded (length s) t) (λ k h. at k (rw length-padded at h) (dec_lt k (length t)))
  where
    t : List ℕ
    t = trimmed s

    at : (k : ℕ) → k < length s → Dec (k < length t) → get_or (padded (length s) t) k 0 ≡ get_or s k 0
    at k h (yes l) = padded-in (length s) t k h l ∙ trimmed-at s k l
    at k h (no l) =
        let m : length t ≤ k = omega arith in
        padded-past (length s) t k h m ∙ sym (eqb-true (get_or s k 0) 32 ((ended s).past k m h))

-- what is left is told by the bytes
trimmed-ends : (s : List ℕ) (n : ℕ) → Ends (length s) s n → trimmed s ≡ take n s
unfolding trimmed
trimmed-ends s n e = ap (λ (m : ℕ). take m s) (ends_same (ends (length s) s) e)

pub trimmed-blank : (s : List ℕ) → all_of Blank s ≡ true → trimmed s ≡ []
trimmed-blank s e = trimmed-ends s 0 (record { within = omega arith; past = λ k l h. all-at Blank s k e h; last = λ h. absurd (not-suc-le-zero h) })

pub trimmed-some : (s : List ℕ) → all_of Blank s ≡ false → 0 < length (trimmed s)
trimmed-some s e = go (trimmed s) (padded-trimmed s)
  where
    go : (t : List ℕ) → padded (length s) t ≡ s → 0 < length t
    go [] q = absurd (true-false (sym (blanks-are (length s)) ∙ ap (all_of Blank) (sym (padded-empty (length s)) ∙ q) ∙ e))
    go (b ∷ t) q = omega arith

-- a text that does not end in a blank, the empty one too, is what is left of it padded
trimmed-whole : (w : ℕ) (t : List ℕ) → length t ≤ w → (0 < length t → eqb (get_or t (length t - 1) 0) 32 ≡ false) → trimmed (padded w t) ≡ t
trimmed-whole w t h e = trimmed-ends (padded w t) (length t) (rw length-padded now) ∙ take-padded w t h
  where
    now : Ends w (padded w t) (length t)
    now = record {
      within = h;
      past = λ k l m. eq-eqb (get_or (padded w t) k 0) 32 (padded-past w t k m l);
      last = λ l. rw (padded-in w t (length t - 1) (omega arith) (omega arith)) (e l);
    }

pub trimmed-padded : (w : ℕ) (t : List ℕ) → length t ≤ w → 0 < length t → eqb (get_or t (length t - 1) 0) 32 ≡ false → trimmed (padded w t) ≡ t
trimmed-padded w t h l e = trimmed-whole w t h (λ _. e)

pub first-bytes-le : (len : ℕ) (s : List ℕ) → len ≤ length s → first_bytes len s ≡ take len s
unfolding first_bytes
first-bytes-le len s h = take-append-le len s (replicate len 0) h

pub first-bytes-padded : (t : List ℕ) (w : ℕ) → length t ≤ w → first_bytes (length t) (padded w t) ≡ t
first-bytes-padded t w h = first-bytes-le (length t) (padded w t) (rw length-padded h) ∙ take-padded w t h

pub first-trimmed : (s : List ℕ) → first_bytes (length (trimmed s)) s ≡ trimmed s
unfolding trimmed
first-trimmed s = first-bytes-le (length (trimmed s)) s (trimmed-le s) ∙ ap (λ (n : ℕ). take n s) (length-trimmed s)

-- WHAT A TEXT BEGINS AND ENDS IN
pub edged-first : (b len : ℕ) (s : List ℕ) → 0 < len → edged_by b (first_bytes len s) ≡ (eqb (get_or s 0 0) b || eqb (get_or s (len - 1) 0) b)
unfolding edged_by
edged-first b len s h = rw (length-first, first-at len s 0 h, first-at len s (len - 1) (omega arith))

pub edged-not : (b : ℕ) (t : List ℕ) → eqb (get_or t 0 0) b ≡ false → eqb (get_or t (length t - 1) 0) b ≡ false → edged_by b t ≡ false
unfolding edged_by
edged-not b t f l = rw (f, l)

pub not-edged : (b : ℕ) (t : List ℕ) → edged_by b t ≡ false → (eqb (get_or t 0 0) b ≡ false) × (eqb (get_or t (length t - 1) 0) b ≡ false)
unfolding edged_by
not-edged b t e = neither _ _ e

pub edged-none : (b : ℕ) (s : List ℕ) → eqb 0 b ≡ edged_by b (first_bytes 0 s)
unfolding edged_by first_bytes
edged-none b s = go (eqb 0 b)
  where
    go : (x : Bool) → x ≡ (x || x)
    go true = refl
    go false = refl

-- THE A RULE by the first byte: a blank asks for blanks, and any other for bytes of the A set and a text that A0 does not edge
pub lawful-blank : (s : List ℕ) → get_or s 0 0 ≡ 32 → all_of Blank s ≡ lawful_text s
unfolding lawful_text edged_by
lawful-blank s e = rw (eq-eqb (get_or s 0 0) 32 e) (go (all_of Blank s) refl)
  where
    go : (b : Bool) → all_of Blank s ≡ b → b ≡ (all_of Text s && (b || false) && not (edged_by 160 (trimmed s)))
    go true q = rw (ap (all_of Text) (blank-is s q) ∙ all-blanks Text refl (length s), trimmed-blank s q)
    go false q = rw (and-false (all_of Text s))

pub lawful-text : (s : List ℕ) → (get_or s 0 0 ≡ 32 → ⊥) → (all_of Text s && not (edged_by 160 (trimmed s))) ≡ lawful_text s
unfolding lawful_text
lawful-text s n = rw (ne_eqb (get_or s 0 0) 32 n, or-true, bool.and-true)

-- PLAIN BYTES are of the A set, and none is A0
plain_byte : (b : ℕ) → in_class Plain b ≡ true → in_class Text b ≡ true
plain_byte b e = go (leb 32 b && leb b 126) e
  where
    go : (x : Bool) → (x || leb 161 b) ≡ true → (x || leb 160 b) ≡ true
    go true q = refl
    go false q = le-leb 160 b (omega (arith, leb-true 161 b q))

plain-text : (s : List ℕ) → all_of Plain s ≡ true → all_of Text s ≡ true
unfolding all_of each
plain-text [] e = refl
plain-text (b ∷ s) e =
    let q = and-true (in_class Plain b) (each (in_class Plain) s) e in
    true-and (in_class Text b) (each (in_class Text) s) (plain_byte b q.0) (plain-text s q.1)

plain_at : (s : List ℕ) (k : ℕ) → all_of Plain s ≡ true → eqb (get_or s k 0) 160 ≡ false
plain_at s k e = go (dec_lt k (length s)) (eqb (get_or s k 0) 160) refl
  where
    go : Dec (k < length s) → (b : Bool) → eqb (get_or s k 0) 160 ≡ b → b ≡ false
    go (yes l) true q = absurd (true-false (sym (rw (eqb-true (get_or s k 0) 160 q) at (all-at Plain s k e l))))
    go (yes l) false q = refl
    go (no l) b q = sym q ∙ rw (get_or-eq_default s 0 {n = k} (omega arith)) refl

pub plain-lawful : (s : List ℕ) → (get_or s 0 0 ≡ 32 → ⊥) → all_of Plain s ≡ true → lawful_text s ≡ true
unfolding trimmed
plain-lawful s n e =
    let t = all_take Plain (trim_to (length s) s) s e in
    sym (lawful-text s n) ∙ rw (plain-text s e, edged-not 160 (trimmed s) (plain_at (trimmed s) 0 t) (plain_at (trimmed s) (length (trimmed s) - 1) t))

-- A TEXT AS ONE NUMBER
base256-same : (w : ℕ) (s u : List ℕ) → ((k : ℕ) → k < w → get_or s k 0 < 256) → ((k : ℕ) → k < w → get_or u k 0 < 256) → base256 w s ≡ base256 w u
    → (k : ℕ) → k < w → get_or s k 0 ≡ get_or u k 0
unfolding base256
base256-same zero s u a b e k h = absurd (not-suc-le-zero h)
base256-same (suc w) s u a b e k h =
    let x : get_or s w 0 < 256 = a w (omega arith) in
    let y : get_or u w 0 < 256 = b w (omega arith) in
    let last : get_or s w 0 ≡ get_or u w 0 = omega arith in
    let front : base256 w s ≡ base256 w u = omega arith in
    ⊎_elim (λ q. rw q last) (λ l. base256-same w s u (λ j m. a j (omega arith)) (λ j m. b j (omega arith)) front k l) (eq-or-lt_of_le (le_of_suc-le-suc h))

padded-byte : (w : ℕ) (t : List ℕ) → ((k : ℕ) → get_or t k 0 < 256) → (k : ℕ) → k < w → get_or (padded w t) k 0 < 256
padded-byte w t b k h = go (dec_lt k (length t))
  where
    go : Dec (k < length t) → get_or (padded w t) k 0 < 256
    go (yes l) = rw (padded-in w t k h l) (b k)
    go (no l) = omega (arith, padded-past w t k h (omega arith))

pub word_same : (t u : List ℕ) → length t ≤ 8 → length u ≤ 8 → ((k : ℕ) → get_or t k 0 < 256) → ((k : ℕ) → get_or u k 0 < 256)
    → (0 < length t → eqb (get_or t (length t - 1) 0) 32 ≡ false) → (0 < length u → eqb (get_or u (length u - 1) 0) 32 ≡ false)
    → word_of t ≡ word_of u → t ≡ u
unfolding word_of
word_same t u lt lu bt bu et eu e =
    let same : padded 8 t ≡ padded 8 u =
    ext_get_or 0 (padded 8 t) (padded 8 u) (length-padded 8 t ∙ sym (length-padded 8 u))
    (λ k h. base256-same 8 (padded 8 t) (padded 8 u) (padded-byte 8 t bt) (padded-byte 8 u bu) e k (rw length-padded at h)) in
    sym (trimmed-whole 8 t lt et) ∙ ap trimmed same ∙ trimmed-whole 8 u lu eu

-- what is left of two fields of up to eight bytes is the same where their words are
trimmed-byte : (s : List ℕ) → ((k : ℕ) → get_or s k 0 < 256) → (k : ℕ) → get_or (trimmed s) k 0 < 256
trimmed-byte s b k = go (dec_lt k (length (trimmed s)))
  where
    go : Dec (k < length (trimmed s)) → get_or (trimmed s) k 0 < 256
    go (yes l) = rw (trimmed-at s k l) (b k)
    go (no l) = omega (arith, get_or-eq_default (trimmed s) 0 {n = k} (omega arith))

pub trimmed-same : (s u : List ℕ) → length s ≤ 8 → length u ≤ 8 → ((k : ℕ) → get_or s k 0 < 256) → ((k : ℕ) → get_or u k 0 < 256)
    → word_of (trimmed s) ≡ word_of (trimmed u) → trimmed s ≡ trimmed u
trimmed-same s u ls lu bs bu e =
    word_same (trimmed s) (trimmed u) (omega (arith, trimmed-le s)) (omega (arith, trimmed-le u)) (trimmed-byte s bs) (trimmed-byte u bu)
    (trimmed-last s) (trimmed-last u) e

-- the word of a text of up to seven bytes ends in a blank, so that it is not 0
pub word_some : (t : List ℕ) → length t ≤ 7 → 0 < word_of t
unfolding word_of
word_some t h = omega (arith, base_more 7 (padded 8 t), padded-past 8 t 7 (omega arith) h)
