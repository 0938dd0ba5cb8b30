-- What a line holds once its words are put one after another (specs/Line.antt): each law says what is left to write.
-- Assumes nothing.
use Prim.Native.Nat.{ℕ, zero, suc, ◌+◌, ◌-◌, ◌*◌, ◌<◌, ◌≤◌}
use mathlib.Core.Bool.{Bool, true, false}
use mathlib.Core.List.{List, [], ◌∷◌, ◌++◌, append_assoc}
use mathlib.Core.Option.{none}
use mathlib.Core.Path.{◌≡◌, refl, sym, ap, subst, ◌∙◌}
use native.Mathlib.Numerals.{add-one, unary_clauses}
use native.Mathlib.Omega.{arith}
use lib.ListN.{length, take, drop, set, get_or, replicate, length-set, length-append, length-take, drop_of_length-le}
use lib.Seq.{take_at, take-suc-set, drop-cons, drop-drop, drop-set-lt, set_split}
use borrow.Rule.Slice.PartMut.{put_mid, mid_of, same_len_mid, mid_len, drop_put}
use borrow.Author.Tests.{eq-eqb, ne_eqb}
use Rattle.laws.specs.Find.{first_index}
use Rattle.laws.proofs.FindLaws.{index-start, index-more, index-here, index-end}
use Rattle.field.specs.Digits.{digits}
use Rattle.record.specs.Table.{Which}
use Rattle.record.specs.declared.reason.Break.{Break}
use Rattle.std.specs.Prelude.{Ok, Err}
use Rattle.record.specs.Table.{which_of, file_count}
use Rattle.record.specs.Files.{Files}
use Rattle.record.specs.Breaks.{number_of}
use Rattle.keys.specs.Rules.{or_first}
use Rattle.judge.specs.declared.judge.Verdict.{Verdict}
use Rattle.judge.specs.Line.{count_words, break_line, line_of, is_big, big_of, big_line, or_big, line_room, line_in}

-- A WORD: a blank at a place, and a number's digits put behind it
module _ (at w : ℕ) (buf : List ℕ) (h : at + w < length buf) where
  word_room : length (mid_of (at + 1) (at + 1 + w - (at + 1)) (set buf at 32)) ≡ w
  word_room = mid_len (at + 1) (at + 1 + w) (set buf at 32) (rw length-set (omega arith)) ∙ omega arith

  module _ (ys : List ℕ) (l : length ys ≡ length (mid_of (at + 1) (at + 1 + w - (at + 1)) (set buf at 32))) where
    pub word_keeps : length (put_mid (at + 1) (at + 1 + w - (at + 1)) (set buf at 32) ys) ≡ length buf
    word_keeps = same_len_mid (at + 1) (at + 1 + w - (at + 1)) (set buf at 32) ys l ∙ length-set buf at 32

    pub word-put : (n : ℕ) → ys ≡ digits (length (mid_of (at + 1) (at + 1 + w - (at + 1)) (set buf at 32))) n
        → take (at + 1 + w) (put_mid (at + 1) (at + 1 + w - (at + 1)) (set buf at 32) ys) ≡ take at buf ++ (32 ∷ digits w n)
    word-put n e =
        let front = take (at + 1) (set buf at 32) in
        let rest = drop (at + 1 + w - (at + 1)) (drop (at + 1) (set buf at 32)) in
        let p : length (front ++ ys) ≡ at + 1 + w = simp (length-append, length-take, length-set) (omega (arith, word_room)) in
        ap (take (at + 1 + w)) (sym (append_assoc front ys rest))
        ∙ take_at (front ++ ys) rest (at + 1 + w) p
        ∙ ap (λ (m : ℕ). take m (set buf at 32) ++ ys) (add-one at)
        ∙ ap (λ (s : List ℕ). s ++ ys) (take-suc-set buf at 32 (omega arith))
        ∙ append_assoc (take at buf) (32 ∷ []) ys
        ∙ ap (λ (s : List ℕ). take at buf ++ (32 ∷ s)) (e ∙ ap (λ (m : ℕ). digits m n) word_room)

    pub word-rest : drop (at + 1 + w) (put_mid (at + 1) (at + 1 + w - (at + 1)) (set buf at 32) ys) ≡ drop (at + 1 + w) buf
    word-rest =
        drop_put (at + 1) (at + 1 + w) (set buf at 32) ys (omega arith) (rw length-set (omega arith)) (l ∙ word_room ∙ omega arith)
        ∙ drop-set-lt (at + 1 + w) buf at 32 (omega arith)

-- A LINE, written up to a place: what is left is to come there, and the bytes from there on are 0 yet
pub record Written (whole left buf : List ℕ) (at : ℕ) : Type 0 where
  pub room : length buf ≡ line_room
  pub written : take at buf ++ left ≡ whole
  pub rest : drop at buf ≡ drop at (replicate line_room 0)

-- a word is put, and what is left is shorter by it;
pub word_more : (w n : ℕ) (left : List ℕ) {whole buf : List ℕ} {at at' : ℕ} {buf' : List ℕ} → Written whole (32 ∷ (digits w n ++ left)) buf at → length buf' ≡ length buf
    → (at' ≡ at + w + 1) × (take at' buf' ≡ take at buf ++ (32 ∷ digits w n)) × (drop at' buf' ≡ drop at' buf) → Written whole left buf' at'
word_more w n left {buf = buf} {at = at} {at' = at'} h l p =
    let zeros : List ℕ = replicate line_room 0 in
    let e : at' ≡ at + (w + 1) = omega (arith, p.0) in
    record {
      room = l ∙ h.room;
      written = ap (λ (s : List ℕ). s ++ left) p.1 ∙ append_assoc (take at buf) (32 ∷ digits w n) left ∙ h.written;
      rest =
          p.2
          ∙ ap (λ (m : ℕ). drop m buf) e
          ∙ sym (drop-drop (w + 1) at buf)
          ∙ ap (drop (w + 1)) h.rest
          ∙ drop-drop (w + 1) at zeros
          ∙ ap (λ (m : ℕ). drop m zeros) (sym e);
    }

-- the line feed ends it
drop-replicate : (m n x : ℕ) → drop m (replicate n x) ≡ replicate (n - m) x
drop-replicate zero n x = simp unary_clauses refl
drop-replicate (suc m) zero x = let none : 0 ≡ 0 - suc m = omega arith in ap (λ (k : ℕ). replicate k x) none
drop-replicate (suc m) (suc n) x = simp unary_clauses (drop-replicate m n x)

pub line-end : {whole buf : List ℕ} {at : ℕ} (n : ℕ) → Written whole (10 ∷ []) buf at → n ≡ suc at → at < line_room → record { len = n; bytes = set buf at 10 } ≡ line_in whole
unfolding line_in
line-end {whole = whole} {buf = buf} {at = at} n h e l =
    let long : length whole ≡ suc at = ap length (sym h.written) ∙ simp (length-append, length-take, h.room) (omega arith) in
    let rest : drop (suc at) buf ≡ replicate (line_room - suc at) 0 =
    ap (λ (m : ℕ). drop m buf) (sym (add-one at))
    ∙ sym (drop-drop 1 at buf)
    ∙ ap (drop 1) h.rest
    ∙ drop-drop 1 at (replicate line_room 0)
    ∙ ap (λ (m : ℕ). drop m (replicate line_room 0)) (add-one at)
    ∙ drop-replicate (suc at) line_room 0 in
    let bytes : set buf at 10 ≡ whole ++ replicate (line_room - suc at) 0 =
    set_split buf at 10 (omega (arith, h.room))
    ∙ ap (λ (s : List ℕ). take at buf ++ (10 ∷ s)) rest
    ∙ sym (append_assoc (take at buf) (10 ∷ []) (replicate (line_room - suc at) 0))
    ∙ ap (λ (s : List ℕ). s ++ replicate (line_room - suc at) 0) h.written in
    rw (long, e, bytes)

-- COUNTS: i of them are put
pub record Counting (counts bytes : List ℕ) (at i : ℕ) : Type 0 where
  pub few : i ≤ file_count
  pub all : length counts ≡ file_count
  pub place : at ≡ 2 + 6 * i
  pub so_far : Written (79 ∷ 75 ∷ count_words counts) (count_words (drop i counts)) bytes at

next-count : (counts : List ℕ) (i : ℕ) → i < length counts
    → count_words (drop i counts) ≡ 32 ∷ (digits 5 (get_or counts i 0) ++ count_words (drop (i + 1) counts))
unfolding count_words
next-count counts i h = rw (add-one, drop-cons counts i 0 h)

no-count : (counts : List ℕ) (i : ℕ) → length counts ≤ i → count_words (drop i counts) ≡ 10 ∷ []
unfolding count_words
no-count counts i h = rw (drop_of_length-le counts {i = i} h) refl

module _ {counts bytes : List ℕ} {at i : ℕ} (h : Counting counts bytes at i) where
  at_left : (left : List ℕ) → count_words (drop i counts) ≡ left → Written (79 ∷ 75 ∷ count_words counts) left bytes at
  at_left left e = subst (λ (s : List ℕ). Written (79 ∷ 75 ∷ count_words counts) s bytes at) e h.so_far

  pub counting_more : {at' : ℕ} {bytes' : List ℕ} → i < file_count → length bytes' ≡ length bytes
      → (at' ≡ at + 5 + 1) × (take at' bytes' ≡ take at bytes ++ (32 ∷ digits 5 (get_or counts i 0))) × (drop at' bytes' ≡ drop at' bytes) → Counting counts bytes' at' (i + 1)
  counting_more l n p =
      record {
        few = omega arith;
        all = h.all;
        place = omega (arith, h.place, p.0);
        so_far = word_more 5 _ _ (at_left _ (next-count counts i (omega (arith, h.all)))) n p;
      }

  pub counting-end : file_count ≤ i → record { len = line_room; bytes = set bytes at 10 } ≡ line_in (79 ∷ 75 ∷ count_words counts)
  counting-end l =
      let p : at + 1 ≡ line_room = omega (arith, h.few, h.place) in
      line-end line_room (at_left _ (no-count counts i (omega (arith, h.all)))) (omega (arith, p)) (omega (arith, p))

-- A BREAK: four words are to come, the first of them the reason's number
pub break-start : (b : Break) (n : ℕ) → n ≡ number_of b.reason
    → Written (break_line b)
    (32 ∷ (digits 2 n ++ 32 ∷ (digits 1 b.file ++ 32 ∷ (digits 5 b.«record» ++ 32 ∷ (digits 2 b.field ++ 10 ∷ [])))))
    (78 ∷ 79 ∷ replicate (line_room - 2) 0) 2
break-start b n e = record { room = refl; written = rw e; rest = refl }

-- BIG: one word is to come
pub big-line-start : (file : ℕ) → Written (big_line file) (32 ∷ (digits 1 file ++ 10 ∷ [])) (66 ∷ 73 ∷ 71 ∷ replicate (line_room - 3) 0) 3
big-line-start file = record { room = refl; written = refl; rest = refl }

-- THE LINE of a verdict, by its finding
module _ (v : Verdict) (s : List ℕ) where
  pub fine-line : v.finding ≡ Ok tt → s ≡ 79 ∷ 75 ∷ count_words v.counts → s ≡ line_of v
  unfolding line_of
  fine-line e h = rw e h

  pub broken-line : (b : Break) → v.finding ≡ Err b → s ≡ break_line b → s ≡ line_of v
  unfolding line_of
  broken-line b e h = rw e h

-- BIG: the loop over the file numbers has passed none that is
unfoldable pub big_at : Files → ℕ → Bool
big_at files n = is_big files (which_of n)

pub record NoneBig (files : Files) (n : ℕ) : Type 0 where
  pub within : n ≤ file_count + 1
  pub past : first_index (big_at files) n ≡ none

pub big-start : (files : Files) → NoneBig files 0
big-start files = record { within = omega arith; past = index-start _ }

module _ {files : Files} {n : ℕ} (s : NoneBig files n) where
  pub big-end : file_count < n → 0 ≡ big_of files
  unfolding big_of big_at
  big-end u = ap or_first (sym (index-end (big_at files) (file_count + 1) refl s.within u s.past))

  -- r says whether the file of the number n is big
  module _ {w : Which} {r : Bool} (l : n ≤ file_count) (e : w ≡ which_of n) (h : r ≡ is_big files w) where
    big-turn : r ≡ big_at files n
    unfolding big_at
    big-turn = rw (← e) h

    pub big-here : r ≡ true → n ≡ big_of files
    unfolding big_of big_at
    big-here y = ap or_first (sym (index-here (big_at files) (file_count + 1) s.past (omega arith) (sym big-turn ∙ y)))

    pub big-more : r ≡ false → NoneBig files (n + 1)
    big-more y = record { within = omega arith; past = index-more _ s.past (sym big-turn ∙ y) }

-- WHAT A PROGRAM PRINTS, by the number of the first big file
module _ (text : Files → List ℕ) (files : Files) {big : ℕ} {s : List ℕ} (e : big ≡ big_of files) where
  pub none-big : big ≡ 0 → s ≡ text files → s ≡ or_big text files
  unfolding or_big
  none-big z h = rw (← e, eq-eqb big 0 z) h

  pub some-big : (big ≡ 0 → ⊥) → s ≡ big_line big → s ≡ or_big text files
  unfolding or_big
  some-big z h = rw (← e, ne_eqb big 0 z) h
