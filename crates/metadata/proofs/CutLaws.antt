-- A metadata file cut into lines byte by byte, and what they say put down line by line.
-- Assumes nothing.
use Prim.Native.Nat.{ℕ, suc, ◌+◌, ◌-◌, ◌*◌, ◌<◌, ◌≤◌}
use mathlib.Core.Bool.{Bool, true, false, ◌&&◌, or-true}
use mathlib.Core.List.{List, [], ◌∷◌, ◌++◌, map, append_assoc, append-nil}
use mathlib.Core.Logic.{◌⊎◌, inl, inr}
use mathlib.Core.Path.{◌≡◌, refl, sym, ap, ◌∙◌}
use native.Mathlib.Nat.{not-suc-le-zero}
use native.Mathlib.Numerals.{add-one}
use native.Mathlib.Omega.{arith}
use native.Mathlib.Decide.{dec_lt}
use lib.Dec.{eqb}
use lib.ListN.{length, get_or, take, drop, set, length-set, length-append, length-drop, drop_of_length-le, get_or-eq_default}
use lib.Seq.{drop-cons, take-suc, take-suc-set, length-take-le, get_or-drop}
use borrow.Author.Tests.{eqb-true, le-ltb, lt-ltb, le-leb, lt-leb}
use Rattle.std.specs.Prelude.{Result, Ok, Err}
use Rattle.laws.specs.Row.{pick}
use Rattle.laws.proofs.RowLaws.{and-true}
use Rattle.metadata.specs.declared.told.Told.{Told}
use Rattle.metadata.specs.declared.told.Told.TheVariants.{Nothing}
use Rattle.metadata.specs.declared.fault.Rule.TheVariants.{LongLine80}
use Rattle.metadata.specs.declared.fault.Fault.{Fault}
use Rattle.metadata.specs.Faults.{at_line}
use Rattle.metadata.specs.Told.{told_of}
use Rattle.metadata.specs.Lines.{Line, lines_from, most_lines, longest, cut_from, cut_of, line_told, told_in}

-- the fault of the line after the first n
abbrev pub Long : ℕ → Result ℕ Fault
Long n = Err (at_line LongLine80 (n + 1))

-- the bytes from a place up to another
abbrev pub between : List ℕ → ℕ → ℕ → List ℕ
between m from i = take (i - from) (drop from m)

module _ (m : List ℕ) (from i : ℕ) (a : from ≤ i) where
  between-long : i ≤ length m → length (between m from i) ≡ i - from
  between-long l = length-take-le (i - from) (drop from m) (simp length-drop (omega arith))

  between_more : i < length m → between m from (i + 1) ≡ between m from i ++ (get_or m i 0 ∷ [])
  between_more l =
      let e : i + 1 - from ≡ suc (i - from) = omega arith in
      let f : from + (i - from) ≡ i = omega arith in
      rw e (take-suc (drop from m) (i - from) 0 (simp length-drop (omega arith)) ∙ ap (λ (b : ℕ). between m from i ++ (b ∷ [])) (get_or-drop from m (i - from) 0 ∙ ap (λ (j : ℕ). get_or m j 0) f))

-- LINES that are there are found: past the most,
past-here : (n : ℕ) (x : Line) (ls : List Line) → most_lines ≤ n → cut_from n (x ∷ ls) ≡ Long n
unfolding cut_from
past-here n x ls h = rw (le-leb most_lines n h)

pub past-most : (n : ℕ) (s line : List ℕ) → most_lines ≤ n → 0 < length s + length line → cut_from n (lines_from s false line) ≡ Long n
unfolding lines_from
past-most n [] [] h l = absurd (omega arith)
past-most n [] (x ∷ line) h l = past-here n _ _ h
past-most n (b ∷ s) line h l = go (eqb b 13 && eqb (get_or s 0 0) 10) (past-most n s (line ++ (b ∷ [])) h (simp length-append (omega arith)))
  where
    go : (mark : Bool) → cut_from n (lines_from s false (line ++ (b ∷ []))) ≡ Long n
        → cut_from n (pick mark (record { bytes = line; ended = true } ∷ lines_from s true []) (lines_from s false (line ++ (b ∷ [])))) ≡ Long n
    go true later = past-here n _ _ h
    go false later = later

-- and one that is too long
long-here : (n : ℕ) (x : Line) (ls : List Line) → longest < length x.bytes → cut_from n (x ∷ ls) ≡ Long n
unfolding cut_from
long-here n x ls h = rw (lt-ltb longest (length x.bytes) h, or-true)

pub too_long : (n : ℕ) (s line : List ℕ) → longest < length line → cut_from n (lines_from s false line) ≡ Long n
unfolding lines_from
too_long n [] [] h = absurd (not-suc-le-zero h)
too_long n [] (x ∷ line) h = long-here n _ _ h
too_long n (b ∷ s) line h = go (eqb b 13 && eqb (get_or s 0 0) 10) (too_long n s (line ++ (b ∷ [])) (simp length-append (omega arith)))
  where
    go : (mark : Bool) → cut_from n (lines_from s false (line ++ (b ∷ []))) ≡ Long n
        → cut_from n (pick mark (record { bytes = line; ended = true } ∷ lines_from s true []) (lines_from s false (line ++ (b ∷ [])))) ≡ Long n
    go true later = long-here n _ _ h
    go false later = later

-- a line that is neither is counted
counted : (n : ℕ) (x : Line) (ls : List Line) → n < most_lines → length x.bytes ≤ longest → cut_from n (x ∷ ls) ≡ cut_from (n + 1) ls
unfolding cut_from
counted n x ls h l = rw (lt-leb most_lines n h, le-ltb longest (length x.bytes) l)

-- room for each line of m: there is none past the most, and none begins before the marks of those in front of it
abbrev pub Room : List ℕ → List Told → Type 0
Room m lines = (most_lines ≤ length lines) ⊎ (length m < 2 * length lines)

room-for : (m : List ℕ) (lines : List Told) (n : ℕ) → Room m lines → n < most_lines → 2 * n < length m → n < length lines
room-for m lines n (inl h) few l = omega arith
room-for m lines n (inr h) few l = omega arith

-- CUTTING: n lines are cut, each with its mark of two bytes, and of the next one the bytes between from and i are passed
pub record Cutting (m : List ℕ) (lines : List Told) (n from i : ℕ) : Type 0 where
  pub start : from ≤ i
  pub within : i ≤ length m
  pub short : i - from ≤ longest
  pub few : n ≤ most_lines
  pub marks : 2 * n ≤ from
  pub room : Room m lines
  pub held : n ≤ length lines
  pub cut : cut_from n (lines_from (drop i m) false (between m from i)) ≡ cut_of m
  pub told : take n lines ++ map line_told (lines_from (drop i m) false (between m from i)) ≡ told_in m

-- one line more
put-more : (ts : List Told) (n : ℕ) {t : Told} (x : Line) (ls : List Line) {whole : List Told} → n < length ts → t ≡ line_told x → take n ts ++ map line_told (x ∷ ls) ≡ whole
    → take (n + 1) (set ts n t) ++ map line_told ls ≡ whole
put-more ts n {t} x ls l e h = rw (add-one, take-suc-set ts n t l, e) (append_assoc (take n ts) (line_told x ∷ []) (map line_told ls) ∙ h)

module _ {m : List ℕ} {lines : List Told} {n from i : ℕ} (c : Cutting m lines n from i) where
  module _ (l : i < length m) where
    pub most-past : n ≡ most_lines → Long n ≡ cut_of m
    most-past e = sym (past-most n (drop i m) (between m from i) (omega arith) (let d : 0 < length (drop i m) = simp length-drop (omega arith) in omega arith)) ∙ c.cut

    -- a byte of the line
    module _ (no : (eqb (get_or m i 0) 13 && eqb (get_or m (i + 1) 0) 10) ≡ false) where
      passed : lines_from (drop i m) false (between m from i) ≡ lines_from (drop (i + 1) m) false (between m from (i + 1))
      unfolding lines_from
      passed =
          let q : get_or (drop (suc i) m) 0 0 ≡ get_or m (i + 1) 0 = get_or-drop (suc i) m 0 0 ∙ ap (λ (j : ℕ). get_or m j 0) (omega arith) in
          rw (drop-cons m i 0 l, q, no, between_more m from i c.start l, add-one)

      pub line-long : longest ≤ i - from → Long n ≡ cut_of m
      line-long h =
          let w = between-long m from (i + 1) (omega (arith, c.start)) (omega arith) in
          sym (too_long n (drop (i + 1) m) (between m from (i + 1)) (rw w (omega (arith, c.start)))) ∙ sym (ap (cut_from n) passed) ∙ c.cut

      pub cutting-byte : i - from < longest → Cutting m lines n from (i + 1)
      cutting-byte h =
          record {
            start = omega (arith, c.start);
            within = omega arith;
            short = omega (arith, c.start);
            few = c.few;
            marks = c.marks;
            room = c.room;
            held = c.held;
            cut = sym (ap (cut_from n) passed) ∙ c.cut;
            told = ap (λ (ls : List Line). take n lines ++ map line_told ls) (sym passed) ∙ c.told;
          }

    -- its end mark
    module _ (mark : (eqb (get_or m i 0) 13 && eqb (get_or m (i + 1) 0) 10) ≡ true) where
      pub mark-whole : i + 1 < length m
      mark-whole = go (dec_lt (i + 1) (length m))
        where
          go : Dec (i + 1 < length m) → i + 1 < length m
          go (yes h) = h
          go (no h) =
              let e = eqb-true (get_or m (i + 1) 0) 10 (and-true (eqb (get_or m i 0) 13) (eqb (get_or m (i + 1) 0) 10) mark).1 in
              let z : get_or m (i + 1) 0 ≡ 0 = get_or-eq_default m 0 {n = i + 1} (omega arith) in
              absurd (omega arith)

      ended : lines_from (drop i m) false (between m from i) ≡ record { bytes = between m from i; ended = true } ∷ lines_from (drop (i + 2) m) false (between m (i + 2) (i + 2))
      unfolding lines_from
      ended =
          let q : get_or (drop (suc i) m) 0 0 ≡ get_or m (i + 1) 0 = get_or-drop (suc i) m 0 0 ∙ ap (λ (j : ℕ). get_or m j 0) (omega arith) in
          let z : i + 2 - (i + 2) ≡ 0 = omega arith in
          let two : suc (i + 1) ≡ i + 2 = omega arith in
          let r : drop (suc i) m ≡ get_or m (i + 1) 0 ∷ drop (i + 2) m = rw (← add-one i) (drop-cons m (i + 1) 0 mark-whole ∙ ap (λ (j : ℕ). get_or m (i + 1) 0 ∷ drop j m) two) in
          rw (drop-cons m i 0 l, q, mark, r, z)

      pub cutting-line : {t : Told} → n < most_lines → t ≡ told_of (between m from i) → Cutting m (set lines n t) (n + 1) (i + 2) (i + 2)
      cutting-line {t} few e =
          let w = between-long m from i c.start (omega arith) in
          let x : Line = record { bytes = between m from i; ended = true } in
          let ls = lines_from (drop (i + 2) m) false (between m (i + 2) (i + 2)) in
          let r = room-for m lines n c.room few (omega (arith, c.marks, c.start)) in
          record {
            start = omega arith;
            within = omega (arith, mark-whole);
            short = omega arith;
            few = omega arith;
            marks = omega (arith, c.marks, c.start);
            room = simp length-set c.room;
            held = simp length-set (omega arith);
            cut = sym (counted n x ls few (rw w c.short)) ∙ sym (ap (cut_from n) ended) ∙ c.cut;
            told = put-more lines n x ls (omega arith) e (ap (λ (y : List Line). take n lines ++ map line_told y) (sym ended) ∙ c.told);
          }

  -- THE END
  module _ (l : length m ≤ i) where
    rest : lines_from (drop i m) false (between m from i) ≡ lines_from [] false (between m from i)
    rest = ap (λ (s : List ℕ). lines_from s false (between m from i)) (drop_of_length-le m l)

    -- no byte after the last mark
    module _ (h : length m ≤ from) where
      none_left : lines_from (drop i m) false (between m from i) ≡ []
      unfolding lines_from
      none_left =
          let z : i - from ≡ 0 = omega (arith, c.within) in
          rest ∙ rw z

      pub all-cut : Ok n ≡ cut_of m
      unfolding cut_from
      all-cut = sym (ap (cut_from n) none_left) ∙ c.cut

      pub all-told : take n lines ≡ told_in m
      all-told = sym (append-nil (take n lines)) ∙ ap (λ (ls : List Line). take n lines ++ map line_told ls) (sym none_left) ∙ c.told

    -- a line without its end mark
    module _ (h : from < length m) where
      one_left : lines_from (drop i m) false (between m from i) ≡ record { bytes = between m from i; ended = false } ∷ []
      unfolding lines_from
      one_left = rest ∙ go (between m from i) (between-long m from i c.start c.within)
        where
          go : (t : List ℕ) → length t ≡ i - from → lines_from [] false t ≡ record { bytes = t; ended = false } ∷ []
          go [] e = absurd (omega (arith, c.within))
          go (x ∷ t) e = refl

      pub last-past : n ≡ most_lines → Long n ≡ cut_of m
      unfolding cut_from
      last-past e = sym (rw (le-leb most_lines n (omega arith))) ∙ sym (ap (cut_from n) one_left) ∙ c.cut

      pub last-cut : n < most_lines → Ok (n + 1) ≡ cut_of m
      unfolding cut_from
      last-cut few =
          let x : Line = record { bytes = between m from i; ended = false } in
          sym (counted n x [] few (rw (between-long m from i c.start c.within) c.short)) ∙ sym (ap (cut_from n) one_left) ∙ c.cut

      last-room : n < most_lines → n < length lines
      last-room few = room-for m lines n c.room few (omega (arith, c.marks))

      pub last-held : n < most_lines → n + 1 ≤ length (set lines n Nothing)
      last-held few =
          let r = last-room few in
          simp length-set (omega arith)

      pub last-told : n < most_lines → take (n + 1) (set lines n Nothing) ≡ told_in m
      last-told few =
          let r = last-room few in
          sym (append-nil (take (n + 1) (set lines n Nothing)))
          ∙ put-more lines n (record { bytes = between m from i; ended = false }) [] (omega arith) refl (ap (λ (ls : List Line). take n lines ++ map line_told ls) (sym one_left) ∙ c.told)
