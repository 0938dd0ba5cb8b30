-- The laws of records in use (specs/machinery/Used.antt): the loop that looks names up, one file's names after another's, and the marks of
-- the records that are left.
-- Assumes nothing.
use Prim.Native.Nat.{ℕ, ◌+◌, ◌<◌, ◌≤◌, ◌-◌, min}
use mathlib.Core.Bool.{Bool, true, false, not, ◌&&◌, ◌||◌}
use mathlib.Core.List.{List}
use mathlib.Core.Logic.{◌⊎◌, inl, inr, ⊎_elim}
use mathlib.Core.Option.{none}
use mathlib.Core.Path.{◌≡◌, refl, sym, ap, ◌∙◌}
use native.Mathlib.Nat.{min-eq_left, min-eq_right}
use native.Mathlib.Decide.{dec_lt}
use native.Mathlib.Omega.{arith}
use borrow.Author.Tests.{leb-false, eq-eqb, ne_eqb, eqb-true, eqb-false, not-false, lt-ltb, le-ltb}
use lib.Dec.{eqb, leb, ltb}
use lib.ListN.{length, get_or, set, length-set}
use lib.Seq.{get_or-set_same, get_or-set_other}
use Rattle.laws.specs.Find.{any, names}
use Rattle.laws.specs.Row.{pick}
use Rattle.laws.specs.Count.{bit, how_many}
use Rattle.laws.proofs.CountLaws.{count-more, count_same}
use Rattle.laws.proofs.FindLaws.{true-false, any-more}
use Rattle.laws.proofs.RowLaws.{and-true}
use Rattle.index.specs.Keys.{listed, first_duplicate}
use Rattle.index.specs.Look.{Sought}
use Rattle.index.specs.Hint.{slot_of, pointed, guess_of}
use Rattle.index.specs.Way.{upto_of, last_at, keyed, find_of, Complete, look_of, Ready}
use Rattle.index.specs.Marks.{Marked}
use Rattle.std.specs.Prelude.{Option, Some, None, is_some}
use Rattle.index.specs.declared.way.Way.{Way}
use Rattle.index.proofs.OrderLaws.{same_or}
use Rattle.index.proofs.WayLaws.{look-hinted}
use Rattle.record.specs.machinery.Columns.{Fills}
use Rattle.topology.specs.machinery.Each.{Each}
use Rattle.topology.proofs.LentLaws.{one-record, names-lent}
use Rattle.topology.specs.machinery.Used.{put_at, count_at, free_at, Used, Named, Free, Unheld, Counted}

-- A LOOK-UP that finds a record has its key, whatever the table says
nothing-at : {r : ℕ} → None ≡ Some r → ⊥
nothing-at e = let z : ◌≡◌ {A = ℕ} 0 1 = cc in omega arith

picked : (t : Bool) {h r : ℕ} → pick t None (Some h) ≡ Some r → (t ≡ false) × (h ≡ r)
picked true e = absurd (nothing-at e)
picked false e = (refl, cc)

or-first : (a b : Bool) → (a || b) ≡ false → a ≡ false
or-first true b e = e
or-first false b e = refl

or-last : (a b : Bool) → (a || b) ≡ false → b ≡ false
or-last true b e = let z : ◌≡◌ {A = ℕ} 0 1 = cc in absurd (omega arith)
or-last false b e = e

or-true : (t : Bool) → (t || true) ≡ true
or-true true = refl
or-true false = refl

or-false : (t : Bool) → (t || false) ≡ t
or-false true = refl
or-false false = refl

and-false : (t : Bool) → (t && false) ≡ false
and-false true = refl
and-false false = refl

pointed-own : (keys : List ℕ) (n x h : ℕ) {r : ℕ} → pointed keys n x h ≡ Some r → get_or keys r 0 ≡ x
unfolding pointed
pointed-own keys n x h {r} e =
    let other : Bool = not (eqb (get_or keys (h - 1) 0) x) in
    let p = picked (eqb h 0 || leb n (h - 1) || leb (length keys) (h - 1) || other) e in
    let q = or-last (eqb h 0 || leb n (h - 1) || leb (length keys) (h - 1)) other p.0 in
    ap (λ (j : ℕ). get_or keys j 0) (sym p.1) ∙ eqb-true (get_or keys (h - 1) 0) x (not-false _ q)

pointed-below : (keys : List ℕ) (n x h : ℕ) {r : ℕ} → pointed keys n x h ≡ Some r → r < n
unfolding pointed
pointed-below keys n x h {r} e =
    let past : Bool = eqb h 0 || leb n (h - 1) in
    let p = picked (past || leb (length keys) (h - 1) || not (eqb (get_or keys (h - 1) 0) x)) e in
    let q = or-first past _ (or-first (past || leb (length keys) (h - 1)) _ p.0) in
    omega (arith, leb-false n (h - 1) (or-last (eqb h 0) (leb n (h - 1)) q), p.1)

keyed-own : (keys : List ℕ) (x : ℕ) (f : Option ℕ) {r : ℕ} → keyed keys x f ≡ Some r → get_or keys r 0 ≡ x
keyed-own keys x None e = absurd (nothing-at e)
keyed-own keys x (Some h) e = go (eqb (get_or keys h 0) x) refl e
  where
    go : (t : Bool) → eqb (get_or keys h 0) x ≡ t → {r : ℕ} → pick t (Some h) None ≡ Some r → get_or keys r 0 ≡ x
    go true q {r} e = let z : h ≡ r = cc in ap (λ (j : ℕ). get_or keys j 0) (sym z) ∙ eqb-true (get_or keys h 0) x q
    go false q e = absurd (nothing-at e)

look-own : (keys order hints : List ℕ) (t : Bool) (n x : ℕ) {r : ℕ} → look_of keys order hints t n x ≡ Some r → get_or keys r 0 ≡ x
unfolding look_of guess_of find_of
look-own keys order hints true n x e = pointed-own keys n x (get_or hints (slot_of keys hints x) 0) e
look-own keys order hints false n x e = keyed-own keys x (last_at order (upto_of keys order n x)) e

-- AN ID'S OWN RECORD is the one that its look-up finds, where hints find every id and no two are equal
guess-self :
    (keys hints : List ℕ) (n i : ℕ) → Complete keys hints n → first_duplicate (listed keys) n ≡ none → i < n → guess_of keys hints n (get_or keys i 0) ≡ Some i
unfolding Complete guess_of
guess-self keys hints n i all d l = go (pointed keys n x h) refl (all i l)
  where
    x : ℕ
    x = get_or keys i 0

    h : ℕ
    h = get_or hints (slot_of keys hints (get_or keys i 0)) 0

    go : (f : Option ℕ) → pointed keys n x h ≡ f → is_some f ≡ true → f ≡ Some i
    go None e q = absurd (true-false (sym q))
    go (Some r) e q = ap Some (one-record (listed keys) n d r i (pointed-below keys n x h e) l (pointed-own keys n x h e))

pub look_self :
    {keys order hints : List ℕ} {n : ℕ} {way : Way} (i : ℕ) → Ready keys order hints n way → (way.hinted && way.apart) ≡ true → i < n
    → Some i ≡ look_of keys order hints way.hinted n (get_or keys i 0)
look_self {keys} {order} {hints} {n} {way} i r e l =
    let h = and-true way.hinted way.apart e in
    look-hinted keys order hints n (get_or keys i 0) h.0 (sym (guess-self keys hints n i (r.hinted h.0) (r.apart h.1) l))

pub sought-self : (keys : List ℕ) (n i : ℕ) → i < n → Sought keys n (get_or keys i 0) (Some i)
unfolding Sought
sought-self keys n i l = (l, refl)

pub count_long : (counts : List ℕ) (f : Option ℕ) → length (count_at counts f) ≡ length counts
count_long counts None = refl
count_long counts (Some r) = length-set counts r _

-- fewer than one are none, and up to two tell whether they are fewer than two
none_is : (v : ℕ) → ltb v 1 ≡ eqb v 0
none_is v = go (eqb v 0) refl
  where
    go : (b : Bool) → eqb v 0 ≡ b → ltb v 1 ≡ b
    go true e = lt-ltb v 1 (omega (arith, eqb-true v 0 e))
    go false e = let d = eqb-false v 0 e in le-ltb v 1 (⊎_elim (λ q. absurd (d q)) (λ q. omega arith) (same_or v 0))

-- THE LOOP that looks names up: after the first i of them the records that they name are in use. Some the start none is,
module _ {ids order hints : List ℕ} {t : Bool} {n : ℕ} (key : ℕ → ℕ) where
  pub used_start : (used : List ℕ) → Used ids order hints t n used used (names key 0)
  unfolding any
  used_start used = record { long = refl; marked = λ x r e. go (eqb (get_or used r 0) 0) }
    where
      go : (z : Bool) → z ≡ (z && true)
      go true = refl
      go false = refl

  -- one more name,
  pub used-more :
      {before used now : List ℕ} {i x : ℕ} (f : Option ℕ) → Used ids order hints t n before used (names key i) → n ≤ length before
      → x ≡ key i → Sought ids n x f → f ≡ look_of ids order hints t n x → now ≡ put_at used f
      → Used ids order hints t n before now (names key (i + 1))
  unfolding Sought
  used-more {before} {used} {now} {i} {x} None u room k s q e =
      record {
        long = ap length e ∙ u.long;
        marked =
            λ y r found.
            ap (λ (l : List ℕ). eqb (get_or l r 0) 0) e
            ∙ u.marked y r found
            ∙ ap (λ (b : Bool). eqb (get_or before r 0) 0 && not b) (sym (other y (λ z. nothing-at (q ∙ ap (look_of ids order hints t n) (k ∙ z) ∙ found))));
      }
    where
      other : (y : ℕ) → (key i ≡ y → ⊥) → names key (i + 1) y ≡ names key i y
      other y d = any-more _ i ∙ ap (λ (b : Bool). names key i y || b) (ne_eqb (key i) y d) ∙ or-false (names key i y)
  used-more {before} {used} {now} {i} {x} (Some a) u room k s q e =
      record {
        long = ap length e ∙ length-set used a 1 ∙ u.long;
        marked = λ y r found. ap (λ (l : List ℕ). eqb (get_or l r 0) 0) e ∙ ⊎_elim (here y r found) (there y r found) (same_or (key i) y);
      }
    where
      here : (y r : ℕ) → look_of ids order hints t n y ≡ Some r → key i ≡ y → eqb (get_or (set used a 1) r 0) 0 ≡ (eqb (get_or before r 0) 0 && not (names key (i + 1) y))
      here y r found z =
          let w : Some a ≡ Some r = q ∙ ap (look_of ids order hints t n) (k ∙ z) ∙ found in
          let v : a ≡ r = cc in
          let l : a < n = s.0 in
          ap (λ (j : ℕ). eqb (get_or (set used a 1) j 0) 0) (sym v)
          ∙ ap (λ (b : ℕ). eqb b 0) (get_or-set_same used a 1 0 (omega (arith, u.long)))
          ∙ sym (ap (λ (b : Bool). eqb (get_or before r 0) 0 && not b) (any-more _ i ∙ ap (λ (b : Bool). names key i y || b) (eq-eqb (key i) y z) ∙ or-true (names key i y)) ∙ and-false (eqb (get_or before r 0) 0))

      there : (y r : ℕ) → look_of ids order hints t n y ≡ Some r → (key i ≡ y → ⊥) → eqb (get_or (set used a 1) r 0) 0 ≡ (eqb (get_or before r 0) 0 && not (names key (i + 1) y))
      there y r found d =
          ap (λ (b : ℕ). eqb b 0) (get_or-set_other used a r 1 0 (λ (z : r ≡ a). d (sym k ∙ sym s.1 ∙ ap (λ (j : ℕ). get_or ids j 0) (sym z) ∙ look-own ids order hints t n y found)))
          ∙ u.marked y r found
          ∙ ap (λ (b : Bool). eqb (get_or before r 0) 0 && not b) (sym (any-more _ i ∙ ap (λ (b : Bool). names key i y || b) (ne_eqb (key i) y d) ∙ or-false (names key i y)))

-- names in an array are those of the column that fills it
pub used-filled :
    {ids order hints : List ℕ} {t : Bool} {n : ℕ} {a b refs : List ℕ} {key : ℕ → ℕ} {c m : ℕ} → Fills refs key c m
    → Used ids order hints t n a b (names (listed refs) m) → Used ids order hints t n a b (names key c)
used-filled {a = a} f u =
    record { long = u.long; marked = λ x r found. u.marked x r found ∙ ap (λ (q : Bool). eqb (get_or a r 0) 0 && not q) (names-lent f x) }

-- ONE FILE'S NAMES after another's: what either names
neither : (z p q : Bool) → ((z && not p) && not q) ≡ (z && not (p || q))
neither true true q = refl
neither true false q = refl
neither false p q = refl

pub used-then :
    {ids order hints : List ℕ} {t : Bool} {n : ℕ} {a b c : List ℕ} {p q : ℕ → Bool} → Used ids order hints t n a b p → Used ids order hints t n b c q
    → Used ids order hints t n a c (λ x. p x || q x)
used-then {a = a} {p = p} {q = q} u w =
    record {
      long = w.long ∙ u.long;
      marked =
          λ x r found.
          w.marked x r found ∙ ap (λ (z : Bool). z && not (q x)) (u.marked x r found) ∙ neither (eqb (get_or a r 0) 0) (p x) (q x);
    }

-- THE MARKS of the records which are not in use
pub free : {ids order hints : List ℕ} {t : Bool} {n : ℕ} {used : List ℕ} {most i x : ℕ} (f : Option ℕ) → i < n → Sought ids n (get_or ids i 0) f
    → f ≡ look_of ids order hints t n (get_or ids i 0) → x ≡ bit (free_at used most f) → Free ids order hints t n used most (get_or ids i 0) x
unfolding Sought
free {i = i} None l s q e = absurd (s i l refl)
free (Some r) l s q e = record { at = r; within = s.0; found = sym q; says = e }

pub unheld-each :
    {ids order hints used before after : List ℕ} {t : Bool} {n most : ℕ} {made : ℕ → ℕ → Type 0}
    → ((i x : ℕ) → i < n → made i x → Free ids order hints t n used most (get_or ids i 0) x)
    → Each made before after n → Unheld ids order hints t n used most before after n
unheld-each same s = record { long = s.long; each = λ i l. same i _ l (s.each i l 0) }

-- THE RECORDS that are in no use, where at the start none was
pub idle-marks :
    {ids order hints : List ℕ} {t : Bool} {n : ℕ} {dirty clean used before marks : List ℕ} {test : ℕ → Bool} → Marked dirty clean (λ i. false) n
    → Used ids order hints t n clean used test → Unheld ids order hints t n used 1 before marks n → Marked before marks (λ i. not (test (get_or ids i 0))) n
idle-marks {ids} {used = used} {test = test} clear u h =
    record {
      long = h.long;
      says =
          λ i l.
          let f = h.each i l in
          f.says
          ∙ ap bit (none_is (get_or used f.at 0) ∙ u.marked (get_or ids i 0) f.at f.found ∙ ap (λ (z : ℕ). eqb z 0 && not (test (get_or ids i 0))) (clear.says f.at f.within));
    }

-- MARKS by what is in an array, and by the column
pub hand-marks :
    {out before marks : List ℕ} {column : ℕ → ℕ} {n r : ℕ} (p : ℕ → Bool) → Fills out column n r → Marked before marks (λ i. p (get_or out i 0)) r
    → Marked before marks (λ i. p (column i)) n
hand-marks p h m = record { long = m.long; says = λ i l. m.says i (omega (arith, h.count)) ∙ ap (λ (z : ℕ). bit (p z)) (h.holds i l) }

-- SINCE NONE WAS: none is, what a file names is too, another test that says the same
pub named_start :
    (ids order hints : List ℕ) (t : Bool) {n : ℕ} {dirty clean : List ℕ} → n ≤ length dirty → Marked dirty clean (λ i. false) n
    → Named ids order hints t n clean (λ x. false)
named_start ids order hints t l m = record { room = omega (arith, m.long); marked = λ x r u found. ap (λ (v : ℕ). eqb v 0) (m.says r u) }

nor : (p q : Bool) → (not p && not q) ≡ not (p || q)
nor true q = refl
nor false q = refl

pub named-then :
    {ids order hints : List ℕ} {t : Bool} {n : ℕ} {used after : List ℕ} {p q : ℕ → Bool} → Named ids order hints t n used p
    → Used ids order hints t n used after q → Named ids order hints t n after (λ x. p x || q x)
named-then {p = p} {q = q} s u =
    record {
      room = omega (arith, u.long, s.room);
      marked = λ x r l found. u.marked x r found ∙ ap (λ (z : Bool). z && not (q x)) (s.marked x r l found) ∙ nor (p x) (q x);
    }

-- what is not in use is not named
pub idle-named :
    {ids order hints : List ℕ} {t : Bool} {n : ℕ} {used before marks : List ℕ} {test : ℕ → Bool} → Named ids order hints t n used test
    → Unheld ids order hints t n used 1 before marks n → Marked before marks (λ i. not (test (get_or ids i 0))) n
idle-named {used = used} s h =
    record { long = h.long; says = λ i l. let f = h.each i l in f.says ∙ ap bit (none_is (get_or used f.at 0) ∙ s.marked _ _ f.within f.found) }

-- HOW OFTEN A RECORD IS NAMED, up to twice: never at the start,
pub counted_start :
    (ids order hints : List ℕ) (t : Bool) {n : ℕ} {dirty clean : List ℕ} (key : ℕ → ℕ) → n ≤ length dirty → Marked dirty clean (λ i. false) n
    → Counted ids order hints t n clean key 0
unfolding how_many
counted_start ids order hints t key l m = record { room = omega (arith, m.long); each = λ x r u found. m.says r u }

none_more : (h : ℕ) → h + 0 ≡ h
none_more h = omega arith

two-more : (h : ℕ) → min 2 (min 2 h + 1) ≡ min 2 (h + 1)
two-more h = go (dec_lt h 2)
  where
    go : Dec (h < 2) → min 2 (min 2 h + 1) ≡ min 2 (h + 1)
    go (yes l) = ap (λ (m : ℕ). min 2 (m + 1)) (min-eq_right {n = h} {m = 2} (omega arith))
    go (no l) = ap (λ (m : ℕ). min 2 (m + 1)) (min-eq_left {n = 2} {m = h} (omega arith)) ∙ sym (min-eq_left {n = 2} {m = h + 1} (omega arith))

-- and after one more name
pub counted-more :
    {ids order hints : List ℕ} {t : Bool} {n : ℕ} {counts now : List ℕ} {key : ℕ → ℕ} {i x : ℕ} (f : Option ℕ) → Counted ids order hints t n counts key i
    → x ≡ key i → Sought ids n x f → f ≡ look_of ids order hints t n x → now ≡ count_at counts f → Counted ids order hints t n now key (i + 1)
unfolding Sought
counted-more {ids} {order} {hints} {t} {n} {counts} {now} {key} {i} {x} f c k s q e = record { room = long f e; each = λ y r l found. at f s q e y r l found (same_or (key i) y) }
  where
    long : (f : Option ℕ) → now ≡ count_at counts f → n ≤ length now
    long None e = rw e c.room
    long (Some a) e = rw (e, length-set counts a (min 2 (get_or counts a 0 + 1))) c.room

    kept : (y : ℕ) → (key i ≡ y → ⊥) → how_many (λ j. eqb (key j) y) i ≡ how_many (λ j. eqb (key j) y) (i + 1)
    kept y d = let z = ne_eqb (key i) y d in sym (count-more _ i ∙ ap (λ (b : Bool). how_many (λ j. eqb (key j) y) i + bit b) z ∙ none_more _)

    raised : (y : ℕ) → key i ≡ y → how_many (λ j. eqb (key j) y) i + 1 ≡ how_many (λ j. eqb (key j) y) (i + 1)
    raised y z = sym (count-more _ i ∙ ap (λ (b : Bool). how_many (λ j. eqb (key j) y) i + bit b) (eq-eqb (key i) y z))

    at :
        (f : Option ℕ) → Sought ids n x f → f ≡ look_of ids order hints t n x → now ≡ count_at counts f → (y r : ℕ) → r < n → look_of ids order hints t n y ≡ Some r
        → ((key i ≡ y) ⊎ (key i ≡ y → ⊥)) → get_or now r 0 ≡ min 2 (how_many (λ j. eqb (key j) y) (i + 1))
    at None s q e y r l found (inl z) = absurd (nothing-at (q ∙ ap (look_of ids order hints t n) (k ∙ z) ∙ found))
    at None s q e y r l found (inr d) = ap (λ (u : List ℕ). get_or u r 0) e ∙ c.each y r l found ∙ ap (min 2) (kept y d)
    at (Some a) s q e y r l found (inl z) =
        let w : Some a ≡ Some r = q ∙ ap (look_of ids order hints t n) (k ∙ z) ∙ found in
        let v : a ≡ r = cc in
        ap (λ (u : List ℕ). get_or u r 0) e
        ∙ ap (λ (j : ℕ). get_or (set counts j (min 2 (get_or counts j 0 + 1))) r 0) v
        ∙ get_or-set_same counts r (min 2 (get_or counts r 0 + 1)) 0 (omega (arith, c.room))
        ∙ ap (λ (m : ℕ). min 2 (m + 1)) (c.each y r l found)
        ∙ two-more _
        ∙ ap (min 2) (raised y z)
    at (Some a) s q e y r l found (inr d) =
        ap (λ (u : List ℕ). get_or u r 0) e
        ∙ get_or-set_other counts a r _ 0 (λ (z : r ≡ a). d (sym k ∙ sym s.1 ∙ ap (λ (j : ℕ). get_or ids j 0) (sym z) ∙ look-own ids order hints t n y found))
        ∙ c.each y r l found
        ∙ ap (min 2) (kept y d)

-- names in an array are those of the column that fills it
pub counted-filled :
    {ids order hints : List ℕ} {t : Bool} {n : ℕ} {counts refs : List ℕ} {key : ℕ → ℕ} {c m : ℕ} → Fills refs key c m
    → Counted ids order hints t n counts (listed refs) m → Counted ids order hints t n counts key c
counted-filled {refs = refs} {key} {c} {m} f u =
    record {
      room = u.room;
      each =
          λ x r l found.
          u.each x r l found
          ∙ ap (min 2) (ap (how_many (λ j. eqb (get_or refs j 0) x)) f.count ∙ count_same _ _ c (λ j lj. ap (λ (v : ℕ). eqb v x) (f.holds j lj)));
    }

-- the marks of those that fewer than two names name
few-is : (h : ℕ) → ltb (min 2 h) 2 ≡ ltb h 2
few-is h = go (dec_lt h 2)
  where
    go : Dec (h < 2) → ltb (min 2 h) 2 ≡ ltb h 2
    go (yes l) = ap (λ (m : ℕ). ltb m 2) (min-eq_right {n = h} {m = 2} (omega arith))
    go (no l) = ap (λ (m : ℕ). ltb m 2) (min-eq_left {n = 2} {m = h} (omega arith)) ∙ sym (le-ltb h 2 (omega arith))

pub few-marks :
    {ids order hints : List ℕ} {t : Bool} {n : ℕ} {counts before marks : List ℕ} {key : ℕ → ℕ} {m : ℕ} → Counted ids order hints t n counts key m
    → Unheld ids order hints t n counts 2 before marks n → Marked before marks (λ i. ltb (how_many (λ j. eqb (key j) (get_or ids i 0)) m) 2) n
few-marks {ids} {key = key} {m} s h =
    record {
      long = h.long;
      says = λ i l. let f = h.each i l in f.says ∙ ap bit (ap (λ (v : ℕ). ltb v 2) (s.each _ _ f.within f.found) ∙ few-is (how_many (λ j. eqb (key j) (get_or ids i 0)) m));
    }
