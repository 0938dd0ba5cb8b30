-- The laws of marks of keys at the records that look-ups find (specs/machinery/Types.antt): a loop that makes them, and what they say of
-- a code.
-- Assumes nothing.
use Prim.Native.Nat.{ℕ, ◌+◌, ◌<◌, ◌≤◌}
use mathlib.Core.Bool.{Bool, true, false, not, ◌&&◌, ◌||◌}
use mathlib.Core.List.{List}
use mathlib.Core.Path.{◌≡◌, refl, sym, ap, subst, ◌∙◌}
use native.Mathlib.Decide.{ℕ_discrete}
use native.Mathlib.Omega.{arith}
use lib.Dec.{eqb}
use lib.ListN.{length, get_or, set, length-set}
use lib.Seq.{get_or-set_same, get_or-set_other}
use borrow.Author.Count.{below_none, below_more}
use borrow.Author.Tests.{eq-eqb, ne_eqb, eqb-true}
use Rattle.laws.specs.Find.{any}
use Rattle.laws.specs.Count.{bit}
use Rattle.laws.proofs.FindLaws.{true-false, any-more, any-true, any_false}
use Rattle.index.specs.Look.{Sought}
use Rattle.index.specs.Marks.{Marked}
use Rattle.index.specs.Way.{look_of, or_zero}
use Rattle.std.specs.Prelude.{Option, Some, None}
use Rattle.index.specs.declared.way.Lookup.{Lookup}
use Rattle.index.proofs.LookLaws.{sought-record}
use Rattle.record.specs.Says.{Table, letter_in}
use Rattle.keys.specs.machinery.Types.{Letters, typed_by, mistyped_by, is_other, Typing, Types}
use Rattle.keys.proofs.ReferLaws.{and-false, mistyped-none, mistyped-found, mistyped-typed, mistyped-apart}

or-true : (t : Bool) → (t || true) ≡ true
or-true true = refl
or-true false = refl

or_left : (t u : Bool) → t ≡ true → (t || u) ≡ true
or_left t u e = rw e

or_right_lem : (t u : Bool) → (t || u) ≡ true → (t ≡ false) → u ≡ true
or_right_lem t u h e = sym (ap (λ (b : Bool). b || u) e) ∙ h

bit-one : (t : Bool) → bit t ≡ 1 → t ≡ true
bit-one true e = refl
bit-one false e = absurd (omega (arith, e))

-- A LOOP: nothing is marked yet,
module _ (keys order hints : List ℕ) (t : Bool) (n : ℕ) (test : ℕ → Bool) where
  pub typing-start : {before types : List ℕ} → n ≤ length before → Marked before types (λ i. false) n → Typing keys order hints t n test types 0
  typing-start l s =
      record {
        room = omega (arith, s.long);
        sound = λ r u e. absurd (omega (arith, s.says r u, e));
        whole = λ j r u h e. absurd (omega arith);
      }

  -- a record's key was looked up, and what was found is marked where it was before or the test holds
  module _ {types : List ℕ} {i r x : ℕ} {f : Option ℕ} (s : Typing keys order hints t n test types i) (q : Sought keys n (get_or keys i 0) f) (w : f ≡ look_of keys order hints t n (get_or keys i 0)) (e : f ≡ Some r)
      (v : x ≡ bit (eqb (get_or types r 0) 1 || test i)) where
    inside : (r < n) × (get_or keys r 0 ≡ get_or keys i 0)
    inside = sought-record keys n (get_or keys i 0) q e

    written : get_or (set types r x) r 0 ≡ bit (eqb (get_or types r 0) 1 || test i)
    written = get_or-set_same types r x 0 (omega (arith, s.room, inside.0)) ∙ v

    kept : (p : ℕ) → (p ≡ r → ⊥) → get_or (set types r x) p 0 ≡ get_or types p 0
    kept p d = get_or-set_other types r p x 0 d

    more : (p : ℕ) → any (λ j. eqb (get_or keys j 0) (get_or keys p 0) && test j) i ≡ true → any (λ j. eqb (get_or keys j 0) (get_or keys p 0) && test j) (i + 1) ≡ true
    more p h = any-more _ i ∙ or_left _ _ h

    sound-here : (b : Bool) → eqb (get_or types r 0) 1 ≡ b → get_or (set types r x) r 0 ≡ 1 → any (λ j. eqb (get_or keys j 0) (get_or keys r 0) && test j) (i + 1) ≡ true
    sound-here true h y = more r (s.sound r inside.0 (eqb-true _ _ h))
    sound-here false h y =
        let holds = or_right_lem _ _ (bit-one _ (sym written ∙ y)) h in
        any-true (λ j. eqb (get_or keys j 0) (get_or keys r 0) && test j) (i + 1) {k = i} (omega arith) (rw (eq-eqb (get_or keys i 0) (get_or keys r 0) (sym inside.1), holds))

    sound-at : (p : ℕ) → p < n → Dec (p ≡ r) → get_or (set types r x) p 0 ≡ 1 → any (λ j. eqb (get_or keys j 0) (get_or keys p 0) && test j) (i + 1) ≡ true
    sound-at p l (yes z) y = rw z (sound-here (eqb (get_or types r 0) 1) refl (ap (λ (k : ℕ). get_or (set types r x) k 0) (sym z) ∙ y))
    sound-at p l (no z) y = more p (s.sound p l (sym (kept p z) ∙ y))

    whole-old : (p : ℕ) → Dec (p ≡ r) → get_or types p 0 ≡ 1 → get_or (set types r x) p 0 ≡ 1
    whole-old p (yes z) h =
        let old : get_or types r 0 ≡ 1 = ap (λ (k : ℕ). get_or types k 0) (sym z) ∙ h in
        ap (λ (k : ℕ). get_or (set types r x) k 0) z ∙ written ∙ ap bit (or_left _ _ (eq-eqb _ _ old))
    whole-old p (no z) h = kept p z ∙ h

    whole_here : (p : ℕ) → test i ≡ true → look_of keys order hints t n (get_or keys i 0) ≡ Some p → get_or (set types r x) p 0 ≡ 1
    whole_here p h y =
        let same : p ≡ r = ap or_zero (sym y ∙ sym w ∙ e) in
        ap (λ (k : ℕ). get_or (set types r x) k 0) same ∙ written ∙ ap bit (ap (λ (b : Bool). eqb (get_or types r 0) 1 || b) h ∙ or-true (eqb (get_or types r 0) 1))

    whole-at : (j p : ℕ) → j < i + 1 → Dec (j ≡ i) → test j ≡ true → look_of keys order hints t n (get_or keys j 0) ≡ Some p → get_or (set types r x) p 0 ≡ 1
    whole-at j p l (yes z) h y = whole_here p (ap test (sym z) ∙ h) (ap (λ (k : ℕ). look_of keys order hints t n (get_or keys k 0)) (sym z) ∙ y)
    whole-at j p l (no z) h y = whole-old p (ℕ_discrete p r) (s.whole j p (omega (arith, z)) h y)

    pub typing-more : Typing keys order hints t n test (set types r x) (i + 1)
    typing-more =
        record {
          room = omega (arith, length-set types r x, s.room);
          sound = λ p l y. sound-at p l (ℕ_discrete p r) y;
          whole = λ j p l h y. whole-at j p l (ℕ_discrete j i) h y;
        }

-- a key is found by its own look-up
pub own-found : (keys : List ℕ) (n : ℕ) {i : ℕ} {f : Option ℕ} → i < n → Sought keys n (get_or keys i 0) f → f ≡ None → ⊥
unfolding Sought
own-found keys n {i} l q e = subst (λ (g : Option ℕ). Sought keys n (get_or keys i 0) g) e q i l refl

-- THE END
module _ (l : Lookup) (test : ℕ → Bool) where
  pub types-apart : (types : List ℕ) → l.n ≤ length types → l.way.apart ≡ true → Types l test types
  types-apart types u e = record { room = u; typing = λ q. absurd (true-false (sym e ∙ q)) }

  pub types-end : {types : List ℕ} {i : ℕ} → i ≤ l.n → l.n ≤ i → Typing l.keys.now l.order.now l.hints.now l.way.hinted l.n test types i → Types l test types
  types-end {types} {i} u v s = let same : i ≡ l.n = omega arith in record { room = s.room; typing = λ q. rw same at s }

-- A CODE, where f is what a look-up of it says: the mark of the record that is found is whether the code is catalogued under the type
module _ (keys letters : List ℕ) {n : ℕ} (wanted x : ℕ) {f : Option ℕ} (q : Sought keys n x f) {order hints types : List ℕ} {t : Bool}
    (w : f ≡ look_of keys order hints t n x) (s : Typing keys order hints t n (λ j. eqb (get_or letters j 0) wanted) types n) {r : ℕ} (e : f ≡ Some r) where
  record_of_lem : (r < n) × (get_or keys r 0 ≡ x)
  record_of_lem = sought-record keys n x q e

  typed-column : typed_by keys letters n wanted x ≡ any (λ j. eqb (get_or keys j 0) (get_or keys r 0) && eqb (get_or letters j 0) wanted) n
  unfolding typed_by
  typed-column = ap (λ (y : ℕ). any (λ j. eqb (get_or keys j 0) y && eqb (get_or letters j 0) wanted) n) (sym record_of_lem.1)

  untyped : (eqb (get_or types r 0) 1 ≡ true → ⊥) → typed_by keys letters n wanted x ≡ false
  unfolding typed_by
  untyped d = any_false _ n (λ j u. go j u (ℕ_discrete (get_or keys j 0) x) (eqb (get_or letters j 0) wanted) refl)
    where
      go : (j : ℕ) → j < n → Dec (get_or keys j 0 ≡ x) → (b : Bool) → eqb (get_or letters j 0) wanted ≡ b → (eqb (get_or keys j 0) x && b) ≡ false
      go j u (no h) b y = rw (ne_eqb (get_or keys j 0) x h)
      go j u (yes h) false y = and-false (eqb (get_or keys j 0) x)
      go j u (yes h) true y = absurd (d (eq-eqb _ _ (s.whole j r u y (ap (look_of keys order hints t n) h ∙ sym w ∙ e))))

  typed-marked : (b : Bool) → eqb (get_or types r 0) 1 ≡ b → b ≡ typed_by keys letters n wanted x
  typed-marked true h = sym (typed-column ∙ s.sound r record_of_lem.0 (eqb-true _ _ h))
  typed-marked false h = sym (untyped (λ y. true-false (sym y ∙ h)))

  mistyped-marked : not (eqb (get_or types r 0) 1) ≡ mistyped_by keys letters n wanted x
  mistyped-marked = ap not (typed-marked (eqb (get_or types r 0) 1) refl) ∙ sym (mistyped-found keys letters n wanted x q e)

-- and so does the code's own record, where it has the type or is the only one
pub other-mistyped :
    (letters : List ℕ) (l : Lookup) (wanted x : ℕ) (f : Option ℕ) {types : List ℕ} → Sought l.keys.now l.n x f
    → f ≡ look_of l.keys.now l.order.now l.hints.now l.way.hinted l.n x
    → Types l (λ j. eqb (get_or letters j 0) wanted) types → is_other f letters l.way.apart types wanted ≡ mistyped_by l.keys.now letters l.n wanted x
other-mistyped letters l wanted x None q w s = mistyped-none l.keys.now letters l.n wanted x q refl
other-mistyped letters l wanted x (Some r) {types} q w s = own (ℕ_discrete (get_or letters r 0) wanted)
  where
    only : (b : Bool) → l.way.apart ≡ b → (get_or letters r 0 ≡ wanted → ⊥) → (b || not (eqb (get_or types r 0) 1)) ≡ mistyped_by l.keys.now letters l.n wanted x
    only true e h = mistyped-apart l.keys.now letters l.n wanted x q refl (l.ready.apart e) h
    only false e h = mistyped-marked l.keys.now letters wanted x q w (s.typing e) refl

    own :
        Dec (get_or letters r 0 ≡ wanted)
        → (not (eqb (get_or letters r 0) wanted) && (l.way.apart || not (eqb (get_or types r 0) 1))) ≡ mistyped_by l.keys.now letters l.n wanted x
    own (yes h) = rw (eq-eqb (get_or letters r 0) wanted h) (mistyped-typed l.keys.now letters l.n wanted x q refl h)
    own (no h) = rw (ne_eqb (get_or letters r 0) wanted h) (only l.way.apart refl h)

-- LETTERS, read one by one: none is, one more is, all are
pub record Spelt (cat : Table) (out : List ℕ) (j : ℕ) : Type 0 where
  pub each : (i : ℕ) → i < j → get_or out i 0 ≡ letter_in (cat.says i 2)

pub spelt-start : (cat : Table) (out : List ℕ) → Spelt cat out 0
spelt-start cat out = record { each = below_none _ }

pub spelt-more : {cat : Table} {out : List ℕ} {j x : ℕ} → j < length out → x ≡ letter_in (cat.says j 2) → Spelt cat out j → Spelt cat (set out j x) (j + 1)
spelt-more {cat} {out} {j} {x} l e s =
    record {
      each =
          below_more (λ (i : ℕ). get_or (set out j x) i 0 ≡ letter_in (cat.says i 2)) j
          (λ i li. get_or-set_other out j i x 0 (λ (q : i ≡ j). omega arith) ∙ s.each i li)
          (get_or-set_same out j x 0 l ∙ e);
    }

pub letters-end : {cat : Table} {out : List ℕ} {j n : ℕ} → n ≤ j → n ≤ length out → Spelt cat out j → Letters out cat n
letters-end le room s = record { long = room; each = λ i l. s.each i (omega arith) }
