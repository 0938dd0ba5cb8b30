-- The laws of numbers that stand for keys (specs/Way.antt): how they are filled, and the keys that occur twice by them.
-- Assumes nothing.
use Prim.Native.Nat.{ℕ, ◌+◌, ◌<◌, ◌≤◌}
use mathlib.Core.Bool.{Bool, true, false, ◌||◌}
use mathlib.Core.List.{List}
use mathlib.Core.Logic.{⊎_elim}
use mathlib.Core.Option.{none}
use mathlib.Core.Path.{◌≡◌, refl, sym, ap, ◌∙◌}
use native.Mathlib.Omega.{arith}
use lib.Dec.{eqb}
use lib.ListN.{length, get_or, set, replicate, length-set, length-replicate, get_or-replicate}
use lib.Seq.{get_or-set_same, get_or-set_other}
use borrow.Author.Count.{below_none, below_more}
use borrow.Author.Tests.{eq-eqb, ne_eqb}
use Rattle.laws.specs.Find.{any, names}
use Rattle.laws.specs.Count.{bit}
use Rattle.laws.proofs.FindLaws.{any-more, any_same, index-none-at}
use Rattle.index.specs.Keys.{listed, first_duplicate, room}
use Rattle.index.specs.Look.{Sought}
use Rattle.index.specs.Marks.{Marked}
use Rattle.index.specs.Way.{look_of, or_zero, Stands}
use Rattle.std.specs.Prelude.{Option, Some, None}
use Rattle.index.proofs.MarkLaws.{marked-as}
use Rattle.index.proofs.OrderLaws.{same_or}

-- THE NUMBER of key e is the record that a look-up of the key finds
pub record Numbered (keys order hints : List ℕ) (t : Bool) (n : ℕ) (e x : ℕ) : Type 0 where
  pub within : x < n
  pub found : look_of keys order hints t n (get_or keys e 0) ≡ Some x
  pub own : get_or keys x 0 ≡ get_or keys e 0

numbered : (keys order hints : List ℕ) (t : Bool) (n e : ℕ) (f : Option ℕ) → e < n → Sought keys n (get_or keys e 0) f
    → f ≡ look_of keys order hints t n (get_or keys e 0) → Numbered keys order hints t n e (or_zero f)
unfolding Sought
numbered keys order hints t n e None l s q = absurd (s e l refl)
numbered keys order hints t n e (Some r) l s q = record { within = s.0; found = sym q; own = s.1 }

-- a loop's: the first i have their numbers
pub record Numbers (keys order hints : List ℕ) (t : Bool) (n : ℕ) (out : List ℕ) (i : ℕ) : Type 0 where
  pub each : (e : ℕ) → e < i → Numbered keys order hints t n e (get_or out e 0)

module _ {keys order hints : List ℕ} {t : Bool} {n : ℕ} where
  pub numbers-start : (out : List ℕ) → Numbers keys order hints t n out 0
  numbers-start out = record { each = below_none _ }

  pub numbers_more :
      {out : List ℕ} {i x : ℕ} (f : Option ℕ) → i < n → i < length out → Numbers keys order hints t n out i → Sought keys n (get_or keys i 0) f
      → f ≡ look_of keys order hints t n (get_or keys i 0) → x ≡ or_zero f → Numbers keys order hints t n (set out i x) (i + 1)
  numbers_more {out} {i} {x} f l fits all s q v =
      record {
        each =
            below_more (λ (e : ℕ). Numbered keys order hints t n e (get_or (set out i x) e 0)) i
            (λ e le. rw (get_or-set_other out i e x 0 (λ (z : e ≡ i). omega arith)) (all.each e le))
            (rw (get_or-set_same out i x 0 fits, v) (numbered keys order hints t n i f l s q));
      }

  -- two are equal exactly where their keys are
  pub numbered-same :
      {a b x y : ℕ} → Numbered keys order hints t n a x → Numbered keys order hints t n b y → eqb x y ≡ eqb (get_or keys a 0) (get_or keys b 0)
  numbered-same {a} {b} {x} {y} p q = ⊎_elim equal other (same_or (get_or keys a 0) (get_or keys b 0))
    where
      equal : get_or keys a 0 ≡ get_or keys b 0 → eqb x y ≡ eqb (get_or keys a 0) (get_or keys b 0)
      equal e =
          let f : Some x ≡ Some y = sym p.found ∙ ap (look_of keys order hints t n) e ∙ q.found in
          eq-eqb _ _ (ap or_zero f) ∙ sym (eq-eqb _ _ e)

      other : (get_or keys a 0 ≡ get_or keys b 0 → ⊥) → eqb x y ≡ eqb (get_or keys a 0) (get_or keys b 0)
      other d = ne_eqb _ _ (λ e. d (sym p.own ∙ ap (λ (r : ℕ). get_or keys r 0) e ∙ q.own)) ∙ sym (ne_eqb _ _ d)

  -- then they stand for the keys
  pub numbers-stand : {out : List ℕ} {i : ℕ} → n ≤ i → Numbers keys order hints t n out i → Stands keys out n
  numbers-stand {out} {i} le all =
      record {
        within = λ e l. (all.each e (omega arith)).within;
        same = λ a b la lb. numbered-same (all.each a (omega arith)) (all.each b (omega arith));
      }

-- KEYS THAT OCCUR TWICE. The number of key e, which is kept nowhere: a loop has those of the first i at hand, as marks
abbrev number_of : List ℕ → List ℕ → List ℕ → Bool → ℕ → ℕ → ℕ
number_of keys order hints t n e = or_zero (look_of keys order hints t n (get_or keys e 0))

pub record Seen (keys order hints : List ℕ) (t : Bool) (n : ℕ) (seen : List ℕ) (i : ℕ) : Type 0 where
  pub each : (e : ℕ) → e < i → Numbered keys order hints t n e (number_of keys order hints t n e)
  pub long : length seen ≡ room
  pub at : (x : ℕ) → x < room → get_or seen x 0 ≡ bit (names (number_of keys order hints t n) i x)

or-true : (t : Bool) → (t || true) ≡ true
or-true true = refl
or-true false = refl

or-false : (t : Bool) → (t || false) ≡ t
or-false true = refl
or-false false = refl

module _ (keys order hints : List ℕ) (t : Bool) (n : ℕ) where
  abbrev number : ℕ → ℕ
  number e = number_of keys order hints t n e

  pub seen_start : Seen keys order hints t n (replicate room 0) 0
  unfolding any
  seen_start = record { each = below_none _; long = length-replicate {A = ℕ} room 0; at = λ x l. get_or-replicate room x 0 0 l }

  module _ {i : ℕ} (l : i < n) (small : n ≤ room) (f : Option ℕ) (s : Sought keys n (get_or keys i 0) f) (q : f ≡ look_of keys order hints t n (get_or keys i 0)) {x : ℕ} (v : x ≡ or_zero f) where
    own : Numbered keys order hints t n i x
    own = rw v (numbered keys order hints t n i f l s q)

    is_number : x ≡ number i
    is_number = v ∙ ap or_zero q

    pub seen-within : x < room
    seen-within = omega (arith, own.within, small)

    module _ {seen : List ℕ} (h : Seen keys order hints t n seen i) where
      -- the key is an earlier one's where its number is
      pub seen_at : get_or seen x 0 ≡ bit (names (listed keys) i (get_or keys i 0))
      seen_at = h.at x seen-within ∙ ap bit (any_same _ _ i (λ k lk. numbered-same (h.each k lk) own))

      here : (y : ℕ) → x ≡ y → get_or (set seen x 1) y 0 ≡ bit (names number (i + 1) y)
      here y e =
          ap (λ (z : ℕ). get_or (set seen x 1) z 0) (sym e)
          ∙ get_or-set_same seen x 1 0 (omega (arith, h.long, seen-within))
          ∙ sym (ap bit (any-more (λ k. eqb (number k) y) i ∙ ap (λ (b : Bool). names number i y || b) (eq-eqb _ _ (sym is_number ∙ e)) ∙ or-true (names number i y)))

      there : (y : ℕ) → y < room → (x ≡ y → ⊥) → get_or (set seen x 1) y 0 ≡ bit (names number (i + 1) y)
      there y ly d =
          get_or-set_other seen x y 1 0 (λ e. d (sym e))
          ∙ h.at y ly
          ∙ sym (ap bit (any-more (λ k. eqb (number k) y) i ∙ ap (λ (b : Bool). names number i y || b) (ne_eqb _ _ (λ e. d (is_number ∙ e))) ∙ or-false (names number i y)))

      pub seen_more : Seen keys order hints t n (set seen x 1) (i + 1)
      seen_more =
          record {
            each = below_more (λ (e : ℕ). Numbered keys order hints t n e (number e)) i h.each (rw (← is_number) own);
            long = length-set seen x 1 ∙ h.long;
            at = λ y ly. ⊎_elim (here y) (there y ly) (same_or x y);
          }

-- None does, where they are apart
pub repeats-none :
    {before marks : List ℕ} (keys : List ℕ) {n : ℕ} → first_duplicate (listed keys) n ≡ none → Marked before marks (λ i. false) n
    → Marked before marks (λ i. names (listed keys) i (get_or keys i 0)) n
repeats-none keys {n} d m = marked-as (λ i l. sym (index-none-at (λ r. names (listed keys) r (get_or keys r 0)) n d l)) m
