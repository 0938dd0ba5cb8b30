-- The laws of exact look-ups (specs/Way.antt): what halving gives, by the order alone; that hints which find every key find what is there.
-- Assumes nothing.
use Prim.Native.Nat.{ℕ, ◌-◌, ◌<◌, ◌≤◌}
use mathlib.Core.Bool.{Bool, true, false}
use mathlib.Core.List.{List}
use mathlib.Core.Logic.{⊎_elim}
use mathlib.Core.Option.{none}
use mathlib.Core.Path.{◌≡◌, refl, sym, ap, ◌∙◌}
use native.Mathlib.Nat.{eq-or-lt_of_le}
use native.Mathlib.Omega.{arith}
use lib.Dec.{ltb}
use lib.ListN.{length, get_or}
use borrow.Author.Tests.{eq-eqb, ne_eqb, lt-ltb, le-ltb}
use Rattle.laws.specs.Find.{first_index, or_end}
use Rattle.laws.proofs.FindLaws.{true-false, index-none, index-here}
use Rattle.index.specs.Keys.{listed, first_duplicate, room}
use Rattle.index.specs.Order.{key_at, Index}
use Rattle.index.specs.Look.{Bracket, Sought}
use Rattle.index.specs.Hint.{guess_of, Guessed}
use Rattle.index.specs.Way.{upto_of, last_at, find_of, Complete, look_of, Ready}
use Rattle.std.specs.Prelude.{Option, Some, None, is_some}
use Rattle.index.specs.declared.way.Way.{Way}
use Rattle.index.proofs.HintLaws.{Laid, laid-at, guessed-record}

-- HALVING ends where the definition says
pub bracket-upto : {keys order : List ℕ} {n limit c : ℕ} → Bracket keys order n limit c c → c ≡ upto_of keys order n limit
unfolding upto_of
bracket-upto {keys} {order} {n} {limit} {c} b =
    ⊎_elim
    (λ (e : c ≡ n). let all : first_index over n ≡ none = rw (← e) none_before in e ∙ sym (ap (or_end n) all))
    (λ (l : c < n). sym (ap (or_end n) (index-here over n none_before l (lt-ltb limit (key_at keys order c) (b.high c (omega arith) l)))))
    (eq-or-lt_of_le b.inside)
  where
    over : ℕ → Bool
    over i = ltb limit (key_at keys order i)

    none_before : first_index over c ≡ none
    none_before = index-none over c (λ i l. le-ltb limit (key_at keys order i) (b.low i l))

pub last-at-none : (order : List ℕ) {c u : ℕ} → c ≡ u → c ≡ 0 → None ≡ last_at order u
unfolding last_at
last-at-none order {c} e z = rw (← e, z)

pub last-at-some : (order : List ℕ) {c u : ℕ} → c ≡ u → (c ≡ 0 → ⊥) → Some (get_or order (c - 1) 0) ≡ last_at order u
unfolding last_at
last-at-some order {c} e nz = rw (← e, ne_eqb c 0 nz)

module _ (keys order : List ℕ) (n x : ℕ) {f : Option ℕ} (same : f ≡ last_at order (upto_of keys order n x)) where
  pub find-nothing : f ≡ None → None ≡ find_of keys order n x
  unfolding find_of
  find-nothing e = rw (← same, e)

  pub find_at : {r : ℕ} → f ≡ Some r → get_or keys r 0 ≡ x → Some r ≡ find_of keys order n x
  unfolding find_of
  find_at {r} e q = rw (← same, e, eq-eqb (get_or keys r 0) x q)

  pub find-other : {r : ℕ} → f ≡ Some r → (get_or keys r 0 ≡ x → ⊥) → None ≡ find_of keys order n x
  unfolding find_of
  find-other {r} e q = rw (← same, e, ne_eqb (get_or keys r 0) x q)

-- HINTS: where a table was filled and each key has its place, each is found
pub laid-complete : {keys hints : List ℕ} {n i : ℕ} {apart : Bool} → Laid keys hints n i apart → n ≤ i → n ≤ length keys → Complete keys hints n
unfolding Complete
laid-complete m end fits j l = ap is_some (laid-at m end fits j l).1

-- then a guess finds what is there
pub guess-sought :
    (keys hints : List ℕ) (n x : ℕ) (f : Option ℕ) → Complete keys hints n → Guessed keys n x f → f ≡ guess_of keys hints n x → Sought keys n x f
unfolding Complete Sought
guess-sought keys hints n x None all g e =
    λ k l q. true-false (sym (all k l) ∙ ap (λ (y : ℕ). is_some (guess_of keys hints n y)) q ∙ ap is_some (sym e))
guess-sought keys hints n x (Some r) all g e = guessed-record keys n x g refl

-- A WAY, by hints,
module _ (keys order hints : List ℕ) {n : ℕ} (small : n ≤ room) (fits : n ≤ length keys) where
  pub way-hinted : {way : Way} → way.hinted ≡ true → Complete keys hints n → (way.apart ≡ true → first_duplicate (listed keys) n ≡ none) → Ready keys order hints n way
  way-hinted h all d = record { small = small; keys-room = fits; hinted = λ e. all; sorted = λ e. absurd (true-false (sym h ∙ e)); apart = d }

  -- or by halving
  pub way-sorted : {t : Bool} → Index keys order n → (t ≡ true → first_duplicate (listed keys) n ≡ none) → Ready keys order hints n (record { hinted = false; apart = t })
  way-sorted ix d = record { small = small; keys-room = fits; hinted = λ e. absurd (true-false (sym e)); sorted = λ e. ix; apart = d }

-- and what a look-up gives by it
module _ (keys order hints : List ℕ) (n x : ℕ) {t : Bool} {f : Option ℕ} where
  pub look-hinted : t ≡ true → f ≡ guess_of keys hints n x → f ≡ look_of keys order hints t n x
  unfolding look_of
  look-hinted e q = rw e q

  pub look-sorted : t ≡ false → f ≡ find_of keys order n x → f ≡ look_of keys order hints t n x
  unfolding look_of
  look-sorted e q = rw e q
