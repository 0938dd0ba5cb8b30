-- The laws of the highest vertices of lines (specs/machinery/Tops.antt): how they are raised, vertex by vertex, and what a look-up of a line
-- then says.
-- Assumes nothing.
use Prim.Native.Nat.{ℕ, zero, suc, ◌+◌, ◌<◌, ◌≤◌, max}
use mathlib.Core.List.{List}
use mathlib.Core.Path.{◌≡◌, refl, sym, ap, ◌∙◌}
use native.Mathlib.Decide.{ℕ_discrete}
use native.Mathlib.Numerals.{add-one}
use native.Mathlib.Omega.{arith}
use lib.ListN.{length, get_or, set, length-set}
use lib.Seq.{get_or-set_same, get_or-set_other}
use borrow.Author.Tests.{eq-eqb, ne_eqb}
use Rattle.index.specs.Keys.{listed}
use Rattle.index.specs.Look.{Sought, key_line}
use Rattle.index.specs.Way.{look_of, Ready}
use Rattle.std.specs.Prelude.{Option, Some, None}
use Rattle.index.specs.declared.way.Way.{Way}
use Rattle.index.proofs.LookLaws.{sought-record}
use Rattle.topology.specs.machinery.Lent.{Holds}
use Rattle.topology.specs.machinery.Tops.{line_of, Tops}
use Rattle.topology.specs.Rules.{highest_in}

at_same : {a b : ℕ} → Some a ≡ Some b → a ≡ b
at_same e = cc

-- THE HIGHEST of a line: one more key is of the line, or of another; none is
module _ (key : ℕ → ℕ) (line : ℕ) where
  highest-more : (n : ℕ) → key_line (key n) ≡ line → highest_in key line (n + 1) ≡ max (key n) (highest_in key line n)
  unfolding highest_in
  highest-more n e = rw (add-one n, eq-eqb (key_line (key n)) line e)

  highest-kept : (n : ℕ) → (key_line (key n) ≡ line → ⊥) → highest_in key line (n + 1) ≡ highest_in key line n
  unfolding highest_in
  highest-kept n h = rw (add-one n, ne_eqb (key_line (key n)) line h)

  highest-zero : (n : ℕ) → ((k : ℕ) → k < n → key_line (key k) ≡ line → ⊥) → highest_in key line n ≡ 0
  unfolding highest_in
  highest-zero zero all = refl
  highest-zero (suc n) all = rw (ne_eqb (key_line (key n)) line (all n (omega arith))) (highest-zero n (λ k l. all k (omega arith)))

-- A LOOP over the vertices: none is gone over,
pub tops_start :
    {keys lines order hints tops : List ℕ} {n : ℕ} {way : Way} → Ready lines order hints n way → Holds lines (line_of keys) n → n ≤ length tops → Holds tops (λ i. 0) n
    → Tops keys lines order hints tops n way 0
unfolding highest_in
tops_start ready of room zeros = record { ready = ready; of = of; room = room; top = λ r l e. zeros.each r l }

module _ {keys lines order hints tops : List ℕ} {n : ℕ} {way : Way} {j : ℕ} (s : Tops keys lines order hints tops n way j) where
  -- one more is, whose line's vertex is found,
  module _ {f : Option ℕ} (sought : Sought lines n (get_or lines j 0) f) (same : f ≡ look_of lines order hints way.hinted n (get_or lines j 0)) (l : j < n) where
    pub found_below_lem : {r : ℕ} → f ≡ Some r → r < n
    found_below_lem e = (sought-record lines n (get_or lines j 0) sought e).0

    pub tops-more : {r v : ℕ} → f ≡ Some r → v ≡ max (get_or keys j 0) (get_or tops r 0) → Tops keys lines order hints (set tops r v) n way (j + 1)
    tops-more {r} {v} e raised =
        record { ready = s.ready; of = s.of; room = rw length-set s.room; top = λ q lq own. at q lq own (ℕ_discrete q r) }
      where
        here : (r < n) × (get_or lines r 0 ≡ get_or lines j 0)
        here = sought-record lines n (get_or lines j 0) sought e

        finds : look_of lines order hints way.hinted n (get_or lines j 0) ≡ Some r
        finds = sym same ∙ e

        line : key_line (get_or keys j 0) ≡ get_or lines r 0
        line = sym (s.of.each j l) ∙ sym here.1

        old : get_or tops r 0 ≡ highest_in (listed keys) (get_or lines r 0) j
        old = s.top r here.0 (ap (look_of lines order hints way.hinted n) here.1 ∙ finds)

        at :
            (q : ℕ) → q < n → look_of lines order hints way.hinted n (get_or lines q 0) ≡ Some q → Dec (q ≡ r)
            → get_or (set tops r v) q 0 ≡ highest_in (listed keys) (get_or lines q 0) (j + 1)
        at q lq own (yes p) =
            rw p
            (get_or-set_same tops r v 0 (omega (arith, s.room, here.0))
            ∙ raised
            ∙ ap (max (get_or keys j 0)) old
            ∙ sym (highest-more (listed keys) (get_or lines r 0) j line))
        at q lq own (no d) =
            get_or-set_other tops r q v 0 d
            ∙ s.top q lq own
            ∙ sym
            (highest-kept (listed keys) (get_or lines q 0) j
            (λ h. d (at_same (sym own ∙ ap (look_of lines order hints way.hinted n) (sym h ∙ sym (s.of.each j l)) ∙ finds))))

    -- and found it is
    pub found_some : f ≡ None → ⊥
    unfolding Sought
    found_some e = (rw e at sought) j l refl

-- A LINE looked up, f the answer: it has no vertex, or its highest stands there
module _ {keys lines order hints tops : List ℕ} {n : ℕ} {way : Way} (s : Tops keys lines order hints tops n way n) (line : ℕ) {f : Option ℕ}
    (sought : Sought lines n line f) where
  pub top-none : f ≡ None → 0 ≡ highest_in (listed keys) line n
  unfolding Sought
  top-none e = sym (highest-zero (listed keys) line n (λ k l q. (rw e at sought) k l (s.of.each k l ∙ q)))

  pub top_below : {r : ℕ} → f ≡ Some r → r < length tops
  top_below e = let h = sought-record lines n line sought e in omega (arith, s.room, h.0)

  pub top-found : {r : ℕ} → f ≡ look_of lines order hints way.hinted n line → f ≡ Some r → get_or tops r 0 ≡ highest_in (listed keys) line n
  top-found {r} same e =
      let h = sought-record lines n line sought e in
      rw h.1 at (s.top r h.0 (ap (look_of lines order hints way.hinted n) h.1 ∙ sym same ∙ e))
