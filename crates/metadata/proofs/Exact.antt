-- The answer is exact: nothing is wrong and no test of any line holds, or the test of its rule holds at its line and none does that
-- comes before it, by rule and then by line.
-- Assumes nothing.
use Prim.Native.Nat.{ℕ, zero, suc, ◌+◌, ◌<◌}
use mathlib.Core.Bool.{Bool, true, false, ◌||◌}
use mathlib.Core.List.{List, [], ◌∷◌}
use mathlib.Core.Logic.{◌⊎◌, inl, inr}
use mathlib.Core.Option.{Option, none, some}
use mathlib.Core.Path.{◌≡◌, refl, sym, ap, ◌∙◌}
use native.Mathlib.Nat.{not-suc-le-zero}
use native.Mathlib.Omega.{arith}
use lib.Dec.{ltb, leb}
use lib.ListN.{length, get_or}
use Rattle.std.specs.Prelude.{Result, Ok, Err}
use Rattle.laws.specs.Row.{pick}
use Rattle.laws.specs.Find.{first_of, first_index}
use Rattle.laws.proofs.FindLaws.{some-none, none-at, some_at, index-none-at, index-some-at}
use Rattle.metadata.specs.declared.told.Told.{Told}
use Rattle.metadata.specs.declared.fault.Rule.{Rule}
use Rattle.metadata.specs.declared.fault.Rule.TheVariants.{LongLine80}
use Rattle.metadata.specs.declared.fault.Fault.{Fault}
use Rattle.metadata.specs.Lines.{Line, lines_of, most_lines, longest, cut_from, cut_of, told_in}
use Rattle.metadata.specs.Faults.{number_of, at_line, fault_at, or_right}
use Rattle.metadata.specs.Rules.{breaks, rule_of, told_fault, cut_fault, fault_of}
use Rattle.metadata.proofs.CutLaws.{Long}
use Rattle.metadata.proofs.RuleLaws.{fault_by}

-- 80: line i + 1 of those that n lines stand before
abbrev no_line : Line
no_line = record { bytes = []; ended = true }

abbrev pub breaks80 : ℕ → List Line → ℕ → Bool
breaks80 n ls i = leb most_lines (n + i) || ltb longest (length (get_or ls i no_line).bytes)

later-80 : (n : ℕ) (x : Line) (ls : List Line) (i : ℕ) → breaks80 (n + 1) ls i ≡ breaks80 n (x ∷ ls) (suc i)
later-80 n x ls i = let e : n + 1 + i ≡ n + suc i = omega arith in rw e

-- the line that is told is the first,
pub record Reached (n : ℕ) (ls : List Line) (l i : ℕ) : Type 0 where
  pub place : l ≡ n + i + 1
  pub there : i < length ls
  pub broken : breaks80 n ls i ≡ true
  pub before : (j : ℕ) → j < i → breaks80 n ls j ≡ false

pub cut-long : (n : ℕ) (ls : List Line) (fault : Fault) → cut_from n ls ≡ Err fault → (fault.rule ≡ LongLine80) × ((i : ℕ) × Reached n ls fault.line i)
unfolding cut_from
cut-long n [] fault e = cc
cut-long n (x ∷ ls) fault e = go (leb most_lines (n + 0) || ltb longest (length x.bytes)) refl (rw (← zero_more) at e) (cut-long (n + 1) ls fault)
  where
    zero_more : n + 0 ≡ n
    zero_more = omega arith

    go :
        (b : Bool) → (leb most_lines (n + 0) || ltb longest (length x.bytes)) ≡ b → pick b (Long (n + 0)) (cut_from (n + 0 + 1) ls) ≡ Err fault
        → (cut_from (n + 1) ls ≡ Err fault → (fault.rule ≡ LongLine80) × ((i : ℕ) × Reached (n + 1) ls fault.line i))
        → (fault.rule ≡ LongLine80) × ((i : ℕ) × Reached n (x ∷ ls) fault.line i)
    go true q h later =
        let same : fault ≡ at_line LongLine80 (n + 0 + 1) = cc in
        (ap (λ (f : Fault). f.rule) same, (0, record { place = ap (λ (f : Fault). f.line) same; there = omega arith; broken = q; before = λ j m. absurd (not-suc-le-zero m) }))
    go false q h later =
        let r = later (rw zero_more at h) in
        let i = r.1.0 in
        let g = r.1.1 in (
          r.0,
          (
            suc i,
            record {
              place = omega (arith, g.place);
              there = omega (arith, g.there);
              broken = sym (later-80 n x ls i) ∙ g.broken;
              before = before-all q g.before;
            },
          ),
        )
      where
        before-all : {i : ℕ} → (leb most_lines (n + 0) || ltb longest (length x.bytes)) ≡ false → ((j : ℕ) → j < i → breaks80 (n + 1) ls j ≡ false) → (j : ℕ) → j < suc i → breaks80 n (x ∷ ls) j ≡ false
        before-all q g zero m = q
        before-all q g (suc j) m = sym (later-80 n x ls j) ∙ g j (omega arith)

-- and where none is told, none is broken
pub cut-lines : (n : ℕ) (ls : List Line) (k : ℕ) → cut_from n ls ≡ Ok k → (j : ℕ) → j < length ls → breaks80 n ls j ≡ false
unfolding cut_from
cut-lines n [] k e j m = absurd (not-suc-le-zero m)
cut-lines n (x ∷ ls) k e j m = go (leb most_lines (n + 0) || ltb longest (length x.bytes)) refl (rw (← zero_more) at e) (cut-lines (n + 1) ls k) j m
  where
    zero_more : n + 0 ≡ n
    zero_more = omega arith

    go :
        (b : Bool) → (leb most_lines (n + 0) || ltb longest (length x.bytes)) ≡ b → pick b (Long (n + 0)) (cut_from (n + 0 + 1) ls) ≡ Ok k
        → (cut_from (n + 1) ls ≡ Ok k → (j : ℕ) → j < length ls → breaks80 (n + 1) ls j ≡ false) → (j : ℕ) → j < suc (length ls) → breaks80 n (x ∷ ls) j ≡ false
    go true q h later j m = cc
    go false q h later zero m = q
    go false q h later (suc j) m = sym (later-80 n x ls j) ∙ later (rw zero_more at h) j (omega arith)

-- FAULTS: no search gives a line
fault-index-none : (rule : Rule) (o : Option ℕ) → fault_at rule o ≡ none → o ≡ none
fault-index-none rule none e = refl
fault-index-none rule (some l) e = absurd (some-none e)

fault-index-some : (rule : Rule) (o : Option ℕ) {fault : Fault} → fault_at rule o ≡ some fault → (fault.rule ≡ rule) × (o ≡ some fault.line)
fault-index-some rule none e = absurd (some-none (sym e))
fault-index-some rule (some k) {fault} e = let q : at_line rule k ≡ fault = cc in rw (← q) (refl, refl)

number_at : (k : ℕ) → k < 6 → number_of (rule_of k) ≡ 81 + k
number_at zero l = refl
number_at (suc zero) l = refl
number_at (suc (suc zero)) l = refl
number_at (suc (suc (suc zero))) l = refl
number_at (suc (suc (suc (suc zero)))) l = refl
number_at (suc (suc (suc (suc (suc k))))) l = let z : k ≡ 0 = omega arith in rw z

module _ (counts sizes : List ℕ) (ts : List Told) where
  -- no test holds
  abbrev pub Clean : Type 0
  Clean = (k l : ℕ) → k < 6 → l < length ts + 1 → breaks counts sizes ts k l ≡ false

  -- the test of 81 + k holds at line l, and none before it
  pub record First (k l : ℕ) : Type 0 where
    pub rule : k < 6
    pub line : l < length ts + 1
    pub broken : breaks counts sizes ts k l ≡ true
    pub rules : (k' l' : ℕ) → k' < k → l' < length ts + 1 → breaks counts sizes ts k' l' ≡ false
    pub lines : (l' : ℕ) → l' < l → breaks counts sizes ts k l' ≡ false

  cleared : (n : ℕ) → first_of (fault_by counts sizes ts) n ≡ none → (k l : ℕ) → k < n → l < length ts + 1 → breaks counts sizes ts k l ≡ false
  cleared n h k l a b = index-none-at (breaks counts sizes ts k) (length ts + 1) (fault-index-none (rule_of k) _ (none-at (fault_by counts sizes ts) n h a)) b

  pub told-right : told_fault counts sizes ts ≡ Ok tt → Clean
  unfolding told_fault
  told-right e = go (first_of (fault_by counts sizes ts) 6) refl e
    where
      go : (o : Option Fault) → first_of (fault_by counts sizes ts) 6 ≡ o → or_right o ≡ Ok tt → Clean
      go none q h = cleared 6 q
      go (some fault) q h = cc

  pub told_at : (r : Rule) (l : ℕ) → told_fault counts sizes ts ≡ Err (at_line r l) → (k : ℕ) × (number_of r ≡ 81 + k) × First k l
  unfolding told_fault
  told_at r l e = go (first_of (fault_by counts sizes ts) 6) refl e
    where
      go : (o : Option Fault) → first_of (fault_by counts sizes ts) 6 ≡ o → or_right o ≡ Err (at_line r l) → (k : ℕ) × (number_of r ≡ 81 + k) × First k l
      go none q h = cc
      go (some fault) q h =
          let same : fault ≡ at_line r l = cc in
          let s = some_at (fault_by counts sizes ts) 6 (q ∙ ap some same) in
          let f = fault-index-some (rule_of s.0) (first_index (breaks counts sizes ts s.0) (length ts + 1)) s.2 in
          let i = index-some-at (breaks counts sizes ts s.0) (length ts + 1) f.1 in
          (s.0, ap number_of f.0 ∙ number_at s.0 s.1, record { rule = s.1; line = i.0; broken = i.1; rules = cleared s.0 s.3; lines = i.2 })

-- THE ANSWER: nothing is wrong,
pub right-exact :
    (m counts sizes : List ℕ) → fault_of m counts sizes ≡ Ok tt → ((j : ℕ) → j < length (lines_of m) → breaks80 0 (lines_of m) j ≡ false) × Clean counts sizes (told_in m)
unfolding fault_of
right-exact m counts sizes e = go (cut_of m) refl e
  where
    go :
        (c : Result ℕ Fault) → cut_of m ≡ c → cut_fault counts sizes (told_in m) c ≡ Ok tt
        → ((j : ℕ) → j < length (lines_of m) → breaks80 0 (lines_of m) j ≡ false) × Clean counts sizes (told_in m)
    go (Ok k) q h = (cut-lines 0 (lines_of m) k q, told-right counts sizes (told_in m) h)
    go (Err fault) q h = cc

-- or what is told is the first: of 80, or else, with no line too long, of 81 to 86
pub at_exact :
    (m counts sizes : List ℕ) (r : Rule) (l : ℕ) → fault_of m counts sizes ≡ Err (at_line r l)
    → ((number_of r ≡ 80) × ((i : ℕ) × Reached 0 (lines_of m) l i))
    ⊎ (((j : ℕ) → j < length (lines_of m) → breaks80 0 (lines_of m) j ≡ false) × ((k : ℕ) × (number_of r ≡ 81 + k) × First counts sizes (told_in m) k l))
unfolding fault_of
at_exact m counts sizes r l e = go (cut_of m) refl e
  where
    go :
        (c : Result ℕ Fault) → cut_of m ≡ c → cut_fault counts sizes (told_in m) c ≡ Err (at_line r l)
        → ((number_of r ≡ 80) × ((i : ℕ) × Reached 0 (lines_of m) l i))
        ⊎ (((j : ℕ) → j < length (lines_of m) → breaks80 0 (lines_of m) j ≡ false) × ((k : ℕ) × (number_of r ≡ 81 + k) × First counts sizes (told_in m) k l))
    go (Ok n) q h = inr (cut-lines 0 (lines_of m) n q, told_at counts sizes (told_in m) r l h)
    go (Err fault) q h =
        let same : fault ≡ at_line r l = cc in
        let c = cut-long 0 (lines_of m) fault q in
        inl (ap (λ (f : Fault). number_of f.rule) (sym same) ∙ ap number_of c.0, rw same at c.1)
