-- The places 0 to n have no break exactly where every test at every place is false; else their first break is that of the first
-- place and reason whose test holds.
-- Assumes nothing.
use Prim.Native.Nat.{ℕ, ◌+◌, ◌-◌, ◌<◌, ◌≤◌}
use mathlib.Core.Bool.{Bool, true, false, not}
use mathlib.Core.List.{List, [], ◌∷◌}
use mathlib.Core.Option.{Option, none, some}
use mathlib.Core.Path.{◌≡◌, refl, sym, ap, subst, ◌∙◌}
use mathlib.Core.Logic.{⊎_elim}
use native.Mathlib.Omega.{arith}
use lib.Dec.{eqb}
use lib.ListN.{length, get_or}
use borrow.Author.Tests.{eqb-true, not-false}
use Rattle.laws.specs.Find.{hit, first_of, first_index, any}
use Rattle.laws.specs.Nest.{node, run, before}
use Rattle.laws.proofs.FindLaws.{true-false, none-at, some_at, first-none, hit-none, hit-some, hit-false, any-no}
use Rattle.laws.proofs.NestLaws.{before_split}
use Rattle.laws.proofs.GridLaws.{before-one}
use Rattle.laws.proofs.RowLaws.{false-at}
use Rattle.record.specs.declared.kind.Kind.{Kind}
use Rattle.record.specs.declared.reason.Reason.{Reason}
use Rattle.record.specs.declared.reason.Reason.TheVariants.{LongFile10}
use Rattle.record.specs.declared.reason.Break.{Break}
use Rattle.std.specs.Prelude.{Ok, Err}
use Rattle.record.specs.Table.{fields_of}
use Rattle.record.specs.Rules.{twenties}
use Rattle.record.specs.Breaks.{number_of, break_of, at_place, finding_of, twenty_reasons, record_breaks, record_finding}
use Rattle.record.specs.Says.{Said}
use Rattle.codec.specs.Refusals.{sixties, sixty_reasons, value_breaks, values_finding}

fine-none : (o : Option Break) → finding_of o ≡ Ok tt → o ≡ none
fine-none none e = refl
fine-none (some b) e = absurd (let z : ◌≡◌ {A = ℕ} 0 1 = cc in omega arith)

broken-some : (o : Option Break) (b : Break) → finding_of o ≡ Err b → o ≡ some b
broken-some none b e = absurd (let z : ◌≡◌ {A = ℕ} 0 1 = cc in omega arith)
broken-some (some b') b e = cc

-- a reason, by its number, and a field: of the tests at the fields 0 to n, one for each number from base on, theirs is the first that holds
pub record First (n base : ℕ) (tests : ℕ → List Bool) (reason field : ℕ) : Type 0 where
  pub from : base ≤ reason
  pub within : field ≤ n
  pub there : reason - base < length (tests field)
  pub holds : get_or (tests field) (reason - base) false ≡ true
  pub least : (m f : ℕ) → base ≤ m → f ≤ n → get_or (tests f) (m - base) false ≡ true → before (f ∷ m ∷ []) (field ∷ reason ∷ []) ≡ true → ⊥

module _ (n : ℕ) (tests : ℕ → List Bool) (reasons : List Reason) (k : Kind) (i : ℕ) where
  -- no test holds at a place before one up to which there is no break
  none-past : {m : ℕ} → first_of (λ f. run (at_place (tests f) reasons k i f)) m ≡ none → (f u : ℕ) → f < m → get_or (tests f) u false ≡ false
  unfolding run at_place
  none-past {m} e f u l = false-at (tests f) (λ j q. hit-none _ _ (none-at _ (length (tests f)) (none-at _ m e l) q)) u

  pub place-fine :
      (finding_of (run (node (n + 1) (λ f. at_place (tests f) reasons k i f))) ≡ Ok tt → (f u : ℕ) → f ≤ n → get_or (tests f) u false ≡ false)
      × (((f u : ℕ) → f ≤ n → get_or (tests f) u false ≡ false) → finding_of (run (node (n + 1) (λ f. at_place (tests f) reasons k i f))) ≡ Ok tt)
  unfolding run at_place
  place-fine = (
    λ e f u l. none-past (fine-none _ e) f u (omega arith),
    λ h. ap finding_of (first-none _ (n + 1) (λ f l. first-none _ (length (tests f)) (λ u m. hit-false _ _ (h f u (omega arith))))),
  )

  -- where the reasons are numbered from base on, and there are no more tests than reasons
  module _ (base : ℕ) (numbers : any (λ u. not (eqb (number_of (get_or reasons u LongFile10)) (base + u))) (length reasons) ≡ false)
      (few : (f : ℕ) → length (tests f) ≤ length reasons) where
    numbered : (u : ℕ) → u < length reasons → number_of (get_or reasons u LongFile10) ≡ base + u
    numbered u l = eqb-true _ _ (not-false _ (any-no _ (length reasons) numbers l))

    first-at :
        (f u : ℕ) → f < n + 1 → first_of (λ g. run (at_place (tests g) reasons k i g)) f ≡ none → u < length (tests f) → get_or (tests f) u false ≡ true
        → first_of (λ x. hit (get_or (tests f) x false) (break_of (get_or reasons x LongFile10) k i f)) u ≡ none
        → First n base tests (number_of (get_or reasons u LongFile10)) f
    first-at f u l past m here Before-here =
        let q : u < length reasons = omega (arith, few f) in
        let back : base + u - base ≡ u = omega arith in
        rw (numbered u q)
        record {
          from = omega arith;
          within = omega arith;
          there = rw back m;
          holds = rw back here;
          least = λ x g a b held earlier.
              ⊎_elim
              (λ lt. true-false (sym held ∙ none-past past g (x - base) lt))
              (λ e.
              let lt = before-one x (base + u) e.1 in
              true-false (sym held ∙ rw e.0 (hit-none _ _ (none-at _ u Before-here (omega arith)))))
              (before_split g f (x ∷ []) ((base + u) ∷ []) earlier);
        }

    pub place-first :
        (b : Break) → finding_of (run (node (n + 1) (λ f. at_place (tests f) reasons k i f))) ≡ Err b → First n base tests (number_of b.reason) b.field
    unfolding run at_place
    place-first b e =
        let r = some_at _ (n + 1) (broken-some _ b e) in
        let f = r.0 in
        let w = some_at _ (length (tests f)) r.2 in
        let u = w.0 in
        let h = hit-some (get_or (tests f) u false) (break_of (get_or reasons u LongFile10) k i f) b w.2 in
        subst (λ (c : Break). First n base tests (number_of c.reason) c.field) h.1 (first-at f u r.1 r.3 w.1 h.0 w.3)

-- the bytes of a record,
pub record-fine :
    (s : List ℕ) (k : Kind) (i : ℕ)
    → (record_finding s k i ≡ Ok tt → (f u : ℕ) → f ≤ fields_of k → get_or (twenties s k f) u false ≡ false)
    × (((f u : ℕ) → f ≤ fields_of k → get_or (twenties s k f) u false ≡ false) → record_finding s k i ≡ Ok tt)
unfolding record_finding record_breaks
record-fine s k i = place-fine (fields_of k) (twenties s k) twenty_reasons k i

pub record-first :
    (s : List ℕ) (k : Kind) (i : ℕ) (b : Break) → record_finding s k i ≡ Err b
    → First (fields_of k) 20 (twenties s k) (number_of b.reason) b.field
unfolding record_finding record_breaks any first_index first_of
record-first s k i = place-first (fields_of k) (twenties s k) twenty_reasons k i 20 refl (λ f. omega arith)

-- and what is to be written
pub values-fine :
    (k : Kind) (v : ℕ → Said)
    → (values_finding k v ≡ Ok tt → (f u : ℕ) → f ≤ fields_of k → get_or (sixties k v f) u false ≡ false)
    × (((f u : ℕ) → f ≤ fields_of k → get_or (sixties k v f) u false ≡ false) → values_finding k v ≡ Ok tt)
unfolding values_finding value_breaks
values-fine k v = place-fine (fields_of k) (sixties k v) sixty_reasons k 0

pub values-first :
    (k : Kind) (v : ℕ → Said) (b : Break) → values_finding k v ≡ Err b
    → First (fields_of k) 62 (sixties k v) (number_of b.reason) b.field
unfolding values_finding value_breaks any first_index first_of
values-first k v = place-first (fields_of k) (sixties k v) sixty_reasons k 0 62 refl (λ f. omega arith)
