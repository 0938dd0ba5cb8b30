-- Breaks that are counted (specs/machinery/Counts.antt): as many as the trees have; a record that a glance shows to be lawful has none.
-- Assumes nothing.
use Prim.Native.Nat.{ℕ, ◌+◌}
use mathlib.Core.Bool.{Bool, true, false}
use mathlib.Core.List.{List}
use mathlib.Core.Option.{Option, none}
use mathlib.Core.Path.{◌≡◌, refl, sym, ◌∙◌}
use lib.ListN.{get_or}
use mir.Val.{bool_byte}
use Rattle.laws.specs.Find.{hit}
use Rattle.laws.specs.Nest.{run, one, many}
use Rattle.laws.specs.Count.{bit}
use Rattle.laws.proofs.SumLaws.{sum_same, count-sum}
use Rattle.laws.proofs.ManyLaws.{run-many}
use Rattle.record.specs.declared.kind.Kind.{Kind}
use Rattle.record.specs.declared.reason.Break.{Break}
use Rattle.std.specs.Prelude.{Ok}
use Rattle.record.specs.Table.{fields_of}
use Rattle.record.specs.Rules.{twenties}
use Rattle.record.specs.Breaks.{finding_of, at_place, record_breaks, record_finding}
use Rattle.record.specs.machinery.Counts.{place_many, record_many}
use Rattle.record.proofs.FindingLaws.{fine-none}

-- a test as a number
pub bool-bit : (t : Bool) → bool_byte t ≡ bit t
bool-bit true = refl
bool-bit false = refl

-- an answer is one where its test holds
pub hit-one : {B : Type 0} (t : Bool) (b : B) → one (hit t b) ≡ bit t
hit-one true b = refl
hit-one false b = refl

-- the breaks of a record's tree are those of its places' tests
pub record-many : (s : List ℕ) (k : Kind) (i : ℕ) → many (record_breaks s k i) ≡ record_many s k
unfolding many record_breaks at_place record_many place_many
record-many s k i =
    sum_same _ _ (fields_of k + 1)
    (λ f l. sum_same _ _ 6 (λ u _. hit-one (get_or (twenties s k f) u false) _) ∙ sym (count-sum (λ u. get_or (twenties s k f) u false) 6))

pub fine-many : (s : List ℕ) (k : Kind) (i : ℕ) → record_finding s k i ≡ Ok tt → 0 ≡ record_many s k
unfolding record_finding
fine-many s k i e = sym (run-many (record_breaks s k i) (fine-is (run (record_breaks s k i)) e)) ∙ record-many s k i
  where
    fine-is : (o : Option Break) → finding_of o ≡ Ok tt → o ≡ none
    fine-is o h = fine-none o (rw h)
