-- The laws of vertices of one sort at the nodes' places (specs/machinery/Spotted.antt): the numbers of all, and the
-- marks of the nodes at whose places none lies.
-- Assumes nothing.
use Prim.Native.Nat.{ℕ, ◌<◌}
use mathlib.Core.Bool.{Bool, not, ◌&&◌}
use mathlib.Core.List.{List}
use mathlib.Core.Path.{◌≡◌, ap, ◌∙◌}
use lib.Dec.{eqb}
use lib.ListN.{get_or}
use Rattle.laws.specs.Find.{names}
use Rattle.laws.specs.Count.{bit}
use Rattle.laws.proofs.FindLaws.{any_same}
use Rattle.index.specs.Keys.{listed}
use Rattle.index.specs.Marks.{Marked}
use Rattle.topology.specs.machinery.Each.{Each}
use Rattle.topology.specs.machinery.Spotted.{sorted_at, any_sorted, Spotted}

-- THE NUMBERS of the vertices, one for each
pub spotted-each :
    {tips vx vy nx ny pairs before out : List ℕ} {mark m v : ℕ} {made : ℕ → ℕ → Type 0}
    → ((j x i : ℕ) → j < v → made j x → i < m
    → eqb x (get_or pairs i 0) ≡ (eqb (get_or tips j 0) mark && (eqb (get_or vx j 0) (get_or nx i 0) && eqb (get_or vy j 0) (get_or ny i 0))))
    → Each made before out v → Spotted tips vx vy nx ny pairs mark m out v
unfolding sorted_at
spotted-each same s = record { each = λ j i lj li. same j _ i lj (s.each j lj 0) li }

-- THE NODES whose numbers no vertex has are those at whose places none of the sort lies
pub off-marks :
    {tips vx vy nx ny pairs refs before marks : List ℕ} {mark m v : ℕ} → Spotted tips vx vy nx ny pairs mark m refs v
    → Marked before marks (λ i. not (names (listed refs) v (get_or pairs i 0))) m
    → Marked before marks (λ i. not (any_sorted tips vx vy mark v (get_or nx i 0) (get_or ny i 0))) m
unfolding any_sorted
off-marks {v = v} s h =
    record { long = h.long; says = λ i l. h.says i l ∙ ap (λ (t : Bool). bit (not t)) (any_same _ _ v (λ j lj. s.each j i lj l)) }
