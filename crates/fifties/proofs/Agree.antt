-- The rules of topology tell the same of two deliveries that agree: they are rules of given files and fields, so that of a delivery
-- and of it struck both sides compute to the same.
-- Assumes nothing.
use Prim.Native.Nat.{ℕ}
use mathlib.Core.Path.{◌≡◌, refl, sym, ap, ap₂, ◌∙◌}
use Rattle.record.specs.declared.kind.Kind.{Kind}
use Rattle.record.specs.Table.{col_at, is_free_word}
use Rattle.record.specs.Files.{Delivery}
use Rattle.record.specs.Names.{name_at, key_of}
use Rattle.keys.specs.machinery.Groups.{Tests, Reasons, group_finding, broken_by, over_files}
use Rattle.keys.proofs.Agree.{Agrees, struck, struck-same}
use Rattle.topology.specs.Rules.{placed, node_in, meets, breaks50, breaks51, start_elsewhere, breaks52, end_elsewhere, breaks53, same_place, placed_before, breaks54, point_elsewhere, breaks55, ends_tramo, namers, node_idle, breaks56, object_idle, breaks57, is_tip, vertex_with, is_end, is_middle, disagrees, breaks58, breaks59, fifties, fifty_reasons}
use Rattle.fifties.specs.machinery.Findings.{topology_in, topology_finding, topology_broken}

fifties-struck : (d : Delivery) → fifties (struck d) ≡ fifties d
unfolding col_at is_free_word name_at key_of placed node_in meets breaks50 breaks51 start_elsewhere breaks52 end_elsewhere breaks53 same_place placed_before breaks54 point_elsewhere breaks55 ends_tramo namers node_idle breaks56 object_idle breaks57 is_tip vertex_with is_end is_middle disagrees breaks58 breaks59 fifties
fifties-struck d = refl

reasons-struck : (d : Delivery) → fifty_reasons (struck d) ≡ fifty_reasons d
unfolding col_at is_free_word same_place fifty_reasons
reasons-struck d = refl

finding-struck : (d : Delivery) → topology_finding (struck d) ≡ topology_finding d
unfolding topology_finding topology_in
finding-struck d =
    ap₂ (λ (ts : Kind → Tests) (rs : Kind → Reasons). over_files (λ k. group_finding (ts k) (rs k) k (d k).count)) (fifties-struck d) (reasons-struck d)

broken-struck : (d : Delivery) (k : Kind) (n i f : ℕ) → topology_broken (struck d) k n i f ≡ topology_broken d k n i f
unfolding topology_broken broken_by
broken-struck d k n i f = rw (fifties-struck d)

module _ {d e : Delivery} (a : Agrees d e) where
  pub topology-agree : topology_finding d ≡ topology_finding e
  topology-agree = sym (finding-struck d) ∙ ap topology_finding (struck-same a) ∙ finding-struck e

  pub topology-broken-agree : (k : Kind) (n i f : ℕ) → topology_broken d k n i f ≡ topology_broken e k n i f
  topology-broken-agree k n i f = sym (broken-struck d k n i f) ∙ ap (λ (x : Delivery). topology_broken x k n i f) (struck-same a) ∙ broken-struck e k n i f
