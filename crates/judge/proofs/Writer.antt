-- What the writer promises: of values that obey the rules, in any order, it makes files that the verdict accepts.
-- Assumes nothing.
use Prim.Native.Nat.{ℕ, zero, suc, ◌+◌, ◌<◌}
use mathlib.Core.Bool.{false}
use mathlib.Core.List.{map}
use mathlib.Core.Path.{◌≡◌, refl, sym, ap, fun_ext, ◌∙◌}
use native.Mathlib.Omega.{arith}
use lib.ListN.{length}
use Rattle.laws.proofs.FindLaws.{first-none}
use Rattle.laws.proofs.Turns.{stay}
use Rattle.record.specs.declared.kind.Kind.{Kind}
use Rattle.std.specs.Prelude.{Ok}
use Rattle.record.specs.Table.{kinds}
use Rattle.record.specs.Breaks.{finding_of}
use Rattle.record.specs.Files.{Delivery, delivery_of}
use Rattle.codec.specs.Values.{values_say}
use Rattle.codec.specs.Refusals.{values_finding}
use Rattle.codec.proofs.AllFalse.{values-fine}
use Rattle.keys.specs.machinery.Groups.{break_in}
use Rattle.keys.specs.Rules.{key_tests, key_reasons}
use Rattle.keys.specs.machinery.Findings.{keys_broken, keys_in, keys_finding}
use Rattle.topology.specs.Rules.{fifty_reasons}
use Rattle.fifties.specs.machinery.Findings.{topology_tests, topology_broken, topology_in, topology_finding}
use Rattle.objects.specs.Rules.{seventy_reasons}
use Rattle.objects.specs.machinery.Findings.{objects_tests, objects_broken, objects_in, objects_finding}
use Rattle.judge.specs.Broken.{last_ten, counts_of}
use Rattle.judge.specs.Verdict.{judged, verdict_of}
use Rattle.judge.specs.machinery.Searched.{group_at, searched}
use Rattle.judge.specs.Obeys.{Records, values_at, tables_of, Obeys, made_of, Shuffled, lengths_of, accepted}
use Rattle.judge.proofs.NoneBroken.{over-fine, none-broken-fine}
use Rattle.judge.proofs.SaidLaws.{said-keys, said-topology, said-objects}
use Rattle.judge.proofs.Made.{count-written, shape-written, fields-written, said-written}
use Rattle.judge.proofs.Rearranged.{Rearranged, keys-rearranged, topology-rearranged, objects-rearranged}
use Rattle.judge.proofs.Shuffle.{shuffled-obeys}
use Rattle.judge.proofs.Exact.{searched-is}

-- where nothing is broken, nothing is found
pub keys-fine : (d : Delivery) → ((k : Kind) (n i f : ℕ) → keys_broken d k n i f ≡ false) → (t : ℕ) → keys_finding t d ≡ Ok tt
unfolding keys_finding keys_in keys_broken
keys-fine d h t = over-fine _ (λ k. none-broken-fine (λ t. key_tests t d k) k (d k).count (h k) (key_reasons t d k) t)

pub topology-fine : (d : Delivery) → ((k : Kind) (n i f : ℕ) → topology_broken d k n i f ≡ false) → topology_finding d ≡ Ok tt
unfolding topology_finding topology_in topology_broken
topology-fine d h = over-fine _ (λ k. none-broken-fine (topology_tests d k) k (d k).count (h k) (fifty_reasons d k) 5)

pub objects-fine : (d : Delivery) → ((k : Kind) (n i f : ℕ) → objects_broken d k n i f ≡ false) → objects_finding d ≡ Ok tt
unfolding objects_finding objects_in objects_broken
objects-fine d h = over-fine _ (λ k. none-broken-fine (objects_tests d k) k (d k).count (h k) (λ i f. seventy_reasons) 7)

module _ (vs : Records) (o : Obeys vs) where
  -- no record is refused
  writable : (k : Kind) (i : ℕ) → i < length (vs k) → values_finding k (values_say k (values_at vs k i)) ≡ Ok tt
  writable k i l = (values-fine k (values_say k (values_at vs k i))).1 (λ f u b. o.fields k i f u l b)

  -- the files' tables say what the values say
  tables-made : Rearranged (tables_of vs) (delivery_of (made_of vs))
  tables-made =
      record {
        count = λ k. rw (count-written k (vs k)) (let h = o.few k in omega arith);
        turn = λ k. stay (length (vs k));
        says = λ k i f l b. said-written k (vs k) (writable k) i f l b;
      }

  -- and so break no rule that these keep
  keys-made : (k : Kind) (n i f : ℕ) → keys_broken (delivery_of (made_of vs)) k n i f ≡ false
  keys-made = keys-rearranged (tables_of vs) (delivery_of (made_of vs)) tables-made (λ k n i f. said-keys _ n k i f (o.rules n k i f))

  topology-made : (k : Kind) (n i f : ℕ) → topology_broken (delivery_of (made_of vs)) k n i f ≡ false
  topology-made = topology-rearranged (tables_of vs) (delivery_of (made_of vs)) tables-made (λ k n i f. said-topology _ n k i f (o.rules n k i f))

  objects-made : (k : Kind) (n i f : ℕ) → objects_broken (delivery_of (made_of vs)) k n i f ≡ false
  objects-made = objects-rearranged (tables_of vs) (delivery_of (made_of vs)) tables-made (λ k n i f. said-objects _ n k i f (o.rules n k i f))

  group-fine : (t : ℕ) → group_at (made_of vs) t ≡ Ok tt
  unfolding group_at
  group-fine zero = refl
  group-fine (suc zero) = over-fine _ (λ k. shape-written k (vs k) (o.few k))
  group-fine (suc (suc zero)) = over-fine _ (λ k. fields-written k (vs k) (writable k))
  group-fine (suc (suc (suc zero))) = keys-fine _ keys-made 3
  group-fine (suc (suc (suc (suc zero)))) = keys-fine _ keys-made 4
  group-fine (suc (suc (suc (suc (suc zero))))) = topology-fine _ topology-made
  group-fine (suc (suc (suc (suc (suc (suc zero)))))) = refl
  group-fine (suc (suc (suc (suc (suc (suc (suc zero))))))) = objects-fine _ objects-made
  group-fine (suc (suc (suc (suc (suc (suc (suc (suc t)))))))) = refl

  made-fine : judged (made_of vs) ≡ Ok tt
  unfolding searched
  made-fine = sym (searched-is (made_of vs)) ∙ ap finding_of (first-none _ (last_ten + 1) (λ t l. ap break_in (group-fine t)))

  made-counts : counts_of (made_of vs) ≡ lengths_of vs
  unfolding counts_of
  made-counts = ap (λ (count : Kind → ℕ). map count kinds) (fun_ext (λ k. count-written k (vs k)))

  -- THE WRITER'S PROMISE: the files made of values that obey the rules are accepted, with as many records as there are values
  pub writer-promise : verdict_of (made_of vs) ≡ accepted vs
  unfolding verdict_of
  writer-promise = rw (made-fine, made-counts)

-- and so are those made of the same records in any other order
pub writer-promise-any-order : (vs ws : Records) → Obeys vs → ((k : Kind) → Shuffled (vs k) (ws k)) → verdict_of (made_of ws) ≡ accepted vs
writer-promise-any-order vs ws o sh =
    let long : (k : Kind) → length (ws k) ≡ length (vs k) = λ k. (sh k).long in
    writer-promise ws (shuffled-obeys vs ws sh o) ∙ ap (λ (lengths : Kind → ℕ). record { finding = (Ok tt); counts = map lengths kinds }) (fun_ext long)
