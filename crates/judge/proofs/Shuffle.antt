-- Records in another order obey the rules where the records do.
-- Assumes nothing.
use Prim.Native.Nat.{ℕ, ◌<◌}
use mathlib.Core.Bool.{false}
use mathlib.Core.Path.{◌≡◌, ap, ◌∙◌}
use lib.ListN.{length, get_or}
use Rattle.record.specs.declared.kind.Kind.{Kind}
use Rattle.codec.specs.declared.values.Values.{Values}
use Rattle.codec.specs.Values.{values_say}
use Rattle.codec.specs.Refusals.{sixties}
use Rattle.judge.specs.Obeys.{Records, no_values, values_at, tables_of, Obeys, Shuffled}
use Rattle.judge.proofs.SaidLaws.{said-keys, said-topology, said-objects, all_said}
use Rattle.judge.proofs.Rearranged.{Rearranged, keys-rearranged, topology-rearranged, objects-rearranged}

module _ (vs ws : Records) (sh : (k : Kind) → Shuffled (vs k) (ws k)) where
  moved_at : (k : Kind) (i : ℕ) → i < length (vs k) → values_at ws k i ≡ values_at vs k ((sh k).to i)
  moved_at k i l = (sh k).moved no_values i l

  tables-shuffled : Rearranged (tables_of vs) (tables_of ws)
  tables-shuffled =
      record {
        count = λ k. (sh k).long;
        turn = λ k.
            record {
              to = (sh k).to;
              from = (sh k).from;
              to-within = (sh k).to-within;
              from-within = (sh k).from-within;
              to-from = (sh k).to-from;
              from-to = (sh k).from-to;
            };
        says = λ k i f l b. ap (λ (x : Values). values_say k x f) (moved_at k i l);
      }

  pub shuffled-obeys : Obeys vs → Obeys ws
  shuffled-obeys o =
      record {
        few = λ k. rw (sh k).long (o.few k);
        fields = λ k i f u l m.
            let b : i < length (vs k) = rw (sh k).long at l in
            ap (λ (x : Values). get_or (sixties k (values_say k x) f) u false) (moved_at k i b) ∙ o.fields k ((sh k).to i) f u ((sh k).to-within i b) m;
        rules = λ n k i f.
            all_said (tables_of ws) n k i f
            (keys-rearranged (tables_of vs) (tables_of ws) tables-shuffled (λ k n i f. said-keys (tables_of vs) n k i f (o.rules n k i f)) k n i f)
            (topology-rearranged (tables_of vs) (tables_of ws) tables-shuffled (λ k n i f. said-topology (tables_of vs) n k i f (o.rules n k i f)) k n i f)
            (objects-rearranged (tables_of vs) (tables_of ws) tables-shuffled (λ k n i f. said-objects (tables_of vs) n k i f (o.rules n k i f)) k n i f);
      }
