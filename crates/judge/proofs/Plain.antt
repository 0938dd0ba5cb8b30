-- What the code's search finds (specs/machinery/Searched.antt): nothing where no crate's test holds; else a place at which one does, and at
-- none before.
-- Assumes nothing.
use Prim.Native.Nat.{ℕ, zero, suc, ◌+◌, ◌-◌, ◌/◌, ◌%◌, ◌<◌}
use mathlib.Core.Bool.{Bool, true, false}
use mathlib.Core.List.{[], ◌∷◌}
use mathlib.Core.Option.{Option, none, some}
use mathlib.Core.Path.{◌≡◌, refl, sym, ap, subst, ◌∙◌}
use mathlib.Core.Logic.{⊎_elim}
use native.Mathlib.Decide.{dec_lt}
use native.Mathlib.Omega.{arith}
use lib.ListN.{get_or}
use Rattle.laws.specs.Find.{first_of}
use Rattle.laws.specs.Nest.{before}
use Rattle.laws.proofs.FindLaws.{true-false, none-at, some_at}
use Rattle.laws.proofs.NestLaws.{before_split}
use Rattle.record.specs.declared.kind.Kind.{Kind}
use Rattle.record.specs.declared.reason.Reason.{Reason}
use Rattle.record.specs.declared.reason.Reason.TheVariants.{LongFile10}
use Rattle.record.specs.declared.reason.Break.{Break}
use Rattle.record.specs.Breaks.{Finding}
use Rattle.std.specs.Prelude.{Ok, Err}
use Rattle.record.specs.Table.{file_of, which_of}
use Rattle.record.specs.Files.{Files, Delivery, delivery_of}
use Rattle.record.specs.Breaks.{number_of, break_of, finding_of, ten_reasons, twenty_reasons, shape_finding, fields_finding, broken}
use Rattle.record.proofs.Claims.{MeansBy}
use Rattle.record.proofs.TableLaws.{file-same}
use Rattle.record.proofs.Meaning.{shape-means, fields-means, means-shown}
use Rattle.keys.specs.Rules.{key_reasons}
use Rattle.keys.specs.machinery.Findings.{keys_in, keys_finding, keys_broken}
use Rattle.keys.specs.machinery.Groups.{Reasons, break_in, over_files}
use Rattle.keys.proofs.GroupMeaning.{keys-means, over-fine, over-broken, break-none, break-some}
use Rattle.keys.proofs.Shown.{ShownBy, keys-shown}
use Rattle.topology.specs.Rules.{fifty_reasons}
use Rattle.fifties.specs.machinery.Findings.{topology_in, topology_finding, topology_broken}
use Rattle.fifties.proofs.Meaning.{topology-means, topology-shown}
use Rattle.objects.specs.Rules.{seventy_reasons}
use Rattle.objects.specs.machinery.Findings.{objects_in, objects_finding, objects_broken}
use Rattle.objects.proofs.Meaning.{objects-means, objects-shown}
use Rattle.judge.specs.Broken.{last_ten, reason_of, place_at}
use Rattle.judge.specs.machinery.Searched.{group_at, searched, broken_in}

-- a break at which a test holds, and none before
pub record LeastBroken (files : Files) (b : Break) : Type 0 where
  pub n : ℕ
  pub k : Kind
  pub i : ℕ
  pub f : ℕ
  pub shown : b ≡ break_of (reason_of files n k i f) k i f
  pub number : number_of b.reason ≡ n
  pub really : broken_in files n k i f ≡ true
  pub least : (n' : ℕ) (k' : Kind) (i' f' : ℕ) → broken_in files n' k' i' f' ≡ true → before (place_at n' k' i' f') (place_at n k i f) ≡ true → ⊥

unfoldable pub FoundFirst : Files → Finding → Type 0
FoundFirst files (Ok u) = (n : ℕ) (k : Kind) (i f : ℕ) → broken_in files n k i f ≡ false
FoundFirst files (Err b) = LeastBroken files b

-- a finding means the same of tests that are the same in its ten
means-same :
    (p q : ℕ → ℕ → ℕ → Bool) (t : ℕ) (k : Kind) (v : Finding) → ((n i f : ℕ) → n / 10 ≡ t → p n i f ≡ q n i f)
    → MeansBy p t k v → MeansBy q t k v
unfolding MeansBy
means-same p q t k (Ok u) same m = λ n i f e. sym (same n i f e) ∙ m n i f e
means-same p q t k (Err b) same m =
    (m.0, m.1, sym (same _ _ _ m.0) ∙ m.2, λ n i f e here l. m.3 n i f e (same n i f e ∙ here) l)

module _ (p : ℕ → ℕ → ℕ → Bool) (t : ℕ) (k : Kind) where
  fine-means : {v : Finding} → v ≡ Ok tt → MeansBy p t k v → (n i f : ℕ) → n / 10 ≡ t → p n i f ≡ false
  unfolding MeansBy
  fine-means e m = subst (λ (v : Finding). MeansBy p t k v) e m

  broken-means :
      (b : Break) → MeansBy p t k (Err b)
      → (number_of b.reason / 10 ≡ t)
      × (b.file ≡ file_of k)
      × (p (number_of b.reason) b.«record» b.field ≡ true)
      × ((n i f : ℕ) → n / 10 ≡ t → p n i f ≡ true
      → before (i ∷ f ∷ n ∷ []) (b.«record» ∷ b.field ∷ number_of b.reason ∷ []) ≡ true → ⊥)
  unfolding MeansBy
  broken-means b m = m

fine-broken : {b : Break} → ◌≡◌ {A = Finding} (Ok tt) (Err b) → ⊥
fine-broken e = let z : ◌≡◌ {A = ℕ} 0 1 = cc in omega arith

-- A TEN: each file's finding, which means what the tests of the ten say, and the break that it shows
record Ten (files : Files) (t : ℕ) : Type 0 where
  found : Kind → Finding
  over : group_at files t ≡ over_files found
  means : (k : Kind) → MeansBy (λ n i f. broken_in files n k i f) t k (found k)
  shown :
      (k : Kind) (b : Break) → found k ≡ Err b
      → b ≡ break_of (reason_of files (number_of b.reason) k b.«record» b.field) k b.«record» b.field

module _ (files : Files) where
  -- from the tests, findings and reasons of a group
  ten-of :
      (t : ℕ) (tests : Kind → ℕ → ℕ → ℕ → Bool) (found : Kind → Finding) (reasons : Kind → Reasons)
      → group_at files t ≡ over_files found
      → ((n : ℕ) (k : Kind) (i f : ℕ) → n / 10 ≡ t → tests k n i f ≡ broken_in files n k i f)
      → ((n : ℕ) (k : Kind) (i f : ℕ) → n / 10 ≡ t → get_or (reasons k (i - 1) f) (n % 10) LongFile10 ≡ reason_of files n k i f)
      → ((k : Kind) → MeansBy (tests k) t k (found k))
      → ((k : Kind) (b : Break) → found k ≡ Err b → MeansBy (tests k) t k (Err b) → ShownBy (reasons k) k b)
      → Ten files t
  ten-of t tests found reasons over same told means shown =
      record {
        found = found;
        over = over;
        means = λ k. means-same _ _ t k _ (λ n i f e. same n k i f e) (means k);
        shown = λ k b e.
            let m = subst (λ (v : Finding). MeansBy (tests k) t k v) e (means k) in
            shown k b e m ∙ ap (λ (r : Reason). break_of r k b.«record» b.field) (told _ k _ _ (broken-means _ t k b m).0);
      }

  ten-none : (t : ℕ) → group_at files t ≡ Ok tt → ((n : ℕ) (k : Kind) (i f : ℕ) → n / 10 ≡ t → broken_in files n k i f ≡ false) → Ten files t
  unfolding over_files first_of which_of MeansBy
  ten-none t e h = record { found = λ k. Ok tt; over = e; means = λ k n i f q. h n k i f q; shown = λ k b q. absurd (fine-broken q) }

  abbrev d : Delivery
  d = delivery_of files

  ten : (t : ℕ) → Ten files t
  unfolding group_at broken_in reason_of keys_finding topology_finding objects_finding
  ten zero = ten-none 0 refl (λ n k i f e. rw e)
  ten (suc zero) =
      ten-of 1 (λ k. broken (files k) k) (λ k. shape_finding (files k) k) (λ k i f. ten_reasons)
      refl (λ n k i f e. rw e) (λ n k i f e. rw e) (λ k. shape-means (files k) k) (λ k b e m. means-shown 1 (files k) k b m)
  ten (suc (suc zero)) =
      ten-of 2 (λ k. broken (files k) k) (λ k. fields_finding (files k) k) (λ k i f. twenty_reasons)
      refl (λ n k i f e. rw e) (λ n k i f e. rw e) (λ k. fields-means (files k) k) (λ k b e m. means-shown 2 (files k) k b m)
  ten (suc (suc (suc zero))) =
      ten-of 3 (keys_broken d) (keys_in 3 d) (key_reasons 3 d)
      refl (λ n k i f e. rw e) (λ n k i f e. rw e) (keys-means 3 d) (λ k b e m. keys-shown 3 d k e)
  ten (suc (suc (suc (suc zero)))) =
      ten-of 4 (keys_broken d) (keys_in 4 d) (key_reasons 4 d)
      refl (λ n k i f e. rw e) (λ n k i f e. rw e) (keys-means 4 d) (λ k b e m. keys-shown 4 d k e)
  ten (suc (suc (suc (suc (suc zero))))) =
      ten-of 5 (topology_broken d) (topology_in d) (fifty_reasons d)
      refl (λ n k i f e. rw e) (λ n k i f e. rw e) (topology-means d) (λ k b e m. topology-shown d k e)
  ten (suc (suc (suc (suc (suc (suc zero)))))) = ten-none 6 refl (λ n k i f e. rw e)
  ten (suc (suc (suc (suc (suc (suc (suc zero))))))) =
      ten-of 7 (objects_broken d) (objects_in d) (λ k i f. seventy_reasons)
      refl (λ n k i f e. rw e) (λ n k i f e. rw e) (objects-means d) (λ k b e m. objects-shown d k e)
  ten (suc (suc (suc (suc (suc (suc (suc (suc t)))))))) = ten-none (suc (suc (suc (suc (suc (suc (suc (suc t)))))))) refl (λ n k i f e. rw e)

  -- where a ten has no finding, none of its reasons is broken
  ten-fine : (t : ℕ) → group_at files t ≡ Ok tt → (n : ℕ) (k : Kind) (i f : ℕ) → n / 10 ≡ t → broken_in files n k i f ≡ false
  ten-fine t e n k i f q = fine-means _ t k (over-fine (ten t).found (sym (ten t).over ∙ e) k) ((ten t).means k) n i f q

  -- NOTHING is found
  group-past : (t : ℕ) → last_ten < t → group_at files t ≡ Ok tt
  unfolding group_at
  group-past t l = let e : t ≡ suc (suc (suc (suc (suc (suc (suc (suc (t - 8)))))))) = omega arith in ap (group_at files) e

  all-fine : first_of (λ t. break_in (group_at files t)) (last_ten + 1) ≡ none → (t : ℕ) → group_at files t ≡ Ok tt
  all-fine e t = go (dec_lt t (last_ten + 1))
    where
      go : Dec (t < last_ten + 1) → group_at files t ≡ Ok tt
      go (yes l) = break-none _ (none-at _ (last_ten + 1) e l)
      go (no l) = group-past t (omega arith)

  -- A BREAK is found in file k: the tens below have none, and in its ten neither have the files below
  first-break :
      (t : ℕ) (k : Kind) (b : Break) → ((t' : ℕ) → t' < t → group_at files t' ≡ Ok tt) → (ten t).found k ≡ Err b
      → ((k' : Kind) → file_of k' < file_of k → (ten t).found k' ≡ Ok tt) → LeastBroken files b
  first-break t k b below e lower =
      let m = broken-means _ t k b (subst (λ (v : Finding). MeansBy (λ n i f. broken_in files n k i f) t k v) e ((ten t).means k)) in
      record {
        n = number_of b.reason;
        k = k;
        i = b.«record»;
        f = b.field;
        shown = (ten t).shown k b e;
        number = refl;
        really = m.2;
        least = λ n' k' i' f' here l.
            ⊎_elim
            (λ x. true-false (sym here ∙ ten-fine (n' / 10) (below (n' / 10) (omega (arith, m.0))) n' k' i' f' refl))
            (λ x.
            ⊎_elim
            (λ y. true-false (sym here ∙ fine-means _ t k' (lower k' y) ((ten t).means k') n' i' f' (x.0 ∙ m.0)))
            (λ y. m.3 n' i' f' (x.0 ∙ m.0) (rw (file-same k' k y.0) at here) y.1)
            (before_split (file_of k') (file_of k) _ _ x.1))
            (before_split (n' / 10) (number_of b.reason / 10) _ _ l);
      }

  pub found_first : FoundFirst files (searched files)
  unfolding searched FoundFirst
  found_first = go (first_of (λ t. break_in (group_at files t)) (last_ten + 1)) refl
    where
      go : (o : Option Break) → first_of (λ t. break_in (group_at files t)) (last_ten + 1) ≡ o → FoundFirst files (finding_of o)
      go none e = λ n k i f. ten-fine (n / 10) (all-fine e (n / 10)) n k i f refl
      go (some b) e =
          let r = some_at _ (last_ten + 1) e in
          let w = over-broken (ten r.0).found (sym (ten r.0).over ∙ break-some _ r.2) in
          first-break r.0 w.0 b (λ t l. break-none _ (none-at _ r.0 r.3 l)) w.1 w.2
