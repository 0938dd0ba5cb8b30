-- The laws of the seventies: the marks of 70, from them to the file's tally, and from that to its finding. The reasons.
-- Assumes nothing.
use Prim.Native.Nat.{ℕ, zero, suc, ◌+◌, ◌-◌, ◌/◌, ◌%◌, ◌<◌}
use mathlib.Core.Bool.{Bool, true, false, not, ◌&&◌}
use mathlib.Core.List.{List, [], ◌∷◌}
use mathlib.Core.Path.{◌≡◌, refl, sym, ap, ◌∙◌}
use native.Mathlib.Omega.{arith}
use lib.Dec.{eqb}
use lib.ListN.{get_or}
use Rattle.laws.specs.Find.{first_index}
use Rattle.laws.specs.Count.{how_many}
use Rattle.laws.proofs.FindLaws.{true-false}
use Rattle.index.specs.Keys.{found_of}
use Rattle.index.specs.Marks.{Marked, is_marked}
use Rattle.index.specs.Tally.{no_tally, with_cell}
use Rattle.std.specs.Prelude.{Some, None}
use Rattle.index.specs.declared.tally.First.{First}
use Rattle.index.specs.declared.tally.Tally.{Tally}
use Rattle.record.specs.declared.kind.Kind.{Kind}
use Rattle.record.specs.declared.kind.Kind.TheVariants.{Catalogo, ObPun, ObTex, ObLin, Tramo, Vertice, Nodo, ObComp}
use Rattle.record.specs.declared.reason.Reason.TheVariants.{LongFile10}
use Rattle.record.specs.declared.reason.Break.{Break}
use Rattle.std.specs.Prelude.{Ok, Err}
use Rattle.record.specs.Table.{file_of, kinds}
use Rattle.record.specs.Breaks.{break_of}
use Rattle.record.specs.Files.{Delivery}
use Rattle.record.specs.Names.{name_at}
use Rattle.record.specs.machinery.Columns.{Fills}
use Rattle.laws.proofs.MatchLaws.{NoneOf, numbers, default-at}
use Rattle.record.proofs.TableLaws.{sane, kind_at}
use Rattle.record.proofs.FileLaws.{inside}
use Rattle.keys.specs.machinery.Groups.{cells_of}
use Rattle.keys.specs.machinery.Cells.{TalliedTo}
use Rattle.keys.proofs.CellLaws.{not-cell, tally-row, tally-broken, tally-fine, tallied-start, tallied-marks, tallied-skip, tallied-end}
use Rattle.topology.specs.Rules.{is_at}
use Rattle.topology.specs.machinery.Used.{Used, Unheld}
use Rattle.topology.proofs.UsedLaws.{used-then, idle-marks, hand-marks}
use Rattle.objects.specs.Rules.{named_by, named, composite_idle, breaks70, seventies, seventy_reasons}
use Rattle.objects.specs.machinery.Cells.{seventy_tally, seventy_tallies}
use Rattle.objects.specs.machinery.Findings.{objects_in}

-- 70, by the column of ids: what is in no use after the names of the three files
pub composite-marks :
    (d : Delivery) {ids order hints : List ℕ} {t : Bool} {n : ℕ} {dirty clean a b used before marks : List ℕ}
    → Fills ids (λ j. name_at ObComp (d ObComp) j 1) (d ObComp).count n → Marked dirty clean (λ i. false) n
    → Used ids order hints t n clean a (named_by d ObPun) → Used ids order hints t n a b (named_by d ObTex) → Used ids order hints t n b used (named_by d ObLin)
    → Unheld ids order hints t n used 1 before marks n → Marked before marks (composite_idle d) (d ObComp).count
unfolding composite_idle
composite-marks d f clear p q r u = hand-marks (λ x. not (named d x)) f (idle-marks clear (used-then (used-then p q) r) u)

-- no rule is read of file k at field f for the reason u
quiet : (d : Delivery) (k : Kind) (i f u : ℕ) → (is_at ObComp 0 k f && eqb u 0) ≡ false → get_or (seventies d k i f) u false ≡ false
unfolding seventies breaks70
quiet d k i f zero e = go (is_at ObComp 0 k f) e
  where
    go : (b : Bool) → (b && true) ≡ false → (b && composite_idle d i) ≡ false
    go true e = absurd (true-false e)
    go false e = refl
quiet d k i f (suc u) e = refl

module _ (d : Delivery) where
  from-none : (k : Kind) {t : Tally} → t ≡ no_tally → TalliedTo (seventies d k) (d k).count 0 t
  from-none k e = record { is = e ∙ (tallied-start (seventies d k) (d k).count).is }

  -- OB_COMP: 70
  pub composites-tally :
      {t r : Tally} {before marks : List ℕ} {n : ℕ} → n ≡ (d ObComp).count → t ≡ no_tally → Marked before marks (composite_idle d) (d ObComp).count
      → r ≡ with_cell t (found_of (first_index (is_marked marks) n)) (how_many (is_marked marks) n) 0 → r ≡ seventy_tally d ObComp
  unfolding seventy_tally seventies breaks70
  composites-tally e z m w =
      tallied-end (seventies d ObComp) (d ObComp).count ObComp refl
      (tallied-skip (seventies d ObComp) (d ObComp).count (cells_of ObComp) (omega arith)
      (λ i c _ l u. quiet d ObComp i (c / 10) (c % 10) (not-cell c 0 0 (λ q. omega arith)))
      (tallied-marks (seventies d ObComp) (d ObComp).count 0 0 (omega arith) (from-none ObComp z) m (rw e at w)))

  -- a file at none of whose cells a test holds
  quiet-tally :
      (k : Kind) → ((i c : ℕ) → i < (d k).count → get_or (seventies d k i (c / 10)) (c % 10) false ≡ false) → {t : Tally} → t ≡ no_tally → t ≡ seventy_tally d k
  unfolding seventy_tally
  quiet-tally k none z =
      tallied-end (seventies d k) (d k).count k refl
      (tallied-skip (seventies d k) (d k).count (cells_of k) (omega arith) (λ i c l _ _. none i c l) (from-none k z))

  -- no composites,
  pub empty-tally : {t : Tally} → (d ObComp).count ≡ 0 → t ≡ no_tally → t ≡ seventy_tally d ObComp
  empty-tally e z = quiet-tally ObComp (λ i c l. absurd (omega arith)) z

  -- and a file of which no rule is read
  none-tally : (k : Kind) → eqb (file_of k) 8 ≡ false → {t : Tally} → t ≡ no_tally → t ≡ seventy_tally d k
  none-tally k h z = quiet-tally k (λ i c _. quiet d k i (c / 10) (c % 10) (rw h)) z

  -- ALL FILES, in the order of their numbers
  pub all-tallies : {t r : Tally} → t ≡ no_tally → r ≡ seventy_tally d ObComp → t ∷ t ∷ t ∷ t ∷ t ∷ t ∷ t ∷ r ∷ [] ≡ seventy_tallies d
  unfolding seventy_tallies
  all-tallies z e =
      rw (
        ← none-tally Catalogo refl z,
        ← none-tally ObPun refl z,
        ← none-tally ObTex refl z,
        ← none-tally ObLin refl z,
        ← none-tally Tramo refl z,
        ← none-tally Vertice refl z,
        ← none-tally Nodo refl z,
        ← e,
      )

  -- THE FINDING of a file from its tally
  pub own-tally : (k : Kind) {tallies : List Tally} → tallies ≡ seventy_tallies d → get_or tallies (file_of k - 1) no_tally ≡ seventy_tally d k
  unfolding seventy_tallies
  own-tally k e =
      ap (λ (l : List Tally). get_or l (file_of k - 1) no_tally) e
      ∙ sym (inside (seventy_tally d) kinds (file_of k - 1) Catalogo no_tally (omega (arith, sane k)))
      ∙ ap (seventy_tally d) (kind_at k)

  module _ (k : Kind) {t : Tally} (e : t ≡ seventy_tally d k) where
    pub seventy-row : {f : First} → t.first ≡ Some f → f.at < (d k).count
    unfolding seventy_tally
    seventy-row = tally-row (seventies d k) k (d k).count e

    pub seventy-broken : {f : First} {x : Break} → t.first ≡ Some f
        → x ≡ break_of (get_or seventy_reasons (f.cell % 10) LongFile10) k (f.at + 1) (f.cell / 10) → Err x ≡ objects_in d k
    unfolding seventy_tally objects_in
    seventy-broken = tally-broken (seventies d k) k (d k).count e (λ i f. seventy_reasons)

    pub seventy-fine : t.first ≡ None → Ok tt ≡ objects_in d k
    unfolding seventy_tally objects_in
    seventy-fine = tally-fine (seventies d k) k (d k).count e (λ i f. seventy_reasons)

-- THE REASONS
pub reason-else : (u : ℕ) → NoneOf (numbers 0 1) u → LongFile10 ≡ get_or seventy_reasons u LongFile10
reason-else u o = default-at LongFile10 0 seventy_reasons u o
