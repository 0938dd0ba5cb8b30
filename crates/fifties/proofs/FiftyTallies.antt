-- The tallies of the fifties (specs/machinery/Cells.antt): from the marks of each file's rules to its tally, and from that to its finding.
-- Assumes nothing.
use Prim.Native.Nat.{ℕ, ◌+◌, ◌-◌, ◌*◌, ◌/◌, ◌%◌, ◌<◌, ◌≤◌}
use mathlib.Core.Bool.{false}
use mathlib.Core.List.{List, [], ◌∷◌}
use mathlib.Core.Path.{◌≡◌, refl, sym, ap, ◌∙◌}
use native.Mathlib.Omega.{arith}
use lib.Dec.{eqb}
use lib.ListN.{get_or}
use Rattle.laws.specs.Find.{first_index}
use Rattle.laws.specs.Count.{how_many}
use Rattle.index.specs.Keys.{found_of, listed}
use Rattle.index.specs.Marks.{Marked, is_marked}
use Rattle.index.specs.Tally.{no_tally, with_cell}
use Rattle.std.specs.Prelude.{Some, None}
use Rattle.index.specs.declared.tally.First.{First}
use Rattle.index.specs.declared.tally.Tally.{Tally}
use Rattle.record.specs.declared.kind.Kind.{Kind}
use Rattle.record.specs.declared.kind.Kind.TheVariants.{Catalogo, ObPun, ObTex, ObLin, Tramo, Vertice, Nodo, ObComp}
use Rattle.record.specs.declared.reason.Reason.TheVariants.{LongFile10}
use Rattle.record.specs.declared.reason.Break.{Break}
use Rattle.std.specs.Prelude.{Ok, Err}
use Rattle.record.specs.Table.{file_of, kinds, limit}
use Rattle.record.specs.Breaks.{break_of}
use Rattle.record.specs.Files.{Files, Delivery, delivery_of}
use Rattle.record.specs.Says.{table_of}
use Rattle.record.specs.Names.{name_at, key_of}
use Rattle.record.specs.machinery.Columns.{Fills}
use Rattle.record.proofs.TableLaws.{sane, kind_at}
use Rattle.record.proofs.FileLaws.{inside}
use Rattle.keys.specs.machinery.Groups.{cells_of}
use Rattle.keys.specs.machinery.Cells.{TalliedTo}
use Rattle.keys.proofs.CellLaws.{tally-row, tally-broken, tally-fine, tallied-start, tallied-marks, tallied-skip, tallied-end, tallied-most}
use Rattle.fifties.specs.machinery.Cells.{fifty_tally, fifty_tallies}
use Rattle.topology.specs.machinery.Ends.{apart_at, apart, astray_at}
use Rattle.topology.specs.machinery.Places.{Positions}
use Rattle.topology.specs.declared.ends.End.TheVariants.{Start, Last}
use Rattle.topology.specs.Rules.{gap, unpaired, highest_in, highest, tramo_line, tramo_start, tramo_end, placed_before, point_elsewhere, node_idle, object_idle, disagrees, breaks50, breaks51, breaks52, breaks53, breaks54, breaks55, breaks56, breaks57, breaks58, breaks59, fifties, fifty_reasons}
use Rattle.fifties.specs.machinery.Findings.{topology_in}
use Rattle.topology.proofs.EndLaws.{endless-marks, apart_marks, astray-marks}
use Rattle.fifties.proofs.FiftyLaws.{Free, else-default, free-tests, free-vertice, free-tramo, free-nodo, free-ob-pun, free-ob-lin, free-none}

-- r is t and one cell more, by the marks of n records
abbrev pub Next : Tally → List ℕ → ℕ → ℕ → Tally → Type 0
Next t marks n c r = r ≡ with_cell t (found_of (first_index (is_marked marks) n)) (how_many (is_marked marks) n) c

-- A FILE'S CELLS: up to the next that has a rule, by its marks, and to the end
module _ (d : Delivery) (k : Kind) where
  pub to_cell :
      (a f u : ℕ) {t r : Tally} {before marks : List ℕ} {n : ℕ} → n ≡ (d k).count → a ≤ f * 10 + u → u < 10
      → ((c : ℕ) → a ≤ c → c < f * 10 + u → Free k (c / 10) (c % 10))
      → TalliedTo (fifties d k) (d k).count a t → Marked before marks (λ i. get_or (fifties d k i f) u false) (d k).count
      → Next t marks n (f * 10 + u) r → TalliedTo (fifties d k) (d k).count (f * 10 + u + 1) r
  to_cell a f u {t} {r} {before} {marks} e l s quiet b m w =
      tallied-marks (fifties d k) (d k).count f u s
      (tallied-skip (fifties d k) (d k).count (f * 10 + u) l (λ i c _ from to. else-default (free-tests d i (quiet c from to))) b)
      m (rw e at w)

  pub to_end : (a : ℕ) {t : Tally} → a ≤ cells_of k → ((c : ℕ) → a ≤ c → Free k (c / 10) (c % 10)) → TalliedTo (fifties d k) (d k).count a t → t ≡ fifty_tally d k
  unfolding fifty_tally
  to_end a l quiet b =
      tallied-end (fifties d k) (d k).count k refl
      (tallied-skip (fifties d k) (d k).count (cells_of k) l (λ i c _ from to. else-default (free-tests d i (quiet c from))) b)

  pub from-none : {t : Tally} → t ≡ no_tally → TalliedTo (fifties d k) (d k).count 0 t
  from-none e = record { is = e ∙ (tallied-start (fifties d k) (d k).count).is }

  -- a tally counts little, so that it can go on
  pub little : (t : Tally) (m : ℕ) → (d k).count ≤ limit → m ≤ 200 → TalliedTo (fifties d k) (d k).count m t → t.many ≤ 4294967296
  little t m l s b = omega (arith, tallied-most (fifties d k) (d k).count t m l b)

module _ (d : Delivery) where
  -- VERTICE: 50 and 51
  pub gaps-tally :
      {t r : Tally} {before marks : List ℕ} {n : ℕ} → n ≡ (d Vertice).count → t ≡ no_tally
      → Marked before marks (gap (key_of Vertice (d Vertice)) (d Vertice).count) (d Vertice).count → Next t marks n 20 r
      → TalliedTo (fifties d Vertice) (d Vertice).count 21 r
  unfolding fifties breaks50
  gaps-tally e z m w = to_cell d Vertice 0 2 0 e (omega arith) (omega arith) (λ c _ l. free-vertice c (λ q. omega arith) (λ q. omega arith)) (from-none d Vertice z) m w

  pub vertices-tally :
      {t r : Tally} {before marks : List ℕ} {n : ℕ} → n ≡ (d Vertice).count → TalliedTo (fifties d Vertice) (d Vertice).count 21 t
      → Marked before marks (unpaired (key_of Vertice (d Vertice)) (d Vertice).count) (d Vertice).count → Next t marks n 21 r
      → r ≡ fifty_tally d Vertice
  unfolding fifties breaks51
  vertices-tally e b m w =
      to_end d Vertice 22 (omega arith) (λ c l. free-vertice c (λ q. omega arith) (λ q. omega arith))
      (to_cell d Vertice 21 2 1 e (omega arith) (omega arith) (λ c u l. absurd (omega arith)) b m w)

  -- TRAMO: 59, 52 and 53
  pub endless-tally :
      {t r : Tally} {before marks : List ℕ} {n : ℕ} → n ≡ (d Tramo).count → t ≡ no_tally
      → Marked before marks (λ i. eqb (highest (d Vertice) (tramo_line (d Tramo) i)) 0) (d Tramo).count → Next t marks n 49 r
      → TalliedTo (fifties d Tramo) (d Tramo).count 50 r
  unfolding fifties breaks59
  endless-tally e z m w =
      to_cell d Tramo 0 4 9 e (omega arith) (omega arith) (λ c _ l. free-tramo c (λ q. omega arith) (λ q. omega arith) (λ q. omega arith)) (from-none d Tramo z) m w

  pub starts-tally :
      {t r : Tally} {before marks : List ℕ} {n : ℕ} → n ≡ (d Tramo).count → TalliedTo (fifties d Tramo) (d Tramo).count 50 t
      → Marked before marks (apart Start (d Tramo) (d Vertice) (d Nodo)) (d Tramo).count → Next t marks n 62 r
      → TalliedTo (fifties d Tramo) (d Tramo).count 63 r
  unfolding fifties breaks52
  starts-tally e b m w =
      to_cell d Tramo 50 6 2 e (omega arith) (omega arith) (λ c u l. free-tramo c (λ q. omega arith) (λ q. omega arith) (λ q. omega arith)) b m w

  pub tramos-tally :
      {t r : Tally} {before marks : List ℕ} {n : ℕ} → n ≡ (d Tramo).count → TalliedTo (fifties d Tramo) (d Tramo).count 63 t
      → Marked before marks (apart Last (d Tramo) (d Vertice) (d Nodo)) (d Tramo).count → Next t marks n 73 r
      → r ≡ fifty_tally d Tramo
  unfolding fifties breaks53
  tramos-tally e b m w =
      to_end d Tramo 74 (omega arith) (λ c l. free-tramo c (λ q. omega arith) (λ q. omega arith) (λ q. omega arith))
      (to_cell d Tramo 63 7 3 e (omega arith) (omega arith) (λ c u l. free-tramo c (λ q. omega arith) (λ q. omega arith) (λ q. omega arith)) b m w)

  -- OB_PUN: 55
  pub points-tally :
      {t r : Tally} {before marks : List ℕ} {n : ℕ} → n ≡ (d ObPun).count → t ≡ no_tally
      → Marked before marks (point_elsewhere (d ObPun) (d Nodo)) (d ObPun).count → Next t marks n 35 r → r ≡ fifty_tally d ObPun
  unfolding fifties breaks55
  points-tally e z m w =
      to_end d ObPun 36 (omega arith) (λ c l. free-ob-pun c (λ q. omega arith))
      (to_cell d ObPun 0 3 5 e (omega arith) (omega arith) (λ c _ l. free-ob-pun c (λ q. omega arith)) (from-none d ObPun z) m w)

  -- OB_LIN: 57
  pub objects-tally :
      {t r : Tally} {before marks : List ℕ} {n : ℕ} → n ≡ (d ObLin).count → t ≡ no_tally
      → Marked before marks (object_idle (d ObLin) (d Tramo)) (d ObLin).count → Next t marks n 7 r → r ≡ fifty_tally d ObLin
  unfolding fifties breaks57
  objects-tally e z m w =
      to_end d ObLin 8 (omega arith) (λ c l. free-ob-lin c (λ q. omega arith))
      (to_cell d ObLin 0 0 7 e (omega arith) (omega arith) (λ c _ l. free-ob-lin c (λ q. omega arith)) (from-none d ObLin z) m w)

  -- NODO: 54, 56 and 58
  pub places-tally :
      {t r : Tally} {before marks : List ℕ} {n : ℕ} → n ≡ (d Nodo).count → t ≡ no_tally
      → Marked before marks (placed_before (d Nodo)) (d Nodo).count → Next t marks n 4 r → TalliedTo (fifties d Nodo) (d Nodo).count 5 r
  unfolding fifties breaks54
  places-tally e z m w =
      to_cell d Nodo 0 0 4 e (omega arith) (omega arith) (λ c _ l. free-nodo c (λ q. omega arith) (λ q. omega arith) (λ q. omega arith)) (from-none d Nodo z) m w

  pub idle-tally :
      {t r : Tally} {before marks : List ℕ} {n : ℕ} → n ≡ (d Nodo).count → TalliedTo (fifties d Nodo) (d Nodo).count 5 t
      → Marked before marks (node_idle (d ObPun) (d Tramo) (d Vertice) (d Nodo)) (d Nodo).count → Next t marks n 6 r
      → TalliedTo (fifties d Nodo) (d Nodo).count 7 r
  unfolding fifties breaks56
  idle-tally e b m w =
      to_cell d Nodo 5 0 6 e (omega arith) (omega arith) (λ c u l. free-nodo c (λ q. omega arith) (λ q. omega arith) (λ q. omega arith)) b m w

  pub nodes-tally :
      {t r : Tally} {before marks : List ℕ} {n : ℕ} → n ≡ (d Nodo).count → TalliedTo (fifties d Nodo) (d Nodo).count 7 t
      → Marked before marks (disagrees (d Tramo) (d Vertice) (d Nodo)) (d Nodo).count → Next t marks n 28 r → r ≡ fifty_tally d Nodo
  unfolding fifties breaks58
  nodes-tally e b m w =
      to_end d Nodo 29 (omega arith) (λ c l. free-nodo c (λ q. omega arith) (λ q. omega arith) (λ q. omega arith))
      (to_cell d Nodo 7 2 8 e (omega arith) (omega arith) (λ c u l. free-nodo c (λ q. omega arith) (λ q. omega arith) (λ q. omega arith)) b m w)

-- THE SAME of the files' bytes, as the code has them in hand
module _ (files : Files) where
  abbrev del : Delivery
  del = delivery_of files

  -- the tramos by their columns,
  module _ {keys ends : List ℕ} {m n : ℕ} (lent : Fills keys (key_of Vertice (del Vertice)) (del Vertice).count m)
      (tops : Fills ends (λ i. highest_in (listed keys) (tramo_line (del Tramo) i) m) (del Tramo).count n) where
    pub endless-in :
        {t r : Tally} {before marks : List ℕ} → t ≡ no_tally → Marked before marks (λ i. eqb (get_or ends i 0) 0) n → Next t marks n 49 r
        → TalliedTo (fifties del Tramo) (del Tramo).count 50 r
    endless-in z k w = endless-tally del tops.count z (endless-marks (del Tramo) (del Vertice) (del Nodo) lent tops k) w

    module _ {vertices nodes : List ℕ} (a : vertices ≡ files Vertice) (b : nodes ≡ files Nodo) where
      pub starts-in :
          {t r : Tally} {wanted before marks : List ℕ} → Fills wanted (tramo_start (del Tramo)) (del Tramo).count n → TalliedTo (fifties del Tramo) (del Tramo).count 50 t
          → Marked before marks (λ i. apart_at Start (table_of vertices Vertice) (table_of nodes Nodo) (get_or ends i 0) (get_or wanted i 0)) n → Next t marks n 62 r
          → TalliedTo (fifties del Tramo) (del Tramo).count 63 r
      starts-in w z k s = starts-tally del tops.count z (apart_marks (del Tramo) (del Vertice) (del Nodo) lent tops Start w (rw (a, b) at k)) s

      pub tramos-in :
          {t r : Tally} {wanted before marks : List ℕ} → Fills wanted (tramo_end (del Tramo)) (del Tramo).count n → TalliedTo (fifties del Tramo) (del Tramo).count 63 t
          → Marked before marks (λ i. apart_at Last (table_of vertices Vertice) (table_of nodes Nodo) (get_or ends i 0) (get_or wanted i 0)) n → Next t marks n 73 r
          → r ≡ fifty_tally del Tramo
      tramos-in w z k s = tramos-tally del tops.count z (apart_marks (del Tramo) (del Vertice) (del Nodo) lent tops Last w (rw (a, b) at k)) s

  -- and the point objects by theirs
  pub points-in :
      {points nodes wanted xs ys : List ℕ} {m n : ℕ} → points ≡ files ObPun → nodes ≡ files Nodo
      → Fills wanted (λ i. name_at ObPun (table_of points ObPun) i 3) (table_of points ObPun).count n → Positions xs ys ObPun (table_of points ObPun) m
      → {t r : Tally} {before marks : List ℕ} → t ≡ no_tally
      → Marked before marks (λ i. astray_at (table_of nodes Nodo) (get_or wanted i 0) (get_or xs i 0) (get_or ys i 0)) n → Next t marks n 35 r
      → r ≡ fifty_tally del ObPun
  points-in {points} {nodes} a b w p z k s =
      points-tally del (w.count ∙ rw a refl) z (rw (a, b) at (astray-marks (table_of points ObPun) (table_of nodes Nodo) w p k)) s

  pub objects-in :
      {objects tramos : List ℕ} → objects ≡ files ObLin → tramos ≡ files Tramo → {t r : Tally} {before marks : List ℕ} {n : ℕ} → n ≡ (table_of objects ObLin).count → t ≡ no_tally
      → Marked before marks (object_idle (table_of objects ObLin) (table_of tramos Tramo)) (table_of objects ObLin).count → Next t marks n 7 r
      → r ≡ fifty_tally del ObLin
  objects-in a b q z m w = objects-tally del (q ∙ rw a refl) z (rw (a, b) at m) w

  pub places-in :
      {nodes : List ℕ} → nodes ≡ files Nodo → {t r : Tally} {before marks : List ℕ} {n : ℕ} → n ≡ (del Nodo).count → t ≡ no_tally
      → Marked before marks (placed_before (table_of nodes Nodo)) (table_of nodes Nodo).count → Next t marks n 4 r
      → TalliedTo (fifties del Nodo) (del Nodo).count 5 r
  places-in a q z m w = places-tally del q z (rw a at m) w

  module _ {points tramos vertices nodes : List ℕ} (a : points ≡ files ObPun) (b : tramos ≡ files Tramo) (c : vertices ≡ files Vertice) (e : nodes ≡ files Nodo) where
    pub idle-in :
        {t r : Tally} {before marks : List ℕ} {n : ℕ} → n ≡ (del Nodo).count → TalliedTo (fifties del Nodo) (del Nodo).count 5 t
        → Marked before marks (node_idle (table_of points ObPun) (table_of tramos Tramo) (table_of vertices Vertice) (table_of nodes Nodo)) (table_of nodes Nodo).count
        → Next t marks n 6 r → TalliedTo (fifties del Nodo) (del Nodo).count 7 r
    idle-in q z m w = idle-tally del q z (rw (a, b, c, e) at m) w

    pub nodes-in :
        {t r : Tally} {before marks : List ℕ} {n : ℕ} → n ≡ (del Nodo).count → TalliedTo (fifties del Nodo) (del Nodo).count 7 t
        → Marked before marks (disagrees (table_of tramos Tramo) (table_of vertices Vertice) (table_of nodes Nodo)) (table_of nodes Nodo).count
        → Next t marks n 28 r → r ≡ fifty_tally del Nodo
    nodes-in q z m w = nodes-tally del q z (rw (b, c, e) at m) w

module _ (d : Delivery) where
  -- a file of which no rule of the fifties is read
  none-tally : (k : Kind) → ((c : ℕ) → Free k (c / 10) (c % 10)) → {t : Tally} → t ≡ no_tally → t ≡ fifty_tally d k
  none-tally k quiet z = to_end d k 0 (omega arith) (λ c l. quiet c) (from-none d k z)

  -- ALL FILES, in the order of their numbers; CATALOGO, OB_TEX and OB_COMP have no rule of the fifties
  pub all-tallies :
      {a b c e f g h i : Tally} → a ≡ no_tally → b ≡ fifty_tally d ObPun → c ≡ no_tally → e ≡ fifty_tally d ObLin
      → f ≡ fifty_tally d Tramo → g ≡ fifty_tally d Vertice → h ≡ fifty_tally d Nodo → i ≡ no_tally
      → a ∷ b ∷ c ∷ e ∷ f ∷ g ∷ h ∷ i ∷ [] ≡ fifty_tallies d
  unfolding fifty_tallies
  all-tallies p q r s t u v w =
      rw (
        none-tally Catalogo (λ c. free-none Catalogo c refl refl refl refl refl) p,
        q,
        none-tally ObTex (λ c. free-none ObTex c refl refl refl refl refl) r,
        s,
        t,
        u,
        v,
        none-tally ObComp (λ c. free-none ObComp c refl refl refl refl refl) w,
      )

  -- THE FINDING of a file from its tally
  pub own-tally : (k : Kind) {tallies : List Tally} → tallies ≡ fifty_tallies d → get_or tallies (file_of k - 1) no_tally ≡ fifty_tally d k
  unfolding fifty_tallies
  own-tally k e =
      ap (λ (l : List Tally). get_or l (file_of k - 1) no_tally) e
      ∙ sym (inside (fifty_tally d) kinds (file_of k - 1) Catalogo no_tally (omega (arith, sane k)))
      ∙ ap (fifty_tally d) (kind_at k)

  module _ (k : Kind) {t : Tally} (e : t ≡ fifty_tally d k) where
    pub fifty-row : {f : First} → t.first ≡ Some f → f.at < (d k).count
    unfolding fifty_tally
    fifty-row = tally-row (fifties d k) k (d k).count e

    pub fifty-broken : {f : First} {x : Break} → t.first ≡ Some f
        → x ≡ break_of (get_or (fifty_reasons d k f.at (f.cell / 10)) (f.cell % 10) LongFile10) k (f.at + 1) (f.cell / 10) → Err x ≡ topology_in d k
    unfolding fifty_tally topology_in
    fifty-broken = tally-broken (fifties d k) k (d k).count e (fifty_reasons d k)

    pub fifty-fine : t.first ≡ None → Ok tt ≡ topology_in d k
    unfolding fifty_tally topology_in
    fifty-fine = tally-fine (fifties d k) k (d k).count e (fifty_reasons d k)
