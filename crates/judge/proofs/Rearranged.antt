-- Two deliveries that say the same, the one with its files' records in another order: where no rule of keys, references,
-- topology and objects is broken in the one, none is in the other. A rule's test at a record is the test at its new place; those that speak of
-- earlier records (30 and 54) hold at as many records.
-- Assumes nothing.
use Prim.Native.Nat.{ℕ, zero, suc, ◌+◌, ◌-◌, ◌<◌, ◌≤◌}
use mathlib.Core.Bool.{Bool, true, false, not, ◌&&◌, ◌||◌}
use mathlib.Core.List.{[]}
use mathlib.Core.Path.{◌≡◌, refl, sym, ap, ap₂, ◌∙◌}
use native.Mathlib.Decide.{ℕ_discrete}
use native.Mathlib.Omega.{arith}
use lib.Dec.{leb, eqb, ltb}
use lib.ListN.{get_or}
use borrow.Author.Tests.{leb-true, eqb-true, eq-eqb, ne_eqb}
use Rattle.laws.specs.Find.{any, names}
use Rattle.laws.specs.Count.{how_many}
use Rattle.laws.specs.Row.{pick, each}
use Rattle.laws.proofs.RowLaws.{and-true, then-false, and_last, picked, end, more, falses}
use Rattle.laws.proofs.Turns.{Turn, any-turn}
use Rattle.laws.proofs.CountLaws.{Alike, alike-by, alike_both, again-turn, count_none, count_no_lem, count_under, count_turn}
use Rattle.record.specs.declared.kind.Kind.{Kind}
use Rattle.record.specs.declared.kind.Kind.TheVariants.{Catalogo, ObPun, ObTex, ObLin, Tramo, Vertice, Nodo, ObComp}
use Rattle.record.specs.Table.{Col, whole, cols, col_at, fields_of, file_of, keys_of, target_of}
use Rattle.record.specs.Says.{Said, Table, number_in, place_in}
use Rattle.record.proofs.TableLaws.{each-get_d, every, file-same}
use Rattle.record.specs.declared.kind.Target.{Target}
use Rattle.record.specs.declared.kind.Target.TheVariants.{Free, Nowhere, To}
use Rattle.record.specs.Files.{Delivery}
use Rattle.record.specs.Names.{name_at, vertex_key, key_of}
use Rattle.keys.specs.Rules.{repeats, breaks30, dangles, dangles_to, breaks40, typed_in, mistyped, breaks41, key_tests}
use Rattle.keys.specs.machinery.Groups.{Tests, broken_by}
use Rattle.keys.specs.machinery.Findings.{keys_broken}
use Rattle.topology.specs.Rules.{x_at, y_at, z_at, is_at, placed, node_in, has_vertex, highest_in, highest, meets, elsewhere, tramo_line, gap, breaks50, unpaired, breaks51, start_elsewhere, breaks52, end_elsewhere, breaks53, same_place, placed_before, breaks54, point_elsewhere, breaks55, ends_tramo, namers, node_idle, breaks56, object_idle, breaks57, is_tip, vertex_with, is_end, is_middle, disagrees, breaks58, breaks59, fifties}
use Rattle.fifties.specs.machinery.Findings.{topology_broken}
use Rattle.objects.specs.Rules.{named_by, composite_idle, breaks70, seventies}
use Rattle.objects.specs.machinery.Findings.{objects_broken}
use Rattle.judge.proofs.NoneBroken.{NoTest, none-tests, tests-none}
use Rattle.judge.proofs.Turns.{highest-turn}

-- record i of a file of e is record `to i` of that of d
pub record Rearranged (d e : Delivery) : Type 0 where
  pub count : (k : Kind) → (e k).count ≡ (d k).count
  pub turn : (k : Kind) → Turn (d k).count
  pub says : (k : Kind) (i f : ℕ) → i < (d k).count → f ≤ fields_of k → (e k).says i f ≡ (d k).says ((turn k).to i) f

-- THE TABLES name fields that there are
abbrev fits : Target → Bool
fits Free = true
fits Nowhere = true
fits (To k g) = leb g (fields_of k)

abbrev fitting : Col → Bool
fitting c = fits c.refers

abbrev lawful : Kind → Bool
lawful k = leb 1 (fields_of k) && (leb (keys_of k) (fields_of k) && each fitting (cols k))

lawful-all : (k : Kind) → (1 ≤ fields_of k) × (keys_of k ≤ fields_of k) × (each fitting (cols k) ≡ true)
unfolding each
lawful-all k =
    let w = and-true _ _ (every lawful refl k) in
    let v = and-true _ _ w.1 in
    (leb-true _ _ w.0, leb-true _ _ v.0, v.1)

target_fits : (k : Kind) (f : ℕ) → fits (target_of k f) ≡ true
unfolding target_of col_at
target_fits k f = each-get_d fitting (cols k) whole refl (lawful-all k).2 f

-- nodes at the same X, Y, Z are alike
same_alike : (t : Table) → Alike (same_place t)
unfolding same_place
same_alike t = alike_both (alike-by (x_at Nodo t)) (alike_both (alike-by (y_at Nodo t)) (alike-by (z_at Nodo t)))

module _ (d e : Delivery) (r : Rearranged d e) where
  abbrev to : Kind → ℕ → ℕ
  to k i = (r.turn k).to i

  -- SEARCHES in a file
  any-there : (k : Kind) (p q : ℕ → Bool) → ((j : ℕ) → j < (d k).count → q j ≡ p (to k j)) → any q (e k).count ≡ any p (d k).count
  any-there k p q same = ap (any q) (r.count k) ∙ any-turn (r.turn k) p q same

  names-there :
      (k : Kind) (key other : ℕ → ℕ) → ((j : ℕ) → j < (d k).count → other j ≡ key (to k j)) → (x : ℕ)
      → names other (e k).count x ≡ names key (d k).count x
  names-there k key other same x = any-there k (λ j. eqb (key j) x) (λ j. eqb (other j) x) (λ j l. ap (λ (y : ℕ). eqb y x) (same j l))

  -- NAMES AND KEYS
  name-there : (k : Kind) (i f : ℕ) → i < (d k).count → f ≤ fields_of k → name_at k (e k) i f ≡ name_at k (d k) (to k i) f
  unfolding name_at
  name-there k i f l b = rw (r.says k i 1 l (lawful-all k).0, r.says k i f l b)

  key-there : (k : Kind) (i : ℕ) → i < (d k).count → key_of k (e k) i ≡ key_of k (d k) (to k i)
  unfolding key_of
  key-there k i l = go (ℕ_discrete (keys_of k) 2)
    where
      name : name_at k (e k) i 1 ≡ name_at k (d k) (to k i) 1
      name = name-there k i 1 l (lawful-all k).0

      go : Dec (keys_of k ≡ 2)
          → pick (eqb (keys_of k) 2) (vertex_key (name_at k (e k) i 1) (number_in ((e k).says i 2))) (name_at k (e k) i 1)
          ≡ pick (eqb (keys_of k) 2) (vertex_key (name_at k (d k) (to k i) 1) (number_in ((d k).says (to k i) 2))) (name_at k (d k) (to k i) 1)
      go (yes q) = rw (eq-eqb (keys_of k) 2 q, name, r.says k i 2 l (omega (arith, (lawful-all k).1)))
      go (no q) = rw (ne_eqb (keys_of k) 2 q) name

  -- THE RULES of keys and references
  dangles-there : (t : Target) → fits t ≡ true → (x : ℕ) → dangles_to t e x ≡ dangles_to t d x
  unfolding dangles
  dangles-there Free h x = refl
  dangles-there Nowhere h x = refl
  dangles-there (To k g) h x =
      ap (λ (b : Bool). not (eqb x 0) && not b) (names-there k _ _ (λ j l. name-there k j g l (leb-true g (fields_of k) h)) x)

  code-there : (j : ℕ) → j < (d Catalogo).count → name_at Catalogo (e Catalogo) j 1 ≡ name_at Catalogo (d Catalogo) (to Catalogo j) 1
  code-there j l = name-there Catalogo j 1 l (omega arith)

  mistyped-there : (letter x : ℕ) → mistyped letter (e Catalogo) x ≡ mistyped letter (d Catalogo) x
  unfolding mistyped typed_in
  mistyped-there letter x =
      ap₂ (λ (a b : Bool). a && not b)
      (names-there Catalogo _ _ code-there x)
      (any-there Catalogo _ _ (λ j l. rw (code-there j l, r.says Catalogo j 2 l (omega arith))))

  -- 30: THE NUMBER of a file's records whose key equals an earlier record's
  repeats-there : (k : Kind) → how_many (repeats (key_of k (e k))) (d k).count ≡ how_many (repeats (key_of k (d k))) (d k).count
  unfolding repeats
  repeats-there k =
      again-turn (r.turn k) (λ x y. eqb (key_of k (e k) y) (key_of k (e k) x)) (alike-by (key_of k (d k)))
      (λ x y a b. ap₂ eqb (key-there k y b) (key-there k x a))

  pub count-30 : (k : Kind) (f : ℕ) → how_many (λ i. breaks30 e k i f) (e k).count ≡ how_many (λ i. breaks30 d k i f) (d k).count
  unfolding breaks30
  count-30 k f = ap (how_many (λ i. breaks30 e k i f)) (r.count k) ∙ count_under (eqb f (keys_of k)) _ _ (d k).count (repeats-there k)

  module _ (k : Kind) (i : ℕ) (l : i < (d k).count) where
    none-30 : ((j : ℕ) → j < (d k).count → repeats (key_of k (d k)) j ≡ false) → repeats (key_of k (e k)) i ≡ false
    none-30 h = count_no_lem (repeats (key_of k (e k))) (d k).count (repeats-there k ∙ count_none _ (d k).count h) l

    module _ (f : ℕ) (b : f ≤ fields_of k) where
      there-40 : breaks40 e k i f ≡ breaks40 d k (to k i) f
      unfolding breaks40
      there-40 = rw (name-there k i f l b) (dangles-there (target_of k f) (target_fits k f) _)

      there-41 : breaks41 e k i f ≡ breaks41 d k (to k i) f
      unfolding breaks41
      there-41 = rw (name-there k i f l b, mistyped-there)

  module _ (h : (k : Kind) → NoTest (λ t. key_tests t d k) k (d k).count) where
    apart : (k : Kind) (j : ℕ) → j < (d k).count → repeats (key_of k (d k)) j ≡ false
    unfolding key_tests breaks30
    apart k j l = then-false _ _ (h k 3 j (keys_of k) 0 l (lawful-all k).1 (omega arith)) (eq-eqb (keys_of k) (keys_of k) refl)

    key-tests : (k : Kind) → NoTest (λ t. key_tests t e k) k (e k).count
    unfolding key_tests breaks30
    key-tests k zero i f u l b s = refl
    key-tests k (suc zero) i f u l b s = refl
    key-tests k (suc (suc zero)) i f u l b s = refl
    key-tests k (suc (suc (suc zero))) i f u l b s =
        falses (more (and_last (eqb f (keys_of k)) _ (λ _. none-30 k i (rw (r.count k) at l) (apart k))) end) u
    key-tests k (suc (suc (suc (suc zero)))) i f u l b s =
        let m : i < (d k).count = rw (r.count k) at l in
        let w = (r.turn k).to-within i m in
        falses (more (there-40 k i m f b ∙ h k 4 (to k i) f 0 w b (omega arith)) (more (there-41 k i m f b ∙ h k 4 (to k i) f 1 w b (omega arith)) end)) u
    key-tests k (suc (suc (suc (suc (suc t))))) i f u l b s = refl

  pub keys-rearranged : ((k : Kind) (n i f : ℕ) → keys_broken d k n i f ≡ false) → (k : Kind) (n i f : ℕ) → keys_broken e k n i f ≡ false
  unfolding keys_broken
  keys-rearranged h k = tests-none (λ t. key_tests t e k) k (e k).count (key-tests (λ j. none-tests (λ t. key_tests t d j) j (d j).count (h j)) k)

  -- THE RULES of topology: of vertices,
  vertex-there : (j : ℕ) → j < (d Vertice).count → key_of Vertice (e Vertice) j ≡ key_of Vertice (d Vertice) (to Vertice j)
  vertex-there = key-there Vertice

  has_there : (x : ℕ) → has_vertex (e Vertice) x ≡ has_vertex (d Vertice) x
  has_there x = names-there Vertice (key_of Vertice (d Vertice)) (key_of Vertice (e Vertice)) vertex-there x

  highest-there : (line : ℕ) → highest (e Vertice) line ≡ highest (d Vertice) line
  highest-there line = ap (highest_in (key_of Vertice (e Vertice)) line) (r.count Vertice) ∙ highest-turn (r.turn Vertice) (key_of Vertice (d Vertice)) (key_of Vertice (e Vertice)) vertex-there line

  gap-there : (i : ℕ) → i < (d Vertice).count → gap (key_of Vertice (e Vertice)) (e Vertice).count i ≡ gap (key_of Vertice (d Vertice)) (d Vertice).count (to Vertice i)
  unfolding gap
  gap-there i l = rw (vertex-there i l, has_there (key_of Vertice (d Vertice) (to Vertice i) - 1))

  alone-there : (i : ℕ) → i < (d Vertice).count → unpaired (key_of Vertice (e Vertice)) (e Vertice).count i ≡ unpaired (key_of Vertice (d Vertice)) (d Vertice).count (to Vertice i)
  unfolding unpaired
  alone-there i l = rw (vertex-there i l, has_there (key_of Vertice (d Vertice) (to Vertice i) + 1))

  -- of ends and nodes,
  node-there : (name x y : ℕ) → node_in (e Nodo) name x y ≡ node_in (d Nodo) name x y
  unfolding node_in
  node-there name x y =
      any-there Nodo _ _
      (λ j l. rw (name-there Nodo j 1 l (omega arith), r.says Nodo j 4 l (omega arith), r.says Nodo j 6 l (omega arith)))

  meets-there : (key name : ℕ) → meets (e Vertice) (e Nodo) key name ≡ meets (d Vertice) (d Nodo) key name
  unfolding meets
  meets-there key name =
      any-there Vertice _ _
      (λ j l. rw (vertex-there j l, node-there, r.says Vertice j 4 l (omega arith), r.says Vertice j 6 l (omega arith)))

  elsewhere-there : (key name : ℕ) → elsewhere (e Vertice) (e Nodo) key name ≡ elsewhere (d Vertice) (d Nodo) key name
  elsewhere-there key name = ap₂ (λ (a b : Bool). a && not b) (has_there key) (meets-there key name)

  start-there : (i : ℕ) → i < (d Tramo).count → start_elsewhere (e Tramo) (e Vertice) (e Nodo) i ≡ start_elsewhere (d Tramo) (d Vertice) (d Nodo) (to Tramo i)
  unfolding start_elsewhere
  start-there i l = elsewhere-there _ _ ∙ rw (name-there Tramo i 4 l (omega arith), name-there Tramo i 6 l (omega arith))

  end-there : (i : ℕ) → i < (d Tramo).count → end_elsewhere (e Tramo) (e Vertice) (e Nodo) i ≡ end_elsewhere (d Tramo) (d Vertice) (d Nodo) (to Tramo i)
  unfolding end_elsewhere
  end-there i l = elsewhere-there _ _ ∙ rw (highest-there, name-there Tramo i 4 l (omega arith), name-there Tramo i 7 l (omega arith))

  last-there : (i : ℕ) → i < (d Tramo).count → eqb (highest (e Vertice) (tramo_line (e Tramo) i)) 0 ≡ eqb (highest (d Vertice) (tramo_line (d Tramo) (to Tramo i))) 0
  last-there i l = rw (highest-there, name-there Tramo i 4 l (omega arith))

  same-there : (i j : ℕ) → i < (d Nodo).count → j < (d Nodo).count → same_place (e Nodo) i j ≡ same_place (d Nodo) (to Nodo i) (to Nodo j)
  unfolding same_place
  same-there i j l m =
      ap₂ ◌&&◌ (same_at 4 (omega arith)) (ap₂ ◌&&◌ (same_at 6 (omega arith)) (same_at 8 (omega arith)))
    where
      same_at : (f : ℕ) → f ≤ fields_of Nodo
          → eqb (place_in ((e Nodo).says j f)) (place_in ((e Nodo).says i f)) ≡ eqb (place_in ((d Nodo).says (to Nodo j) f)) (place_in ((d Nodo).says (to Nodo i) f))
      same_at f b = ap₂ (λ (x y : Said). eqb (place_in x) (place_in y)) (r.says Nodo j f m b) (r.says Nodo i f l b)

  -- 54: THE NUMBER of nodes at the X, Y, Z of an earlier one
  placed-before-there : how_many (placed_before (e Nodo)) (d Nodo).count ≡ how_many (placed_before (d Nodo)) (d Nodo).count
  unfolding placed_before
  placed-before-there = again-turn (r.turn Nodo) (same_place (e Nodo)) (same_alike (d Nodo)) same-there

  pub count-54 : (f : ℕ) → how_many (λ i. breaks54 e Nodo i f) (e Nodo).count ≡ how_many (λ i. breaks54 d Nodo i f) (d Nodo).count
  unfolding breaks54
  count-54 f = ap (how_many (λ i. breaks54 e Nodo i f)) (r.count Nodo) ∙ count_under (is_at Nodo 0 Nodo f) _ _ (d Nodo).count placed-before-there

  point-there : (i : ℕ) → i < (d ObPun).count → point_elsewhere (e ObPun) (e Nodo) i ≡ point_elsewhere (d ObPun) (d Nodo) (to ObPun i)
  unfolding point_elsewhere
  point-there i l =
      rw (name-there ObPun i 3 l (omega arith), r.says ObPun i 9 l (omega arith), r.says ObPun i 11 l (omega arith), node-there)

  -- and of what is in use
  placed-there : (x y : ℕ) → placed Vertice (e Vertice) (e Vertice).count x y ≡ placed Vertice (d Vertice) (d Vertice).count x y
  unfolding placed
  placed-there x y = any-there Vertice _ _ (λ j l. rw (r.says Vertice j 4 l (omega arith), r.says Vertice j 6 l (omega arith)))

  ends_there : (name : ℕ) → ends_tramo (e Tramo) name ≡ ends_tramo (d Tramo) name
  unfolding ends_tramo
  ends_there name =
      ap₂ ◌||◌ (names-there Tramo _ _ (λ j m. name-there Tramo j 6 m (omega arith)) name) (names-there Tramo _ _ (λ j m. name-there Tramo j 7 m (omega arith)) name)

  namers-there : (name : ℕ) → namers (e ObPun) name ≡ namers (d ObPun) name
  unfolding namers
  namers-there name =
      ap (how_many (λ j. eqb (name_at ObPun (e ObPun) j 3) name)) (r.count ObPun)
      ∙ count_turn (r.turn ObPun) (λ j. eqb (name_at ObPun (d ObPun) j 3) name) _ (λ j m. ap (λ (x : ℕ). eqb x name) (name-there ObPun j 3 m (omega arith)))

  used-there : (i : ℕ) → i < (d Nodo).count → node_idle (e ObPun) (e Tramo) (e Vertice) (e Nodo) i ≡ node_idle (d ObPun) (d Tramo) (d Vertice) (d Nodo) (to Nodo i)
  unfolding node_idle
  used-there i l =
      rw (name-there Nodo i 1 l (omega arith), r.says Nodo i 4 l (omega arith), r.says Nodo i 6 l (omega arith))
      (ap₂ ◌&&◌ (ap₂ (λ (a b : Bool). not a && not b) (ends_there _) (placed-there _ _)) (ap (λ (n : ℕ). ltb n 2) (namers-there _)))

  -- of what a node is
  tip-there : (j : ℕ) → j < (d Vertice).count
      → is_tip (key_of Vertice (e Vertice)) (e Vertice).count j ≡ is_tip (key_of Vertice (d Vertice)) (d Vertice).count (to Vertice j)
  unfolding is_tip
  tip-there j l = rw (vertex-there j l, highest-there)

  with-there : (p q : ℕ → Bool) → ((j : ℕ) → j < (d Vertice).count → q j ≡ p (to Vertice j)) → (x y : ℕ) → vertex_with q (e Vertice) x y ≡ vertex_with p (d Vertice) x y
  unfolding vertex_with
  with-there p q same x y = any-there Vertice _ _ (λ j l. rw (same j l, r.says Vertice j 4 l (omega arith), r.says Vertice j 6 l (omega arith)))

  is-end-there : (i : ℕ) → i < (d Nodo).count → is_end (e Tramo) (e Vertice) (e Nodo) i ≡ is_end (d Tramo) (d Vertice) (d Nodo) (to Nodo i)
  unfolding is_end
  is-end-there i l =
      rw (name-there Nodo i 1 l (omega arith), r.says Nodo i 4 l (omega arith), r.says Nodo i 6 l (omega arith))
      (ap₂ ◌||◌ (ends_there _) (with-there _ _ tip-there _ _))

  is-middle-there : (i : ℕ) → i < (d Nodo).count → is_middle (e Vertice) (e Nodo) i ≡ is_middle (d Vertice) (d Nodo) (to Nodo i)
  unfolding is_middle
  is-middle-there i l =
      rw (r.says Nodo i 4 l (omega arith), r.says Nodo i 6 l (omega arith))
      (with-there (λ j. not (is_tip (key_of Vertice (d Vertice)) (d Vertice).count j)) _ (λ j m. ap not (tip-there j m)) _ _)

  disagrees-there : (i : ℕ) → i < (d Nodo).count → disagrees (e Tramo) (e Vertice) (e Nodo) i ≡ disagrees (d Tramo) (d Vertice) (d Nodo) (to Nodo i)
  unfolding disagrees
  disagrees-there i l = rw (r.says Nodo i 2 l (omega arith), is-end-there i l, is-middle-there i l)

  idle-there : (i : ℕ) → i < (d ObLin).count → object_idle (e ObLin) (e Tramo) i ≡ object_idle (d ObLin) (d Tramo) (to ObLin i)
  unfolding object_idle
  idle-there i l =
      rw (name-there ObLin i 1 l (omega arith)) (ap not (names-there Tramo _ _ (λ j m. name-there Tramo j 2 m (omega arith)) _))

  -- a rule that is read of one file at one field
  told :
      (file : Kind) (field : ℕ) (p q : ℕ → Bool) → ((i : ℕ) → i < (d file).count → q i ≡ p (to file i)) → (k : Kind) (i f : ℕ) → i < (d k).count
      → (is_at file field k f && p (to k i)) ≡ false → (is_at file field k f && q i) ≡ false
  told file field p q same k i f l h =
      and_last (is_at file field k f) (q i)
      (λ t.
      let z = file-same k file (eqb-true _ _ (and-true (eqb (file_of k) (file_of file)) (eqb f field) t).0) in
      let b : p (to k i) ≡ false = then-false (is_at file field k f) (p (to k i)) h t in
      same i (rw z at l) ∙ (rw z at b))

  -- a group whose tests are all of one ten
  abbrev NoneIn : Delivery → (Kind → Tests) → Type 0
  NoneIn x tests = (k : Kind) (i f u : ℕ) → i < (x k).count → f ≤ fields_of k → u < 10 → get_or (tests k i f) u false ≡ false

  ten-rearranged :
      (t : ℕ) (there here : Kind → Tests) → (NoneIn d there → NoneIn d here)
      → ((k : Kind) (n i f : ℕ) → broken_by (λ s i f. pick (eqb s t) (there k i f) []) k (d k).count n i f ≡ false)
      → (k : Kind) (n i f : ℕ) → broken_by (λ s i f. pick (eqb s t) (here k i f) []) k (e k).count n i f ≡ false
  ten-rearranged t there here same h k =
      tests-none _ k (e k).count
      (λ s i f u l b z. picked (λ ts. get_or ts u false ≡ false) (eqb s t) (here k i f) [] (λ _. same none k i f u (rw (r.count k) at l) b z) (λ _. refl))
    where
      none : NoneIn d there
      none j i f u l b z =
          ap (λ (b : Bool). get_or (pick b (there j i f) []) u false) (sym (eq-eqb t t refl))
          ∙ none-tests (λ s i f. pick (eqb s t) (there j i f) []) j (d j).count (h j) t i f u l b z

  module _ (h : NoneIn d (fifties d)) where
    separate : (j : ℕ) → j < (d Nodo).count → placed_before (d Nodo) j ≡ false
    unfolding fifties breaks54
    separate j l = h Nodo j 0 4 l (omega arith) (omega arith)

    none-54 : (i : ℕ) → i < (d Nodo).count → placed_before (e Nodo) i ≡ false
    none-54 i l = count_no_lem (placed_before (e Nodo)) (d Nodo).count (placed-before-there ∙ count_none _ (d Nodo).count separate) l

    fifties-there : NoneIn d (fifties e)
    unfolding fifties breaks50 breaks51 breaks52 breaks53 breaks54 breaks55 breaks56 breaks57 breaks58 breaks59
    fifties-there k i f u l b _ =
        falses
        (more (told Vertice 2 (gap (key_of Vertice (d Vertice)) (d Vertice).count) _ gap-there k i f l (no 0 (omega arith)))
        (more (told Vertice 2 (unpaired (key_of Vertice (d Vertice)) (d Vertice).count) _ alone-there k i f l (no 1 (omega arith)))
        (more (told Tramo 6 (start_elsewhere (d Tramo) (d Vertice) (d Nodo)) _ start-there k i f l (no 2 (omega arith)))
        (more (told Tramo 7 (end_elsewhere (d Tramo) (d Vertice) (d Nodo)) _ end-there k i f l (no 3 (omega arith)))
        (more (told Nodo 0 (λ j. false) _ none-54 k i f l (and_last (is_at Nodo 0 k f) false (λ _. refl)))
        (more (told ObPun 3 (point_elsewhere (d ObPun) (d Nodo)) _ point-there k i f l (no 5 (omega arith)))
        (more (told Nodo 0 (node_idle (d ObPun) (d Tramo) (d Vertice) (d Nodo)) _ used-there k i f l (no 6 (omega arith)))
        (more (told ObLin 0 (object_idle (d ObLin) (d Tramo)) _ idle-there k i f l (no 7 (omega arith)))
        (more (told Nodo 2 (disagrees (d Tramo) (d Vertice) (d Nodo)) _ disagrees-there k i f l (no 8 (omega arith)))
        (more (told Tramo 4 (λ j. eqb (highest (d Vertice) (tramo_line (d Tramo) j)) 0) _ last-there k i f l (no 9 (omega arith))) end))))))))))
        u
      where
        no : (u : ℕ) → u < 10 → get_or (fifties d k (to k i) f) u false ≡ false
        no u s = h k (to k i) f u ((r.turn k).to-within i l) b s

  pub topology-rearranged : ((k : Kind) (n i f : ℕ) → topology_broken d k n i f ≡ false) → (k : Kind) (n i f : ℕ) → topology_broken e k n i f ≡ false
  unfolding topology_broken
  topology-rearranged = ten-rearranged 5 (fifties d) (fifties e) fifties-there

  -- THE RULES of objects
  named-there : (k : Kind) → 2 ≤ fields_of k → (name : ℕ) → named_by e k name ≡ named_by d k name
  unfolding named_by
  named-there k b = names-there k _ _ (λ j m. name-there k j 2 m b)

  composite-there : (i : ℕ) → i < (d ObComp).count → composite_idle e i ≡ composite_idle d (to ObComp i)
  unfolding composite_idle
  composite-there i l =
      rw (name-there ObComp i 1 l (omega arith))
      (ap not (ap₂ ◌||◌ (ap₂ ◌||◌ (named-there ObPun (omega arith) _) (named-there ObTex (omega arith) _)) (named-there ObLin (omega arith) _)))

  seventies-there : NoneIn d (seventies d) → NoneIn d (seventies e)
  unfolding seventies breaks70
  seventies-there h k i f u l b _ =
      falses
      (more (told ObComp 0 (composite_idle d) _ composite-there k i f l (h k (to k i) f 0 ((r.turn k).to-within i l) b (omega arith))) end)
      u

  pub objects-rearranged : ((k : Kind) (n i f : ℕ) → objects_broken d k n i f ≡ false) → (k : Kind) (n i f : ℕ) → objects_broken e k n i f ≡ false
  unfolding objects_broken
  objects-rearranged = ten-rearranged 7 (seventies d) (seventies e) seventies-there
