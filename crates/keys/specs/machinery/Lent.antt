-- Machinery: what lent arrays must have: room for each file's records, and the ids of files that are looked up in, with a way to look them
-- up. No promise cites this file.
-- Assumes nothing.
use Rattle.std.specs.Prelude.{ℕ, ◌≤◌, Bool, false, ◌&&◌, ◌≡◌, eqb}
use Rattle.index.specs.declared.way.Lookup.{Lookup}
use Rattle.record.specs.declared.kind.Kind.{Kind}
use Rattle.record.specs.declared.kind.Kind.TheVariants.{Catalogo, Nodo}
use Rattle.record.specs.declared.kind.Target.{Target}
use Rattle.record.specs.declared.kind.Target.TheVariants.{Free, Nowhere, To}
use Rattle.record.specs.machinery.Columns.{Fills}
use Rattle.record.specs.Table.{file_of}
use Rattle.record.specs.Files.{Delivery}
use Rattle.record.specs.Names.{name_at}
use Rattle.keys.specs.declared.group.Known.{Known}
use Rattle.keys.specs.machinery.Types.{Letters}

-- no file has more than m records
pub record AllWithin (d : Delivery) (m : ℕ) : Type 0 where
  pub each : (k : Kind) → (d k).count ≤ m

-- what the first field of a file names is in hand
pub record InHand (d : Delivery) (k : Kind) (names : Lookup) : Type 0 where
  pub fills : Fills names.keys.now (λ j. name_at k (d k) j 1) (d k).count names.n

-- the catalogue's codes with their letters, and the ids of the nodes
pub record Prepared (d : Delivery) (known : Known) : Type 0 where
  pub catalogue : InHand d Catalogo known.codes
  pub typed : Letters known.letters.now (d Catalogo) known.codes.n
  pub named : InHand d Nodo known.nodes

-- or the ten t has no use for them
pub record AtHand (t : ℕ) (d : Delivery) (known : Known) : Type 0 where
  pub in-hand : t ≡ 4 → Prepared d known

-- a field refers to the nodes by their ids
abbrev pub refers_to_nodes : Target → Bool
refers_to_nodes Free = false
refers_to_nodes Nowhere = false
refers_to_nodes (To k g) = eqb (file_of k) (file_of Nodo) && eqb g 1
