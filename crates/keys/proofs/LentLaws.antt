-- The laws of lent arrays (specs/machinery/Lent.antt): their room, which no call changes, and the catalogue's codes in them.
-- Assumes nothing.
use Prim.Native.Nat.{ℕ, ◌≤◌}
use mathlib.Core.List.{List}
use mathlib.Core.Path.{◌≡◌}
use native.Mathlib.Omega.{arith}
use Rattle.index.specs.declared.way.Lookup.{Lookup}
use Rattle.record.specs.declared.kind.Kind.{Kind}
use Rattle.record.specs.declared.kind.Kind.TheVariants.{Catalogo}
use Rattle.record.specs.Says.{table_of}
use Rattle.record.specs.Files.{Files, Delivery, delivery_of}
use Rattle.record.specs.Names.{name_at}
use Rattle.record.specs.machinery.Columns.{Fills}
use Rattle.keys.specs.machinery.Lent.{AllWithin, InHand}
use Rattle.keys.specs.machinery.Types.{Letters}

-- ROOM for a file's table, by its bytes,
pub table-room : (files : Files) {k : Kind} {own : List ℕ} {n : ℕ} → own ≡ files k → (delivery_of files k).count ≤ n → (table_of own k).count ≤ n
table-room files e l = rw e l

-- in an array that is as long as any file
pub table-within :
    (files : Files) {k : Kind} {own : List ℕ} {m n : ℕ} → own ≡ files k → AllWithin (delivery_of files) m → n ≡ m → (table_of own k).count ≤ n
table-within files {k} e l q = table-room files e (rw q (l.each k))

-- WHAT A FILE'S FIRST FIELD NAMES, by its bytes
pub in-hand :
    (files : Files) (k : Kind) {s : List ℕ} {t : ℕ} {names : Lookup} → s ≡ files k
    → (t ≡ 4 → Fills names.keys.now (λ j. name_at k (table_of s k) j 1) (table_of s k).count names.n) → t ≡ 4 → InHand (delivery_of files) k names
in-hand files k e f h = record { fills = rw (← e) (f h) }

pub hand-room : {d : Delivery} {k : Kind} {names : Lookup} {m : ℕ} → InHand d k names → (d k).count ≤ m → names.n ≤ m
hand-room s l = omega (arith, s.fills.count)

pub typed-hand : (files : Files) {cat letters : List ℕ} {n : ℕ} → cat ≡ files Catalogo → Letters letters (table_of cat Catalogo) n → Letters letters (delivery_of files Catalogo) n
typed-hand files e l = rw e at l
