-- `keys::refer::fill_letters` meets its contract. The loop's invariant: the letters of the first `j` records are in the array.
-- Assumes nothing.
use mathlib.Core.Path.{◌≡◌}
use lib.ListN.{length}
use Rattle.record.specs.declared.kind.Kind.TheVariants.{Catalogo}
use Rattle.record.specs.Says.{table_of}
use Rattle.keys.proofs.TypeLaws.{Spelt}
use Rattle.keys.proofs.refer.fill_letters.Given as goal

abbrev pub invariant-loop-j : goal.invariant-loop-j
invariant-loop-j l = (length l.out ≡ length l.initial.out) × Spelt (table_of l.cat Catalogo) l.out l.j
