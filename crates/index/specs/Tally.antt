-- Machinery: a tally of cells, of which each has a test of records: the first record at which one holds, by record and then cell, and how
-- often they hold.
-- Assumes nothing.
use Rattle.std.specs.Prelude.{ℕ, zero, suc, ◌+◌, Bool, leb, Option, Some, None}
use Rattle.laws.specs.Row.{pick}
use Rattle.laws.specs.Find.{first_index}
use Rattle.laws.specs.Count.{how_many}
use Rattle.index.specs.Keys.{found_of}
use Rattle.index.specs.declared.tally.First.{First}
use Rattle.index.specs.declared.tally.Tally.{Tally}

abbrev pub no_tally : Tally
no_tally = record { first = None; many = 0 }

-- the earlier of the first record so far and the first of one cell more: the lower, and of equals the one so far
abbrev pub earlier : Option First → Option ℕ → ℕ → Option First
earlier first None c = first
earlier None (Some i) c = Some (record { at = i; cell = c })
earlier (Some f) (Some i) c = pick (leb f.at i) (Some f) (Some (record { at = i; cell = c }))

-- one cell more, with its first record and how many it has: of two first records the lower, and of equals the earlier cell's
abbrev pub with_cell : Tally → Option ℕ → ℕ → ℕ → Tally
with_cell t found m c = record { first = earlier t.first found c; many = t.many + m }

-- the tally of the first m cells over n records
unfoldable pub tally_of : (ℕ → ℕ → Bool) → ℕ → ℕ → Tally
tally_of test n zero = no_tally
tally_of test n (suc c) = with_cell (tally_of test n c) (found_of (first_index (λ i. test i c) n)) (how_many (λ i. test i c) n) c
