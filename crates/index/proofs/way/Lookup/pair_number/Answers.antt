-- `index::way::Lookup::pair_number` meets its contract. The record found tells the number that stands for the first part.
-- Assumes nothing.
use native.Mathlib.Omega.{arith}
use Rattle.index.proofs.PairLaws.{pair-nowhere, pair_found, found_within}
use Rattle.index.proofs.way.Lookup.pair_number.Goals as goal

pub offset_bounds-pairs-j : goal.offset_bounds-pairs-j
offset_bounds-pairs-j c = omega (arith, found_within _ _ _ c.look.ensures.sought c.in-Some.is, c.requires.1)

pub bounds-pairs-j : goal.bounds-pairs-j
bounds-pairs-j c = omega (arith, found_within _ _ _ c.look.ensures.sought c.in-Some.is, c.requires.1)

pub returns-in-None : goal.returns-in-None
returns-in-None c = pair-nowhere c.requires.0 c.look.ensures.sought c.in-None.is

pub returns-in-Some : goal.returns-in-Some
returns-in-Some c = pair_found c.requires.0 c.requires.2 c.look.ensures.sought c.in-Some.is
