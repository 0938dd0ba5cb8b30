-- `topology::tops::highest_of` meets its contract. The vertex that is found for the line has its highest key.
-- Assumes nothing.
use native.Mathlib.Omega.{arith}
use Rattle.topology.proofs.TopLaws.{top-none, top_below, top-found}
use Rattle.topology.proofs.tops.highest_of.Goals as goal

pub offset_bounds-tops-r : goal.offset_bounds-tops-r
offset_bounds-tops-r c = let h = top_below c.requires _ c.look-found.ensures.sought c.in-Some.is in omega arith

pub bounds-tops-r : goal.bounds-tops-r
bounds-tops-r c = let h = top_below c.requires _ c.look-found.ensures.sought c.in-Some.is in omega arith

pub returns-in-None : goal.returns-in-None
returns-in-None c = top-none c.requires _ c.look-found.ensures.sought c.in-None.is

pub returns-in-Some : goal.returns-in-Some
returns-in-Some c = top-found c.requires _ c.look-found.ensures.sought c.look-found.ensures.same c.in-Some.is
