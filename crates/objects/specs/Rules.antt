-- The rules of objects as a whole: one test for each of the seventies, true where the rule is broken at field f of record i (counted from
-- 0) of file k (document 02, W-204).
-- Assumes nothing.
use Rattle.std.specs.Prelude.{ℕ, Bool, not, ◌&&◌, ◌||◌, List, [], ◌∷◌}
use Rattle.laws.specs.Find.{names}
use Rattle.record.specs.declared.kind.Kind.{Kind}
use Rattle.record.specs.declared.kind.Kind.TheVariants.{ObPun, ObTex, ObLin, ObComp}
use Rattle.record.specs.declared.reason.Reason.{Reason}
use Rattle.record.specs.declared.reason.Reason.TheVariants as R
use Rattle.record.specs.Files.{Delivery}
use Rattle.record.specs.Names.{name_at}
use Rattle.topology.specs.Rules.{is_at}

-- an object of file k names the composite that has the name, in field 2
unfoldable pub named_by : Delivery → Kind → ℕ → Bool
named_by d k name = names (λ j. name_at k (d k) j 2) (d k).count name

-- an object does
abbrev pub named : Delivery → ℕ → Bool
named d name = named_by d ObPun name || named_by d ObTex name || named_by d ObLin name

-- 70: composite that no object names
unfoldable pub composite_idle : Delivery → ℕ → Bool
composite_idle d i = not (named d (name_at ObComp (d ObComp) i 1))

unfoldable pub breaks70 : Delivery → Kind → ℕ → ℕ → Bool
breaks70 d k i f = is_at ObComp 0 k f && composite_idle d i

-- the tests of a place, in the order of the reasons
unfoldable pub seventies : Delivery → Kind → ℕ → ℕ → List Bool
seventies d k i f = breaks70 d k i f ∷ []

-- the reasons; none has data
abbrev pub seventy_reasons : List Reason
seventy_reasons = R.IdleComposite70 ∷ []
