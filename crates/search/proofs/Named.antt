-- The policies that a record names keep the two rules, under a cap too.
use Rattle.std.proofs.Common.{ℕ, List, Some, None, Option, refl}
use Rattle.hull.specs.Chosen.{hull_reaches, hull_sound}
use Rattle.policy.specs.Rules.{OnlyFilled, ReachesLargest}
use Rattle.policy.specs.declared.front.Front.{Front}
use Rattle.policy.specs.Capped.{capped_reaches, capped_sound}
use Rattle.record.specs.declared.item.Named.{Named}
use Rattle.record.specs.declared.item.Named.TheVariants as named
use Rattle.table.specs.declared.rows.Row.{Row}
use Rattle.search.specs.Runs.{LawfulAt}
use Rattle.search.specs.Tales.{CapMakes, meaning_of, under}
use Rattle.search.specs.declared.states.Rest.{Rest}

named_sound : (by : Named) (f : Front) → OnlyFilled f (meaning_of by f)
named_sound named.Every f r h = h
named_sound (named.Hull share) f r h = hull_sound share f r h

named_reaches : (by : Named) (f : Front) → ReachesLargest f (meaning_of by f)
named_reaches named.Every f r w = (r, w.has, refl)
named_reaches (named.Hull share) f r w = hull_reaches share f r w

pub named_lawful : (cap : Option ℕ) (by : Named) (rest : Rest) (table : List Row) → CapMakes cap → LawfulAt (under cap (meaning_of by)) rest table
named_lawful None by rest table c f of = (named_sound by f, named_reaches by f)
named_lawful (Some m) by rest table c f of =
    (capped_sound f (meaning_of by f) m (named_sound by f), capped_reaches f (meaning_of by f) m c.0 (named_sound by f) (named_reaches by f))
