-- A table of the rank that is taken for each level.
use Rattle.std.specs.Prelude.{ℕ, List, Some, None, Option, slice_index_or}
use Rattle.std.proofs.Props.{props}
use Rattle.order.specs.declared.records.RankEntry.{RankEntry}
use Rattle.policy.specs.Levels.{FirstOfLevel}
use Rattle.policy.specs.declared.front.Front.{Front}

-- at each level stands the rank that goes first of it
unfoldable pub TakenRanks : Front → List (Option RankEntry) → Type 0
TakenRanks f table = (t : ℕ) → FirstOfLevel f t (slice_index_or table t None)

-- a table stands so in one way at most
first_prop : (f : Front) (t : ℕ) (o : Option RankEntry) → IsProp (FirstOfLevel f t o)
first_prop f t None = hlevel props
first_prop f t (Some e) = hlevel props

pub TakenRanks-prop : (f : Front) (table : List (Option RankEntry)) → IsProp (TakenRanks f table)
unfolding TakenRanks
TakenRanks-prop f table = hlevel (props, first_prop)
