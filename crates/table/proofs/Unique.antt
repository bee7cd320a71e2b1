-- Facts of rows and of first boxes hold in one way at most.
use Rattle.std.proofs.Common.{ℕ, List, Some, None, Option}
use Rattle.std.proofs.Props.{props}
use Rattle.order.specs.declared.records.Candidate.{Candidate}
use Rattle.table.specs.Boxes.{FirstOfRank, Own}
use Rattle.table.specs.declared.rows.Row.{Row}

pub own_once : (n finest boxes : ℕ) (table : List Row) → IsProp (Own n finest boxes table)
own_once n finest boxes table = hlevel props

pub first_once : (n finest boxes : ℕ) (table : List Row) (r : ℕ) (o : Option Candidate) → IsProp (FirstOfRank n finest boxes table r o)
first_once n finest boxes table r None = hlevel props
first_once n finest boxes table r (Some c) = hlevel props
