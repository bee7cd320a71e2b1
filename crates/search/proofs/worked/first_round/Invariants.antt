-- The answers so far belong to a run of the search that begin gave.
use Rattle.search.proofs.FirstRounds.{Going}
use Rattle.search.proofs.worked.first_round.Given as goal

abbrev pub invariant-loop-point : goal.invariant-loop-point
invariant-loop-point g l = Going l.n l.finest l.round l.table
