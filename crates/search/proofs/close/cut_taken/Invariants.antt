-- The taken boxes of the ranks that are popped are cut.
use Rattle.ranks.specs.Rising.{to_come}
use Rattle.search.proofs.Turns.{Turns}
use Rattle.search.proofs.close.cut_taken.Given as goal

abbrev pub invariant-loop-rank : goal.invariant-loop-rank
invariant-loop-rank l = Turns l.round l.initial.table (to_come l.rank-iterator) l.next l.table
