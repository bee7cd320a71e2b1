-- The points counted and those of the ranks left are all.
use Rattle.std.proofs.Common.{◌≡◌, ◌+◌}
use Rattle.ranks.specs.Ranks.{ranks}
use Rattle.ranks.specs.Rising.{to_come}
use Rattle.search.specs.Counts.{points_of}
use Rattle.search.proofs.open.points_of.Given as goal

abbrev pub invariant-loop-rank : goal.invariant-loop-rank
invariant-loop-rank l = l.points + points_of l.shape.n (to_come l.rank-iterator) ≡ points_of l.shape.n (ranks l.fn.chosen)
