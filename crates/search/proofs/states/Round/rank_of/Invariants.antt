-- The points passed and those of the ranks left are all, and the ranks left are the highest.
use Rattle.std.proofs.Common.{◌≡◌, ◌+◌, ◌≤◌}
use Rattle.ranks.specs.Ranks.{ranks}
use Rattle.ranks.specs.Rising.{to_come}
use Rattle.search.specs.Counts.{points_of}
use Rattle.search.proofs.Popped.{Tail}
use Rattle.search.proofs.states.Round.rank_of.Given as goal

abbrev pub invariant-loop-rank : goal.invariant-loop-rank
invariant-loop-rank l = (l.start + points_of l.self.shape.n (to_come l.rank-iterator) ≡ points_of l.self.shape.n (ranks l.self.chosen)) × (l.start ≤ l.point) × Tail (ranks l.self.chosen) (to_come l.rank-iterator)
