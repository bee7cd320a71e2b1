-- The chosen ranks of those seen so far.
use Rattle.std.proofs.Common.{◌≡◌, ◌&&◌, ◌==◌, ℕ}
use Rattle.std.specs.List.{list_any}
use Rattle.order.specs.declared.records.RankEntry.{RankEntry}
use Rattle.ranks.specs.Ranks.{ranks}
use Rattle.hull.specs.Decide.{hull_ranks}
use Rattle.hull.proofs.hull.sizes.Sizes.chosen.Given as goal

abbrev pub invariant-loop-j : goal.invariant-loop-j
invariant-loop-j l = (k : ℕ) → ranks l.chosen k ≡ (hull_ranks l.self.hull.share l.self.front.now k && list_any (λ (j : RankEntry). k == j.rank) l.yielded)
