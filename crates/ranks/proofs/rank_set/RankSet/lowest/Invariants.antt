-- The lowest ranks are in `chosen`, and the others are still to come.
use Rattle.std.proofs.Common.{◌≡◌, ◌+◌, ℕ}
use Rattle.ranks.specs.Ranks.{ranks, lowest_of}
use Rattle.ranks.proofs.Lowest.{after}
use Rattle.ranks.proofs.rank_set.RankSet.lowest.Given as goal

abbrev pub invariant-loop-rank : goal.invariant-loop-rank
invariant-loop-rank l =
    let p = ranks l.fn.self in
    (i : ℕ) × (i + l.rank-iterator.n ≡ l.m) × (ranks l.chosen ≡ lowest_of i p) × (ranks l.rank-iterator.iter.rest ≡ after p i)
