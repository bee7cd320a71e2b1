-- The digits of both words.
use Rattle.std.proofs.Common.{arith}
use lib.Count.{ones-le}
use Rattle.ranks.specs.Ranks.{ranks}
use Rattle.ranks.proofs.Words.{count_words}
use Rattle.ranks.proofs.rank_set.RankSet.count.Goals as goal

pub returns-clause-value : goal.returns-clause-value
unfolding ranks
returns-clause-value c = let s = c.args.self.now in count_words s.high s.low s.whole s.short

pub returns-clause-bound : goal.returns-clause-bound
returns-clause-bound c = let s = c.args.self.now in omega (arith, ones-le 64 s.low s.whole, ones-le 50 s.high s.short)
