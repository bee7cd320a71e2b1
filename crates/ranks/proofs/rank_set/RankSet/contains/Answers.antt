-- The digit that is read, and no digit past the last rank.
use Rattle.std.proofs.Common.{sym}
use Rattle.ranks.specs.Ranks.{ranks}
use Rattle.ranks.proofs.Sets.{past}
use Rattle.ranks.proofs.Words.{test_low, test_high}
use Rattle.ranks.proofs.rank_set.RankSet.contains.Goals as goal

pub returns-then-rank-lt64-clause-value : goal.returns-then-rank-lt64-clause-value
unfolding ranks
returns-then-rank-lt64-clause-value c =
    let s = c.args.self.now in
    test_low s.high s.low s.whole c.args.rank c.if-rank-lt64.true

pub returns-then-rank-lt-RANKS-clause-value : goal.returns-then-rank-lt-RANKS-clause-value
unfolding ranks
returns-then-rank-lt-RANKS-clause-value c =
    let s = c.args.self.now in
    test_high s.high s.low s.whole c.args.rank c.if-rank-lt64.false

pub returns-else-rank-lt-RANKS-clause-value : goal.returns-else-rank-lt-RANKS-clause-value
returns-else-rank-lt-RANKS-clause-value c = sym (past c.args.self.now c.args.rank c.if-rank-lt-RANKS.false)
