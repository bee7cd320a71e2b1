-- The same words are the same ranks.
use Rattle.ranks.proofs.Sets.{words_equal-Decides}
use Rattle.ranks.proofs.rank_set.members.RankSetPartialEq.eq.Goals as goal

pub returns-clause-same : goal.returns-clause-same
returns-clause-same c = rw c.eq.ensures (words_equal-Decides c.args.self.now c.args.other.now)
