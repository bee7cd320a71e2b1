-- No digit is a member.
use Rattle.std.proofs.Common.{refl}
use Rattle.ranks.specs.Ranks.{ranks}
use Rattle.ranks.proofs.Words.{no_words}
use Rattle.ranks.proofs.rank_set.RankSet.empty.Goals as goal

pub returns : goal.returns
unfolding ranks
returns c = no_words 0 0 refl refl
