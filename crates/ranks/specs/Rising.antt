-- What an iteration over a set of ranks still has to give.
use Rattle.ranks.specs.declared.rank_set.rising.Members.{Members}
use Rattle.ranks.specs.Ranks.{Ranks, ranks}

abbrev pub to_come : Members → Ranks
to_come s = ranks s.rest
