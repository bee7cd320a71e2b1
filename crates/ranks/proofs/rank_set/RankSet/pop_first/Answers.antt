-- The word without its lowest digit.
use Rattle.std.proofs.Common.{ap}
use mathlib.Core.Path.{fun_ext}
use Rattle.std.proofs.lemmas.Bool.{both_ways}
use Rattle.ranks.specs.Ranks.{ranks}
use Rattle.ranks.proofs.Words.{no_words, rest_low, rest_high}
use Rattle.ranks.proofs.rank_set.RankSet.pop_first.Goals as goal

pub returns-then-self-ne0-clause-rest : goal.returns-then-self-ne0-clause-rest
unfolding ranks
returns-then-self-ne0-clause-rest c =
    let s = c.args.self.now in
    fun_ext (rest_low s.high s.low s.whole c.if-self-ne0.true c.in_ok-rank.rank c.in_ok-rank.ensures.0)

pub returns-then-self-ne0-2-clause-rest : goal.returns-then-self-ne0-2-clause-rest
unfolding ranks
returns-then-self-ne0-2-clause-rest c =
    let s = c.args.self.now in
    fun_ext (rest_high s.high s.low s.whole s.short c.if-self-ne0.false c.if-self-ne0-2.true c.in_ok-rank.rank c.in_ok-rank.ensures.0)

pub returns-else-self-ne0-2-clause-rest : goal.returns-else-self-ne0-2-clause-rest
unfolding ranks
returns-else-self-ne0-2-clause-rest c =
    let s = c.args.self.now in
    let empty = no_words s.high s.low c.if-self-ne0-2.false c.if-self-ne0.false in
    absurd (both_ways _ (ap (λ p. p c.in_ok-rank.rank) empty) c.in_ok-rank.ensures.0.has)
