-- The lowest digit of the first word that has one.
use Rattle.std.proofs.Common.{arith}
use Rattle.ranks.specs.Ranks.{ranks}
use Rattle.ranks.proofs.Words.{no_words, first_low, first_high}
use Rattle.ranks.proofs.rank_set.RankSet.first.Goals as goal

pub returns-then-self-ne0 : goal.returns-then-self-ne0
unfolding ranks
returns-then-self-ne0 c =
    let s = c.args.self.now in
    let w = first_low s.high s.low s.whole c.if-self-ne0.true in
    (w.0, omega (arith, w.1))

pub returns-then-self-ne0-2 : goal.returns-then-self-ne0-2
unfolding ranks
returns-then-self-ne0-2 c =
    let s = c.args.self.now in
    first_high s.high s.low s.whole s.short c.if-self-ne0.false c.if-self-ne0-2.true

pub returns-else-self-ne0-2 : goal.returns-else-self-ne0-2
unfolding ranks
returns-else-self-ne0-2 c =
    let s = c.args.self.now in
    no_words s.high s.low c.if-self-ne0-2.false c.if-self-ne0.false
