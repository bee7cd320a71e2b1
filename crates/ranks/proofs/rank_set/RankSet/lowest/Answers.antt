-- One rank more that is taken, until m are or none is left.
use Rattle.std.proofs.Common.{◌+◌, sym, ap, ⊎_elim, ◌∙◌, arith}
use Rattle.std.proofs.lemmas.Bool.{cases_lt}
use Rattle.ranks.specs.Ranks.{ranks, size, lowest_of}
use Rattle.ranks.proofs.Counts.{size_lowest}
use Rattle.ranks.proofs.Lowest.{kept_all, kept_whole, take_one}
use Rattle.ranks.proofs.Sets.{member_bound}
use Rattle.ranks.proofs.rank_set.RankSet.lowest.Goals as goal

pub returns-then-count-m-clause-value : goal.returns-then-count-m-clause-value
returns-then-count-m-clause-value c = kept_whole (ranks c.args.self) c.args.m (member_bound c.args.self) (omega arith)

pub returns-then-count-m-clause-size : goal.returns-then-count-m-clause-size
returns-then-count-m-clause-size c = ap size (returns-then-count-m-clause-value c) ∙ size_lowest (ranks c.args.self) c.args.m

pub loop-rank-preserved : goal.loop-rank-preserved
loop-rank-preserved c =
    let inv = c.loop-rank.invariant in
    let step = c.in-Some.ensures.steps in
    let more = take_one (ranks c.args.self) inv.0 c.in-Some.rank _ _ _ _ inv.2 inv.3 step.0.0 (c.insert.ensures.put step.0.1) step.0.2 in
    (inv.0 + 1, omega arith, more.0, more.1)

pub returns-clause-value : goal.returns-clause-value
returns-clause-value c =
    let p = ranks c.args.self in
    let inv = c.loop-rank.invariant in
    ⊎_elim
    (λ left. inv.2 ∙ kept_all p inv.0 c.args.m (omega arith) (sym inv.3 ∙ (c.in-None.ensures.steps left).0))
    (λ all. inv.2 ∙ ap (λ i. lowest_of i p) (omega arith))
    (cases_lt 0 c.loop-rank.rank-iterator.n)

pub returns-clause-size : goal.returns-clause-size
returns-clause-size c = ap size (returns-clause-value c) ∙ size_lowest (ranks c.args.self) c.args.m
