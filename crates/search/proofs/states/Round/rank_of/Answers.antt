-- The rank that the point is of.
use Rattle.std.proofs.Common.{sym, subst, arith}
use Rattle.ranks.specs.Ranks.{ranks}
use Rattle.ranks.specs.Rising.{to_come}
use Rattle.search.proofs.Popped.{Tail, points_next, points_none, points_before, tail_less}
use Rattle.search.proofs.states.Round.rank_of.Goals as goal

pub returns-then-point-start-clause-number : goal.returns-then-point-start-clause-number
returns-then-point-start-clause-number c =
    let taken = c.in-Some.ensures.steps in let inv = c.loop-rank.invariant in
    omega (arith, points_before c.args.self.now.shape.n (to_come c.loop-rank.rank-iterator) c.in-Some.rank taken.0 (ranks c.args.self.now.chosen) c.loop-rank.start inv.2 taken.1 inv.0, inv.1)

pub loop-rank-preserved : goal.loop-rank-preserved
loop-rank-preserved c =
    let taken = c.in-Some.ensures.steps in
    let inv = c.loop-rank.invariant in
    let next = points_next c.args.self.now.shape.n (to_come c.loop-rank.rank-iterator) (to_come c.next.new.self) c.in-Some.rank taken.0 taken.1 taken.2 in (
      omega (arith, next, inv.0),
      omega (arith, inv.1, c.if-point-start.false),
      subst (Tail (ranks c.args.self.now.chosen)) (sym taken.2) (tail_less c.args.self.now.shape.n (to_come c.loop-rank.rank-iterator) c.in-Some.rank taken.0 (ranks c.args.self.now.chosen) inv.2),
    )

pub unreachable-requires : goal.unreachable-requires
unreachable-requires c =
    let done = points_none c.args.self.now.shape.n (to_come c.loop-rank.rank-iterator) c.in-None.ensures.steps.0 in
    omega (arith, done, c.loop-rank.invariant.0, c.loop-rank.invariant.1, c.args.self.now.counted, c.requires)
