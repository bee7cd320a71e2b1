-- One rank less.
use Rattle.std.proofs.Common.{arith}
use Rattle.ranks.specs.Ranks.{ranks}
use Rattle.ranks.specs.Rising.{to_come}
use Rattle.search.proofs.Popped.{points_next, points_none, points_few}
use Rattle.search.proofs.open.points_of.Goals as goal

pub overflow_add-points : goal.overflow_add-points
overflow_add-points c =
    let n = c.args.shape.now.n in let taken = c.in-Some.ensures.steps in
    omega (
      arith,
      points_next n (to_come c.loop-rank.rank-iterator) (to_come c.next.new.self) c.in-Some.rank taken.0 taken.1 taken.2,
      points_few n (ranks c.args.chosen) c.args.shape.now.few,
      c.loop-rank.invariant,
    )

pub loop-rank-preserved : goal.loop-rank-preserved
loop-rank-preserved c =
    let taken = c.in-Some.ensures.steps in
    omega (
      arith,
      points_next c.args.shape.now.n (to_come c.loop-rank.rank-iterator) (to_come c.next.new.self) c.in-Some.rank taken.0 taken.1 taken.2,
      c.loop-rank.invariant,
    )

pub returns : goal.returns
returns c =
    let n = c.args.shape.now.n in
    let done = points_none n (to_come c.loop-rank.rank-iterator) c.in-None.ensures.steps.0 in
    record {
      value = omega (arith, done, c.loop-rank.invariant);
      few = omega (arith, done, points_few n (ranks c.args.chosen) c.args.shape.now.few, c.loop-rank.invariant);
    }
