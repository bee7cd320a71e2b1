-- The ranks of a level stand side by side.
use Rattle.std.proofs.Common.{◌*◌, ◌≤◌, arith}
use Rattle.std.proofs.lemmas.Nat.{mul-le}
use Rattle.order.proofs.Among.{first_among_same}
use Rattle.order.specs.Records.{rank_before}
use Rattle.policy.proofs.Levels.{between, none_past, of_level}
use Rattle.policy.proofs.front.Front.first_of_level.Goals as goal

pub returns-then-level-ge-LEVELS : goal.returns-then-level-ge-LEVELS
returns-then-level-ge-LEVELS c = none_past c.args.self.now c.args.level c.if-level-ge-LEVELS.true

pub returns : goal.returns
returns c =
    let f = c.args.self.now in let t = c.args.level in
    first_among_same rank_before _ _ (of_level f t) (between f t) _ (rw c.from-directions.ensures at c.first_between.ensures)

pub first_between-requires : goal.first_between-requires
first_between-requires c =
    let f = c.args.self.now in
    let n = c.from-directions.result in
    let near : n * c.args.level ≤ 6 * 18 = mul-le n c.args.level 6 18 (omega (arith, f.few)) (omega arith) in
    (omega arith, omega (arith, near, f.few, f.long))
