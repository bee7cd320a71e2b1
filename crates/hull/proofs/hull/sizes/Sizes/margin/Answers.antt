-- A share of at most all of the least reading.
use Rattle.std.proofs.Common.{◌≡◌, ◌*◌, ◌/◌, ◌≤◌, pos, nat_abs, ap, arith}
use Rattle.std.proofs.lemmas.Nat.{mul-le}
use Rattle.std.proofs.lemmas.Int.{ints}
use Rattle.hull.specs.Values.{least, margin}
use Rattle.hull.proofs.hull.sizes.Sizes.margin.Goals as goal

pub returns-clause-is : goal.returns-clause-is
unfolding margin
returns-clause-is c =
    let f = c.args.self.now.front.now in
    let a = c.unsigned_abs.result in
    let e = c.args.self.now.hull.share in
    let abs : a ≡ nat_abs (least f) = omega (arith, ints, c.least.ensures.is) in
    let is : a * c.from.result / c.from-2.result ≡ nat_abs (least f) * e / 10000 = rw (c.from.ensures, c.from-2.ensures, abs) in
    let share : nat_abs (least f) * e ≤ 1000000000 * 10000 = mul-le (nat_abs (least f)) e 1000000000 10000 (omega (arith, ints)) c.args.self.now.hull.ok in
    let fits : a * c.from.result / c.from-2.result ≤ 1000000000 = rw is (omega arith) in
    omega (arith, ints, ap pos is)
