-- The value of each kind of entry.
use Rattle.std.proofs.Common.{◌≡◌, Some, sym, ap, ◌∙◌, arith}
use Rattle.std.proofs.lemmas.Int.{ints}
use Rattle.order.specs.declared.answer.Answer.TheVariants.{Reading, NotFeasible}
use Rattle.policy.specs.Levels.{entry}
use Rattle.hull.specs.Values.{value, value_in}
use Rattle.hull.proofs.hull.sizes.Sizes.value.Goals as goal

pub returns-in-Some-Reading-clause-is : goal.returns-in-Some-Reading-clause-is
unfolding value
returns-in-Some-Reading-clause-is c =
    let f = c.args.self.now.front.now in
    let read = c.in-Some-Reading.ensures in
    let held : entry f c.args.rank ≡ Some (Reading c.in-Some-Reading.x) = cc in
    let is : c.in-Some-Reading.x ≡ value f c.args.rank = ap (value_in f.readings) (sym held) in
    omega (arith, ints, c.in-Some-Reading.x-is) ∙ is

pub returns-in-Some-NotFeasible-clause-is : goal.returns-in-Some-NotFeasible-clause-is
unfolding value
returns-in-Some-NotFeasible-clause-is c =
    let f = c.args.self.now.front.now in
    let read = c.in-Some-NotFeasible.ensures in
    let held : entry f c.args.rank ≡ Some NotFeasible = cc in
    omega (arith, ints, c.past.type_inv) ∙ c.past.ensures ∙ ap (value_in f.readings) (sym held)

pub returns-in-None-clause-is : goal.returns-in-None-clause-is
unfolding value
returns-in-None-clause-is c = ap (value_in c.args.self.now.front.now.readings) c.in-None.ensures
