-- At each level the rank that goes first; past the last level no rank is filled.
use Rattle.std.proofs.Common.{None, sym, subst, ⊎_elim, arith, rules}
use borrow.Author.Tests.{tests}
use Rattle.std.proofs.lemmas.List.{get_or_past}
use Rattle.std.proofs.lemmas.Bool.{cases_lt}
use Rattle.policy.proofs.Levels.{none_past}
use Rattle.policy.specs.Levels.{FirstOfLevel}
use Rattle.hull.specs.TakenRanks.{TakenRanks}
use Rattle.hull.proofs.hull.sizes.Sizes.of.Goals as goal

pub invariant_of-result : goal.invariant_of-result
unfolding TakenRanks
invariant_of-result c = record {
  of_front = λ t. ⊎_elim
      (λ l. let called = c.from_fn.ensures.items.at t None l in search (rules, tests))
      (λ g. subst (FirstOfLevel c.args.front.now t) (sym (get_or_past c.from_fn.result t None (omega (arith, c.from_fn.ensures.items.long)))) (none_past c.args.front.now t g))
      (cases_lt t 19);
}
