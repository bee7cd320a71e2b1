-- Different causes have different numbers.
use Rattle.std.proofs.Common.{◌≡◌, rules, Decides, nat_eq}
use Rattle.std.specs.Ordering.{on}
use Rattle.refusal.specs.Numbers.{number_of}
use Rattle.refusal.specs.declared.Refusal.{Refusal}
use Rattle.std.specs.Cmp.Rules.{comparing}

-- what `==` answers is true exactly for the same cause
pub same_cause : (a b : Refusal) → Decides (on number_of nat_eq a b) (a ≡ b)
same_cause a b = search (comparing, rules)
