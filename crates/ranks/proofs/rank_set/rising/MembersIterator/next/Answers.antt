-- There is one rank less to come.
use Rattle.std.proofs.Common.{◌<◌, IfSome, Some, None, Option, ℕ, ap, arith, rules, MatchOption, ◌≡◌}
use Rattle.std.proofs.iter.Next.{firm}
use Rattle.ranks.specs.Ranks.{Ranks, none, without, size, Lowest}
use Rattle.ranks.proofs.Counts.{size_without}
use Rattle.ranks.proofs.rank_set.rising.MembersIterator.next.Goals as goal

fewer : (p q : Ranks) (X : Type 0) (r : Option ℕ) → MatchOption r (p ≡ none) (λ k. Lowest p k × (k < 114)) → MatchOption r X (λ k. q ≡ without p k)
    → IfSome r (λ _. Unit {0} × Unit {0} × (size q < size p))
fewer p q X None empty same = tt
fewer p q X (Some k) low rest = (tt, tt, omega (arith, ap size rest, size_without p k low.1 low.0.has))

pub returns-clause-goes : goal.returns-clause-goes
returns-clause-goes c = firm (fewer _ _ _ c.pop_first.result c.pop_first.ensures.lowest c.pop_first.ensures.rest) (λ h. search rules)
