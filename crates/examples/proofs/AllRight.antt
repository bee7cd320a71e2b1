-- Each example is right: what is left of it is computed, in the order of the collection.
use Rattle.std.proofs.Common.{refl, lit<, lit≤}
use native.Mathlib.Decide.{dec_lt, ℕ_discrete}
use Rattle.std.specs.List.{AllByRecursion}
use Rattle.hull.specs.Decide.{chosen?, hull_ranks, not_before?, taken?, yields?}
use Rattle.hull.specs.Values.{margin, size, value}
use Rattle.search.specs.Counts.{points_of}
use Rattle.examples.specs.Examples.{AllRight, examples}
use Rattle.examples.proofs.Divisions.{of_division}
use Rattle.examples.proofs.Facts.{Facts, all_by_facts}

infixr 10 ◌also◌
-- what holds of one and of the others
◌also◌ : {A B : Type 0} → A → B → A × B
a also b = (a, b)

facts : AllByRecursion Facts examples
unfolding points_of hull_ranks chosen? yields? taken? not_before? value size margin dec_lt ℕ_discrete
facts =
    ((lit≤ tt, refl, lit≤ tt), lit< tt, refl, refl, refl)
    also (lit≤ tt, lit≤ tt, refl, refl)
    also (lit≤ tt, lit≤ tt, refl, refl)
    also refl
    also refl
    also refl
    also refl
    also (lit≤ tt, lit≤ tt, lit≤ tt, refl, (refl also refl also refl also tt), (lit< tt also lit< tt also lit< tt also tt), λ _ _ _ _ _ _. (((tt, refl), refl), refl))
    also (lit≤ tt, lit≤ tt, lit≤ tt, refl, (refl also refl also refl also tt), (lit< tt also lit< tt also tt), λ _ _ _ _ _ _. (((tt, refl), refl), refl))
    also (lit≤ tt, lit≤ tt, lit≤ tt, refl, (refl also refl also tt), (lit< tt also lit< tt also tt), λ _ _ _ _ _ _. ((tt, refl), refl))
    also (lit≤ tt, lit≤ tt, lit≤ tt, refl, (refl also refl also tt), (lit< tt also tt), λ _ _ _ _ _ _. ((tt, refl), refl))
    also (lit≤ tt, lit≤ tt, lit≤ tt, refl, (refl also refl also tt), (lit< tt also tt), λ _ _ _ _ _ _. ((tt, refl), refl))
    also of_division 40 70 30 60 (record { ahead = refl; behind = refl }) 50
    also tt

pub all_right : AllRight examples
all_right = all_by_facts examples facts
