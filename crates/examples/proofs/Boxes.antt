-- Where thirds begin, and what the rank of a box says of its sides.
use Rattle.std.proofs.Common.{◌≡◌, ℕ, ◌-◌, ◌/◌, ◌%◌, ◌≤◌, ap, ◌∙◌, ap₂}
use Rattle.grid.specs.Thirds.{ThirdsOf}
use Rattle.grid.specs.declared.interval.Interval.{Interval}
use Rattle.grid.specs.declared.interval.cut.Thirds.{Thirds}
use Rattle.search.proofs.Levels.{longs, near_own}
use Rattle.search.specs.Points.{lower, middle, start_of, upper}
use Rattle.examples.specs.Examples.{Right, box}

-- where the thirds of an interval begin
pub thirds_begin : (first t : ℕ) (i : Interval) (parts : Thirds) → i.first ≡ first → i.level ≡ t → ThirdsOf i parts
    → (parts.low.first ≡ start_of lower first t) × (parts.middle.first ≡ start_of middle first t) × (parts.high.first ≡ start_of upper first t)
thirds_begin first t i parts e l p = (p.low_first ∙ e, p.middle_first ∙ ap₂ (start_of middle) e l, p.high_first ∙ ap₂ (start_of upper) e l)

-- the level and the long sides of a box, by its rank
pub of_box : (n r : ℕ) → 1 ≤ n → n ≤ 6 → Right (box n r (r / n) (n - r % n))
of_box n r some few = (
  λ f e. ap (λ (m : ℕ). r / m) e,
  λ finest row b e. (
    longs n row some (near_own n finest row few b.directions) ∙ ap (λ (m : ℕ). n - m % n) e,
    λ d long. long.level ∙ ap (λ (m : ℕ). m / n) e,
  ),
)
