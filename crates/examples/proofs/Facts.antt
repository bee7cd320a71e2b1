-- What is left to compute of an example, and that it is right then.
use Rattle.std.proofs.Common.{◌≡◌, ℕ, ◌-◌, ◌*◌, ◌/◌, ◌%◌, ◌<◌, ◌≤◌, true, List, [], ◌∷◌, length, ◌∙◌, subst₂}
use Rattle.std.specs.List.{AllByRecursion}
use Rattle.grid.specs.Grid.{IsInterval}
use Rattle.policy.specs.Fronts.{ends_fit}
use Rattle.search.specs.Points.{lower, middle, start_of, upper}
use Rattle.examples.specs.Examples.{Example, Right, box, division, ends_of, entries_of, hull, points, rounds, thirds}
use Rattle.examples.proofs.Boxes.{of_box, thirds_begin}
use Rattle.examples.proofs.Fronts.{Fit, is_front}
use Rattle.examples.proofs.Hulls.{Agree, chooses}

abbrev pub Facts : Example → Type 0
Facts (thirds first t at_low at-middle at_high) =
    IsInterval first t × (t < 19) × (start_of lower first t ≡ at_low) × (start_of middle first t ≡ at-middle) × (start_of upper first t ≡ at_high)
Facts (box n r t long_sides) = (1 ≤ n) × (n ≤ 6) × (r / n ≡ t) × (n - r % n ≡ long_sides)
Facts (points n chosen count) = Right (points n chosen count)
Facts (rounds n k count) = Right (rounds n k count)
Facts (hull n share readings chosen) =
    (1 ≤ n) × (n ≤ 6) × (length readings ≤ 19 * n) × (ends_fit (ends_of readings) ≡ true) × AllByRecursion (Fit (ends_of readings)) readings × AllByRecursion (λ c. c < length readings) chosen
    × Agree share chosen (length readings) n (entries_of readings) (ends_of readings)
Facts (division n centre readings first ranks) = Right (division n centre readings first ranks)

pub by_facts : (x : Example) → Facts x → Right x
by_facts (thirds first t at_low at-middle at_high) (interval, large, l, m, h) =
    (interval, large, λ i parts e k of. let begin = thirds_begin first t i parts e k of in (begin.0 ∙ l, begin.1 ∙ m, begin.2 ∙ h))
by_facts (box n r t long_sides) (some, few, l, s) = subst₂ (λ (x y : ℕ). Right (box n r x y)) l s (of_box n r some few)
by_facts (points n chosen count) h = h
by_facts (rounds n k count) h = h
by_facts (hull n share readings chosen) (some, few, short, ends, fit, below, agree) =
    chooses n share readings chosen (is_front n readings some few short ends fit) below agree
by_facts (division n centre readings first ranks) h = h

pub all_by_facts : (xs : List Example) → AllByRecursion Facts xs → AllByRecursion Right xs
all_by_facts [] h = tt
all_by_facts (x ∷ xs) h = (by_facts x h.0, all_by_facts xs h.1)
