-- The numbers of a round's points: each is below their count, and each number below the count is that of one long side.
use Rattle.std.proofs.Common.{◌≡◌, ℕ, zero, suc, ◌+◌, ◌-◌, ◌*◌, ◌/◌, ◌%◌, ◌<◌, ◌≤◌, Bool, cond, T, ◌⊎◌, List, sym, ap, ◌∙◌, subst, inl, inr, arith}
use Rattle.std.proofs.lemmas.Bool.{cases_eq, cases_lt}
use Rattle.ranks.specs.Ranks.{Ranks, ranks}
use Rattle.ranks.proofs.Sets.{member_bound}
use Rattle.table.specs.Boxes.{First, Long}
use Rattle.table.specs.Rows.{rank, row_at}
use Rattle.table.specs.Sums.{bit}
use Rattle.table.specs.declared.rows.Row.{Row}
use Rattle.table.proofs.Chains.{size}
use Rattle.table.proofs.Sums.{bit_no, bit_yes, no_is, sum_fits, test, yes_is}
use Rattle.search.specs.Calls.{OwnRound}
use Rattle.search.specs.Counts.{points_below, points_of}
use Rattle.search.specs.Points.{IsPoint, Side, Taken, high, is_long, low, point_at}
use Rattle.search.specs.declared.states.Round.{Round}
use Rattle.search.proofs.Firsts.{first_unique, some_first}
use Rattle.search.proofs.Levels.{Near, long_is, long_yes, longs, near_own}

pub chosen_bound : (round : Round) (r : ℕ) → T (ranks round.chosen r) → r < 114
chosen_bound round r t = member_bound round.chosen r (yes_is _ t)

-- the points of the chosen rank r end before those of higher ranks
points_fit : (n : ℕ) (p : Ranks) (r top : ℕ) → T (p r) → r < top → points_below n p r + 2 * (n - r % n) ≤ points_below n p top
points_fit n p r top t l =
    omega (
      arith,
      sum_fits top (λ q. cond (p q) (2 * (n - q % n)) 0) r l,
      ap (λ (x : Bool). cond x (2 * (n - r % n)) 0) (yes_is (p r) t),
    )

-- the rank to which a point belongs, and its number among the points of the rank
rank_of : (n : ℕ) (p : Ranks) (top m : ℕ) → m < points_below n p top
    → (r : ℕ) × (r < top) × T (p r) × ((k : ℕ) × (k < 2 * (n - r % n)) × (m ≡ points_below n p r + k))
rank_of n p zero m l = absurd (omega arith)
rank_of n p (suc top) m l =
    elim (cases_lt m (points_below n p top)) [
      | inl a ↦ let f = rank_of n p top m a in (f.0, omega (arith, f.1), f.2, f.3)
      | inr a ↦ elim (test (p top)) [
        | inl t ↦ (
          top,
          omega arith,
          t,
          (m - points_below n p top, omega (arith, ap (λ (x : Bool). cond x (2 * (n - top % n)) 0) (yes_is (p top) t)), omega arith),
        )
        | inr t ↦ absurd (omega (arith, ap (λ (x : Bool). cond x (2 * (n - top % n)) 0) (no_is (p top) t)))
      ]
    ]

-- the member of a set with m members below it
member_of : (n : ℕ) (L : ℕ → Bool) (m : ℕ) → m < size n L → (d : ℕ) × (d < n) × T (L d) × (size d L ≡ m)
member_of zero L m l = absurd (omega arith)
member_of (suc n) L m l =
    elim (cases_lt m (size n L)) [
      | inl a ↦ let f = member_of n L m a in (f.0, omega (arith, f.1), f.2, f.3)
      | inr a ↦ elim (test (L n)) [
        | inl t ↦ (n, omega arith, t, omega (arith, bit_yes (L n) t))
        | inr t ↦ absurd (omega (arith, bit_no (L n) t))
      ]
    ]

module _ (round : Round) (table : List Row) (own : OwnRound round table) where
  abbrev n : ℕ
  n = round.shape.n

  pub near_row : (j : ℕ) → j < round.boxes → Near n (row_at table j)
  near_row j l = near_own n round.shape.finest (row_at table j) round.shape.few (own.own.each j l).directions

  -- each chosen rank has a taken box
  pub box_taken : (r : ℕ) → T (ranks round.chosen r) → (j : ℕ) × Taken round table r j
  box_taken r t =
      let box = own.boxes r t in
      let f = some_first n round.shape.finest round.boxes table r own.own box.0 box.1 in
      (f.0, record { in_set = t; first = f.1 })

  -- a box is taken, for its rank, or is not
  pub taken? : (j : ℕ) → ((r : ℕ) × Taken round table r j) ⊎ ((r : ℕ) → Taken round table r j → ⊥)
  taken? j =
      let r : ℕ = rank n (row_at table j) in
      elim (test (ranks round.chosen r)) [
        | inl t ↦
            let box = box_taken r t in
            elim (cases_eq box.0 j) [
              | inl e ↦ inl (r, subst (Taken round table r) e box.1)
              | inr x ↦ inr (λ q y. x (first_unique n round.shape.finest round.boxes table r box.0 j box.1.first
                  (subst (λ z. First n round.shape.finest round.boxes table z j) (sym y.first.1.0.box.ranked) y.first)))
            ]
        | inr t ↦ inr (λ q y. t (subst (λ z. T (ranks round.chosen z)) (sym y.first.1.0.box.ranked) y.in_set))
      ]

  -- the box taken for a rank has a long side for each two points of the rank
  pub long_sides : (r j : ℕ) → Taken round table r j → size n (is_long n (row_at table j)) ≡ n - r % n
  long_sides r j t =
      let box = t.first.1.0.box in
      longs n (row_at table j) round.shape.some (near_row j box.within) ∙ ap (λ (x : ℕ). n - x % n) box.ranked

  module _ (top : ℕ) where
    pub number_below : (r j d : ℕ) (s : Side) → Taken round table r j → r < top → Long n (row_at table j) d
        → point_at round r (row_at table j) d s < points_below n (ranks round.chosen) top
    number_below r j d s t b l = side s
      where
        many : size d (is_long n (row_at table j)) + 1 ≤ n - r % n
        many = omega (
          arith,
          sum_fits n (λ e. bit (is_long n (row_at table j) e)) d l.direction,
          bit_yes (is_long n (row_at table j) d) (long_yes n (row_at table j) round.shape.some d l),
          long_sides r j t,
        )

        side : (s : Side) → point_at round r (row_at table j) d s < points_below n (ranks round.chosen) top
        side low = omega (arith, points_fit n (ranks round.chosen) r top t.in_set b, many)
        side high = omega (arith, points_fit n (ranks round.chosen) r top t.in_set b, many)

    side_of_point : (p : ℕ) → p < points_below n (ranks round.chosen) top → (r : ℕ) × (j : ℕ) × (d : ℕ) × (s : Side) × IsPoint round table p r j d s
    side_of_point p l =
        let f = rank_of n (ranks round.chosen) top p l in
        let r : ℕ = f.0 in
        let k : ℕ = f.3.0 in
        let box = box_taken r f.2 in
        let j : ℕ = box.0 in
        let g = member_of n (is_long n (row_at table j)) (k / 2) (omega (arith, f.3.1, long_sides r j box.1)) in
        let long : Long n (row_at table j) g.0 = long_is n (row_at table j) round.shape.some g.0 g.1 g.2 in
        elim (cases_eq (k % 2) 0) [
          | inl e ↦ (r, j, g.0, low, record { taken = box.1; long = long; number = omega (arith, f.3.2, g.3) })
          | inr e ↦ (r, j, g.0, high, record { taken = box.1; long = long; number = omega (arith, f.3.2, g.3) })
        ]

  pub point_bound : (r j d : ℕ) (s : Side) → Taken round table r j → Long n (row_at table j) d → point_at round r (row_at table j) d s < round.points
  unfolding points_of
  point_bound r j d s t l =
      subst (λ (x : ℕ). point_at round r (row_at table j) d s < x) (sym round.counted) (number_below 114 r j d s t (chosen_bound round r t.in_set) l)

  pub point_of : (p : ℕ) → p < round.points → (r : ℕ) × (j : ℕ) × (d : ℕ) × (s : Side) × IsPoint round table p r j d s
  unfolding points_of
  point_of p l = side_of_point 114 p (subst (λ (x : ℕ). p < x) round.counted l)
