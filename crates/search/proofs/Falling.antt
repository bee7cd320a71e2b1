-- Closing a round lowers the sum of the rounds that the boxes can still take.
use Rattle.std.proofs.lemmas.Grind.{common_steps}
use Rattle.std.proofs.Common.{◌≡◌, ℕ, zero, suc, ◌+◌, ◌-◌, ◌*◌, ◌/◌, ◌%◌, ◌<◌, ◌≤◌, Bool, cond, ◌&&◌, T, ltb, ◌≢◌, List, sym, refl, ap, ◌∙◌, subst, inl, inr, add-zero, add_assoc, mod-lt, add-mul, one-mul, div-add-mod', arith, lt→ltb}
use Rattle.std.proofs.lemmas.Bool.{cases_eq, cases_lt, le-ltb, lt-ltb}
use Rattle.ranks.specs.Ranks.{ranks}
use Rattle.table.specs.Rows.{rank, row_at}
use Rattle.table.specs.Sums.{bit, sum}
use Rattle.table.specs.declared.rows.Row.{Row}
use Rattle.table.proofs.Chains.{Strict, place, places, size}
use Rattle.table.proofs.Orders.{by_answer}
use Rattle.table.proofs.Sums.{bit_no, bit_yes, both, both_left, no_is, sum_add, sum_at, sum_cong, sum_split, sum_term, sum_zero, test, yes_is}
use Rattle.search.specs.Calls.{CutAll, OwnRound}
use Rattle.search.specs.Counts.{points_below, points_of}
use Rattle.search.specs.Points.{IsPoint, Side, Taken, cut_before, high, is_long, low, w_of}
use Rattle.search.specs.declared.states.Round.{Round}
use Rattle.search.proofs.Firsts.{first_unique}
use Rattle.search.proofs.Levels.{given_rank, kept_rank, long_is}
use Rattle.search.proofs.Places.{box_taken, chosen_bound, long_sides, near_row}
use Rattle.search.proofs.Weights.{done, spread, v}

-- two numbers for each member of a set
pair_sum : (n : ℕ) (L : ℕ → Bool) (g : ℕ → ℕ)
    → sum (2 * size n L) g ≡ sum n (λ d. cond (L d) (g (2 * size d L) + g (2 * size d L + 1)) 0)
pair_sum zero L g = refl
pair_sum (suc n) L g =
    elim (test (L n)) [
      | inl t ↦
          let e : 2 * size (suc n) L ≡ suc (suc (2 * size n L)) = omega (arith, bit_yes (L n) t) in
          let f : suc (2 * size n L) ≡ 2 * size n L + 1 = omega arith in
          omega (
            arith,
            ap (λ x. sum x g) e,
            pair_sum n L g,
            ap g f,
            ap (λ x. cond x (g (2 * size n L) + g (2 * size n L + 1)) 0) (yes_is (L n) t),
          )
      | inr t ↦
          let e : 2 * size (suc n) L ≡ 2 * size n L = omega (arith, bit_no (L n) t) in
          omega (
            arith,
            ap (λ x. sum x g) e,
            pair_sum n L g,
            ap (λ x. cond x (g (2 * size n L) + g (2 * size n L + 1)) 0) (no_is (L n) t),
          )
    ]

-- the rounds that the box of row i can still take until level k
abbrev pub weight : ℕ → ℕ → List Row → ℕ → ℕ
weight n k table i = v n (k * n - rank n (row_at table i))

module _ (round : Round) (table after : List Row) (own : OwnRound round table) (cut : CutAll round table after) (K : ℕ) where
  abbrev n : ℕ
  n = round.shape.n

  some : 1 ≤ n
  some = round.shape.some

  six : n ≤ 6
  six = round.shape.few

  abbrev chosen : ℕ → Bool
  chosen = ranks round.chosen

  -- the parts of the box taken for rank r
  module _ (r j : ℕ) (t : Taken round table r j) where
    sooner : ℕ → ℕ → Bool
    sooner d e = cut_before round table r j d e

    strict : Strict sooner
    unfolding sooner
    strict = by_answer (w_of round table r j)

    kept_weight : weight n K after j ≡ v n (K * n - (r / n + 1) * n)
    kept_weight =
        ap (λ x. v n (K * n - x))
        (kept_rank n (row_at table j) (row_at after j) some six (near_row round table own j t.first.1.0.box.within) (cut.taken r j t)
        ∙ ap (λ x. (x / n + 1) * n) t.first.1.0.box.ranked)

    new_weight : (p d : ℕ) (s : Side) → IsPoint round table p r j d s
        → weight n K after (round.boxes + p)
        ≡ v n (K * n - (r + 1 + place sooner n (is_long n (row_at table j)) d))
    unfolding sooner
    new_weight p d s q =
        ap (λ x. v n (K * n - x))
        (given_rank n (row_at table j) (row_at after (round.boxes + p)) some six (near_row round table own j t.first.1.0.box.within) d s
        (λ e. cut_before round table r j e d) q.long (cut.given p r j d s q) (strict.irrefl d)
        ∙ ap (λ x. x + 1 + place (cut_before round table r j) n (is_long n (row_at table j)) d) t.first.1.0.box.ranked)

    parts_weight : sum (2 * (n - r % n)) (λ i. weight n K after (round.boxes + (points_below n chosen r + i)))
        ≡ 2 * sum (n - r % n) (λ i. v n (K * n - (r + 1 + i)))
    parts_weight =
        let L : ℕ → Bool = is_long n (row_at table j) in
        let m : ℕ = n - r % n in
        let f : ℕ → ℕ = λ i. v n (K * n - (r + 1 + i)) in
        let base : ℕ = points_below n chosen r in
        let g : ℕ → ℕ = λ i. weight n K after (round.boxes + (base + i)) in
        let many : size n L ≡ m = long_sides round table own r j t in
        let each : (d : ℕ) → d < n → cond (L d) (g (2 * size d L) + g (2 * size d L + 1)) 0 ≡ cond (L d) (f (place sooner n L d) + f (place sooner n L d)) 0 =
        λ d l. elim (test (L d)) [
          | inl y ↦
              let long = long_is n (row_at table j) some d l y in
              let one : g (2 * size d L) ≡ f (place sooner n L d) = new_weight (base + 2 * size d L) d low (record { taken = t; long = long; number = refl }) in
              let two : g (2 * size d L + 1) ≡ f (place sooner n L d) =
              ap (λ x. weight n K after (round.boxes + x)) (sym (add_assoc base (2 * size d L) 1))
              ∙ new_weight (base + 2 * size d L + 1) d high (record { taken = t; long = long; number = refl }) in
              ap (λ x. cond (L d) x 0) (omega (arith, one, two))
          | inr y ↦ ap (λ x. cond x (g (2 * size d L) + g (2 * size d L + 1)) 0) (no_is (L d) y)
              ∙ sym (ap (λ x. cond x (f (place sooner n L d) + f (place sooner n L d)) 0) (no_is (L d) y))
        ] in
        ap (λ x. sum (2 * x) g) (sym many)
        ∙ pair_sum n L g
        ∙ sum_cong n (λ d. cond (L d) (g (2 * size d L) + g (2 * size d L + 1)) 0) (λ d. cond (L d) (f (place sooner n L d) + f (place sooner n L d)) 0) each
        ∙ places sooner strict n m L (λ i. f i + f i) many
        ∙ sum_add m f f
        ∙ omega arith

    -- what the box could take, less one round if that was below level K
    split : weight n K table j
        ≡ bit (ltb r (K * n)) + weight n K after j + 2 * sum (n - r % n) (λ i. v n (K * n - (r + 1 + i)))
    split =
        let here : weight n K table j ≡ v n (K * n - r) = ap (λ x. v n (K * n - x)) t.first.1.0.box.ranked in
        elim (cases_lt r (K * n)) [
          | inl l ↦ omega (arith, here, spread n K r some l, kept_weight, ap bit (lt-ltb r (K * n) l))
          | inr l ↦
              let more : K * n ≤ (r / n + 1) * n = omega (arith, div-add-mod' r n, mod-lt r some, add-mul (r / n) 1 n, one-mul n) in
              omega (
                arith,
                here,
                done n K r l,
                kept_weight,
                done n K ((r / n + 1) * n) more,
                ap bit (le-ltb r (K * n) l),
                sum_zero (n - r % n) (λ i. v n (K * n - (r + 1 + i))) (λ i h. done n K (r + 1 + i) (omega arith)),
              )
        ]

  -- row i counts as it is after the close, if its rank was below r
  mixed : ℕ → ℕ → ℕ
  mixed r i = cond (ltb (rank n (row_at table i)) r) (weight n K after i) (weight n K table i)

  mixed_sum : ℕ → ℕ
  mixed_sum r = sum round.boxes (mixed r) + sum (points_below n chosen r) (λ p. weight n K after (round.boxes + p))

  mixed_other : (r i : ℕ) → rank n (row_at table i) ≢ r → mixed (suc r) i ≡ mixed r i
  unfolding mixed
  mixed_other r i x = grind (arith, common_steps)

  mixed_new : (r i : ℕ) → rank n (row_at table i) < r → mixed r i ≡ weight n K after i
  unfolding mixed
  mixed_new r i l = ap (λ y. cond y (weight n K after i) (weight n K table i)) (lt-ltb (rank n (row_at table i)) r l)

  mixed_old : (r i : ℕ) → r ≤ rank n (row_at table i) → mixed r i ≡ weight n K table i
  unfolding mixed
  mixed_old r i l = ap (λ y. cond y (weight n K after i) (weight n K table i)) (le-ltb (rank n (row_at table i)) r l)

  same_weight : (i : ℕ) → i < round.boxes → ((r : ℕ) → Taken round table r i → ⊥)
      → weight n K after i ≡ weight n K table i
  same_weight i l x = ap (λ y. v n (K * n - rank n y)) (cut.others i l x)

  not_taken : (r i : ℕ) → rank n (row_at table i) ≡ r → ((t : Taken round table r i) → ⊥)
      → (q : ℕ) → Taken round table q i → ⊥
  not_taken r i e x q t = x (subst (λ z. Taken round table z i) (sym t.first.1.0.box.ranked ∙ e) t)

  -- a row of rank r that is not taken counts the same
  mixed_same : (r i : ℕ) → i < round.boxes → (Taken round table r i → ⊥) → mixed (suc r) i ≡ mixed r i
  mixed_same r i l x =
      elim (cases_eq (rank n (row_at table i)) r) [
        | inl e ↦ mixed_new (suc r) i (omega arith) ∙ same_weight i l (not_taken r i e x) ∙ sym (mixed_old r i (omega arith))
        | inr y ↦ mixed_other r i y
      ]

  fallen : ℕ → Bool
  fallen q = chosen q && ltb q (K * n)

  step : (r : ℕ) → mixed_sum (suc r) + bit (fallen r) ≡ mixed_sum r
  unfolding mixed_sum fallen
  step r =
      elim (test (chosen r)) [
        | inl c ↦
            let f = box_taken round table own r c in
            let box = f.1.first.1.0.box in
            let many : points_below n chosen (suc r) ≡ points_below n chosen r + 2 * (n - r % n) =
            omega (arith, ap (λ x. cond x (2 * (n - r % n)) 0) (yes_is (chosen r) c)) in
            omega (
              arith,
              sum_at round.boxes (mixed (suc r)) (mixed r) f.0 box.within
                  (λ i l x. mixed_same r i l (λ u. x (first_unique n round.shape.finest round.boxes table r i f.0 u.first f.1.first))),
              mixed_new (suc r) f.0 (omega (arith, box.ranked)),
              mixed_old r f.0 (omega (arith, box.ranked)),
              ap (λ x. sum x (λ p. weight n K after (round.boxes + p))) many
                  ∙ sum_split (points_below n chosen r) (2 * (n - r % n)) (λ p. weight n K after (round.boxes + p)),
              parts_weight r f.0 f.1,
              split r f.0 f.1,
              ap (λ x. bit (x && ltb r (K * n))) (yes_is (chosen r) c),
            )
        | inr c ↦
            let none : points_below n chosen (suc r) ≡ points_below n chosen r =
            omega (arith, ap (λ x. cond x (2 * (n - r % n)) 0) (no_is (chosen r) c)) in
            omega (
              arith,
              bit_no (chosen r && ltb r (K * n)) (λ y. c (both_left (chosen r) (ltb r (K * n)) y)),
              ap (λ x. sum x (λ p. weight n K after (round.boxes + p))) none,
              sum_cong round.boxes (mixed (suc r)) (mixed r) (λ i l. mixed_same r i l (λ t. c t.in_set)),
            )
      ]

  dropped : (r : ℕ) → mixed_sum r + sum r (λ q. bit (fallen q)) ≡ mixed_sum 0
  dropped zero = add-zero (mixed_sum 0)
  dropped (suc r) = omega (arith, step r, dropped r)

  start_sum : mixed_sum 0 ≡ sum round.boxes (weight n K table)
  unfolding mixed_sum
  start_sum = add-zero (sum round.boxes (mixed 0)) ∙ sum_cong round.boxes (mixed 0) (weight n K table) (λ i l. mixed_old 0 i (omega arith))

  end_sum : (top : ℕ) → 114 ≤ top → round.points ≡ points_below n chosen top
      → mixed_sum top ≡ sum (round.boxes + round.points) (weight n K after)
  unfolding mixed_sum
  end_sum top h e =
      omega (
        arith,
        sum_split round.boxes round.points (weight n K after),
        ap (λ x. sum x (λ p. weight n K after (round.boxes + p))) e,
        sum_cong round.boxes (mixed top) (weight n K after)
            (λ i l. elim (cases_lt (rank n (row_at table i)) top) [
              | inl a ↦ mixed_new top i a
              | inr a ↦ mixed_old top i a ∙ sym (same_weight i l (λ q t. absurd (omega (arith, chosen_bound round q t.in_set, t.first.1.0.box.ranked))))
            ]),
      )

  falls_to : (top : ℕ) → 114 ≤ top → round.points ≡ points_below n chosen top
      → sum (round.boxes + round.points) (weight n K after) + sum top (λ q. bit (fallen q)) ≡ sum round.boxes (weight n K table)
  falls_to top h e = omega (arith, end_sum top h e, start_sum, dropped top)

  falls_by : (top c : ℕ) → 114 ≤ top → round.points ≡ points_below n chosen top → c < top → T (chosen c) → c < K * n
      → sum (round.boxes + round.points) (weight n K after) < sum round.boxes (weight n K table)
  unfolding fallen
  falls_by top c h e l t b =
      omega (
        arith,
        falls_to top h e,
        sum_term top (λ q. bit (fallen q)) c l,
        bit_yes (chosen c && ltb c (K * n)) (both (chosen c) (ltb c (K * n)) t (lt→ltb c (K * n) b)),
      )

  falls_least : (top : ℕ) → 114 ≤ top → round.points ≡ points_below n chosen top
      → sum (round.boxes + round.points) (weight n K after) ≤ sum round.boxes (weight n K table)
  falls_least top h e = omega (arith, falls_to top h e)

  pub never_rises : sum (round.boxes + round.points) (weight n K after) ≤ sum round.boxes (weight n K table)
  unfolding points_of
  never_rises = falls_least 114 (omega arith) round.counted

  pub falls : (c : ℕ) → T (chosen c) → c < K * n
      → sum (round.boxes + round.points) (weight n K after) < sum round.boxes (weight n K table)
  unfolding points_of
  falls c t b = falls_by 114 c (omega arith) round.counted (chosen_bound round c t) t b
