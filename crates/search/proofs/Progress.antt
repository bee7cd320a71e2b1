-- The filled ranks of a front are those of boxes that can be cut, and the largest of these are chosen.
use Rattle.std.proofs.Common.{◌≡◌, ℕ, zero, suc, ◌*◌, ◌/◌, ◌<◌, ◌≤◌, true, ◌≢◌, ◌⊎◌, List, is_some, Some, None, Option, sym, refl, ap, ◌∙◌, subst, inl, inr, mul-le-mul_right, mul_comm, div-lt_iff_lt-mul, arith}
use Rattle.std.proofs.lemmas.Bool.{true≢false, cases_eq, cases_lt}
use Rattle.order.specs.declared.records.Candidate.{Candidate}
use Rattle.policy.specs.Levels.{filled}
use Rattle.policy.specs.Rules.{ReachesLargest}
use Rattle.policy.specs.declared.front.Front.{Front}
use Rattle.policy.specs.Filled.{filled_end}
use Rattle.ranks.specs.Ranks.{Ranks}
use Rattle.ranks.proofs.Lowest.{least_of}
use Rattle.table.specs.Boxes.{FirstOfRank, OfRank, Offered, Own}
use Rattle.table.specs.Fronts.{FrontOf, answer_in}
use Rattle.table.specs.Rows.{rank, row_at}
use Rattle.table.specs.Sums.{sum}
use Rattle.table.specs.declared.rows.Row.{Row}
use Rattle.table.proofs.FirstBoxes.{rank_bound}
use Rattle.search.proofs.Falling.{weight}
use Rattle.search.proofs.Firsts.{some_first}
use Rattle.search.proofs.Weights.{done}

pub sum_some : (n : ℕ) (f : ℕ → ℕ) → sum n f ≢ 0 → (i : ℕ) × (i < n) × (f i ≢ 0)
sum_some zero f h = absurd (h refl)
sum_some (suc n) f h =
    elim (cases_eq (f n) 0) [
      | inl e ↦ let s = sum_some n f (λ x. h (omega arith)) in (s.0, omega (arith, s.1), s.2)
      | inr x ↦ (n, omega arith, x)
    ]

module _ (n finest boxes : ℕ) (table : List Row) where
  some_candidate : (r : ℕ) (o : Option Candidate) (c : Candidate) → FirstOfRank n finest boxes table r o → Offered n finest boxes table r c → is_some (answer_in o) ≡ true
  some_candidate r None c f h = absurd (f c h)
  some_candidate r (Some b) c f h = refl

  candidate_box : (r : ℕ) (o : Option Candidate) → FirstOfRank n finest boxes table r o → is_some (answer_in o) ≡ true → (j : ℕ) × OfRank n finest boxes table r j
  candidate_box r None f h = absurd (true≢false (sym h))
  candidate_box r (Some c) f h = (c.row, f.0.box)

  module _ (front : Front) (of : FrontOf n finest boxes table front) where
    pub filled_box : (r : ℕ) → filled front r ≡ true → (j : ℕ) × OfRank n finest boxes table r j
    unfolding filled
    filled_box r h =
        let bound : r < 114 = elim (cases_lt r 114) [ inl l ↦ l | inr l ↦ absurd (true≢false (sym h ∙ filled_end front r l)) ] in
        let e = of.entries r bound in
        candidate_box r e.0 e.1 (sym (ap is_some e.2) ∙ h)

    module _ (some : 1 ≤ n) (six : n ≤ 6) (fine : finest ≤ 19) (own : Own n finest boxes table) where
      pub box_filled : (r j : ℕ) → OfRank n finest boxes table r j → filled front r ≡ true
      unfolding filled
      box_filled r j o =
          let e = of.entries r (rank_bound n finest r six fine o.unfinished) in
          let f = some_first n finest boxes table r own j o in
          ap is_some e.2 ∙ some_candidate r e.0 _ e.1 f.1.1.0

      -- while a box has a level below k, a rank of such a level is chosen
      pub low_chosen : (chosen : Ranks) → ReachesLargest front chosen → (k : ℕ) → k ≤ finest
          → (sum boxes (weight n k table) ≡ 0) ⊎ ((c : ℕ) × (chosen c ≡ true) × (c < k * n))
      low_chosen chosen reaches k most =
          elim (cases_eq (sum boxes (weight n k table)) 0) [
            | inl e ↦ inl e
            | inr x ↦
                let i = sum_some boxes (weight n k table) x in
                let r : ℕ = rank n (row_at table i.0) in
                let small : r < k * n = elim (cases_lt r (k * n)) [ inl y ↦ y | inr y ↦ absurd (i.2 (done n k r y)) ] in
                let unfinished : r < n * finest = omega (arith, mul-le-mul_right n most, mul_comm finest n) in
                let q = least_of (filled front) r (box_filled r i.0 (record { within = i.1; ranked = refl; unfinished = unfinished })) in
                let c = reaches q.0 q.1 in
                let same_level : c.0 / n ≡ q.0 / n = subst (λ (y : ℕ). c.0 / y ≡ q.0 / y) of.directions c.2 in
                let level : q.0 / n < k = (div-lt_iff_lt-mul {k = n} {x = q.0} {y = k} some).1 (omega (arith, q.2)) in
                inr (c.0, c.1, (div-lt_iff_lt-mul {k = n} {x = c.0} {y = k} some).0 (omega arith))
          ]
