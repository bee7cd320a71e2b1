-- The points of the chosen ranks, and the boxes that they are of.
use Rattle.std.proofs.Common.{◌≡◌, ℕ, ◌-◌, ◌*◌, ◌%◌, ◌<◌, ◌≤◌, Bool, true, cond, ◌≢◌, List, sym, ap, ◌∙◌, inl, inr, mod-lt, arith}
use Rattle.std.proofs.lemmas.Bool.{true≢false, cases_lt}
use Rattle.policy.specs.Filled.{filled_end}
use Rattle.policy.specs.Levels.{filled}
use Rattle.policy.specs.Rules.{OnlyFilled, ReachesLargest}
use Rattle.policy.specs.declared.front.Front.{Front}
use Rattle.ranks.proofs.Lowest.{least_of}
use Rattle.ranks.specs.Ranks.{Ranks}
use Rattle.table.proofs.Sums.{no_is, sum_term, test, yes_is}
use Rattle.table.specs.Boxes.{OfRank, Own}
use Rattle.table.specs.Fronts.{FrontOf}
use Rattle.table.specs.declared.rows.Row.{Row}
use Rattle.search.specs.Counts.{points_below, points_of}
use Rattle.search.proofs.Progress.{box_filled, filled_box, sum_some}

-- a chosen rank has points
term : (n top : ℕ) (p : Ranks) (c : ℕ) → 1 ≤ n → c < top → p c ≡ true → 2 ≤ points_below n p top
term n top p c some l t =
    omega (arith, mod-lt c some, sum_term top (λ k. cond (p k) (2 * (n - k % n)) 0) c l, ap (λ (x : Bool). cond x (2 * (n - c % n)) 0) t)

module _ (n finest boxes : ℕ) (table : List Row) (front : Front) (p : Ranks) (some : 1 ≤ n) (six : n ≤ 6) (fine : finest ≤ 19)
    (own : Own n finest boxes table) (of : FrontOf n finest boxes table front) (sound : OnlyFilled front p) where
  bounded : (r : ℕ) → filled front r ≡ true → r < 114
  bounded r h = elim (cases_lt r 114) [ inl l ↦ l | inr g ↦ absurd (true≢false (sym h ∙ filled_end front r g)) ]

  -- where some box can be cut, there are points
  pub some_points : ReachesLargest front p → (r : ℕ) × (j : ℕ) × OfRank n finest boxes table r j → 2 ≤ points_of n p
  unfolding points_of
  some_points reaches b =
      let low = least_of (filled front) b.0 (box_filled n finest boxes table front of some six fine own b.0 b.1 b.2) in
      let c = reaches low.0 low.1 in
      term n 114 p c.0 some (bounded c.0 (sound c.0 c.1)) c.1

  -- where there are points, some box can be cut
  pub points_box : points_of n p ≢ 0 → (r : ℕ) × (j : ℕ) × OfRank n finest boxes table r j
  unfolding points_of
  points_box h =
      let i = sum_some 114 (λ k. cond (p k) (2 * (n - k % n)) 0) h in
      elim (test (p i.0)) [
        | inl t ↦ let b = filled_box n finest boxes table front of i.0 (sound i.0 (yes_is (p i.0) t)) in (i.0, b.0, b.1)
        | inr t ↦ absurd (i.2 (ap (λ (x : Bool). cond x (2 * (n - i.0 % n)) 0) (no_is (p i.0) t)))
      ]
