-- The points of a set of ranks, as its lowest ranks are taken out.
use Rattle.std.proofs.lemmas.Grind.{common_steps}
use Rattle.std.proofs.Common.{◌≡◌, ℕ, ◌+◌, ◌-◌, ◌*◌, ◌%◌, ◌<◌, ◌≤◌, Bool, true, false, cond, refl, ap, ◌∙◌, arith}
use Rattle.ranks.specs.Ranks.{Ranks, none, without, Lowest}
use Rattle.ranks.proofs.Changes.{without_here, without_other}
use Rattle.table.proofs.Sums.{sum_at, sum_cong, sum_split, sum_zero, sum_under}
use Rattle.search.specs.Counts.{points_below, points_of}

-- the points of rank q
abbrev width : ℕ → Ranks → ℕ → ℕ
width n p q = cond (p q) (2 * (n - q % n)) 0

-- p is q from each of its ranks on
abbrev pub Tail : Ranks → Ranks → Type 0
Tail q p = (k : ℕ) → p k ≡ true → (i : ℕ) → k ≤ i → q i ≡ p i

module _ (n : ℕ) (p : Ranks) (r : ℕ) (w : Lowest p r) where
  taken_below : (top : ℕ) → r < top → points_below n (without p r) top + 2 * (n - r % n) ≡ points_below n p top
  taken_below top l =
      omega (
        arith,
        sum_at top (width n (without p r)) (width n p) r l (λ i _ ne. ap (λ (b : Bool). cond b (2 * (n - i % n)) 0) (without_other p r i ne)),
        ap (λ (b : Bool). cond b (2 * (n - r % n)) 0) (without_here p r),
        ap (λ (b : Bool). cond b (2 * (n - r % n)) 0) w.has,
      )

  -- one rank less
  pub points_less : r < 114 → points_of n (without p r) + 2 * (n - r % n) ≡ points_of n p
  unfolding points_of
  points_less l = taken_below 114 l

  nothing_below : points_below n p r ≡ 0
  nothing_below = sum_zero r (width n p) (λ i l. ap (λ (b : Bool). cond b (2 * (n - i % n)) 0) (w.least i l))

  start_below : (q : Ranks) (top x : ℕ) → Tail q p → r < top → x + points_below n p top ≡ points_below n q top → x ≡ points_below n q r
  start_below q top x tail l e =
      let k : ℕ = top - r in
      let at : r + k ≡ top = omega arith in
      omega (
        arith,
        nothing_below,
        ap (points_below n p) at,
        ap (points_below n q) at,
        sum_split r k (width n p),
        sum_split r k (width n q),
        sum_cong k (λ i. width n q (r + i)) (λ i. width n p (r + i)) (λ i _. ap (λ (b : Bool). cond b (2 * (n - (r + i) % n)) 0) (tail r w.has (r + i) (omega arith))),
      )

  -- the points before those of the lowest rank left
  pub points_before : (q : Ranks) (x : ℕ) → Tail q p → r < 114 → x + points_of n p ≡ points_of n q → x ≡ points_below n q r
  unfolding points_of
  points_before q x tail l e = start_below q 114 x tail l e

  pub tail_less : (q : Ranks) → Tail q p → Tail q (without p r)
  tail_less q tail k h i l = grind (arith, common_steps)

none_below : (n top : ℕ) → points_below n none top ≡ 0
none_below n top = sum_zero top (width n none) (λ i l. refl)

pub points_none : (n : ℕ) (p : Ranks) → p ≡ none → points_of n p ≡ 0
unfolding points_of
points_none n p e = ap (λ q. points_below n q 114) e ∙ none_below n 114

few_width : (n q : ℕ) (b : Bool) → n ≤ 6 → cond b (2 * (n - q % n)) 0 ≤ 12
few_width n q true h = omega arith
few_width n q false h = omega arith

few_below : (n : ℕ) (p : Ranks) (top : ℕ) → n ≤ 6 → points_below n p top ≤ top * 12
few_below n p top h = sum_under top 12 (width n p) (λ i l. few_width n i (p i) h)

pub points_few : (n : ℕ) (p : Ranks) → n ≤ 6 → points_of n p ≤ 1368
unfolding points_of
points_few n p h = few_below n p 114 h

-- the set after its lowest rank was taken out
pub points_next : (n : ℕ) (p p' : Ranks) (r : ℕ) → Lowest p r → r < 114 → p' ≡ without p r → points_of n p' + 2 * (n - r % n) ≡ points_of n p
points_next n p p' r w l e = ap (λ q. points_of n q + 2 * (n - r % n)) e ∙ points_less n p r w l
