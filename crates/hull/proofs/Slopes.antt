-- The three conditions hold exactly where some slope makes a rank potentially optimal.
use Rattle.std.specs.Prelude.{true, ◌≡◌, ℕ, suc, ◌+◌, ◌-◌, ◌*◌, ◌<◌, ◌≤◌, ◌⊎◌, ◌↔◌, ℤ, pos, ◌+ℤ◌, ◌-ℤ◌, ◌*ℤ◌, ◌≤ℤ◌, unsigned_abs}
use Rattle.std.proofs.Common.{sym, subst, inl, inr, ⊎_elim, mul_right_comm, mul-le-mul_right, le_of_mul-le-mul_right, arith}
use Rattle.std.proofs.Math.Decide.{dec_lt}
use Rattle.std.specs.Int.Signed.{≤ℤ_refl}
use Rattle.std.proofs.lemmas.Bool.{cases_lt, cases_order}
use Rattle.policy.specs.Levels.{level}
use Rattle.policy.specs.declared.front.Front.{Front}
use Rattle.hull.specs.Chosen.{hull_conditions}
use Rattle.hull.specs.Decide.{both?, hull_ranks, taken?}
use Rattle.hull.specs.Optimal.{BySlope, Chosen, Optimal, Taken, Yields}
use Rattle.hull.specs.Values.{least, margin, size, value}
use Rattle.hull.specs.Minimum.{bound_of, minimum}
use Rattle.hull.proofs.Products.{cross, fall_in, fall_out, rise_in, rise_out, under_in, under_out, rise_less, steep, gap, gap_some, turn, turn_left, turn_up, flip}
use Rattle.hull.specs.Takes.{taken_below, taken_one, size_more, size_some}

-- fractions a k / b k go by their cross products
module _ (P : ℕ → Type 0) (a b : ℕ → ℕ) (some : (k : ℕ) → P k → 0 < b k) where
  abbrev pub Below : ℕ → ℕ → Type 0
  Below i k = a i * b k ≤ a k * b i

  pub below_either : (i k : ℕ) → P i → P k → Below i k ⊎ Below k i
  below_either i k p q = ⊎_elim (λ l. inl (omega arith)) (λ g. inr g) (cases_lt (a i * b k) (a k * b i))

  pub below_chain : (i k m : ℕ) → P i → P k → P m → Below i k → Below k m → Below i m
  below_chain i k m p q r h l =
      let x : a i * b k * b m ≤ a k * b i * b m = mul-le-mul_right (b m) h in
      let y : a k * b m * b i ≤ a m * b k * b i = mul-le-mul_right (b i) l in
      let e1 : a i * b m * b k ≡ a i * b k * b m = mul_right_comm (a i) (b m) (b k) in
      let e2 : a k * b i * b m ≡ a k * b m * b i = mul_right_comm (a k) (b i) (b m) in
      let e3 : a m * b i * b k ≡ a m * b k * b i = mul_right_comm (a m) (b i) (b k) in
      let z : a i * b m * b k ≤ a m * b i * b k = omega arith in
      le_of_mul-le-mul_right z (some k q)

module _ (e : ℕ) (f : Front) (j : ℕ) (t : Taken f j) where
  -- what a slope asks of the larger and of the smaller sizes it asks of all
  all_sizes : (p q : ℕ)
      → ((i : ℕ) → Taken f i → level f i < level f j → pos (p * (size f i - size f j)) ≤ℤ (pos q *ℤ (value f i -ℤ value f j)))
      → ((s : ℕ) → Taken f s → level f j < level f s → (pos q *ℤ (value f j -ℤ value f s)) ≤ℤ pos (p * (size f j - size f s)))
      → (s : ℕ) → Taken f s → (pos q *ℤ value f j -ℤ pos (p * size f j)) ≤ℤ (pos q *ℤ value f s -ℤ pos (p * size f s))
  all_sizes p q larger smaller s u = go (cases_order (level f s) (level f j))
    where
      Goal : ℕ → Type 0
      Goal k = (pos q *ℤ value f j -ℤ pos (p * size f j)) ≤ℤ (pos q *ℤ value f k -ℤ pos (p * size f k))

      go : (level f s ≡ level f j) ⊎ ((level f s < level f j) ⊎ (level f j < level f s)) → Goal s
      go (inl same) = subst Goal (sym (taken_one f j s t u same)) (≤ℤ_refl (pos q *ℤ value f j -ℤ pos (p * size f j)))
      go (inr (inl l)) = rise_in p q (size f j) (value f j) (size f s) (value f s) (omega (arith, size_more f s j t l)) (larger s u l)
      go (inr (inr g)) = fall_in p q (size f j) (value f j) (size f s) (value f s) (omega (arith, size_more f j s u g)) (smaller s u g)

  -- the least slope to a larger size, or one that is steep enough where there is none
  slope_of : ((i : ℕ) → Taken f i → level f i < level f j → Yields e f j i) → (p : ℕ) × (q : ℕ) × Optimal e f j p q
  slope_of yields = go (minimum Larger larger? (Below Larger rise run some) (below_either Larger rise run some) (below_chain Larger rise run some) n)
    where
      n : ℕ
      n = 19 * f.directions

      Larger : ℕ → Type 0
      Larger i = Taken f i × (level f i < level f j)

      larger? : (i : ℕ) → Dec (Larger i)
      larger? i = both? (taken? f i) (dec_lt (level f i) (level f j))

      rise : ℕ → ℕ
      rise i = unsigned_abs (value f i -ℤ value f j)

      run : ℕ → ℕ
      run i = size f i - size f j

      some : (i : ℕ) → Larger i → 0 < run i
      some i l = omega (arith, size_more f i j t l.1)

      go : ((k : ℕ) → k < n → Larger k → ⊥) ⊎ ((i : ℕ) × (Larger i × ((k : ℕ) → k < n → Larger k → rise i * run k ≤ rise k * run i))) → (p : ℕ) × (q : ℕ) × Optimal e f j p q
      go (inl none) =
          let drop : ℕ → ℕ = λ s. unsigned_abs (value f j -ℤ value f s) in
          let b = bound_of drop n in
          let x : ℤ = value f j -ℤ least f +ℤ margin e f in
          let p : ℕ = suc (unsigned_abs x + b.0) in (
            p,
            1,
            record {
              rising = omega arith;
              whole = omega arith;
              under = under_in p 1 (size f j) (value f j) (least f) (margin e f) (steep p (size f j) x (size_some f j) (omega arith));
              best = all_sizes p 1
                  (λ i u l. absurd (none i (taken_below f i u) (u, l)))
                  (λ s u l. steep p (size f j - size f s) (value f j -ℤ value f s) (omega (arith, size_more f j s u l)) (omega (arith, b.1 s (taken_below f s u))));
            },
          )
      go (inr w) =
          let i : ℕ = w.0 in
          let y : Yields e f j i = yields i w.1.0.0 w.1.0.1 in
          let p : ℕ = rise i in
          let q : ℕ = run i in
          let g : pos (rise i) ≡ value f i -ℤ value f j = gap (value f j) (value f i) y.less in (
            p,
            q,
            record {
              rising = gap_some (value f j) (value f i) y.less;
              whole = some i w.1.0;
              under = under_in p q (size f j) (value f j) (least f) (margin e f)
                  (turn_left q (size f j) p (value f j -ℤ least f +ℤ margin e f) (value f i -ℤ value f j) g y.enough);
              best = all_sizes p q
                  (λ k u l. turn_up p q (run k) (rise k) (value f k -ℤ value f j) (gap (value f j) (value f k) (yields k u l).less) (w.1.1 k (taken_below f k u) (u, l)))
                  (λ s u l. turn q (size f j - size f s) p (value f j -ℤ value f s) (value f i -ℤ value f j) g (y.smaller s u l));
            },
          )

  yields_of : (p q : ℕ) → Optimal e f j p q → (i : ℕ) → Taken f i → level f i < level f j → Yields e f j i
  yields_of p q o i u l =
      let more : size f j < size f i = size_more f i j t l in
      let up : pos (p * (size f i - size f j)) ≤ℤ (pos q *ℤ (value f i -ℤ value f j)) =
      rise_out p q (size f j) (value f j) (size f i) (value f i) (omega arith) (o.best i u)
      in
      record {
        less = rise_less p q (size f i - size f j) (value f j) (value f i) o.rising (omega arith) up;
        smaller = λ s v g. cross p q (size f i - size f j) (size f j - size f s) (value f j -ℤ value f s) (value f i -ℤ value f j) o.whole
            (fall_out p q (size f j) (value f j) (size f s) (value f s) (omega (arith, size_more f j s v g)) (o.best s v)) up;
        enough = flip (size f j) (value f j -ℤ least f +ℤ margin e f) (value f i -ℤ value f j) (size f i - size f j)
            (cross p q (size f i - size f j) (size f j) (value f j -ℤ least f +ℤ margin e f) (value f i -ℤ value f j) o.whole
            (under_out p q (size f j) (value f j) (least f) (margin e f) o.under) up);
      }

-- a rank is chosen by the conditions exactly where it is by a slope
pub by_slopes : (e : ℕ) (f : Front) (j : ℕ) → Chosen e f j ↔ BySlope e f j
by_slopes e f j = (
  λ c. (c.taken, slope_of e f j c.taken c.yields),
  λ s. record { taken = s.0; yields = yields_of e f j s.0 s.1.0 s.1.1 s.1.2 },
)

-- a rank is in the computed set exactly where some slope makes it potentially optimal
pub hull_slopes : (e : ℕ) (f : Front) (j : ℕ) → (hull_ranks e f j ≡ true) ↔ BySlope e f j
hull_slopes e f j =
    let c = hull_conditions e f j in
    let s = by_slopes e f j in
    (λ h. s.0 (c.0 h), λ o. c.1 (s.1 o))
