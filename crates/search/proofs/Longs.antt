-- The long sides of a taken box, gathered by rising direction.
use Rattle.std.proofs.lemmas.Grind.{common_steps}
use Rattle.std.proofs.Common.{◌≡◌, ℕ, zero, suc, ◌+◌, ◌-◌, ◌*◌, ◌/◌, ◌%◌, ◌<◌, ◌≤◌, List, length, set, sym, ap, ◌∙◌, subst, inl, inr, add-one, arith}
use Rattle.std.proofs.lemmas.List.{get_or-set_same, get_or-set_other}
use Rattle.std.proofs.lemmas.Bool.{cases_eq}
use Rattle.table.specs.declared.rows.Row.{Row}
use Rattle.table.specs.Sums.{bit}
use Rattle.table.specs.Rows.{row_at, level_of}
use Rattle.table.specs.Boxes.{Long}
use Rattle.table.proofs.Sums.{test, bit_yes, bit_no, sum_fits}
use Rattle.search.specs.declared.sides.LongSide.{LongSide}
use Rattle.search.specs.Points.{is_long, longs_below}
use Rattle.search.specs.Cutting.{Taking, Cuttable, side_at, with_row, side_for}
use Rattle.search.proofs.Levels.{Near, longs, long_yes, long_is}

-- the place of a long side is below the number of long sides, and each place is that of one
module _ (n : ℕ) (row : Row) (some : 1 ≤ n) where
  pub place_below : (m d : ℕ) → d < m → Long n row d → longs_below n row d + 1 ≤ longs_below n row m
  place_below m d h l = omega (arith, sum_fits m (λ e. bit (is_long n row e)) d h, bit_yes (is_long n row d) (long_yes n row some d l))

  pub place_apart : (d e : ℕ) → Long n row d → Long n row e → d < e → longs_below n row d < longs_below n row e
  place_apart d e l m h = omega (arith, place_below e d h l)

  pub at_place : (m k : ℕ) → m ≤ n → k < longs_below n row m → (d : ℕ) × Long n row d × (longs_below n row d ≡ k)
  at_place zero k h l = absurd (omega arith)
  at_place (suc m) k h l = elim (test (is_long n row m)) [
    | inl t ↦ elim (cases_eq k (longs_below n row m)) [
      | inl e ↦ (m, long_is n row some m (omega arith) t, sym e)
      | inr x ↦ at_place m k (omega arith) (omega (arith, bit_yes (is_long n row m) t))
    ]
    | inr t ↦ at_place m k (omega arith) (omega (arith, bit_no (is_long n row m) t))
  ]

module _ (n r : ℕ) (table : List Row) (j base : ℕ) (t : Taking n r table j base) where
  near : Near n (row_at table j)
  near = record { near = t.near }

  pub many : longs_below n (row_at table j) n ≡ n - r % n
  many = longs n (row_at table j) t.some near ∙ ap (λ (x : ℕ). n - x % n) t.ranked

  long_here : (d : ℕ) → d < n → level_of (row_at table j) d ≡ r / n → Long n (row_at table j) d
  long_here d h e = record { direction = h; level = e ∙ ap (λ (x : ℕ). x / n) (sym t.ranked) }

  long_level : (d : ℕ) → Long n (row_at table j) d → level_of (row_at table j) d ≡ r / n
  long_level d l = l.level ∙ ap (λ (x : ℕ). x / n) t.ranked

  pub long_cuttable : (d : ℕ) → Long n (row_at table j) d → Cuttable (row_at table j) d
  long_cuttable d l = grind (arith, common_steps)

  -- a long side has room for its points
  pub fits : (d : ℕ) → d < n → level_of (row_at table j) d ≡ r / n → longs_below n (row_at table j) d + 1 ≤ n - r % n
  fits d h e = omega (arith, many, place_below n (row_at table j) t.some n d h (long_here d h e))

  pub long_more : (sides : List LongSide) (d count : ℕ) (new : LongSide) → length sides ≡ 6 → d < n → level_of (row_at table j) d ≡ r / n → count ≡ longs_below n (row_at table j) d → count ≤ d
      → new ≡ with_row table d (base + 2 * count)
      → ((e : ℕ) → e < d → Long n (row_at table j) e → side_at sides (longs_below n (row_at table j) e) ≡ side_for n table j base e)
      → (e : ℕ) → e < d + 1 → Long n (row_at table j) e → side_at (set sides count new) (longs_below n (row_at table j) e) ≡ side_for n table j base e
  long_more sides d count new six h lev at below is filled e l g = elim (cases_eq e d) [
    | inl q ↦ subst (λ (x : ℕ). side_at (set sides count new) (longs_below n (row_at table j) x) ≡ side_for n table j base x) (sym q) here
    | inr x ↦
        get_or-set_other sides count (longs_below n (row_at table j) e) new _ (omega (arith, at, place_apart n (row_at table j) t.some e d g (long_here d h lev) (omega arith)))
        ∙ filled e (omega arith) g
  ]
    where
      here : side_at (set sides count new) (longs_below n (row_at table j) d) ≡ side_for n table j base d
      here = ap (side_at (set sides count new)) (sym at) ∙ get_or-set_same sides count new _ (omega (arith, t.six)) ∙ is ∙ ap (λ (x : ℕ). with_row table d (base + 2 * x)) at

  pub count_more : (d : ℕ) → d < n → level_of (row_at table j) d ≡ r / n → longs_below n (row_at table j) d + 1 ≡ longs_below n (row_at table j) (d + 1)
  count_more d h e =
      sym (ap (longs_below n (row_at table j)) (add-one d) ∙ ap (λ (x : ℕ). longs_below n (row_at table j) d + x) (bit_yes (is_long n (row_at table j) d) (long_yes n (row_at table j) t.some d (long_here d h e))))

  short : (d : ℕ) → (level_of (row_at table j) d ≡ r / n → ⊥) → Long n (row_at table j) d → ⊥
  short d e l = e (long_level d l)

  pub count_same : (d : ℕ) → d < n → (level_of (row_at table j) d ≡ r / n → ⊥) → longs_below n (row_at table j) d ≡ longs_below n (row_at table j) (d + 1)
  count_same d h e =
      sym (ap (longs_below n (row_at table j)) (add-one d)
      ∙ ap (λ (x : ℕ). longs_below n (row_at table j) d + x) (bit_no (is_long n (row_at table j) d) (λ y. short d e (long_is n (row_at table j) t.some d h y))) ∙ omega arith)

  pub long_same : (sides : List LongSide) (d : ℕ) → (level_of (row_at table j) d ≡ r / n → ⊥)
      → ((e : ℕ) → e < d → Long n (row_at table j) e → side_at sides (longs_below n (row_at table j) e) ≡ side_for n table j base e)
      → (e : ℕ) → e < d + 1 → Long n (row_at table j) e → side_at sides (longs_below n (row_at table j) e) ≡ side_for n table j base e
  long_same sides d ne filled e l g = grind (arith, common_steps)
