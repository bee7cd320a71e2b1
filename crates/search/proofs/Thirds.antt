-- The thirds of an interval: the numbers that lie in each, and their middles.
use Rattle.std.proofs.Common.{◌≡◌, ℕ, zero, suc, ◌+◌, ◌-◌, ◌*◌, ◌^◌, ◌<◌, ◌≤◌, Bool, true, false, cond, T, ltb, leb, ◌≢◌, ◌⊎◌, sym, refl, ◌∙◌, subst, inl, inr, arith, le→leb, ltb→lt, lt→ltb, leb→le}
use native.Mathlib.Nat.{pow-succ'}
use Rattle.std.proofs.lemmas.Bool.{cases_lt}
use Rattle.grid.specs.Grid.{cells_at, middle_of}
use Rattle.grid.proofs.Lengths.{cells_at_third}
use Rattle.table.proofs.Sums.{no_is, yes_is}
use Rattle.search.specs.Points.{Moved, Side, Third, high, low, lower, middle, outer, start_of, third_at, upper}

-- a power of three is odd
odd : (m : ℕ) → (h : ℕ) × (3 ^ m ≡ 2 * h + 1)
odd zero = (0, refl)
odd (suc m) = let o = odd m in (3 * o.0 + 1, pow-succ' 3 m ∙ omega (arith, o.1))

pub third_odd : (t : ℕ) → (h : ℕ) × (third_at t ≡ 2 * h + 1)
third_odd t = odd (19 - (t + 1))

-- the middle third has the same middle
pub middle_same : (f t : ℕ) → t < 19 → middle_of (start_of middle f t) (t + 1) ≡ middle_of f t
middle_same f t h = let o = third_odd t in omega (arith, o.1, cells_at_third t h)

-- the outer thirds have the middle moved by a third
pub middle_moved : (s : Side) (f t x : ℕ) → t < 19 → Moved s f t x → x ≡ middle_of (start_of (outer s) f t) (t + 1)
middle_moved low f t x h m = let o = third_odd t in omega (arith, o.1, cells_at_third t h)
middle_moved high f t x h m = let o = third_odd t in omega (arith, o.1, cells_at_third t h)

-- x lies in the interval
pub record In (f t x : ℕ) : Type 0 where
  pub from : f ≤ x
  pub to : x < f + cells_at t

-- a third lies in the interval
pub wider : (p : Third) (f t x : ℕ) → t < 19 → In (start_of p f t) (t + 1) x → In f t x
wider lower f t x h i = record { from = omega arith; to = omega (arith, cells_at_third t h) }
wider middle f t x h i = record { from = omega arith; to = omega (arith, cells_at_third t h) }
wider upper f t x h i = record { from = omega arith; to = omega (arith, cells_at_third t h) }

-- x lies in the middle third, or in an outer one
which : (f t x : ℕ) → t < 19 → In f t x → In (start_of middle f t) (t + 1) x ⊎ ((s : Side) × In (start_of (outer s) f t) (t + 1) x)
which f t x h i =
    elim (cases_lt x (f + third_at t)) [
      | inl a ↦ inr (low, record { from = i.from; to = omega arith })
      | inr a ↦ elim (cases_lt x (f + 2 * third_at t)) [
        | inl b ↦ inl (record { from = a; to = omega arith })
        | inr b ↦ inr (high, record { from = b; to = omega (arith, cells_at_third t h) })
      ]
    ]

-- and in one of the three only
pub not_both : (s : Side) (f t x : ℕ) → t < 19 → In (start_of middle f t) (t + 1) x → In (start_of (outer s) f t) (t + 1) x → ⊥
not_both low f t x h i j = omega (arith, cells_at_third t h)
not_both high f t x h i j = omega (arith, cells_at_third t h)

pub one_side : (s z : Side) (f t x : ℕ) → t < 19 → In (start_of (outer s) f t) (t + 1) x → In (start_of (outer z) f t) (t + 1) x → s ≡ z
one_side low low f t x h i j = refl
one_side high high f t x h i j = refl
one_side low high f t x h i j = absurd (omega (arith, cells_at_third t h))
one_side high low f t x h i j = absurd (omega (arith, cells_at_third t h))

pub middle_in : (f t : ℕ) → In f t (middle_of f t)
middle_in f t = let o = odd (19 - t) in record { from = omega arith; to = omega (arith, o.1) }

-- a moved middle lies in the interval, off its middle
pub moved_in : (s : Side) (f t x : ℕ) → t < 19 → Moved s f t x → In f t x
moved_in low f t x h m = let o = third_odd t in record { from = omega (arith, o.1, cells_at_third t h); to = omega (arith, o.1, cells_at_third t h) }
moved_in high f t x h m = let o = third_odd t in record { from = omega (arith, o.1, cells_at_third t h); to = omega (arith, o.1, cells_at_third t h) }

pub moved_off : (s : Side) (f t x : ℕ) → Moved s f t x → x ≢ middle_of f t
moved_off low f t x m = let o = third_odd t in omega (arith, o.1)
moved_off high f t x m = let o = third_odd t in omega (arith, o.1)

pub moved_side : (s z : Side) (f t x : ℕ) → Moved s f t x → Moved z f t x → s ≡ z
moved_side low low f t x i j = refl
moved_side high high f t x i j = refl
moved_side low high f t x i j = absurd (let o = third_odd t in omega (arith, o.1))
moved_side high low f t x i j = absurd (let o = third_odd t in omega (arith, o.1))

-- x is off the middle third
abbrev pub off : ℕ → ℕ → ℕ → Bool
off f t x = cond (ltb x (f + third_at t)) true (leb (f + 2 * third_at t) x)

off_not : (f t x : ℕ) → In (start_of middle f t) (t + 1) x → T (off f t x) → ⊥
off_not f t x m o =
    let e : ltb x (f + third_at t) ≡ false = no_is (ltb x (f + third_at t)) (λ q. absurd (omega (arith, ltb→lt x (f + third_at t) q))) in
    omega (arith, leb→le (f + 2 * third_at t) x (subst (λ y. T (cond y true (leb (f + 2 * third_at t) x))) e o))

off_yes : (s : Side) (f t x : ℕ) → In (start_of (outer s) f t) (t + 1) x → T (off f t x)
off_yes low f t x i =
    subst (λ y. T (cond y true (leb (f + 2 * third_at t) x))) (sym (yes_is (ltb x (f + third_at t)) (lt→ltb x (f + third_at t) (omega arith)))) tt
off_yes high f t x i =
    subst (λ y. T (cond y true (leb (f + 2 * third_at t) x)))
    (sym (no_is (ltb x (f + third_at t)) (λ q. absurd (omega (arith, ltb→lt x (f + third_at t) q))))) (le→leb (f + 2 * third_at t) x i.from)

pub off_outer : (f t x : ℕ) → t < 19 → In f t x → T (off f t x) → (s : Side) × In (start_of (outer s) f t) (t + 1) x
off_outer f t x h i o = elim (which f t x h i) [ inl m ↦ absurd (off_not f t x m o) | inr s ↦ s ]

pub off_middle : (f t x : ℕ) → t < 19 → In f t x → (T (off f t x) → ⊥) → In (start_of middle f t) (t + 1) x
off_middle f t x h i o = elim (which f t x h i) [ inl m ↦ m | inr s ↦ absurd (o (off_yes s.0 f t x s.1)) ]
