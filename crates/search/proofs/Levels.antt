-- The levels of a box, its long sides, and the ranks of the rows that closing makes of it.
use Rattle.std.proofs.lemmas.Grind.{common_steps}
use Rattle.std.proofs.Common.{◌≡◌, ℕ, ◌+◌, ◌-◌, ◌*◌, ◌/◌, ◌%◌, ◌<◌, ◌≤◌, Bool, ◌&&◌, T, eqb, ◌≢◌, ◌⊎◌, ◌∙◌, subst, inl, inr, mod-lt, mul_comm, div-add-mod', mul-one, mul-add, arith, eqb→eq}
use lib.Dec.{eqb_refl}
use Rattle.std.proofs.lemmas.Bool.{cases_eq, cases_lt}
use Rattle.table.specs.Boxes.{InDirection, Long}
use Rattle.table.specs.Rows.{level_of, rank}
use Rattle.table.specs.Sums.{bit, sum}
use Rattle.table.specs.declared.rows.Row.{Row}
use Rattle.table.proofs.Sums.{bit_no, bit_yes, both_right, sum_add, sum_at, sum_cong, sum_const, sum_over, sum_short}
use Rattle.search.specs.Points.{Given, Kept, Side, is_long}

-- the levels of a row differ by at most one
pub record Near (n : ℕ) (row : Row) : Type 0 where
  pub near : (d e : ℕ) → d < n → e < n → level_of row d ≤ level_of row e + 1

pub near_own : (n finest : ℕ) (row : Row) → n ≤ 6 → ((d : ℕ) → d < 6 → InDirection n finest row d) → Near n row
near_own n finest row six h = record { near = λ d e x y. (h d (omega arith)).near x e y }

module _ (n : ℕ) (row : Row) (some : 1 ≤ n) where
  parts_of_rank : rank n row / n * n + rank n row % n ≡ rank n row
  parts_of_rank = div-add-mod' (rank n row) n

  -- each level is that of the box or the next
  pub level_is : Near n row → (d : ℕ) → d < n → (level_of row d ≡ rank n row / n) ⊎ (level_of row d ≡ rank n row / n + 1)
  level_is h d l =
      let t : ℕ = rank n row / n in
      let e = parts_of_rank in
      let m : rank n row % n < n = mod-lt (rank n row) some in
      elim (cases_lt (level_of row d) t) [
        | inl a ↦ absurd (omega (arith, mul_comm n t, sum_short n t (level_of row) d l a (λ i j. omega (arith, h.near i d j l))))
        | inr a ↦ elim (cases_lt (t + 1) (level_of row d)) [
          | inl b ↦ absurd (omega (arith, mul-add n t 1, mul-one n, mul_comm n t, sum_over n (t + 1) (level_of row) (λ i j. omega (arith, h.near d i l j))))
          | inr b ↦ elim (cases_eq (level_of row d) t) [ inl x ↦ inl x | inr x ↦ inr (omega arith) ]
        ]
      ]

  -- a side is long or not
  pub long? : (d : ℕ) → d < n → Long n row d ⊎ (Long n row d → ⊥)
  long? d l =
      elim (cases_eq (level_of row d) (rank n row / n))
      [ inl e ↦ inl (record { direction = l; level = e }) | inr x ↦ inr (λ y. x y.level) ]

  pub long_yes : (d : ℕ) → Long n row d → T (is_long n row d)
  long_yes d h = subst (λ x. T (eqb (level_of row d) x)) h.level (eqb_refl (level_of row d))

  pub long_is : (d : ℕ) → d < n → T (is_long n row d) → Long n row d
  long_is d l h = record { direction = l; level = eqb→eq (level_of row d) (rank n row / n) h }

  -- a side that is not long has the next level
  short_level : Near n row → (d : ℕ) → d < n → (Long n row d → ⊥) → level_of row d ≡ rank n row / n + 1
  short_level h d l x =
      elim (level_is h d l) [ inl e ↦ absurd (x (record { direction = l; level = e })) | inr e ↦ e ]

  -- there are n - (rank mod n) long sides
  pub longs : Near n row → sum n (λ d. bit (is_long n row d)) ≡ n - rank n row % n
  longs h =
      let t : ℕ = rank n row / n in
      omega (
        arith,
        parts_of_rank,
        mod-lt (rank n row) some,
        sum_add n (level_of row) (λ d. bit (is_long n row d)),
        sum_cong n (λ d. level_of row d + bit (is_long n row d)) (λ _. t + 1)
            (λ d l. elim (long? d l) [
              | inl x ↦ omega (arith, x.level, bit_yes (is_long n row d) (long_yes d x))
              | inr x ↦ omega (arith, short_level h d l x, bit_no (is_long n row d) (λ y. x (long_is d l y)))
            ]),
        sum_const n (t + 1),
        mul-add n t 1,
        mul-one n,
        mul_comm n t,
      )

-- the rows that closing makes of the row old
module _ (n : ℕ) (old new : Row) (some : 1 ≤ n) (six : n ≤ 6) (h : Near n old) where
  kept_level : Kept n old new → (e : ℕ) → e < n → level_of new e ≡ rank n old / n + 1
  kept_level k e l =
      elim (long? n old some e l) [
        | inl x ↦ omega (arith, (k.cut e x).level, x.level)
        | inr x ↦ (k.rest e (omega arith) x).level ∙ short_level n old some h e l x
      ]

  pub kept_rank : Kept n old new → rank n new ≡ (rank n old / n + 1) * n
  kept_rank k = sum_cong n (level_of new) (λ _. rank n old / n + 1) (kept_level k) ∙ sum_const n (rank n old / n + 1) ∙ mul_comm n (rank n old / n + 1)

  module _ (d : ℕ) (s : Side) (first : ℕ → Bool) (l : Long n old d) (g : Given n old new d s first) where
    given_level : (e : ℕ) → e < n → e ≢ d → level_of new e ≡ level_of old e + bit (is_long n old e && first e)
    given_level e k x = grind (arith, common_steps)

    pub given_rank : (T (first d) → ⊥) → rank n new ≡ rank n old + 1 + sum n (λ e. bit (is_long n old e && first e))
    given_rank not-d =
        omega (
          arith,
          sum_at n (level_of new) (λ e. level_of old e + bit (is_long n old e && first e)) d l.direction given_level,
          sum_add n (level_of old) (λ e. bit (is_long n old e && first e)),
          g.own.level,
          bit_no (is_long n old d && first d) (λ t. not-d (both_right (is_long n old d) (first d) t)),
        )
