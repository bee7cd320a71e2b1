-- The least and the greatest reading, one box more.
use Rattle.std.proofs.lemmas.Grind.{common_steps}
use Rattle.std.proofs.Common.{suc, [], ◌∷◌, length, get_or, ◌≡◌, ℕ, ◌+◌, cond, ◌⊎◌, List, ℤ, ◌≤ℤ◌, Some, None, Option, sym, ap, ◌∙◌, subst, ⊎_elim, arith}
use borrow.Author.Differences.{ints}
use lib.Signed.{lt_z}
use Rattle.std.proofs.lemmas.Bool.{cond_both}
use Rattle.std.specs.List.{fold}
use Rattle.order.specs.declared.answer.Answer.{Answer}
use Rattle.order.specs.declared.answer.Answer.TheVariants.{Reading, NotFeasible}
use Rattle.table.specs.declared.rows.Row.{Row}
use Rattle.table.specs.Entries.{shown_by}
use Rattle.table.specs.Rows.{no_row, row_at}
use Rattle.table.specs.Fronts.{Reads, ReadingsOf, widened}

less_low : (x y : ℤ) → (cond (lt_z x y) x y ≤ℤ x) × (cond (lt_z x y) x y ≤ℤ y)
less_low x y = cond_both (lt_z x y) x y (λ z. (z ≤ℤ x) × (z ≤ℤ y)) (λ e. (omega (arith, ints), omega (arith, ints))) (λ e. (omega (arith, ints), omega (arith, ints)))

more_high : (x y : ℤ) → (x ≤ℤ cond (lt_z y x) x y) × (y ≤ℤ cond (lt_z y x) x y)
more_high x y = cond_both (lt_z y x) x y (λ z. (x ≤ℤ z) × (y ≤ℤ z)) (λ e. (omega (arith, ints), omega (arith, ints))) (λ e. (omega (arith, ints), omega (arith, ints)))

chain : (x y z : ℤ) → x ≤ℤ y → y ≤ℤ z → x ≤ℤ z
chain x y z p q = omega (arith, ints)

same_reading : (o : Option Answer) (x y : ℤ) → o ≡ Some (Reading x) → o ≡ Some (Reading y) → x ≡ y
same_reading o x y p q = cc

module _ (table : List Row) (j : ℕ) where
  split : (k : ℕ) (y : ℤ) → Reads (j + 1) table k y → Reads j table k y ⊎ (shown_by (row_at table j).entry ≡ Some (Reading y))
  split k y r = grind (arith, common_steps)

  wider : (y : ℤ) → (k : ℕ) × Reads j table k y → (k : ℕ) × Reads (j + 1) table k y
  wider y r = let h = r.1.0 in (r.0, (omega arith, r.1.1))

  readings_skip : (o : Option (ℤ × ℤ)) → ((x : ℤ) → shown_by (row_at table j).entry ≡ Some (Reading x) → ⊥) → ReadingsOf j table o → ReadingsOf (j + 1) table o
  readings_skip None none f = λ k x r. ⊎_elim (λ h. f k x h) (none x) (split k x r)
  readings_skip (Some ends) none f =
      (wider ends.0 f.0, wider ends.1 f.1, λ k x r. ⊎_elim (λ h. f.2 k x h) (λ e. absurd (none x e)) (split k x r))

  readings_more : (o : Option (ℤ × ℤ)) (x : ℤ) → shown_by (row_at table j).entry ≡ Some (Reading x) → ReadingsOf j table o → ReadingsOf (j + 1) table (widened o (Some (Reading x)))
  readings_more None x is f = (
    (j, (omega arith, is)),
    (j, (omega arith, is)),
    λ k y r. ⊎_elim (λ h. absurd (f k y h))
        (λ e. let s : x ≡ y = same_reading (shown_by (row_at table j).entry) x y is e in (omega (arith, ints), omega (arith, ints))) (split k y r),
  )
  readings_more (Some ends) x is f =
      let here : (k : ℕ) × Reads (j + 1) table k x = (j, (omega arith, is)) in (
        cond_both (lt_z x ends.0) x ends.0 (λ z. (k : ℕ) × Reads (j + 1) table k z) (λ _. here) (λ _. wider ends.0 f.0),
        cond_both (lt_z ends.1 x) x ends.1 (λ z. (k : ℕ) × Reads (j + 1) table k z) (λ _. here) (λ _. wider ends.1 f.1),
        λ k y r.
            let low = less_low x ends.0 in
            let high = more_high x ends.1 in
            ⊎_elim
            (λ h. (chain _ ends.0 y low.1 (f.2 k y h).0, chain y ends.1 _ (f.2 k y h).1 high.1))
            (λ e.
            let s : x ≡ y = same_reading (shown_by (row_at table j).entry) x y is e in
            (subst (λ z. cond (lt_z x ends.0) x ends.0 ≤ℤ z) s low.0, subst (λ z. z ≤ℤ cond (lt_z ends.1 x) x ends.1) s high.0))
            (split k y r),
      )

  pub readings_next : (o : Option (ℤ × ℤ)) (a : Option Answer) → a ≡ shown_by (row_at table j).entry → ReadingsOf j table o → ReadingsOf (j + 1) table (widened o a)
  readings_next o None is f = readings_skip o (λ x e. let z : ◌≡◌ {A = ℕ} 0 1 = cc in omega arith) f
  readings_next o (Some NotFeasible) is f = readings_skip o (λ x e. let z : ◌≡◌ {A = ℕ} 0 1 = cc in omega arith) f
  readings_next o (Some (Reading x)) is f = readings_more o x (sym is) f

-- the ends once a row is seen
abbrev pub seen : Option (ℤ × ℤ) → Row → Option (ℤ × ℤ)
seen ends row = widened ends (shown_by row.entry)

-- the rows from i on, one after another
rest_seen : (table ys : List Row) (i : ℕ) (o : Option (ℤ × ℤ)) → ((k : ℕ) (d : Row) → get_or ys k d ≡ get_or table (i + k) d) → i + length ys ≡ length table
    → ReadingsOf i table o → ReadingsOf (length table) table (fold seen o ys)
rest_seen table [] i o same all f = let e : i ≡ length table = omega arith in subst (λ n. ReadingsOf n table o) e f
rest_seen table (y ∷ ys) i o same all f =
    let here : y ≡ row_at table i = same 0 no_row ∙ ap (λ (n : ℕ). get_or table n no_row) (omega arith) in
    rest_seen table ys (i + 1) (seen o y) (λ k d. same (suc k) d ∙ ap (λ (n : ℕ). get_or table n d) (omega arith)) (omega arith)
    (readings_next table i o (shown_by y.entry) (ap (λ (r : Row). shown_by r.entry) here) f)

pub all_seen : (table : List Row) → ReadingsOf (length table) table (fold seen None table)
all_seen table = rest_seen table table 0 None (λ k d. ap (λ (n : ℕ). get_or table n d) (omega arith)) (omega arith) (λ k x r. let h = r.0 in omega arith)
