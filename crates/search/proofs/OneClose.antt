-- Closing has one outcome.
use Rattle.std.proofs.Common.{◌≡◌, ℕ, ◌+◌, ◌-◌, ◌<◌, ◌≤◌, Bool, ◌⊎◌, List, sym, ◌∙◌, subst, inl, inr, arith}
use Rattle.std.proofs.lemmas.List.{ext_get_or}
use Rattle.std.proofs.lemmas.Bool.{cases_eq, cases_lt}
use Rattle.refusal.specs.Checks.{Gives}
use Rattle.refusal.specs.declared.Refusal.TheVariants.{NotOwnTable, PointWaits}
use Rattle.table.specs.Boxes.{Long}
use Rattle.table.specs.Rows.{all_cells, first_of, level_of, no_row, row_at}
use Rattle.table.specs.declared.rows.Row.{Row}
use Rattle.table.proofs.Sums.{test}
use Rattle.search.specs.Calls.{Closes, ClosesIn, CutAll, NoneWaits, OwnRound, Rested}
use Rattle.search.specs.Once.{One}
use Rattle.search.specs.Points.{Given, Kept, Side, Six, cut_before}
use Rattle.search.specs.declared.states.Rest.{Rest}
use Rattle.search.specs.declared.states.Round.{Round}
use Rattle.search.proofs.Levels.{long?}
use Rattle.search.proofs.Fixed.{check_one, gives_one, rest_same}
use Rattle.search.proofs.Places.{point_of, taken?}

same_row : (a b : Row) → Six a → Six b → ((d : ℕ) → d < 6 → (first_of a d ≡ first_of b d) × (level_of a d ≡ level_of b d)) → a.entry ≡ b.entry → a ≡ b
same_row a b s t h e =
    let p : a.spans ≡ b.spans = ext_get_or all_cells a.spans b.spans (s ∙ sym t) (λ d l. let g = h d (omega (arith, s)) in λ i. record { first = g.0 i; level = g.1 i }) in
    λ i. record { spans = p i; entry = e i }

module _ (n : ℕ) (old : Row) (some : 1 ≤ n) where
  is_long? : (d : ℕ) → Long n old d ⊎ (Long n old d → ⊥)
  is_long? d = elim (cases_lt d n) [ inl l ↦ long? n old some d l | inr l ↦ inr (λ x. let h = x.direction in omega arith) ]

  kept_one : (a b : Row) → Kept n old a → Kept n old b → a.entry ≡ b.entry → a ≡ b
  kept_one a b x y e = same_row a b x.six y.six (λ d h. elim (is_long? d) [
    | inl l ↦ let p = x.cut d l in let q = y.cut d l in (p.first ∙ sym q.first, p.level ∙ sym q.level)
    | inr l ↦ let p = x.rest d h l in let q = y.rest d h l in (p.first ∙ sym q.first, p.level ∙ sym q.level)
  ]) e

  given_one : (a b : Row) (d : ℕ) (s : Side) (f : ℕ → Bool) → Given n old a d s f → Given n old b d s f → a.entry ≡ b.entry → a ≡ b
  given_one a b d s f x y e = same_row a b x.six y.six (λ c h. elim (cases_eq c d) [
    | inl z ↦ subst (λ (k : ℕ). (first_of a k ≡ first_of b k) × (level_of a k ≡ level_of b k)) (sym z) (x.own.first ∙ sym y.own.first, x.own.level ∙ sym y.own.level)
    | inr ne ↦ elim (is_long? c) [
      | inl l ↦ elim (test (f c)) [
        | inl t ↦ let p = x.cut c l ne t in let q = y.cut c l ne t in (p.first ∙ sym q.first, p.level ∙ sym q.level)
        | inr t ↦ let p = x.rest c h ne (λ _ u. t u) in let q = y.rest c h ne (λ _ u. t u) in (p.first ∙ sym q.first, p.level ∙ sym q.level)
      ]
      | inr l ↦ let p = x.rest c h ne (λ m _. l m) in let q = y.rest c h ne (λ m _. l m) in (p.first ∙ sym q.first, p.level ∙ sym q.level)
    ]
  ]) e

module _ (round : Round) (table : List Row) where
  module _ (own : OwnRound round table) (a b : List Row) (one : CutAll round table a) (two : CutAll round table b) where
    entry_same : (m : ℕ) → (row_at a m).entry ≡ (row_at b m).entry
    entry_same m = one.entries m ∙ sym (two.entries m)

    row_same : (m : ℕ) → row_at a m ≡ row_at b m
    row_same m = elim (cases_lt m round.boxes) [
      | inl l ↦ elim (taken? round table own m) [
        | inl t ↦ kept_one round.shape.n (row_at table m) round.shape.some (row_at a m) (row_at b m) (one.taken t.0 m t.1) (two.taken t.0 m t.1) (entry_same m)
        | inr t ↦ one.others m l t ∙ sym (two.others m l t)
      ]
      | inr l ↦ elim (cases_lt m (round.boxes + round.points)) [
        | inl h ↦
            let e : round.boxes + (m - round.boxes) ≡ m = omega arith in
            let p = point_of round table own (m - round.boxes) (omega arith) in
            subst (λ (k : ℕ). row_at a k ≡ row_at b k) e
            (given_one round.shape.n (row_at table p.1) round.shape.some _ _ p.2 p.3 (λ e. cut_before round table p.0 p.1 e p.2)
            (one.given (m - round.boxes) p.0 p.1 p.2 p.3 p.4) (two.given (m - round.boxes) p.0 p.1 p.2 p.3 p.4) (entry_same _))
        | inr h ↦ one.above m h ∙ sym (two.above m h)
      ]
    ]

    table_one : a ≡ b
    table_one = ext_get_or no_row a b (one.same_length ∙ sym two.same_length) (λ i l. row_same i)

  rested_one : (x y : Rest) → Rested round x → Rested round y → x ≡ y
  rested_one x y p q =
      rest_same x y (p.same_shape ∙ sym q.same_shape) (p.boxes ∙ sym q.boxes) (p.rounds ∙ sym q.rounds)

  pub close_one : One (Closes round table)
  close_one =
      check_one (OwnRound round table) table (NotOwnTable, round) (ClosesIn round table)
      (λ own. check_one (NoneWaits round table) table (PointWaits, round) (λ out after. Gives out (Rested round) × CutAll round table after)
      (λ _ out out' after after' p q. (gives_one (Rested round) rested_one out out' p.0 q.0, table_one own after after' p.1 q.1)))
