-- A point has one rank, box and side, so locating has one outcome; and with it every call.
use Rattle.std.proofs.Common.{◌≡◌, ℕ, ◌<◌, ◌≤◌, List, get_or, sym, refl, ap, ◌∙◌, subst, ap₂, inl, inr, arith}
use Rattle.std.proofs.lemmas.List.{ext_get_or}
use Rattle.std.proofs.lemmas.Bool.{cases_eq, cases_lt}
use Rattle.ranks.specs.Ranks.{ranks}
use Rattle.refusal.specs.declared.Refusal.TheVariants.{NoSuchPoint, NotOwnTable, ShortCellList}
use Rattle.table.proofs.Sums.{bit_yes, sum_fits}
use Rattle.table.specs.Boxes.{First, Long}
use Rattle.table.specs.Rows.{row_at}
use Rattle.table.specs.Sums.{bit}
use Rattle.table.specs.declared.rows.Row.{Row}
use Rattle.search.specs.Calls.{LocatedIn, Locates, OwnRound}
use Rattle.search.specs.Counts.{points_below}
use Rattle.search.specs.Once.{One, OneOutcome}
use Rattle.search.specs.Points.{CellOf, IsPoint, Moved, Side, high, is_long, longs_below, low, point_at}
use Rattle.search.specs.declared.states.Round.{Round}
use Rattle.search.proofs.Firsts.{first_unique}
use Rattle.search.proofs.Fixed.{answers_one, begins_one, bests_one, check_one, opens_one}
use Rattle.search.proofs.Levels.{long_yes}
use Rattle.search.proofs.OneClose.{close_one}
use Rattle.search.proofs.Places.{number_below}

module _ (round : Round) (table : List Row) (own : OwnRound round table) where
  from_rank : (r : ℕ) (row : Row) (d : ℕ) (s : Side) → points_below round.shape.n (ranks round.chosen) r ≤ point_at round r row d s
  from_rank r row d low = omega arith
  from_rank r row d high = omega arith

  -- a point is of one rank
  not_less : (p r r' j j' d d' : ℕ) (s s' : Side) → IsPoint round table p r j d s → IsPoint round table p r' j' d' s' → r < r' → ⊥
  not_less p r r' j j' d d' s s' x y l =
      omega (
        arith,
        number_below round table own r' r j d s x.taken l x.long,
        from_rank r' (row_at table j') d' s',
        x.number,
        y.number,
      )

  rank_one : (p r r' j j' d d' : ℕ) (s s' : Side) → IsPoint round table p r j d s → IsPoint round table p r' j' d' s' → r ≡ r'
  rank_one p r r' j j' d d' s s' x y = elim (cases_lt r r') [
    | inl l ↦ absurd (not_less p r r' j j' d d' s s' x y l)
    | inr g ↦ elim (cases_eq r r') [ inl e ↦ e | inr ne ↦ absurd (not_less p r' r j' j d' d s' s y x (omega arith)) ]
  ]

  side_less : (row : Row) (d e : ℕ) → Long round.shape.n row d → d < e → longs_below round.shape.n row d < longs_below round.shape.n row e
  side_less row d e l h = omega (arith, sum_fits e (λ k. bit (is_long round.shape.n row k)) d h, bit_yes (is_long round.shape.n row d) (long_yes round.shape.n row round.shape.some d l))

  direction_one : (row : Row) (d e : ℕ) → Long round.shape.n row d → Long round.shape.n row e → longs_below round.shape.n row d ≡ longs_below round.shape.n row e → d ≡ e
  direction_one row d e l k h = elim (cases_lt d e) [
    | inl x ↦ absurd (omega (arith, side_less row d e l x))
    | inr x ↦ elim (cases_eq d e) [ inl p ↦ p | inr ne ↦ absurd (omega (arith, side_less row e d k (omega arith))) ]
  ]

  side_one : (r : ℕ) (row : Row) (d e : ℕ) (s t : Side) → Long round.shape.n row d → Long round.shape.n row e → point_at round r row d s ≡ point_at round r row e t → (d ≡ e) × (s ≡ t)
  side_one r row d e low low l k h = (direction_one row d e l k (omega arith), refl)
  side_one r row d e low high l k h = absurd (omega arith)
  side_one r row d e high low l k h = absurd (omega arith)
  side_one r row d e high high l k h = (direction_one row d e l k (omega arith), refl)

  moved_one : (s : Side) (f t x y : ℕ) → Moved s f t x → Moved s f t y → x ≡ y
  moved_one low f t x y p q = omega arith
  moved_one high f t x y p q = omega arith

  cell_one : (row : Row) (d : ℕ) (s : Side) (a b : List ℕ) → CellOf round.shape.n row d s a → CellOf round.shape.n row d s b → (e : ℕ) → e < round.shape.n → get_or a e 0 ≡ get_or b e 0
  cell_one row d s a b x y e l = elim (cases_eq e d) [
    | inl p ↦ ap (λ k. get_or a k 0) p ∙ moved_one s _ _ _ _ x.moved y.moved ∙ sym (ap (λ k. get_or b k 0) p)
    | inr ne ↦ x.others e l ne ∙ sym (y.others e l ne)
  ]

  located_one : (p : ℕ) (list a b : List ℕ) → LocatedIn round table p list a → LocatedIn round table p list b → a ≡ b
  located_one p list a b x y =
      let f = x.cell in
      let g = y.cell in
      let of : f.of ≡ g.of = rank_one p f.of g.of f.row g.row f.direction g.direction f.side g.side f.point g.point in
      let row : f.row ≡ g.row = first_unique round.shape.n round.shape.finest round.boxes table g.of f.row g.row
      (subst (λ r. First round.shape.n round.shape.finest round.boxes table r f.row) of f.point.taken.first) g.point.taken.first in
      let place = side_one g.of (row_at table g.row) f.direction g.direction f.side g.side
      (subst (λ j. Long round.shape.n (row_at table j) f.direction) row f.point.long) g.point.long
      (sym (ap₂ (λ r j. point_at round r (row_at table j) f.direction f.side) of row) ∙ sym f.point.number ∙ g.point.number) in
      let cell : CellOf round.shape.n (row_at table g.row) g.direction g.side a =
      subst (λ d. CellOf round.shape.n (row_at table g.row) d g.side a) place.0
      (subst (λ s. CellOf round.shape.n (row_at table g.row) f.direction s a) place.1
      (subst (λ j. CellOf round.shape.n (row_at table j) f.direction f.side a) row f.cell)) in
      ext_get_or 0 a b (x.same_length ∙ sym y.same_length) (λ e h. elim (cases_lt e round.shape.n) [
        | inl l ↦ cell_one (row_at table g.row) g.direction g.side a b cell g.cell e l
        | inr l ↦ x.nothing_after e l ∙ sym (y.nothing_after e l)
      ])

pub locates_one : (round : Round) (table : List Row) (p : ℕ) (list : List ℕ) → One (Locates round table p list)
locates_one round table p list =
    check_one _ list NotOwnTable _ (λ own. check_one _ list NoSuchPoint _ (λ _. check_one _ list ShortCellList _
    (λ _ out out' after after' x y. (x.0 ∙ sym y.0, located_one round table own p list after after' x.1 y.1))))

pub one_outcome : OneOutcome
one_outcome = record { begin = begins_one; «open» = opens_one; locate = locates_one; answer = answers_one; close = close_one; best = bests_one }
