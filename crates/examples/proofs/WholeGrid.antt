-- A first round of two directions, which cuts the whole grid: its points, the order of the directions, and the levels after it.
use Rattle.std.proofs.Common.{◌≡◌, ℕ, zero, suc, ◌+◌, ◌*◌, ◌<◌, true, false, T, ◌≢◌, List, length, get_or, sym, refl, ap, ◌∙◌, subst, ap₂, subst₂, arith, lit<}
use Rattle.order.specs.Answers.{earlier_answer}
use Rattle.order.specs.declared.answer.Answer.{Answer}
use Rattle.order.specs.declared.answer.Answer.TheVariants.{NotFeasible}
use Rattle.table.specs.Boxes.{Long}
use Rattle.table.specs.Entries.{answer_of}
use Rattle.table.specs.Rows.{level_of, rank, row_at, whole_grid}
use Rattle.table.specs.declared.rows.Entry.{Entry}
use Rattle.table.specs.declared.rows.Entry.TheVariants.{Answered}
use Rattle.table.specs.declared.rows.Row.{Row}
use Rattle.search.specs.Calls.{CutAll}
use Rattle.search.specs.Points.{Given, Taken, cut_before, longs_below, point_at, w_of}
use Rattle.search.specs.declared.side.Side.{Side}
use Rattle.search.specs.declared.side.Side.TheVariants.{Low as low, High as high}
use Rattle.search.specs.declared.states.Round.{Round}

-- its only box is the whole grid, taken for rank 0
pub record CutsWhole (round : Round) (table : List Row) : Type 0 where
  pub two : round.shape.n ≡ 2
  pub one : round.boxes ≡ 1
  pub entry : Entry
  pub whole : row_at table 0 ≡ whole_grid entry
  pub taken : Taken round table 0 0

-- the whole grid has two long sides
long_side : (e : Entry) (d : ℕ) → d < 2 → Long 2 (whole_grid e) d
long_side e zero l = record { direction = l; level = refl }
long_side e (suc zero) l = record { direction = l; level = refl }
long_side e (suc (suc d)) l = absurd (omega arith)

no_level : (e : Entry) (d : ℕ) → d < 2 → level_of (whole_grid e) d ≡ 0
no_level e zero l = refl
no_level e (suc zero) l = refl
no_level e (suc (suc d)) l = absurd (omega arith)

place : (e : Entry) (d : ℕ) → d < 2 → longs_below 2 (whole_grid e) d ≡ d
place e zero l = refl
place e (suc zero) l = refl
place e (suc (suc d)) l = absurd (omega arith)

-- the number of a direction's point
abbrev pub number : ℕ → Side → ℕ
number d low = 2 * d
number d high = 2 * d + 1

module _ (round : Round) (table : List Row) (g : CutsWhole round table) where
  long : (d : ℕ) → d < 2 → Long round.shape.n (row_at table 0) d
  long d l = subst₂ (λ (n : ℕ) (row : Row). Long n row d) (sym g.two) (sym g.whole) (long_side g.entry d l)

  old_level : (d : ℕ) → d < 2 → level_of (row_at table 0) d ≡ 0
  old_level d l = ap (λ (row : Row). level_of row d) g.whole ∙ no_level g.entry d l

  at_place : (d : ℕ) → d < 2 → longs_below round.shape.n (row_at table 0) d ≡ d
  at_place d l = subst₂ (λ (n : ℕ) (row : Row). longs_below n row d ≡ d) (sym g.two) (sym g.whole) (place g.entry d l)

  at_number : (d : ℕ) → d < 2 → (s : Side) → point_at round 0 (row_at table 0) d s ≡ number d s
  at_number d l low = omega (arith, at_place d l)
  at_number d l high = omega (arith, at_place d l)

  -- its points have these answers
  module _ (answers : List Answer) (shows : (p : ℕ) (a : Answer) → p < length answers → (row_at table (round.boxes + p)).entry ≡ Answered (get_or answers p a)) where
    answer_at : (d : ℕ) → d < 2 → (s : Side) → number d s < length answers
        → answer_of (row_at table (round.boxes + point_at round 0 (row_at table 0) d s)).entry ≡ answer_of (Answered (get_or answers (number d s) NotFeasible))
    answer_at d l s k =
        ap (λ (p : ℕ). answer_of (row_at table (round.boxes + p)).entry) (at_number d l s) ∙ ap answer_of (shows (number d s) NotFeasible k)

    pub w_at : (d : ℕ) → d < 2 → number d high < length answers
        → w_of round table 0 0 d ≡ earlier_answer (answer_of (Answered (get_or answers (number d low) NotFeasible))) (answer_of (Answered (get_or answers (number d high) NotFeasible)))
    w_at d l k = ap₂ earlier_answer (answer_at d l low (omega arith)) (answer_at d l high k)

  -- it is closed
  module _ (after : List Row) (cut : CutAll round table after) where
    kept_level : (d : ℕ) → d < 2 → level_of (row_at after 0) d ≡ 1
    kept_level d l = omega (arith, ((cut.taken 0 0 g.taken).cut d (long d l)).level, old_level d l)

    pub kept_rank : rank 2 (row_at after 0) ≡ 2
    kept_rank = omega (arith, kept_level 0 (lit< tt), kept_level 1 (lit< tt))

    -- the row of a direction's point
    module _ (d : ℕ) (l : d < 2) (s : Side) where
      given : Given round.shape.n (row_at table 0) (row_at after (round.boxes + number d s)) d s (λ e. cut_before round table 0 0 e d)
      given = cut.given (number d s) 0 0 d s (record { taken = g.taken; long = long d l; number = sym (at_number d l s) })

      own_level : level_of (row_at after (round.boxes + number d s)) d ≡ 1
      own_level = omega (arith, given.own.level, old_level d l)

      cut_level : (e : ℕ) → e < 2 → e ≢ d → cut_before round table 0 0 e d ≡ true → level_of (row_at after (round.boxes + number d s)) e ≡ 1
      cut_level e k x c = omega (arith, (given.cut e (long e k) x (subst T (sym c) tt)).level, old_level e k)

      uncut_level : (e : ℕ) → e < 2 → e ≢ d → cut_before round table 0 0 e d ≡ false → level_of (row_at after (round.boxes + number d s)) e ≡ 0
      uncut_level e k x c = (given.rest e (omega arith) x (λ _ t. subst T c t)).level ∙ old_level e k

    -- where direction 1 goes first, its points keep the whole of direction 0
    pub rank_of_zero : (s : Side) → cut_before round table 0 0 1 0 ≡ true → rank 2 (row_at after (1 + number 0 s)) ≡ 2
    rank_of_zero s c =
        subst (λ (b : ℕ). rank 2 (row_at after (b + number 0 s)) ≡ 2) g.one
        (omega (arith, own_level 0 (lit< tt) s, cut_level 0 (lit< tt) s 1 (lit< tt) (λ same. omega arith) c))

    pub rank_of_one : (s : Side) → cut_before round table 0 0 0 1 ≡ false → rank 2 (row_at after (1 + number 1 s)) ≡ 1
    rank_of_one s c =
        subst (λ (b : ℕ). rank 2 (row_at after (b + number 1 s)) ≡ 1) g.one
        (omega (arith, own_level 1 (lit< tt) s, uncut_level 1 (lit< tt) s 0 (lit< tt) (λ same. omega arith) c))
