-- The first of the boxes by their answers is the best.
use Rattle.std.proofs.Common.{◌≡◌, ℕ, ◌<◌, true, false, List, length, ℤ, Some, sym, refl, ap, ◌∙◌, ap₂, ⊎_elim, arith}
use Rattle.std.proofs.lemmas.Bool.{and_left, and_right, cases_lt, le-ltb, not_from_true, or_from, true≢false}
use Rattle.order.specs.Answers.{answer_before}
use Rattle.order.specs.First.{FirstAmong, IsFirst}
use Rattle.order.specs.Records.{candidate_before}
use Rattle.order.specs.declared.answer.Answer.{Answer}
use Rattle.order.specs.declared.answer.Answer.TheVariants.{Reading, NotFeasible}
use Rattle.order.specs.declared.records.Candidate.{Candidate}
use Rattle.table.specs.Entries.{answer_of, shown_by}
use Rattle.table.specs.Rows.{no_row, row_at}
use Rattle.table.specs.declared.rows.Row.{Row}
use Rattle.search.specs.Calls.{BoxOf, OwnRest}
use Rattle.search.specs.declared.states.Rest.{Rest}
use Rattle.search.proofs.Firsts.{one_answer, shown_is}
use Rattle.search.proofs.Slices.{rows, rows_at, rows_length}

last : (a : Answer) → answer_before a NotFeasible ≡ false → a ≡ NotFeasible
last (Reading x) h = absurd (true≢false h)
last NotFeasible h = refl

apart : (x : ℤ) → Reading x ≡ NotFeasible → ⊥
apart x e = let z : ◌≡◌ {A = ℕ} 0 1 = cc in omega arith

module _ (rest : Rest) (table : List Row) (i : ℕ) (own : OwnRest rest table)
    (first : IsFirst (λ (x y : Row). answer_before (answer_of x.entry) (answer_of y.entry)) (rows rest.boxes table) i) where
  abbrev answer : ℕ → Answer
  answer k = answer_of (row_at table k).entry

  long : length (rows rest.boxes table) ≡ rest.boxes
  long = rows_length rest.boxes table own.rows

  pub fits : i < rest.boxes
  fits = omega (arith, first.within, long)

  pub at : (k : ℕ) → k < rest.boxes → answer_of (row_at (rows rest.boxes table) k).entry ≡ answer k
  at k h = ap (λ (r : Row). answer_of r.entry) (rows_at rest.boxes table k h)

  not_before : (k : ℕ) → k < rest.boxes → answer_before (answer k) (answer i) ≡ false
  not_before k h = sym (ap₂ answer_before (at k h) (at i fits)) ∙ first.none_before k no_row (omega (arith, long))

  after : (k : ℕ) → k < i → answer_before (answer i) (answer k) ≡ true
  after k h = let f = fits in sym (ap₂ answer_before (at i f) (at k (omega arith))) ∙ first.earliest k no_row h

  shown : (k : ℕ) → k < rest.boxes → shown_by (row_at table k).entry ≡ Some (answer k)
  shown k h = shown_is _ (own.each k h).answered

  -- the answer of a box is the one by which it goes
  is_answer : (c : Candidate) → BoxOf rest table c → c.answer ≡ answer c.row
  is_answer c b = one_answer _ _ _ b.shows (shown c.row b.within)

  pub best_is : (x : ℤ) → answer i ≡ Reading x → FirstAmong candidate_before (BoxOf rest table) (Some (record { answer = Reading x; row = i }))
  best_is x is = (
    record { within = fits; shows = shown i fits ∙ ap Some is },
    λ c b. or_from _ _ (ap₂ answer_before (is_answer c b) (sym is) ∙ not_before c.row b.within) (⊎_elim
        (λ h. and_left _ _ (not_from_true _ (ap₂ answer_before (sym is) (is_answer c b) ∙ after c.row h)))
        (λ h. and_right _ _ (le-ltb c.row i h))
        (cases_lt c.row i)),
  )

  pub none_reads : answer i ≡ NotFeasible → (j : ℕ) (x : ℤ) → j < rest.boxes → shown_by (row_at table j).entry ≡ Some (Reading x) → ⊥
  none_reads is j x h e =
      let none = last (answer j) (ap (answer_before (answer j)) (sym is) ∙ not_before j h) in
      apart x (one_answer _ _ _ e (shown j h) ∙ none)
