-- The table of a round once its points are answered in their order.
use Rattle.std.proofs.Common.{◌≡◌, ℕ, ◌+◌, ◌<◌, List, [], ◌∷◌, length, get_or, sym, refl, ap, ◌∙◌, inl, inr, arith, length-append}
use Rattle.std.proofs.lemmas.List.{get_or_append_left, get_or_push}
use Rattle.std.proofs.lemmas.Bool.{cases_eq}
use Rattle.order.specs.declared.answer.Answer.{Answer}
use Rattle.table.specs.Rows.{row_at}
use Rattle.table.specs.declared.rows.Entry.TheVariants as entry
use Rattle.table.specs.declared.rows.Row.{Row}
use Rattle.search.proofs.Answering.{row_here, row_other, rows}
use Rattle.search.proofs.Outcomes.{answered_by}
use Rattle.search.specs.Tales.{AnsweredInOrder}
use Rattle.search.specs.Tales.AnsweredInOrder.{more, none}
use Rattle.search.specs.declared.states.Round.{Round}

-- the boxes are as they were, and each point has its answer
pub record Filled (round : Round) (cleared : List Row) (answers : List Answer) (filled : List Row) : Type 0 where
  pub boxes : (j : ℕ) → j < round.boxes → row_at filled j ≡ row_at cleared j
  pub points : (p : ℕ) (d : Answer) → p < length answers → (row_at filled (round.boxes + p)).entry ≡ entry.Answered (get_or answers p d)

pub filled_by : {round : Round} {cleared filled : List Row} {answers : List Answer} → AnsweredInOrder round cleared answers filled → Filled round cleared answers filled
filled_by none = record { boxes = λ j l. refl; points = λ p d l. absurd (omega arith) }
filled_by {round} {cleared} (more {before} {after} answers a k o) =
    let by = answered_by round before (length answers) a after o in
    let old = filled_by k in
    record {
      boxes = λ j l. rows round before (length answers) a after by j l ∙ old.boxes j l;
      points = λ p d l. elim (cases_eq p (length answers)) [
        | inl e ↦
            ap (λ (x : ℕ). (row_at after (round.boxes + x)).entry) e ∙ row_here round before (length answers) a after by
            ∙ ap entry.Answered (sym (get_or_push answers a d p (sym e)))
        | inr x ↦ let less : p < length answers = omega (arith, length-append answers (a ∷ [])) in
            ap (λ (r : Row). r.entry) (row_other round before (length answers) a after by (round.boxes + p) (omega arith)) ∙ old.points p d less
            ∙ ap entry.Answered (sym (get_or_append_left answers (a ∷ []) d p less))
      ];
    }
