-- The order by answer, then by lower number, is strict and total on numbers.
use Rattle.std.proofs.Common.{ℕ, sym, ap, ◌∙◌, inl, inr}
use Rattle.std.proofs.lemmas.Bool.{true≢false}
use Rattle.std.proofs.lemmas.Float.{T_from_true}
use Rattle.order.specs.Answers.{Numbered}
use Rattle.order.specs.declared.answer.Answer.{Answer}
use Rattle.order.proofs.Numbers.{numbered_irreflexive, numbered_transitive, numbered_total}
use Rattle.table.specs.Entries.{before}
use Rattle.table.proofs.Chains.{Strict}
use Rattle.table.proofs.Sums.{test, yes_is, no_is}

module _ (w : ℕ → Answer) where
  abbrev at : ℕ → Numbered
  at d = record { answer = w d; number = d }

  pub by_answer : Strict (λ d e. before (w d) d (w e) e)
  by_answer = record {
    irrefl = λ d h. true≢false (sym (yes_is _ h) ∙ numbered_irreflexive (at d));
    trans = λ d e f h k. T_from_true _ (numbered_transitive (at d) (at e) (at f) (yes_is _ h) (yes_is _ k));
    total = λ d e x. elim (test (before (w d) d (w e) e)) [
      | inl t ↦ inl t
      | inr t ↦ elim (test (before (w e) e (w d) d)) [
        | inl u ↦ inr u
        | inr u ↦ absurd (x (ap (λ (m : Numbered). m.number) (numbered_total (at d) (at e) (no_is _ t) (no_is _ u))))
      ]
    ];
  }
