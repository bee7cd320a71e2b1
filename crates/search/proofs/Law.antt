-- What holds of every run of a search that begin gave.
use Rattle.std.proofs.Common.{◌≡◌, ℕ, List, Ok, sym, refl, ◌∙◌, subst, subst₂, inl, inr}
use Rattle.order.specs.declared.answer.Answer.{Answer}
use Rattle.table.specs.declared.rows.Row.{Row}
use Rattle.table.specs.declared.shape.Shape.{Shape}
use Rattle.search.specs.Calls.{Begins}
use Rattle.search.specs.Runs.{Book, EveryRun, Holds, Left, Run, State, answer_refused, answered, at_rest, best, close_refused, closed, first_book, in_round, located, open_refused, opened, start, waited}
use Rattle.search.specs.declared.states.Rest.{Rest}
use Rattle.search.specs.declared.states.Round.{Round}
use Rattle.search.proofs.Invariant.{RestHas, RoundHas, begins, holds}
use Rattle.search.proofs.Openings.{opens}
use Rattle.search.proofs.Outcomes.{answer_refusal, answered_by, begun_by, close_refusal, closed_by, open_refusal, opened_by}
use Rattle.search.proofs.Steps.{answers, closes}

record AtRest (begun rest : Rest) (table : List Row) (book : Book) : Type 0 where
  pub same_shape : rest.shape ≡ begun.shape
  pub has : RestHas rest table book

record InRound (begun : Rest) (round : Round) (table : List Row) (book : Book) : Type 0 where
  pub same_shape : round.shape ≡ begun.shape
  pub has : RoundHas round table book

abbrev Kept : Rest → State → List Row → Book → Type 0
Kept begun (at_rest rest) table book = AtRest begun rest table book
Kept begun (in_round round) table book = InRound begun round table book

left_is : (table used left after : List Row) → left ≡ used → Left table used left after → after ≡ table
left_is table used left after e (inl x) = x.1 ∙ e ∙ x.0
left_is table used left after e (inr x) = x

module _ (begun : Rest) (written : List Row) (a : Answer) (first : RestHas begun written (first_book begun.shape.n a)) where
  kept : {state : State} {table : List Row} {book : Book} → Run begun written a state table book → Kept begun state table book
  kept start = record { same_shape = refl; has = first }
  kept (opened {rest} {table} {book} r meaning lawful round after out cells cs) =
      let h : AtRest begun rest table book = kept r in
      let o = opened_by meaning rest table round after out in
      record { same_shape = o.opened.same_shape ∙ h.same_shape; has = opens meaning rest table round after lawful o book cells cs h.has }
  kept (open_refused {rest} {table} {book} r meaning used left after refused out l) =
      let h : AtRest begun rest table book = kept r in
      let o = open_refusal meaning rest used refused left out in
      subst₂ (λ x t. AtRest begun x t book) (sym o.0) (sym (left_is table used left after o.1 l)) h
  kept (located r used p list after out o) = kept r
  kept (waited r used out o) = kept r
  kept (answered {round} {table} {book} r p given after out) =
      let h : InRound begun round table book = kept r in
      record { same_shape = h.same_shape; has = answers round table book p given after (answered_by round table p given after out) h.has }
  kept (answer_refused {round} {table} {book} r p given used left after e out l) =
      let h : InRound begun round table book = kept r in
      subst (λ t. InRound begun round t book) (sym (left_is table used left after (answer_refusal round used p given e left out) l)) h
  kept (closed {round} {table} {book} r rest after out) =
      let h : InRound begun round table book = kept r in
      let o = closed_by round table rest after out in
      record { same_shape = o.rested.same_shape ∙ h.same_shape; has = closes round table book rest after o h.has }
  kept (close_refused {round} {table} {book} r used left after refused out l) =
      let h : InRound begun round table book = kept r in
      let o = close_refusal round used refused left out in
      subst₂ (λ x t. InRound begun x t book) (sym o.0) (sym (left_is table used left after o.1 l)) h
  kept (best r used out o) = kept r

  conclude : (state : State) (table : List Row) (book : Book) → Kept begun state table book → Holds begun.shape.n begun.shape.finest state table book
  conclude (at_rest rest) table book h =
      subst (λ (s : Shape). Holds s.n s.finest (at_rest rest) table book) h.same_shape (holds rest.shape (at_rest rest) table book h.has h.has.own)
  conclude (in_round round) table book h =
      subst (λ (s : Shape). Holds s.n s.finest (in_round round) table book) h.same_shape (holds round.shape (in_round round) table book h.has.base h.has.own)

pub every_run : (n finest : ℕ) (table written : List Row) (a : Answer) (rest : Rest) → Begins n finest table a (Ok rest) written → EveryRun rest written a
every_run n finest table written a rest out state at book r =
    let s = begun_by n finest table a rest written out in
    let first = begins rest table written a s.rows s.allowed_answer s.begun.one_box s.begun.no_round s.after_is in
    conclude rest written a first state at book (kept rest written a first r)
