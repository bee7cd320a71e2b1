-- The first round of a search of two directions cuts the whole grid.
use Rattle.std.proofs.Common.{◌≡◌, ℕ, ◌*◌, ◌<◌, T, List, sym, refl, ap, ◌∙◌, subst, subst₂, arith, lit<}
use Rattle.std.proofs.lemmas.List.{get_or-set_same}
use Rattle.order.specs.declared.answer.Answer.{Answer}
use Rattle.policy.specs.Levels.{filled}
use Rattle.ranks.specs.Ranks.{Ranks, ranks}
use Rattle.table.specs.Boxes.{First, OfRank}
use Rattle.table.specs.Rows.{no_row, rank, row_at, whole_grid}
use Rattle.table.specs.declared.rows.Entry.TheVariants.{Answered}
use Rattle.table.specs.declared.rows.Row.{Row}
use Rattle.search.proofs.Firsts.{some_first}
use Rattle.search.proofs.Outcomes.{BegunBy, OpenedBy}
use Rattle.search.proofs.Progress.{box_filled}
use Rattle.search.specs.Calls.{OwnRound}
use Rattle.search.specs.Points.{Taken}
use Rattle.search.specs.declared.states.Rest.{Rest}
use Rattle.search.specs.declared.states.Round.{Round}
use Rattle.examples.proofs.Filling.{Filled}
use Rattle.examples.proofs.WholeGrid.{CutsWhole}

-- a round with one box takes it for each chosen rank
only_taken : (round : Round) (table : List Row) (r : ℕ) → round.boxes ≡ 1 → OwnRound round table → T (ranks round.chosen r) → Taken round table r 0
only_taken round table r one own t =
    let box = own.boxes r t in
    let first = some_first round.shape.n round.shape.finest round.boxes table r own.own box.0 box.1 in
    let here : first.0 ≡ 0 = omega (arith, one, first.1.1.0.box.within) in
    record { in_set = t; first = subst (First round.shape.n round.shape.finest round.boxes table r) here first.1 }

module _ (table between cleared : List Row) (a : Answer) (rest : Rest) (round : Round) (b : BegunBy 2 19 table a rest between) (o : OpenedBy filled rest between round cleared) where
  row_zero : row_at between 0 ≡ whole_grid (Answered a)
  row_zero = ap (λ (t : List Row). row_at t 0) b.after_is ∙ get_or-set_same table 0 (whole_grid (Answered a)) no_row b.rows

  whole_box : OfRank rest.shape.n rest.shape.finest rest.boxes between 0 0
  whole_box = record {
    within = omega (arith, b.begun.one_box);
    ranked = subst₂ (λ (n : ℕ) (row : Row). rank n row ≡ 0) (sym b.begun.is_n) (sym row_zero) refl;
    unfinished = subst₂ (λ (n finest : ℕ). 0 < n * finest) (sym b.begun.is_n) (sym b.begun.is_finest) (lit< tt);
  }

  zero_chosen : T (ranks round.chosen 0)
  zero_chosen =
      let shape = rest.shape in
      let chosen = box_filled shape.n shape.finest rest.boxes between o.front o.of shape.some shape.few shape.fine o.own 0 0 whole_box in
      subst T (sym (ap (λ (p : Ranks). p 0) o.opened.is_chosen ∙ chosen)) tt

  one_box : round.boxes ≡ 1
  one_box = o.opened.same_boxes ∙ b.begun.one_box

  pub cuts_whole : (answers : List Answer) (full : List Row) → Filled round cleared answers full → OwnRound round full → CutsWhole round full
  cuts_whole answers full f own = record {
    two = ap (λ s. s.n) o.opened.same_shape ∙ b.begun.is_n;
    one = one_box;
    entry = Answered a;
    whole = f.boxes 0 (omega (arith, one_box)) ∙ o.cleared.below 0 (omega (arith, b.begun.one_box)) ∙ row_zero;
    taken = only_taken round full 0 one_box own zero_chosen;
  }
