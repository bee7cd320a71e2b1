-- The chosen ranks in turn, the lowest first: each is popped from a set, and its taken box is cut.
use Rattle.std.proofs.Common.{◌≡◌, ℕ, ◌+◌, ◌-◌, ◌*◌, ◌%◌, ◌<◌, ◌≤◌, false, T, List, Some, None, Option, sym, refl, ap, ◌∙◌, subst, inl, inr, arith}
use Rattle.std.proofs.lemmas.Bool.{true≢false, cases_eq, cases_lt}
use Rattle.order.specs.declared.records.Candidate.{Candidate}
use Rattle.ranks.proofs.Changes.{without_here, without_other}
use Rattle.ranks.specs.Ranks.{Lowest, Ranks, none, ranks, without}
use Rattle.table.specs.declared.rows.Row.{Row}
use Rattle.table.specs.Rows.{row_at}
use Rattle.table.specs.Entries.{answer_of}
use Rattle.table.specs.Boxes.{FirstOfRank, First}
use Rattle.search.specs.declared.states.Round.{Round}
use Rattle.search.specs.Calls.{OwnRound, CutAll}
use Rattle.search.specs.Cutting.{Taking, CutBox}
use Rattle.search.proofs.Firsts.{shown_is}
use Rattle.search.proofs.CutRanks.{CutRanks, below, below_next, cut_end, cut_one, cut_skips, room, taking}

-- the chosen ranks below some rank are done, the others are left in the set, and the next points have the rows from next on
pub record Turns (round : Round) (table : List Row) (set : Ranks) (next : ℕ) (after : List Row) : Type 0 where
  pub to : ℕ
  pub most : to ≤ 114
  pub gone : (k : ℕ) → k < to → set k ≡ false
  pub left : (k : ℕ) → to ≤ k → set k ≡ ranks round.chosen k
  pub cut : CutRanks round table to after
  pub place : next ≡ round.boxes + below round to

module _ (round : Round) (table : List Row) (own : OwnRound round table) where
  module _ (set : Ranks) (next : ℕ) (mid : List Row) (t : Turns round table set next mid) where
    reach : (r : ℕ) → t.to ≤ r → ((k : ℕ) → k < r → set k ≡ false)
        → CutRanks round table r mid × (next ≡ round.boxes + below round r)
    reach r h out =
        let e : t.to + (r - t.to) ≡ r = omega arith in
        let c = cut_skips round table own (r - t.to) t.to mid (λ q a b x. subst T (sym (t.left q a) ∙ out q (omega arith)) x) t.cut in (
          subst (λ (k : ℕ). CutRanks round table k mid) e c.0,
          t.place ∙ ap (λ (m : ℕ). round.boxes + m) (sym c.1 ∙ ap (below round) e),
        )

    pub turns_end : set ≡ none → CutAll round table mid
    turns_end e = cut_end round table own 114 mid refl (reach 114 t.most (λ k _. ap (λ p. p k) e)).0

    -- the lowest rank that is left is popped
    module _ (r : ℕ) (low : Lowest set r) where
      from : t.to ≤ r
      from = elim (cases_lt r t.to) [ inl h ↦ absurd (true≢false (sym low.has ∙ t.gone r h)) | inr h ↦ h ]

      popped_in : T (ranks round.chosen r)
      popped_in = subst T (sym (sym (t.left r from) ∙ low.has)) tt

      popped_cut : CutRanks round table r mid
      popped_cut = (reach r from low.least).0

      popped_place : next ≡ round.boxes + below round r
      popped_place = (reach r from low.least).1

      -- and its taken box is cut
      module _ (j : ℕ) (f : First round.shape.n round.shape.finest round.boxes table r j) where
        pub popped_taking : Taking round.shape.n r mid j next
        popped_taking = taking round table own r j popped_in f mid next popped_cut popped_place

        pub popped_room : next + 2 * (round.shape.n - r % round.shape.n) ≤ round.boxes + round.points
        popped_room = room round table own r j popped_in f mid next popped_cut popped_place

        pub turns_more : (rest : Ranks) (after : List Row) → r < 114 → rest ≡ without set r → CutBox round.shape.n mid j next after
            → Turns round table rest (next + 2 * (round.shape.n - r % round.shape.n)) after
        turns_more rest after h is b = record {
          to = r + 1;
          most = omega arith;
          gone = λ k l. ap (λ p. p k) is ∙ elim (cases_eq k r) [
            | inl e ↦ ap (without set r) e ∙ without_here set r
            | inr x ↦ without_other set r k x ∙ low.least k (omega arith)
          ];
          left = λ k l. ap (λ p. p k) is ∙ without_other set r k (omega arith) ∙ t.left k (omega (arith, from));
          cut = cut_one round table own r j popped_in f mid next popped_cut popped_place after b;
          place = omega (arith, popped_place, below_next round table own r popped_in);
        }

      -- a chosen rank has a box that can be cut
      pub popped_some : (o : Option Candidate) → ((x : Candidate) → o ≡ Some x → ⊥) → FirstOfRank round.shape.n round.shape.finest round.boxes table r o → ⊥
      popped_some None empty f =
          let x = own.boxes r popped_in in
          f (record { answer = answer_of (row_at table x.0).entry; row = x.0 })
          (record { box = x.1; answered = shown_is _ (own.own.each x.0 x.1.within).answered })
      popped_some (Some x) empty f = empty x refl
