-- Answering and closing keep what holds.
use Rattle.std.proofs.lemmas.Grind.{common_steps}
use Rattle.std.proofs.Common.{◌≡◌, ℕ, ◌+◌, ◌-◌, ◌<◌, Bool, cond, ◌≢◌, List, [], length, Some, None, sym, refl, ap, ◌∙◌, subst, inl, inr, arith, length-set, get_or-set_other, get_or-set_same}
use Rattle.std.proofs.lemmas.Bool.{cases_eq, cases_lt}
use mathlib.Core.Path.{subst₃}
use Rattle.order.specs.Answers.{allowed}
use Rattle.order.specs.declared.answer.Answer.{Answer}
use Rattle.table.specs.Entries.{shown_by}
use Rattle.table.specs.Rows.{IsMiddle, LiesIn, row_at}
use Rattle.table.specs.declared.rows.Row.{Row}
use Rattle.table.specs.declared.shape.Shape.{Shape}
use Rattle.table.proofs.Sums.{yes_is}
use Rattle.search.specs.Points.{Located}
use Rattle.search.specs.Runs.{Book, answered_book, closed_book, noted}
use Rattle.search.specs.declared.states.Rest.{Rest}
use Rattle.search.specs.declared.states.Round.{Round}
use Rattle.search.proofs.Answering.{own_answered, row_here, row_other, rows}
use Rattle.search.proofs.Closing.{Part, middle_new, middle_old, own_after, part_cover, part_of, part_one, part_wider, part_within}
use Rattle.search.proofs.Falling.{falls, never_rises}
use Rattle.search.proofs.Invariant.{Base, RestHas, RoundHas, same_base, same_weights}
use Rattle.search.proofs.Outcomes.{AnsweredBy, ClosedBy}

-- a table with the same boxes has the same points
located_same : (round : Round) (table after : List Row) → ((j : ℕ) → j < round.boxes → row_at after j ≡ row_at table j)
    → (p : ℕ) (c : List ℕ) → Located round table p c → Located round after p c
located_same round table after rows p c f = grind (arith, common_steps)

-- Answer

module _ (round : Round) (table : List Row) (book : Book) (p : ℕ) (a : Answer) (after : List Row)
    (k : AnsweredBy round table p a after) (h : RoundHas round table book) where
  abbrev kept : Book
  kept = answered_book book p a

  place : 1 + book.points + p ≡ round.boxes + p
  place = ap (λ x. x + p) (sym h.base.counted)

  length_same : length kept.cells ≡ length book.cells
  length_same = length-set book.cells (1 + book.points + p) _

  noted_other : (i : ℕ) → i ≢ round.boxes + p → noted kept i ≡ noted book i
  noted_other i x = get_or-set_other book.cells (1 + book.points + p) i _ (record { cell = []; answer = None }) (omega (arith, place))

  noted_here : noted kept (round.boxes + p) ≡ record { cell = (noted book (round.boxes + p)).cell; answer = Some a }
  noted_here = subst (λ x. noted kept x ≡ record { cell = (noted book x).cell; answer = Some a }) place
      (get_or-set_same book.cells (1 + book.points + p) _ (record { cell = []; answer = None }) (omega (arith, place, h.base.cells, k.point)))

  cell_same : (i : ℕ) → (noted kept i).cell ≡ (noted book i).cell
  cell_same i =
      elim (cases_eq i (round.boxes + p)) [
        | inl e ↦ ap (λ x. (noted kept x).cell) e ∙ ap (λ x. x.cell) noted_here ∙ sym (ap (λ x. (noted book x).cell) e)
        | inr x ↦ ap (λ y. y.cell) (noted_other i x)
      ]

  shown : (i : ℕ) → i < length kept.cells → shown_by (row_at after i).entry ≡ (noted kept i).answer
  shown i l =
      elim (cases_eq i (round.boxes + p)) [
        | inl e ↦ ap (λ x. shown_by (row_at after x).entry) e ∙ ap shown_by (row_here round table p a after k)
            ∙ ap (λ (x : Bool). cond x (Some a) None) (yes_is (allowed a) k.allowed_answer)
            ∙ sym (ap (λ x. (noted kept x).answer) e ∙ ap (λ x. x.answer) noted_here)
        | inr x ↦ ap (λ r. shown_by r.entry) (row_other round table p a after k i x) ∙ h.base.shown i (omega (arith, length_same)) ∙ sym (ap (λ y. y.answer) (noted_other i x))
      ]

  pub answers : RoundHas round after kept
  answers = record {
    base = same_base round.shape round.boxes round.rounds round.points table after book h.base (rows round table p a after k) round.points kept refl refl
        (λ j l. cell_same j) (own_answered round table p a after k).own.rows (length_same ∙ h.base.cells) shown
        (λ i j l m x e. h.base.apart i j (omega (arith, length_same)) (omega (arith, length_same)) x (sym (cell_same i) ∙ e ∙ cell_same j));
    own = own_answered round table p a after k;
    located = λ q l. subst (Located round after q) (sym (cell_same (round.boxes + q)))
        (located_same round table after (rows round table p a after k) q (noted book (round.boxes + q)).cell (h.located q l));
    sizes = λ q l. ap length (cell_same (round.boxes + q)) ∙ h.sizes q l;
    progress = λ K l. elim (h.progress K l) [
      | inl e ↦ inl (same_weights round.shape round.boxes round.rounds round.points table after book h.base (rows round table p a after k) K ∙ e)
      | inr c ↦ inr c
    ];
  }

-- Close

module _ (round : Round) (table : List Row) (book : Book) (rest : Rest) (after : List Row)
    (k : ClosedBy round table rest after) (h : RoundHas round table book) where
  disjoint : (c : List ℕ) (i j : ℕ) → i < round.boxes + round.points → j < round.boxes + round.points
      → LiesIn round.shape.n c (row_at after i) → LiesIn round.shape.n c (row_at after j) → i ≡ j
  disjoint c i j l m x y =
      let a = part_of round table after k.own k.cut i l in
      let d = part_of round table after k.own k.cut j m in
      let one : a.0 ≡ d.0 = h.base.disjoint c a.0 d.0
      (part_within round table after k.own k.cut i a.0 a.1) (part_within round table after k.own k.cut j d.0 d.1)
      (part_wider round table after k.own k.cut i a.0 a.1 c x) (part_wider round table after k.own k.cut j d.0 d.1 c y) in
      part_one round table after k.own k.cut i j d.0 (subst (λ q. Part round table after k.own k.cut i q) one a.1) d.1 c x y

  middles : (i : ℕ) → i < round.boxes + round.points → IsMiddle round.shape.n (row_at after i) (noted book i).cell
  middles i l =
      elim (cases_lt i round.boxes) [
        | inl a ↦ middle_old round table after k.own k.cut i a (noted book i).cell (h.base.middles i a)
        | inr a ↦
            let p : ℕ = i - round.boxes in
            let m : p < round.points = omega arith in
            let e : round.boxes + p ≡ i = omega arith in
            subst (λ x. IsMiddle round.shape.n (row_at after x) (noted book x).cell) e
            (middle_new round table after k.own k.cut p (noted book (round.boxes + p)).cell (h.sizes p m) (h.located p m))
      ]

  pub closes : RestHas rest after (closed_book book round.points)
  closes = subst₃ (λ (s : Shape) (x y : ℕ). Base s x y 0 after (closed_book book round.points))
      (sym k.rested.same_shape) (sym k.rested.boxes) (sym k.rested.rounds) (record {
        counted = omega (arith, h.base.counted);
        closed = omega (arith, h.base.closed);
        cells = omega (arith, h.base.cells);
        own = own_after round table after k.own k.cut k.none_waits;
        covers = λ c i. let f = h.base.covers c i in part_cover round table after k.own k.cut f.0 f.1 c f.2;
        disjoint = disjoint;
        middles = middles;
        shown = λ i l. ap shown_by (k.cut.entries i) ∙ h.base.shown i l;
        apart = h.base.apart;
        weights = λ K l.
            let never = never_rises round table after k.own k.cut K in
            elim (h.progress K l) [
              | inl e ↦ inl (omega arith)
              | inr c ↦ elim (h.base.weights K l) [
                | inl e ↦ inl (omega arith)
                | inr e ↦ inr (omega (arith, falls round table after k.own k.cut K c.0 c.1 c.2))
              ]
            ];
      })
