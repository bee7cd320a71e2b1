-- The table after open is the round's own, and opening keeps what holds.
use Rattle.std.proofs.lemmas.Grind.{common_steps}
use Rattle.std.proofs.Common.{◌≡◌, ℕ, ◌+◌, ◌-◌, ◌<◌, ◌≤◌, true, T, ◌≢◌, ◌⊎◌, List, [], map, length, get_or, None, sym, refl, ap, ◌∙◌, subst, ap₂, subst₂, inl, inr, arith, get_or-append-add}
use Rattle.std.proofs.lemmas.Bool.{cases_lt}
use mathlib.Core.Path.{subst₃}
use lib.ListN.{get_or-append}
use Rattle.std.proofs.lemmas.List.{get_or-map}
use Rattle.policy.specs.declared.front.Front.{Front}
use Rattle.ranks.specs.Ranks.{Ranks}
use Rattle.table.specs.Boxes.{Own}
use Rattle.table.specs.Entries.{shown_by}
use Rattle.table.specs.Fronts.{FrontOf}
use Rattle.table.specs.Rows.{IsMiddle, LiesIn, rank, row_at}
use Rattle.table.specs.declared.rows.Row.{Row}
use Rattle.table.specs.declared.shape.Shape.{Shape}
use Rattle.table.proofs.Sums.{yes_is}
use Rattle.search.specs.Calls.{LocatedIn, OwnRound}
use Rattle.search.specs.Points.{CellOf, Located, point_at}
use Rattle.search.specs.Runs.{Book, CellsOf, LawfulAt, Noted, noted, opened_book}
use Rattle.search.specs.declared.states.Rest.{Rest}
use Rattle.search.specs.declared.states.Round.{Round}
use Rattle.search.proofs.Cuts.{cell_in, cell_off, cell_same, middle_lies}
use Rattle.search.proofs.Firsts.{box_level, box_same, own_same}
use Rattle.search.proofs.Invariant.{Base, RestHas, RoundHas, same_base, same_disjoint, same_weights}
use Rattle.search.proofs.Outcomes.{OpenedBy, located_by}
use Rattle.search.proofs.Progress.{filled_box, low_chosen}

module _ (meaning : Front → Ranks) (rest : Rest) (table : List Row) (round : Round) (after : List Row)
    (lawful : LawfulAt meaning rest table) (o : OpenedBy meaning rest table round after) where
  abbrev n : ℕ
  n = round.shape.n

  abbrev finest : ℕ
  finest = round.shape.finest

  rows : (j : ℕ) → j < round.boxes → row_at after j ≡ row_at table j
  rows j l = o.cleared.below j (omega (arith, o.opened.same_boxes))

  own_old : Own n finest round.boxes table
  own_old = subst₂ (λ (s : Shape) (b : ℕ). Own s.n s.finest b table) (sym o.opened.same_shape) (sym o.opened.same_boxes) o.own

  front_old : FrontOf n finest round.boxes table o.front
  front_old = subst₂ (λ (s : Shape) (b : ℕ). FrontOf s.n s.finest b table o.front) (sym o.opened.same_shape) (sym o.opened.same_boxes) o.of

  room : round.boxes + round.points ≤ length after
  room = omega (arith, o.room.0, o.opened.same_boxes, o.opened.is_points, o.cleared.same_length)

  -- every chosen rank is filled, so that a box of it can be cut
  pub own_round : OwnRound round after
  own_round = record {
    own = own_same n finest round.boxes table after rows (omega (arith, room)) own_old;
    rows = room;
    boxes = λ r t.
        let filled = (lawful o.front o.of).0 r (subst (λ (p : Ranks). p r ≡ true) o.opened.is_chosen (yes_is _ t)) in
        let box = filled_box n finest round.boxes table o.front front_old r filled in
        (box.0, box_same n finest round.boxes table after rows r box.0 box.1);
  }

  module _ (book : Book) (cells : List (List ℕ)) (cs : CellsOf round after cells) (h : RestHas rest table book) where
    b : Base round.shape round.boxes round.rounds 0 table book
    b = subst₃ (λ (s : Shape) (x y : ℕ). Base s x y 0 table book) (sym o.opened.same_shape) (sym o.opened.same_boxes) (sym o.opened.same_rounds) h

    old_length : length book.cells ≡ round.boxes
    old_length = omega (arith, b.cells)

    new_length : length (opened_book book cells).cells ≡ round.boxes + round.points
    new_length = grind (arith, common_steps)

    noted_old : (i : ℕ) → i < round.boxes → noted (opened_book book cells) i ≡ noted book i
    noted_old i l = get_or-append book.cells (map (λ c. record { cell = c; answer = None }) cells) (record { cell = []; answer = None }) i (omega (arith, old_length))

    noted_new : (p : ℕ) → p < round.points → noted (opened_book book cells) (round.boxes + p) ≡ record { cell = get_or cells p []; answer = None }
    noted_new p l =
        ap (λ x. noted (opened_book book cells) (x + p)) (sym old_length)
        ∙ get_or-append-add book.cells (map (λ c. record { cell = c; answer = None }) cells) p (record { cell = []; answer = None })
        ∙ get_or-map (λ (c : List ℕ). let x : Noted = record { cell = c; answer = None } in x) cells p [] (record { cell = []; answer = None }) (omega (arith, cs.count))

    found : (p : ℕ) (l : p < round.points) → LocatedIn round after p (cs.each p l).0 (get_or cells p [])
    found p l = located_by round after p (cs.each p l).0 (get_or cells p []) (cs.each p l).2

    place : (p : ℕ) → p < round.points → Located round after p (get_or cells p [])
    place p l = (found p l).cell

    disjoint : (c : List ℕ) (i j : ℕ) → i < round.boxes → j < round.boxes → LiesIn n c (row_at after i) → LiesIn n c (row_at after j) → i ≡ j
    disjoint = same_disjoint round.shape round.boxes round.rounds 0 table after book b rows

    -- a point's cell lies in its taken box
    point_in : (p : ℕ) (l : p < round.points) → LiesIn n (get_or cells p []) (row_at after (place p l).row)
    point_in p l =
        let f = place p l in
        cell_in n (row_at after f.row) round.shape.some round.shape.few
        (omega (arith, box_level n finest round.boxes after f.of f.row round.shape.some f.point.taken.first.1.0.box, round.shape.fine))
        f.direction f.side f.point.long (get_or cells p []) f.cell

    old_new : (i p : ℕ) → i < round.boxes → p < round.points → (noted book i).cell ≡ get_or cells p [] → ⊥
    old_new i p l m e =
        let f = place p m in
        let mid : IsMiddle n (row_at after i) (get_or cells p []) = subst₂ (IsMiddle n) (sym (rows i l)) e (b.middles i l) in
        let one : i ≡ f.row = disjoint (get_or cells p []) i f.row l f.point.taken.first.1.0.box.within (middle_lies n (row_at after i) (get_or cells p []) mid) (point_in p m) in
        cell_off n (row_at after f.row) f.direction f.side (get_or cells p []) f.point.long.direction f.cell
        (subst (λ x. IsMiddle n (row_at after x) (get_or cells p [])) one mid)

    new_new : (p q : ℕ) → p < round.points → q < round.points → get_or cells p [] ≡ get_or cells q [] → p ≡ q
    new_new p q l m e =
        let f = place p l in
        let g = place q m in
        let one : f.row ≡ g.row = disjoint (get_or cells q []) f.row g.row f.point.taken.first.1.0.box.within g.point.taken.first.1.0.box.within
        (subst (λ c. LiesIn n c (row_at after f.row)) e (point_in p l)) (point_in q m) in
        let ranked : f.of ≡ g.of = sym f.point.taken.first.1.0.box.ranked ∙ ap (λ x. rank n (row_at after x)) one ∙ g.point.taken.first.1.0.box.ranked in
        let both = cell_same n (row_at after g.row) f.direction g.direction f.side g.side (get_or cells q [])
        f.point.long.direction g.point.long.direction
        (subst₂ (λ x c. CellOf n (row_at after x) f.direction f.side c) one e f.cell) g.cell in
        f.point.number
        ∙ ap₂ (λ x y. point_at round x (row_at after y) f.direction f.side) ranked one
        ∙ ap₂ (λ x y. point_at round g.of (row_at after g.row) x y) both.0 both.1
        ∙ sym g.point.number

    -- a cell of the book is an old one or a point's
    cell_of : (i : ℕ) → i < length (opened_book book cells).cells
        → ((i < round.boxes) × (noted (opened_book book cells) i ≡ noted book i))
        ⊎ ((p : ℕ) × (p < round.points) × (i ≡ round.boxes + p) × (noted (opened_book book cells) i ≡ record { cell = get_or cells p []; answer = None }))
    cell_of i l =
        elim (cases_lt i round.boxes) [
          | inl a ↦ inl (a, noted_old i a)
          | inr a ↦
              let p : ℕ = i - round.boxes in
              let m : p < round.points = omega (arith, new_length) in
              let e : i ≡ round.boxes + p = omega arith in
              inr (p, m, e, ap (noted (opened_book book cells)) e ∙ noted_new p m)
        ]

    apart : (i j : ℕ) → i < length (opened_book book cells).cells → j < length (opened_book book cells).cells → i ≢ j
        → (noted (opened_book book cells) i).cell ≢ (noted (opened_book book cells) j).cell
    apart i j l m x e =
        elim (cell_of i l) [
          | inl a ↦ elim (cell_of j m) [
            | inl c ↦ b.apart i j (omega (arith, old_length, a.0)) (omega (arith, old_length, c.0)) x
                (sym (ap (λ y. y.cell) a.1) ∙ e ∙ ap (λ y. y.cell) c.1)
            | inr c ↦ old_new i c.0 a.0 c.1 (sym (ap (λ y. y.cell) a.1) ∙ e ∙ ap (λ y. y.cell) c.3)
          ]
          | inr a ↦ elim (cell_of j m) [
            | inl c ↦ old_new j a.0 c.0 a.1 (sym (ap (λ y. y.cell) c.1) ∙ sym e ∙ ap (λ y. y.cell) a.3)
            | inr c ↦ x (a.2 ∙ ap (λ y. round.boxes + y) (new_new a.0 c.0 a.1 c.1 (sym (ap (λ y. y.cell) a.3) ∙ e ∙ ap (λ y. y.cell) c.3)) ∙ sym c.2)
          ]
        ]

    shown : (i : ℕ) → i < length (opened_book book cells).cells → shown_by (row_at after i).entry ≡ (noted (opened_book book cells) i).answer
    shown i l =
        elim (cell_of i l) [
          | inl a ↦ ap (λ r. shown_by r.entry) (rows i a.0) ∙ b.shown i (omega (arith, old_length, a.0)) ∙ sym (ap (λ y. y.answer) a.1)
          | inr a ↦
              let from : rest.boxes ≤ i = omega (arith, a.2, o.opened.same_boxes) in
              ap (λ r. shown_by r.entry) (o.cleared.waits i from (omega (arith, a.1, a.2, o.opened.same_boxes, o.opened.is_points))) ∙ sym (ap (λ y. y.answer) a.3)
        ]

    pub opens : RoundHas round after (opened_book book cells)
    opens = record {
      base = same_base round.shape round.boxes round.rounds 0 table after book b rows round.points (opened_book book cells) refl refl
          (λ j l. ap (λ y. y.cell) (noted_old j l)) (omega (arith, room)) new_length shown apart;
      own = own_round;
      located = λ p l. subst (λ x. Located round after p x.cell) (sym (noted_new p l)) (place p l);
      sizes = λ p l. ap (λ x. length x.cell) (noted_new p l) ∙ (found p l).same_length ∙ (cs.each p l).1;
      progress = λ k l. elim (low_chosen n finest round.boxes table o.front front_old round.shape.some round.shape.few round.shape.fine own_old
          (meaning o.front) (lawful o.front o.of).1 k l) [
            | inl e ↦ inl (same_weights round.shape round.boxes round.rounds 0 table after book b rows k ∙ e)
            | inr c ↦ inr (c.0, subst T (sym (ap (λ (p : Ranks). p c.0) o.opened.is_chosen ∙ c.1)) tt, c.2)
          ];
    }
