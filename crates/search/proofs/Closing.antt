-- What closing makes of the boxes: the parts of each box, which are boxes too, and their middles.
use Rattle.std.proofs.Common.{◌≡◌, ℕ, ◌+◌, ◌-◌, ◌/◌, ◌<◌, ◌≤◌, false, T, List, length, sym, refl, ap, ◌∙◌, subst, inl, inr, arith}
use Rattle.std.proofs.lemmas.Bool.{cases_lt}
use Rattle.table.specs.Boxes.{Own}
use Rattle.table.specs.Entries.{waiting}
use Rattle.table.specs.Rows.{IsMiddle, LiesIn, rank, row_at}
use Rattle.table.specs.declared.rows.Row.{Row}
use Rattle.table.proofs.Chains.{Strict}
use Rattle.table.proofs.Orders.{by_answer}
use Rattle.table.proofs.Sums.{no_is}
use Rattle.search.specs.Calls.{CutAll, NoneWaits, OwnRound}
use Rattle.search.specs.Points.{IsPoint, Located, Side, Taken, cut_before, point_at, w_of}
use Rattle.search.specs.declared.states.Round.{Round}
use Rattle.search.proofs.Cuts.{covered, given_given, given_middle, kept_given, kept_middle}
use Rattle.search.proofs.Firsts.{box_level}
use Rattle.search.proofs.Pieces.{Piece, given_piece, kept_piece, piece_box, piece_wider, stays}
use Rattle.search.proofs.Places.{point_bound, point_of, taken?}

module _ (round : Round) (table after : List Row) (own : OwnRound round table) (cut : CutAll round table after) where
  abbrev n : ℕ
  n = round.shape.n

  some : 1 ≤ n
  some = round.shape.some

  six : n ≤ 6
  six = round.shape.few

  cut_old : (r j : ℕ) → Taken round table r j → rank n (row_at table j) / n < round.shape.finest
  cut_old r j t = box_level n round.shape.finest round.boxes table r j some t.first.1.0.box

  cut_fine : (r j : ℕ) → Taken round table r j → rank n (row_at table j) / n < 19
  cut_fine r j t = omega (arith, cut_old r j t, round.shape.fine)

  -- row i after the close is a part of row j before it
  pub data Part (i j : ℕ) : Type 0 where
    whole : i ≡ j → j < round.boxes → ((r : ℕ) → Taken round table r j → ⊥) → Part i j
    kept : i ≡ j → (r : ℕ) → Taken round table r j → Part i j
    given : (p r d : ℕ) (s : Side) → i ≡ round.boxes + p → IsPoint round table p r j d s → Part i j

  pub part_of : (i : ℕ) → i < round.boxes + round.points → (j : ℕ) × Part i j
  part_of i l =
      elim (cases_lt i round.boxes) [
        | inl a ↦ elim (taken? round table own i) [ inl t ↦ (i, kept refl t.0 t.1) | inr t ↦ (i, whole refl a t) ]
        | inr a ↦ let f = point_of round table own (i - round.boxes) (omega arith) in
            (f.1, given (i - round.boxes) f.0 f.2 f.3 (omega arith) f.4)
      ]

  pub part_within : (i j : ℕ) → Part i j → j < round.boxes
  part_within i j (whole e l t) = l
  part_within i j (kept e r t) = t.first.1.0.box.within
  part_within i j (given p r d s e t) = t.taken.first.1.0.box.within

  part_pieces : (i j : ℕ) → Part i j → (d : ℕ) → d < 6 → Piece n round.shape.finest (row_at table j) (row_at after i) d
  part_pieces i j (whole e m t) d l =
      subst (λ x. Piece n round.shape.finest (row_at table j) x d) (sym (ap (row_at after) e ∙ cut.others j m t)) (stays (record { first = refl; level = refl }))
  part_pieces i j (kept e r t) d l =
      subst (λ x. Piece n round.shape.finest (row_at table j) (row_at after x) d) (sym e)
      (kept_piece n round.shape.finest (row_at table j) (row_at after j) some (cut_old r j t) (cut.taken r j t) d l)
  part_pieces i j (given p r c s e t) d l =
      subst (λ x. Piece n round.shape.finest (row_at table j) (row_at after x) d) (sym e)
      (given_piece n round.shape.finest (row_at table j) (row_at after (round.boxes + p)) some (cut_old r j t.taken) c s
      (λ e. cut_before round table r j e c) t.long (cut.given p r j c s t) d l)

  pub part_wider : (i j : ℕ) → Part i j → (c : List ℕ) → LiesIn n c (row_at after i) → LiesIn n c (row_at table j)
  part_wider i j p = piece_wider n round.shape.finest (row_at table j) (row_at after i) some six round.shape.fine (part_pieces i j p)

  order : (r j : ℕ) → Strict (λ d e. cut_before round table r j d e)
  order r j = by_answer (w_of round table r j)

  same_rank : (r q j : ℕ) → Taken round table r j → Taken round table q j → q ≡ r
  same_rank r q j t u = sym u.first.1.0.box.ranked ∙ t.first.1.0.box.ranked

  given_one : (j p q r d e : ℕ) (s z : Side) → IsPoint round table p r j d s
      → IsPoint round table q r j e z
      → (c : List ℕ) → LiesIn n c (row_at after (round.boxes + p)) → LiesIn n c (row_at after (round.boxes + q)) → p ≡ q
  given_one j p q r d e s z t u c x y =
      let g = given_given n (row_at table j) some six (cut_fine r j t.taken)
      (λ d e. cut_before round table r j d e) (order r j)
      (row_at after (round.boxes + p)) (row_at after (round.boxes + q)) d e s z t.long u.long
      (cut.given p r j d s t) (cut.given q r j e z u) c x y in
      t.number ∙ ap (λ v. point_at round r (row_at table j) v s) g.0
      ∙ ap (λ v. point_at round r (row_at table j) e v) g.1 ∙ sym u.number

  pub part_one : (h i j : ℕ) → Part h j → Part i j → (c : List ℕ) → LiesIn n c (row_at after h) → LiesIn n c (row_at after i) → h ≡ i
  part_one h i j (whole e l t) (whole f m u) c x y = e ∙ sym f
  part_one h i j (whole e l t) (kept f r u) c x y = e ∙ sym f
  part_one h i j (whole e l t) (given p r d s f u) c x y = absurd (t r u.taken)
  part_one h i j (kept e r t) (whole f m u) c x y = e ∙ sym f
  part_one h i j (kept e r t) (kept f q u) c x y = e ∙ sym f
  part_one h i j (kept e r t) (given p q d s f u) c x y =
      absurd (kept_given n (row_at table j) some six (cut_fine r j t) (row_at after j) (row_at after (round.boxes + p)) d s
      (λ e. cut_before round table q j e d) (cut.taken r j t) u.long (cut.given p q j d s u) c
      (subst (λ v. LiesIn n c (row_at after v)) e x) (subst (λ v. LiesIn n c (row_at after v)) f y))
  part_one h i j (given p r d s e t) (whole f m u) c x y = absurd (u r t.taken)
  part_one h i j (given p q d s e t) (kept f r u) c x y =
      absurd (kept_given n (row_at table j) some six (cut_fine r j u) (row_at after j) (row_at after (round.boxes + p)) d s
      (λ e. cut_before round table q j e d) (cut.taken r j u) t.long (cut.given p q j d s t) c
      (subst (λ v. LiesIn n c (row_at after v)) f y) (subst (λ v. LiesIn n c (row_at after v)) e x))
  part_one h i j (given p r d s e t) (given q o g z f u) c x y =
      e ∙ ap (λ v. round.boxes + v)
      (given_one j p q r d g s z t (subst (λ v. IsPoint round table q v j g z) (same_rank r o j t.taken u.taken) u) c
      (subst (λ v. LiesIn n c (row_at after v)) e x) (subst (λ v. LiesIn n c (row_at after v)) f y))
      ∙ sym f

  -- a cell of a box lies in a part of it
  pub part_cover : (j : ℕ) → j < round.boxes → (c : List ℕ) → LiesIn n c (row_at table j)
      → (i : ℕ) × (i < round.boxes + round.points) × LiesIn n c (row_at after i)
  part_cover j l c h =
      elim (taken? round table own j) [
        | inr t ↦ (j, omega arith, subst (LiesIn n c) (sym (cut.others j l t)) h)
        | inl t ↦ elim (covered n (row_at table j) some six (cut_fine t.0 j t.1)
            (λ d e. cut_before round table t.0 j d e) (order t.0 j) c h) [
              | inl f ↦ (j, omega arith, f (row_at after j) (cut.taken t.0 j t.1))
              | inr f ↦
                  let p : ℕ = point_at round t.0 (row_at table j) f.0 f.1 in (
                    round.boxes + p,
                    omega (arith, point_bound round table own t.0 j f.0 f.1 t.1 f.2),
                    f.3 (row_at after (round.boxes + p)) (cut.given p t.0 j f.0 f.1 (record { taken = t.1; long = f.2; number = refl })),
                  )
            ]
      ]

  answered_before : NoneWaits round table → (i : ℕ) → i < round.boxes + round.points → waiting (row_at table i).entry ≡ false
  answered_before none i l =
      elim (cases_lt i round.boxes) [
        | inl a ↦ (own.own.each i a).answered
        | inr a ↦
            let e : round.boxes + (i - round.boxes) ≡ i = omega arith in
            no_is _ (λ t. none (i - round.boxes) (omega arith) (subst (λ x. T (waiting (row_at table x).entry)) (sym e) t))
      ]

  -- each row after the close is a box
  pub own_after : NoneWaits round table → Own n round.shape.finest (round.boxes + round.points) after
  own_after none = record {
    rows = omega (arith, own.rows, cut.same_length);
    each = λ i l. let f = part_of i l in
        record {
          answered = ap waiting (cut.entries i) ∙ answered_before none i l;
          directions = piece_box n round.shape.finest (row_at table f.0) (row_at after i) some six round.shape.fine (part_pieces i f.0 f.1)
              (own.own.each f.0 (part_within i f.0 f.1)).directions;
        };
  }

  -- the middles of the rows after the close
  pub middle_old : (i : ℕ) → i < round.boxes → (c : List ℕ) → IsMiddle n (row_at table i) c → IsMiddle n (row_at after i) c
  middle_old i l c m =
      elim (taken? round table own i) [
        | inl t ↦ kept_middle n (row_at table i) some six (cut_fine t.0 i t.1) (row_at after i) (cut.taken t.0 i t.1) c m
        | inr t ↦ subst (λ x. IsMiddle n x c) (sym (cut.others i l t)) m
      ]

  pub middle_new : (p : ℕ) (c : List ℕ) → length c ≡ n → Located round table p c
      → IsMiddle n (row_at after (round.boxes + p)) c
  middle_new p c len f =
      given_middle n (row_at table f.row) some six (cut_fine f.of f.row f.point.taken) (row_at after (round.boxes + p)) f.direction f.side
      (λ e. cut_before round table f.of f.row e f.direction) f.point.long
      (cut.given p f.of f.row f.direction f.side f.point) c len f.cell
