-- What holds of a search after each call, how it begins, and what follows from it.
use Rattle.std.proofs.lemmas.Grind.{common_steps}
use Rattle.std.proofs.Common.{◌≡◌, ℕ, ◌+◌, ◌-◌, ◌*◌, ◌^◌, ◌<◌, ◌≤◌, Bool, cond, T, ◌≢◌, ◌⊎◌, List, length, set, replicate, Some, None, sym, ap, ◌∙◌, subst, subst₂, inl, inr, mul_comm, arith, length-set, get_or-set_same}
use native.Mathlib.Nat.{pow-le-pow_right, sub-zero}
use lib.ListN.{get_or-replicate}
use Rattle.std.proofs.lemmas.Bool.{cases_lt}
use Rattle.order.specs.Answers.{allowed}
use Rattle.order.specs.declared.answer.Answer.{Answer}
use Rattle.ranks.specs.Ranks.{ranks}
use Rattle.table.specs.Boxes.{IsBox, Own}
use Rattle.table.specs.Entries.{answer_of, shown_by}
use Rattle.table.specs.Rows.{all_cells, IsCell, IsMiddle, LiesIn, first_of, level_of, no_row, rank, row_at, whole_grid}
use Rattle.table.specs.Sums.{sum}
use Rattle.table.specs.declared.rows.Entry.TheVariants.{Answered}
use Rattle.table.specs.declared.rows.Row.{Row}
use Rattle.table.specs.declared.rows.Span.{Span}
use Rattle.table.specs.declared.shape.Shape.{Shape}
use Rattle.table.proofs.Sums.{sum_cong, sum_none, sum_short, sum_zero, yes_is}
use Rattle.search.specs.Calls.{OwnRound}
use Rattle.search.specs.Points.{Located}
use Rattle.search.specs.Runs.{Book, Holds, OwnTable, State, boxes_of, first_book, noted, open_points, rounds_for, rounds_of}
use Rattle.search.specs.declared.states.Rest.{Rest}
use Rattle.search.specs.declared.states.Round.{Round}
use Rattle.search.proofs.Falling.{weight}
use Rattle.search.proofs.Firsts.{own_same, shown_is}
use Rattle.search.proofs.Levels.{longs, near_own}
use Rattle.search.proofs.Weights.{at_start, counts, v}

-- boxes, answers and cells, at rest and in a round of so many points
pub record Base (shape : Shape) (boxes rounds points : ℕ) (table : List Row) (book : Book) : Type 0 where
  pub counted : boxes ≡ 1 + book.points
  pub closed : rounds ≡ book.rounds
  pub cells : length book.cells ≡ boxes + points
  pub own : Own shape.n shape.finest boxes table
  pub covers : (c : List ℕ) → IsCell shape.n c → (j : ℕ) × (j < boxes) × LiesIn shape.n c (row_at table j)
  pub disjoint : (c : List ℕ) (i j : ℕ) → i < boxes → j < boxes → LiesIn shape.n c (row_at table i) → LiesIn shape.n c (row_at table j) → i ≡ j
  pub middles : (j : ℕ) → j < boxes → IsMiddle shape.n (row_at table j) (noted book j).cell
  pub shown : (i : ℕ) → i < length book.cells → shown_by (row_at table i).entry ≡ (noted book i).answer
  pub apart : (i j : ℕ) → i < length book.cells → j < length book.cells → i ≢ j → (noted book i).cell ≢ (noted book j).cell
  pub weights : (k : ℕ) → k ≤ shape.finest
      → (sum boxes (weight shape.n k table) ≡ 0) ⊎ (sum boxes (weight shape.n k table) + book.rounds ≤ rounds_for shape.n k)

abbrev pub RestHas : Rest → List Row → Book → Type 0
RestHas rest table book = Base rest.shape rest.boxes rest.rounds 0 table book

pub record RoundHas (round : Round) (table : List Row) (book : Book) : Type 0 where
  pub base : Base round.shape round.boxes round.rounds round.points table book
  pub own : OwnRound round table
  pub located : (p : ℕ) → p < round.points → Located round table p (noted book (round.boxes + p)).cell
  pub sizes : (p : ℕ) → p < round.points → length (noted book (round.boxes + p)).cell ≡ round.shape.n
  -- while a box has a level below k, closing cuts one
  pub progress : (k : ℕ) → k ≤ round.shape.finest → (sum round.boxes (weight round.shape.n k table) ≡ 0)
      ⊎ ((c : ℕ) × T (ranks round.chosen c) × (c < k * round.shape.n))

-- the theorem, from what holds
pub holds : (shape : Shape) (state : State) (table : List Row) (book : Book)
    → Base shape (boxes_of state) (rounds_of state) (open_points state) table book → OwnTable state table → Holds shape.n shape.finest state table book
holds shape state table book b own = record {
  one_box = λ c i. let f = b.covers c i in
      (f.0, record { within = f.1; lies = f.2; only = λ h l x. b.disjoint c h f.0 l f.1 x f.2 });
  answers = λ j l.
      let shows : shown_by (row_at table j).entry ≡ Some (answer_of (row_at table j).entry) = shown_is _ (b.own.each j l).answered in
      let m : j < length book.cells = omega (arith, b.cells) in
      (j, record { within = m; middle = b.middles j l; given = (answer_of (row_at table j).entry, shows, sym (b.shown j m) ∙ shows) });
  sides = λ k one most enough j d l m.
      let n : ℕ = shape.n in
      let row : Row = row_at table j in
      let near = near_own n shape.finest row shape.few (b.own.each j l).directions in
      let none : sum (boxes_of state) (weight n k table) ≡ 0 = elim (b.weights k most) [ inl e ↦ e | inr e ↦ omega arith ] in
      let past : k * n ≤ rank n row = elim (cases_lt (rank n row) (k * n))
      [ inl x ↦ absurd (omega (arith, counts n (k * n - rank n row) (omega arith), sum_none (boxes_of state) (weight n k table) none j l)) | inr x ↦ x ] in
      let deep : k ≤ level_of row d = elim (cases_lt (level_of row d) k)
      [ inl x ↦ absurd (omega (arith, mul_comm n k, sum_short n k (level_of row) d m x (λ i y. omega (arith, near.near i d y m)))) | inr x ↦ x ] in
      pow-le-pow_right {n = 3} (omega arith) {i = 19 - level_of row d} {j = 19 - k} (omega arith);
  apart = b.apart;
  counted = b.counted;
  rounds = b.closed;
  noted_all = b.cells;
  own = own;
  long_sides = λ j l. longs shape.n (row_at table j) shape.some (near_own shape.n shape.finest (row_at table j) shape.few (b.own.each j l).directions);
}

-- a table with the same boxes, and a book with the same cells for them
module _ (shape : Shape) (boxes rounds points : ℕ) (table after : List Row) (book : Book) (b : Base shape boxes rounds points table book)
    (rows : (j : ℕ) → j < boxes → row_at after j ≡ row_at table j) where
  pub same_weights : (k : ℕ) → sum boxes (weight shape.n k after) ≡ sum boxes (weight shape.n k table)
  same_weights k = sum_cong boxes (weight shape.n k after) (weight shape.n k table) (λ i l. ap (λ (r : Row). v shape.n (k * shape.n - rank shape.n r)) (rows i l))

  pub same_disjoint : (c : List ℕ) (i j : ℕ) → i < boxes → j < boxes → LiesIn shape.n c (row_at after i) → LiesIn shape.n c (row_at after j) → i ≡ j
  same_disjoint c i j l m x y = b.disjoint c i j l m (subst (LiesIn shape.n c) (rows i l) x) (subst (LiesIn shape.n c) (rows j m) y)

  pub same_base : (more : ℕ) (kept : Book) → kept.points ≡ book.points → kept.rounds ≡ book.rounds
      → ((j : ℕ) → j < boxes → (noted kept j).cell ≡ (noted book j).cell)
      → boxes ≤ length after
      → length kept.cells ≡ boxes + more
      → ((i : ℕ) → i < length kept.cells → shown_by (row_at after i).entry ≡ (noted kept i).answer)
      → ((i j : ℕ) → i < length kept.cells → j < length kept.cells → i ≢ j → (noted kept i).cell ≢ (noted kept j).cell)
      → Base shape boxes rounds more after kept
  same_base more kept same_points same_rounds same-cells room cells shown apart = record {
    counted = omega (arith, b.counted);
    closed = b.closed ∙ sym same_rounds;
    cells = cells;
    own = own_same shape.n shape.finest boxes table after rows room b.own;
    covers = λ c i. let f = b.covers c i in (f.0, f.1, subst (LiesIn shape.n c) (sym (rows f.0 f.1)) f.2);
    disjoint = same_disjoint;
    middles = λ j l. subst₂ (IsMiddle shape.n) (sym (rows j l)) (sym (same-cells j l)) (b.middles j l);
    shown = shown;
    apart = apart;
    weights = λ k l. elim (b.weights k l) [ inl e ↦ inl (same_weights k ∙ e) | inr e ↦ inr (omega (arith, same_weights k)) ];
  }

-- begin
module _ (begun : Rest) (table written : List Row) (a : Answer) (rows : 1 ≤ length table) (ok : T (allowed a)) (one : begun.boxes ≡ 1)
    (none : begun.rounds ≡ 0) (is : written ≡ set table 0 (whole_grid (Answered a))) where
  abbrev n : ℕ
  n = begun.shape.n

  row_zero : row_at written 0 ≡ whole_grid (Answered a)
  row_zero = ap (λ t. row_at t 0) is ∙ get_or-set_same table 0 (whole_grid (Answered a)) no_row rows

  row_is : (j : ℕ) → j < begun.boxes → row_at written j ≡ whole_grid (Answered a)
  row_is j l = let e : j ≡ 0 = omega arith in ap (row_at written) e ∙ row_zero

  level_zero : (d : ℕ) → d < 6 → level_of (whole_grid (Answered a)) d ≡ 0
  level_zero d l = ap (λ (s : Span). s.level) (get_or-replicate 6 d all_cells all_cells l)

  first_zero : (d : ℕ) → d < 6 → first_of (whole_grid (Answered a)) d ≡ 0
  first_zero d l = ap (λ (s : Span). s.first) (get_or-replicate 6 d all_cells all_cells l)

  used : (d : ℕ) → d < n → d < 6
  used d l = omega (arith, begun.shape.few)

  shown_zero : shown_by (Answered a) ≡ Some a
  shown_zero = ap (λ (x : Bool). cond x (Some a) None) (yes_is (allowed a) ok)

  box_zero : IsBox n begun.shape.finest (whole_grid (Answered a))
  box_zero = grind (arith, common_steps)

  middle_zero : IsMiddle n (whole_grid (Answered a)) (replicate n 581130733)
  middle_zero = grind (arith, common_steps)

  only : (j : ℕ) → j < begun.boxes → j ≡ 0
  only j l = omega arith

  weight_zero : (k : ℕ) → weight n k written 0 ≡ v n (k * n)
  weight_zero k =
      ap (λ x. v n (k * n - x)) (ap (rank n) row_zero ∙ sum_zero n (level_of (whole_grid (Answered a))) (λ d l. level_zero d (used d l)))
      ∙ ap (v n) (sub-zero (k * n))

  pub begins : RestHas begun written (first_book n a)
  begins = record {
    counted = one;
    closed = none;
    cells = omega arith;
    own = record {
      rows = omega (arith, one, ap length is, length-set table 0 (whole_grid (Answered a)));
      each = λ j l. subst (IsBox n begun.shape.finest) (sym (row_is j l)) box_zero;
    };
    covers = λ c i. (
      0,
      omega arith,
      subst (LiesIn n c) (sym row_zero) (record {
        from = λ d l. omega (arith, first_zero d (used d l));
        to = λ d l. omega (arith, i.inside d l, first_zero d (used d l), ap (λ (t : ℕ). 3 ^ (19 - t)) (level_zero d (used d l)));
      }),
    );
    disjoint = λ c i j l m x y. omega arith;
    middles = λ j l. subst₂ (IsMiddle n) (sym (row_is j l)) (sym (ap (λ x. (noted (first_book n a) x).cell) (only j l))) middle_zero;
    shown = λ i l. ap (λ r. shown_by r.entry) (row_is i (omega arith)) ∙ shown_zero
        ∙ sym (ap (λ x. (noted (first_book n a) x).answer) (only i (omega arith)));
    apart = λ i j l m x. absurd (omega arith);
    weights = λ k l. inr (omega (arith, ap (λ x. sum x (weight n k written)) one, weight_zero k, at_start n k begun.shape.some));
  }
