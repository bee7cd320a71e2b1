-- The taken boxes of the chosen ranks below r are cut, and the others are as they were.
use Rattle.std.proofs.lemmas.Grind.{common_steps}
use Rattle.std.proofs.Common.{◌≡◌, ℕ, zero, suc, ◌+◌, ◌-◌, ◌*◌, ◌/◌, ◌%◌, ◌<◌, ◌≤◌, Bool, cond, T, ◌≢◌, List, length, sym, ap, ◌∙◌, subst, ap₂, inl, inr, add-one, arith}
use Rattle.std.proofs.lemmas.Bool.{cases_eq}
use Rattle.grid.specs.Grid.{IsInterval}
use Rattle.order.specs.declared.answer.Answer.{Answer}
use Rattle.order.specs.Answers.{earlier_answer}
use Rattle.ranks.specs.Ranks.{ranks}
use Rattle.table.specs.declared.rows.Row.{Row}
use Rattle.table.specs.Rows.{rank, row_at, first_of, level_of}
use Rattle.table.specs.Entries.{before, answer_of}
use Rattle.table.specs.Boxes.{Long, First}
use Rattle.table.proofs.Sums.{yes_is, no_is, sum_fits}
use Rattle.search.specs.declared.states.Round.{Round}
use Rattle.search.specs.Points.{Side, low, high, point_at, Taken, IsPoint, w_of, cut_before, Kept, Given, longs_below}
use Rattle.search.specs.Counts.{points_below, points_of}
use Rattle.search.specs.Calls.{OwnRound, CutAll}
use Rattle.search.specs.Cutting.{side_before, Taking, with_row, side_for, row_of, CutBox}
use Rattle.search.proofs.Longs.{many}
use Rattle.search.proofs.Firsts.{box_level, first_unique}
use Rattle.search.proofs.Places.{chosen_bound, near_row, number_below}

-- the points of the chosen ranks below r
abbrev pub below : Round → ℕ → ℕ
below round = points_below round.shape.n (ranks round.chosen)

pub record CutRanks (round : Round) (table : List Row) (r : ℕ) (after : List Row) : Type 0 where
  pub same_length : length after ≡ length table
  pub entries : (j : ℕ) → (row_at after j).entry ≡ (row_at table j).entry
  pub taken : (q j : ℕ) → q < r → Taken round table q j → Kept round.shape.n (row_at table j) (row_at after j)
  pub given : (p q j d : ℕ) (s : Side) → q < r → IsPoint round table p q j d s
      → Given round.shape.n (row_at table j) (row_at after (round.boxes + p)) d s (λ e. cut_before round table q j e d)
  pub others : (j : ℕ) → j < round.boxes → ((q : ℕ) → q < r → Taken round table q j → ⊥) → row_at after j ≡ row_at table j
  pub above : (m : ℕ) → round.boxes + below round r ≤ m → row_at after m ≡ row_at table m

given_same : (n : ℕ) (old new : Row) (d : ℕ) (s : Side) (f g : ℕ → Bool) → ((e : ℕ) → f e ≡ g e) → Given n old new d s f → Given n old new d s g
given_same n old new d s f g h x = grind (arith, common_steps)

module _ (round : Round) (table : List Row) (own : OwnRound round table) where
  pub below_next : (r : ℕ) → T (ranks round.chosen r)
      → below round (r + 1) ≡ below round r + 2 * (round.shape.n - r % round.shape.n)
  below_next r h =
      ap (below round) (add-one r)
      ∙ ap (λ (x : Bool). below round r + cond x (2 * (round.shape.n - r % round.shape.n)) 0) (yes_is (ranks round.chosen r) h)

  below_skip : (r : ℕ) → (T (ranks round.chosen r) → ⊥) → below round (r + 1) ≡ below round r
  below_skip r h =
      ap (below round) (add-one r)
      ∙ ap (λ (x : Bool). below round r + cond x (2 * (round.shape.n - r % round.shape.n)) 0) (no_is (ranks round.chosen r) h) ∙ omega arith

  -- the rank r is not chosen
  cut_skip : (r : ℕ) (mid : List Row) → (T (ranks round.chosen r) → ⊥) → CutRanks round table r mid → CutRanks round table (r + 1) mid
  cut_skip r mid out c = record {
    same_length = c.same_length;
    entries = c.entries;
    taken = λ q j h t. c.taken q j (lower q h t.in_set) t;
    given = λ p q j d s h i. c.given p q j d s (lower q h i.taken.in_set) i;
    others = λ j h x. c.others j h (λ q l t. x q (omega arith) t);
    above = λ m h. c.above m (omega (arith, below_skip r out));
  }
    where
      lower : (q : ℕ) → q < r + 1 → T (ranks round.chosen q) → q < r
      lower q h t = elim (cases_eq q r) [ inl e ↦ absurd (out (subst (λ x. T (ranks round.chosen x)) e t)) | inr ne ↦ omega arith ]

  -- no rank from r on and below r + k is chosen, as between two ranks that are taken out of the set in turn
  pub cut_skips : (k r : ℕ) (mid : List Row) → ((q : ℕ) → r ≤ q → q < r + k → T (ranks round.chosen q) → ⊥)
      → CutRanks round table r mid → CutRanks round table (r + k) mid × (below round (r + k) ≡ below round r)
  cut_skips zero r mid out c =
      let e : r ≡ r + 0 = omega arith in
      (subst (λ (x : ℕ). CutRanks round table x mid) e c, ap (below round) (sym e))
  cut_skips (suc k) r mid out c =
      let h = cut_skips k r mid (λ q a b. out q a (omega arith)) c in
      let n : T (ranks round.chosen (r + k)) → ⊥ = out (r + k) (omega arith) (omega arith) in
      let e : r + k + 1 ≡ r + suc k = omega arith in (
        subst (λ (x : ℕ). CutRanks round table x mid) e (cut_skip (r + k) mid n h.0),
        ap (below round) (sym e) ∙ below_skip (r + k) n ∙ h.1,
      )

  -- row j is taken for the chosen rank r
  module _ (r j : ℕ) (chosen : T (ranks round.chosen r)) (f : First round.shape.n round.shape.finest round.boxes table r j)
      (mid : List Row) (base : ℕ) (c : CutRanks round table r mid) (is : base ≡ round.boxes + below round r) where
    is_taken : Taken round table r j
    is_taken = record { in_set = chosen; first = f }

    same_j : row_at mid j ≡ row_at table j
    same_j = c.others j f.1.0.box.within (λ q h t. let e : q ≡ r = sym t.first.1.0.box.ranked ∙ f.1.0.box.ranked in omega arith)

    under_top : (top : ℕ) → r < top → below round r + 2 * (round.shape.n - r % round.shape.n) ≤ below round top
    under_top top h = omega (
      arith,
      sum_fits top (λ q. cond (ranks round.chosen q) (2 * (round.shape.n - q % round.shape.n)) 0) r h,
      ap (λ (x : Bool). cond x (2 * (round.shape.n - r % round.shape.n)) 0) (yes_is (ranks round.chosen r) chosen),
    )

    under_all : below round r + 2 * (round.shape.n - r % round.shape.n) ≤ points_of round.shape.n (ranks round.chosen)
    unfolding points_of
    under_all = under_top 114 (chosen_bound round r chosen)

    pub room : base + 2 * (round.shape.n - r % round.shape.n) ≤ round.boxes + round.points
    room = omega (arith, is, under_all, round.counted)

    pub taking : Taking round.shape.n r mid j base
    taking =
        let o = own.own.each j f.1.0.box.within in
        record {
          some = round.shape.some;
          six = round.shape.few;
          near = λ d e h k. subst (λ (row : Row). level_of row d ≤ level_of row e + 1) (sym same_j) ((near_row round table own j f.1.0.box.within).near d e h k);
          intervals = λ d h. subst (λ (row : Row). IsInterval (first_of row d) (level_of row d)) (sym same_j) (o.directions d h).interval;
          ranked = ap (rank round.shape.n) same_j ∙ f.1.0.box.ranked;
          coarse = subst (λ (x : ℕ). x / round.shape.n < 19) f.1.0.box.ranked (omega (arith, box_level round.shape.n round.shape.finest round.boxes table r j round.shape.some f.1.0.box, round.shape.fine));
          ahead = let w = f.1.0.box.within in omega (arith, is);
          room = omega (arith, room, own.rows, c.same_length);
        }

    low_row : (d : ℕ) → base + 2 * longs_below round.shape.n (row_at table j) d ≡ round.boxes + point_at round r (row_at table j) d low
    low_row d = omega (arith, is)

    high_row : (d : ℕ) → base + 2 * longs_below round.shape.n (row_at table j) d + 1 ≡ round.boxes + point_at round r (row_at table j) d high
    high_row d = omega (arith, is)

    side_w : (d : ℕ) → (side_for round.shape.n mid j base d).direction.w ≡ w_of round table r j d
    side_w d =
        ap (λ (row : Row). (with_row mid d (base + 2 * longs_below round.shape.n row d)).direction.w) same_j
        ∙ ap₂ earlier_answer
        (ap answer_of (c.entries (base + 2 * longs_below round.shape.n (row_at table j) d)) ∙ ap (λ (m : ℕ). answer_of (row_at table m).entry) (low_row d))
        (ap answer_of (c.entries (base + 2 * longs_below round.shape.n (row_at table j) d + 1)) ∙ ap (λ (m : ℕ). answer_of (row_at table m).entry) (high_row d))

    same_before : (e d : ℕ) → side_before (side_for round.shape.n mid j base e) (side_for round.shape.n mid j base d) ≡ cut_before round table r j e d
    same_before e d = ap₂ (λ (x y : Answer). before x e y d) (side_w e) (side_w d)

    point_row : (d : ℕ) (s : Side) → row_of (side_for round.shape.n mid j base d) s ≡ round.boxes + point_at round r (row_at table j) d s
    point_row d low = ap (λ (row : Row). base + 2 * longs_below round.shape.n row d) same_j ∙ low_row d
    point_row d high = ap (λ (row : Row). base + 2 * longs_below round.shape.n row d + 1) same_j ∙ high_row d

    module _ (after : List Row) (b : CutBox round.shape.n mid j base after) where
      old_row : (m : ℕ) → m ≢ j → m < base → row_at after m ≡ row_at mid m
      old_row m ne h = b.others m ne (inl h)

      other_taken : (q i : ℕ) → q < r → Taken round table q i → i ≢ j
      other_taken q i h t e = let x : q ≡ r = sym t.first.1.0.box.ranked ∙ ap (λ (k : ℕ). rank round.shape.n (row_at table k)) e ∙ f.1.0.box.ranked in omega arith

      new_given : (d : ℕ) (s : Side) → Long round.shape.n (row_at table j) d
          → Given round.shape.n (row_at table j) (row_at after (round.boxes + point_at round r (row_at table j) d s)) d s (λ e. cut_before round table r j e d)
      new_given d s l =
          let x = b.given d s (subst (λ (row : Row). Long round.shape.n row d) (sym same_j) l) in
          given_same round.shape.n (row_at table j) _ d s _ _ (λ e. same_before e d)
          (subst (λ (row : Row). Given round.shape.n row (row_at after (round.boxes + point_at round r (row_at table j) d s)) d s (λ e. side_before (side_for round.shape.n mid j base e) (side_for round.shape.n mid j base d))) same_j
          (subst (λ (m : ℕ). Given round.shape.n (row_at mid j) (row_at after m) d s (λ e. side_before (side_for round.shape.n mid j base e) (side_for round.shape.n mid j base d))) (point_row d s) x))

      given_now : (p i d : ℕ) (s : Side) → IsPoint round table p r i d s
          → Given round.shape.n (row_at table i) (row_at after (round.boxes + p)) d s (λ e. cut_before round table r i e d)
      given_now p i d s x =
          let e : j ≡ i = first_unique round.shape.n round.shape.finest round.boxes table r j i f x.taken.first in
          subst (λ (m : ℕ). Given round.shape.n (row_at table i) (row_at after (round.boxes + m)) d s (λ z. cut_before round table r i z d)) (sym x.number)
          (subst (λ (k : ℕ). Given round.shape.n (row_at table k) (row_at after (round.boxes + point_at round r (row_at table k) d s)) d s (λ z. cut_before round table r k z d)) e
          (new_given d s (subst (λ (k : ℕ). Long round.shape.n (row_at table k) d) (sym e) x.long)))

      given_then : (p q i d : ℕ) (s : Side) → q < r → IsPoint round table p q i d s
          → Given round.shape.n (row_at table i) (row_at after (round.boxes + p)) d s (λ e. cut_before round table q i e d)
      given_then p q i d s h x =
          let w = f.1.0.box.within in
          let under : p < below round r =
          subst (λ (m : ℕ). m < below round r) (sym x.number)
          (number_below round table own r q i d s x.taken h x.long) in
          subst (λ (row : Row). Given round.shape.n (row_at table i) row d s (λ e. cut_before round table q i e d))
          (sym (old_row (round.boxes + p) (omega arith) (omega (arith, is)))) (c.given p q i d s h x)

      pub cut_one : CutRanks round table (r + 1) after
      cut_one =
          let w = f.1.0.box.within in
          record {
            same_length = b.same_length ∙ c.same_length;
            entries = λ m. b.entries m ∙ c.entries m;
            taken = λ q i h t. elim (cases_eq q r) [
              | inl e ↦
                  let u : Taken round table r i = subst (λ (k : ℕ). Taken round table k i) e t in
                  let v : j ≡ i = first_unique round.shape.n round.shape.finest round.boxes table r j i f u.first in
                  subst (λ (k : ℕ). Kept round.shape.n (row_at table k) (row_at after k)) v (subst (λ (row : Row). Kept round.shape.n row (row_at after j)) same_j b.kept)
              | inr ne ↦
                  let l : q < r = omega arith in
                  let z = t.first.1.0.box.within in
                  subst (λ (row : Row). Kept round.shape.n (row_at table i) row) (sym (old_row i (other_taken q i l t) (omega (arith, is)))) (c.taken q i l t)
            ];
            given = λ p q i d s h x. elim (cases_eq q r) [
              | inl e ↦
                  subst (λ (k : ℕ). Given round.shape.n (row_at table i) (row_at after (round.boxes + p)) d s (λ z. cut_before round table k i z d)) (sym e)
                  (given_now p i d s (subst (λ (k : ℕ). IsPoint round table p k i d s) e x))
              | inr ne ↦ given_then p q i d s (omega arith) x
            ];
            others = λ m h x.
                old_row m (λ e. x r (omega arith) (subst (Taken round table r) (sym e) is_taken)) (omega (arith, is))
                ∙ c.others m h (λ q l t. x q (omega arith) t);
            above = λ m h.
                b.others m (omega (arith, is)) (inr (omega (arith, is, below_next r chosen, many round.shape.n r mid j base taking)))
                ∙ c.above m (omega (arith, below_next r chosen));
          }

  all_points : (r : ℕ) → r ≡ 114 → points_of round.shape.n (ranks round.chosen) ≡ below round r
  unfolding points_of
  all_points r e = ap (below round) (sym e)

  pub cut_end : (r : ℕ) (after : List Row) → r ≡ 114 → CutRanks round table r after → CutAll round table after
  cut_end r after e c = record {
    same_length = c.same_length;
    entries = c.entries;
    taken = λ q j t. let h = chosen_bound round q t.in_set in c.taken q j (omega arith) t;
    given = λ p q j d s x. let h = chosen_bound round q x.taken.in_set in c.given p q j d s (omega arith) x;
    others = λ j h x. c.others j h (λ q l t. x q t);
    above = λ m h. c.above m (omega (arith, round.counted, all_points r e));
  }
