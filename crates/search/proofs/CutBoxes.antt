-- Cutting along the long sides in the order of cutting gives what closing promises of a taken box.
use Rattle.std.proofs.Common.{◌≡◌, ℕ, ◌+◌, ◌-◌, ◌*◌, ◌%◌, ◌<◌, ◌≤◌, false, T, ◌≢◌, ◌⊎◌, List, length, sym, ap, ◌∙◌, subst, inl, inr, arith}
use Rattle.std.proofs.lemmas.Bool.{cases_eq, cases_lt}
use Rattle.table.specs.declared.rows.Row.{Row}
use Rattle.table.specs.Rows.{row_at}
use Rattle.table.specs.Boxes.{Long}
use Rattle.table.proofs.Chains.{Strict}
use Rattle.table.proofs.Orders.{by_answer}
use Rattle.search.specs.declared.sides.LongSide.{LongSide}
use Rattle.search.specs.Points.{Side, low, high, Given, longs_below}
use Rattle.search.specs.Cutting.{side_before, Taking, Cuttable, side_at, row_of, Ahead, Sides, OuterOf, side_for, InCutOrder, CutAlong, CutBox}
use Rattle.search.proofs.Longs.{many, place_below, place_apart, long_cuttable}

module _ (n r : ℕ) (table : List Row) (j base : ℕ) (t : Taking n r table j base) (xs : List LongSide) (o : InCutOrder n table j base xs) where
  row_is : (k : ℕ) (l : k < length xs) → (side_at xs k).row ≡ base + 2 * longs_below n (row_at table j) (o.each k l).0
  row_is k l = ap (λ (s : LongSide). s.row) (o.each k l).2

  direction_is : (k : ℕ) (l : k < length xs) → (side_at xs k).direction.number ≡ (o.each k l).0
  direction_is k l = ap (λ (s : LongSide). s.direction.number) (o.each k l).2

  place_within : (d : ℕ) → Long n (row_at table j) d → longs_below n (row_at table j) d + 1 ≤ n - r % n
  place_within d l = omega (arith, many n r table j base t, place_below n (row_at table j) t.some n d l.direction l)

  places : (i k : ℕ) (p : i < length xs) (q : k < length xs) → i ≢ k → longs_below n (row_at table j) (o.each i p).0 ≢ longs_below n (row_at table j) (o.each k q).0
  places i k p q ne =
      let d = o.each i p in let e = o.each k q in
      let apart : d.0 ≢ e.0 = λ x. o.distinct i k ne p q (direction_is i p ∙ x ∙ sym (direction_is k q)) in
      elim (cases_lt d.0 e.0) [
        | inl h ↦ omega (arith, place_apart n (row_at table j) t.some d.0 e.0 d.1 e.1 h)
        | inr h ↦ omega (arith, place_apart n (row_at table j) t.some e.0 d.0 e.1 d.1 (omega (arith, apart)))
      ]

  rows_apart : (i k : ℕ) (p : i < length xs) (q : k < length xs) → i ≢ k → (s z : Side) → row_of (side_at xs i) s ≢ row_of (side_at xs k) z
  rows_apart i k p q ne low low = omega (arith, row_is i p, row_is k q, places i k p q ne)
  rows_apart i k p q ne low high = omega (arith, row_is i p, row_is k q, places i k p q ne)
  rows_apart i k p q ne high low = omega (arith, row_is i p, row_is k q, places i k p q ne)
  rows_apart i k p q ne high high = omega (arith, row_is i p, row_is k q, places i k p q ne)

  pub sides_ready : Sides table j xs
  sides_ready = record {
    within = omega (arith, t.ahead, t.room);
    cuttable = λ k l. subst (Cuttable (row_at table j)) (sym (direction_is k l)) (long_cuttable n r table j base t (o.each k l).0 (o.each k l).1);
    after = λ k l. omega (arith, t.ahead, row_is k l);
    rows = λ k l. omega (arith, t.room, row_is k l, place_within (o.each k l).0 (o.each k l).1);
    directions = λ i k h l. o.distinct i k (omega arith) (omega arith) l;
    apart = λ i k p q ne s z. rows_apart i k p q ne s z;
  }

  order : Strict (λ d e. side_before (side_for n table j base d) (side_for n table j base e))
  order = by_answer (λ d. (side_for n table j base d).direction.w)

  -- a direction is ahead of the place of a long side exactly when it is long and is cut before
  ahead_long : (k e : ℕ) → k ≤ length xs → Ahead xs k e → Long n (row_at table j) e
  ahead_long k e h a =
      let l = a.1 in
      let i : a.0 < length xs = omega arith in
      subst (Long n (row_at table j)) (sym (direction_is a.0 i) ∙ a.2) (o.each a.0 i).1

  long_ahead : (e : ℕ) → Long n (row_at table j) e → Ahead xs (length xs) e
  long_ahead e l = let p = o.all e l in (p.0, p.1, ap (λ (s : LongSide). s.direction.number) p.2)

  side_is : (i e : ℕ) (l : i < length xs) → (side_at xs i).direction.number ≡ e → side_at xs i ≡ side_for n table j base e
  side_is i e l q = (o.each i l).2 ∙ ap (side_for n table j base) (sym (direction_is i l) ∙ q)

  ahead_before : (k d e : ℕ) → k < length xs → side_at xs k ≡ side_for n table j base d → Ahead xs k e → T (side_before (side_for n table j base e) (side_for n table j base d))
  ahead_before k d e h is a =
      let l = a.1 in
      let i : a.0 < length xs = omega arith in
      let ne : e ≢ d = λ q. o.distinct a.0 k (omega arith) i h (a.2 ∙ q ∙ ap (λ (s : LongSide). s.direction.number) (sym is)) in
      let no : side_before (side_for n table j base d) (side_for n table j base e) ≡ false =
      ap (λ (s : LongSide). side_before s (side_for n table j base e)) (sym is)
      ∙ ap (λ (s : LongSide). side_before (side_at xs k) s) (sym (side_is a.0 e i a.2)) ∙ o.rising a.0 k a.1 h in
      elim (order.total e d ne) [ inl y ↦ y | inr y ↦ absurd (subst T no y) ]

  before_ahead : (k d e : ℕ) → k < length xs → side_at xs k ≡ side_for n table j base d → Long n (row_at table j) e → T (side_before (side_for n table j base e) (side_for n table j base d)) → Ahead xs k e
  before_ahead k d e h is l b =
      let p = o.all e l in
      elim (cases_lt p.0 k) [
        | inl q ↦ (p.0, q, ap (λ (s : LongSide). s.direction.number) p.2)
        | inr q ↦ elim (cases_eq p.0 k) [
          | inl x ↦
              let y : e ≡ d = ap (λ (s : LongSide). s.direction.number) (sym p.2 ∙ ap (side_at xs) x ∙ is) in
              absurd (order.irrefl d (subst (λ z. T (side_before (side_for n table j base z) (side_for n table j base d))) y b))
          | inr x ↦ absurd (subst T (
              ap (λ (s : LongSide). side_before s (side_for n table j base d)) (sym p.2)
              ∙ ap (λ (s : LongSide). side_before (side_at xs p.0) s) (sym is) ∙ o.rising k p.0 (omega arith) p.1) b)
        ]
      ]

  module _ (after : List Row) (c : CutAlong table j xs after) where
    given_of : (d : ℕ) (s : Side) → Long n (row_at table j) d
        → Given n (row_at table j) (row_at after (row_of (side_for n table j base d) s)) d s (λ e. side_before (side_for n table j base e) (side_for n table j base d))
    given_of d s l =
        let p = o.all d l in
        let q : (side_at xs p.0).direction.number ≡ d = ap (λ (z : LongSide). z.direction.number) p.2 in
        let g : OuterOf (row_at table j) (row_at after (row_of (side_for n table j base d) s)) d s (Ahead xs p.0) =
        subst (λ (x : ℕ). OuterOf (row_at table j) (row_at after (row_of (side_for n table j base d) s)) x s (Ahead xs p.0)) q
        (subst (λ (z : LongSide). OuterOf (row_at table j) (row_at after (row_of z s)) (side_at xs p.0).direction.number s (Ahead xs p.0)) p.2 (c.given p.0 s p.1)) in
        let b = p.1 in
        record {
          own = g.own;
          cut = λ e m ne f. g.cut e ne (before_ahead p.0 d e p.1 p.2 m f);
          rest = λ e six ne f. g.rest e six ne (λ a. f (ahead_long p.0 e (omega arith) a) (ahead_before p.0 d e p.1 p.2 a));
          six = g.six;
        }

    outside : (m : ℕ) → (m < base) ⊎ (base + 2 * longs_below n (row_at table j) n ≤ m) → (k : ℕ) (s : Side) → k < length xs → m ≢ row_of (side_at xs k) s
    outside m (inl h) k low l = omega (arith, row_is k l)
    outside m (inl h) k high l = omega (arith, row_is k l)
    outside m (inr h) k low l = omega (arith, row_is k l, many n r table j base t, place_within (o.each k l).0 (o.each k l).1)
    outside m (inr h) k high l = omega (arith, row_is k l, many n r table j base t, place_within (o.each k l).0 (o.each k l).1)

    pub box_cut : CutBox n table j base after
    box_cut = record {
      same_length = c.same_length;
      entries = c.entries;
      kept = record {
        cut = λ e l. c.kept.cut e (long_ahead e l);
        rest = λ e six l. c.kept.rest e six (λ a. l (ahead_long (length xs) e (omega arith) a));
        six = c.six;
      };
      given = given_of;
      others = λ m ne out. c.others m ne (outside m out);
    }
