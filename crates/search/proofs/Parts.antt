-- The rows that one cut more makes.
use Rattle.std.proofs.lemmas.Grind.{common_steps}
use Rattle.std.proofs.Common.{◌≡◌, ℕ, ◌+◌, ◌<◌, ◌≢◌, ◌⊎◌, List, length, set, sym, refl, ap, ◌∙◌, subst, inl, inr, arith}
use Rattle.std.proofs.lemmas.List.{length-set, get_or-set_same, get_or-set_other}
use Rattle.std.proofs.lemmas.Bool.{cases_eq}
use Rattle.grid.specs.declared.interval.Interval.{Interval}
use Rattle.grid.specs.declared.interval.cut.Thirds.{Thirds}
use Rattle.table.specs.Rows.{row_at, no_row, span_of}
use Rattle.table.specs.declared.rows.Entry.{Entry}
use Rattle.table.specs.declared.rows.Row.{Row}
use Rattle.search.specs.Points.{Side, low, high, Third, middle, outer, IsThird, Same, Six}
use Rattle.search.specs.Cutting.{PartOf, ThirdsIn, with_side, side_at, row_of, Ahead, MiddleOf, OuterOf, Sides}
use Rattle.search.specs.declared.sides.LongSide.{LongSide}

-- an interval for side d
module _ (row : Row) (d : ℕ) (i : Interval) (e : Entry) (six : Six row) (l : d < 6) where
  side_six : Six (with_side row d i e)
  side_six = length-set row.spans d (span_of i) ∙ six

  side_there : (x : ℕ) → x ≢ d → Same row (with_side row d i e) x
  side_there x ne = grind (arith, common_steps)

  -- what is left of the box old, when some directions are cut and d is not
  module _ (old : Row) (cuts : ℕ → Type 0) (left : MiddleOf old row cuts) (not-d : cuts d → ⊥) where
    here : (p : Third) → PartOf p row d i → IsThird p old (with_side row d i e) d
    here p part = grind (arith, common_steps)

    there_cut : (x : ℕ) → x ≢ d → cuts x → IsThird middle old (with_side row d i e) x
    there_cut x ne c = let s = side_there x ne in let t = left.cut x c in record { first = s.first ∙ t.first; level = s.level ∙ t.level }

    there_same : (x : ℕ) → x ≢ d → x < 6 → (cuts x → ⊥) → Same old (with_side row d i e) x
    there_same x ne b c = let s = side_there x ne in let t = left.rest x b c in record { first = s.first ∙ t.first; level = s.level ∙ t.level }

    outer_of : (s : Side) → PartOf (outer s) row d i → OuterOf old (with_side row d i e) d s cuts
    outer_of s part = record { own = here (outer s) part; cut = λ x ne c. there_cut x ne c; rest = λ x b ne c. there_same x ne b c; six = side_six }

    middle_left : PartOf middle row d i → (more : ℕ → Type 0) → ((x : ℕ) → more x → cuts x ⊎ (x ≡ d)) → ((x : ℕ) → cuts x → more x) → more d → MiddleOf old (with_side row d i e) more
    middle_left part more from to own = grind (arith, common_steps)

-- the table and what is left of the box of row j, when the first i sides are cut
pub record CutTo (table : List Row) (j : ℕ) (sides : List LongSide) (i : ℕ) (after : List Row) (left : Row) : Type 0 where
  pub same_length : length after ≡ length table
  pub entries : (m : ℕ) → (row_at after m).entry ≡ (row_at table m).entry
  pub entry : left.entry ≡ (row_at table j).entry
  pub kept : MiddleOf (row_at table j) left (Ahead sides i)
  pub given : (k : ℕ) (s : Side) → k < i
      → OuterOf (row_at table j) (row_at after (row_of (side_at sides k) s)) (side_at sides k).direction.number s (Ahead sides k)
  pub others : (m : ℕ) → ((k : ℕ) (s : Side) → k < i → m ≢ row_of (side_at sides k) s) → row_at after m ≡ row_at table m

module _ (table : List Row) (j : ℕ) (sides : List LongSide) (ok : Sides table j sides) where
  module _ (i : ℕ) (after : List Row) (left : Row) (fits : i < length sides) (to : CutTo table j sides i after left) where
    fresh : Ahead sides i (side_at sides i).direction.number → ⊥
    fresh a = ok.directions a.0 i a.1 fits a.2

    -- the rows x and y are written
    module _ (x y : Row) (same-x : x.entry ≡ (row_at after (side_at sides i).row).entry)
        (same-y : y.entry ≡ (row_at (set after (side_at sides i).row x) ((side_at sides i).row + 1)).entry)
        (gives-x : OuterOf (row_at table j) x (side_at sides i).direction.number low (Ahead sides i))
        (gives-y : OuterOf (row_at table j) y (side_at sides i).direction.number high (Ahead sides i)) where
      abbrev out : List Row
      out = set (set after (side_at sides i).row x) ((side_at sides i).row + 1) y

      mid_length : length (set after (side_at sides i).row x) ≡ length table
      mid_length = length-set after (side_at sides i).row x ∙ to.same_length

      at_low : row_at out (side_at sides i).row ≡ x
      at_low = get_or-set_other (set after (side_at sides i).row x) ((side_at sides i).row + 1) (side_at sides i).row y no_row (omega arith)
          ∙ get_or-set_same after (side_at sides i).row x no_row (omega (arith, ok.rows i fits, to.same_length))

      at_high : row_at out ((side_at sides i).row + 1) ≡ y
      at_high = get_or-set_same (set after (side_at sides i).row x) ((side_at sides i).row + 1) y no_row (omega (arith, ok.rows i fits, mid_length))

      elsewhere : (m : ℕ) → m ≢ (side_at sides i).row → m ≢ (side_at sides i).row + 1 → row_at out m ≡ row_at after m
      elsewhere m p q = get_or-set_other (set after (side_at sides i).row x) ((side_at sides i).row + 1) m y no_row q ∙ get_or-set_other after (side_at sides i).row m x no_row p

      entries_more : (m : ℕ) → (row_at out m).entry ≡ (row_at after m).entry
      entries_more m = elim (cases_eq m (side_at sides i).row) [
        | inl e ↦ ap (λ (k : ℕ). (row_at out k).entry) e ∙ ap (λ (r : Row). r.entry) at_low ∙ same-x ∙ ap (λ (k : ℕ). (row_at after k).entry) (sym e)
        | inr p ↦ elim (cases_eq m ((side_at sides i).row + 1)) [
          | inl e ↦ ap (λ (k : ℕ). (row_at out k).entry) e ∙ ap (λ (r : Row). r.entry) at_high ∙ same-y
              ∙ ap (λ (r : Row). r.entry) (get_or-set_other after (side_at sides i).row ((side_at sides i).row + 1) x no_row (omega arith)) ∙ ap (λ (k : ℕ). (row_at after k).entry) (sym e)
          | inr q ↦ ap (λ (r : Row). r.entry) (elsewhere m p q)
        ]
      ]

      given_more : (k : ℕ) (s : Side) → k < i + 1
          → OuterOf (row_at table j) (row_at out (row_of (side_at sides k) s)) (side_at sides k).direction.number s (Ahead sides k)
      given_more k s l = elim (cases_eq k i) [
        | inl e ↦ subst (λ (n : ℕ). OuterOf (row_at table j) (row_at out (row_of (side_at sides n) s)) (side_at sides n).direction.number s (Ahead sides n)) (sym e) (new s)
        | inr p ↦ subst (λ (r : Row). OuterOf (row_at table j) r (side_at sides k).direction.number s (Ahead sides k))
            (sym (elsewhere (row_of (side_at sides k) s) (ok.apart k i (omega arith) fits p s low) (ok.apart k i (omega arith) fits p s high)))
            (to.given k s (omega arith))
      ]
        where
          new : (s : Side) → OuterOf (row_at table j) (row_at out (row_of (side_at sides i) s)) (side_at sides i).direction.number s (Ahead sides i)
          new low = subst (λ (r : Row). OuterOf (row_at table j) r (side_at sides i).direction.number low (Ahead sides i)) (sym at_low) gives-x
          new high = subst (λ (r : Row). OuterOf (row_at table j) r (side_at sides i).direction.number high (Ahead sides i)) (sym at_high) gives-y

      ahead_from : (e : ℕ) → Ahead sides (i + 1) e → Ahead sides i e ⊎ (e ≡ (side_at sides i).direction.number)
      ahead_from e h = elim (cases_eq h.0 i) [
        | inl q ↦ inr (sym h.2 ∙ ap (λ (k : ℕ). (side_at sides k).direction.number) q)
        | inr n ↦ let l = h.1 in inl (h.0, omega arith, h.2)
      ]

      cut_more : (m : Interval) → Six left → PartOf middle left (side_at sides i).direction.number m → CutTo table j sides (i + 1) out (with_side left (side_at sides i).direction.number m left.entry)
      cut_more m six part = record {
        same_length = length-set (set after (side_at sides i).row x) ((side_at sides i).row + 1) y ∙ mid_length;
        entries = λ m. entries_more m ∙ to.entries m;
        entry = to.entry;
        kept = middle_left left (side_at sides i).direction.number m left.entry six (ok.cuttable i fits).within (row_at table j) (Ahead sides i) to.kept fresh part
            (Ahead sides (i + 1)) ahead_from (λ e h. let l = h.1 in (h.0, omega arith, h.2)) (i, omega arith, refl);
        given = given_more;
        others = λ m n. elsewhere m (n i low (omega arith)) (n i high (omega arith)) ∙ to.others m (λ k s l. n k s (omega arith));
      }

    pub cut_step : (t : Thirds) → ThirdsIn left (side_at sides i).direction.number t → (one two : List Row) (next : Row)
        → one ≡ set after (side_at sides i).row (with_side left (side_at sides i).direction.number t.low (row_at after (side_at sides i).row).entry)
        → two ≡ set one ((side_at sides i).row + 1) (with_side left (side_at sides i).direction.number t.high (row_at one ((side_at sides i).row + 1)).entry)
        → next ≡ with_side left (side_at sides i).direction.number t.middle left.entry → Six left → CutTo table j sides (i + 1) two next
    cut_step t thirds one two next p q r six =
        rw (r, q, p) (cut_more _ _ refl refl
        (outer_of left (side_at sides i).direction.number t.low _ six (ok.cuttable i fits).within (row_at table j) (Ahead sides i) to.kept fresh low thirds.low)
        (outer_of left (side_at sides i).direction.number t.high _ six (ok.cuttable i fits).within (row_at table j) (Ahead sides i) to.kept fresh high thirds.high)
        t.middle six thirds.middle)
