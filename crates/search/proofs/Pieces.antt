-- The sides of a row that closing makes of a box: the row lies in the box, and is a box too.
use Rattle.std.proofs.Common.{ℕ, ◌+◌, ◌/◌, ◌<◌, ◌≤◌, Bool, List, get_or, sym, ◌∙◌, subst, subst₂, inl, inr, arith}
use Rattle.std.proofs.lemmas.Bool.{cases_eq, cases_lt}
use Rattle.grid.specs.Grid.{IsInterval}
use Rattle.grid.proofs.Lengths.{third}
use Rattle.table.specs.Boxes.{InDirection, Long}
use Rattle.table.specs.Rows.{LiesIn, first_of, level_of, rank}
use Rattle.table.specs.declared.rows.Row.{Row}
use Rattle.table.proofs.Sums.{test}
use Rattle.search.specs.Points.{Given, IsThird, Kept, Same, Side, Third, lower, middle, outer, start_of, upper}
use Rattle.search.proofs.Cuts.{from_same, from_third, lies, lies_at}
use Rattle.search.proofs.Levels.{Near, level_is, long?, near_own}
use Rattle.search.proofs.Thirds.{In, wider}

-- the side d of a new row: that of the old row, or a third of it, if it is long and not yet finest
pub data Piece (n finest : ℕ) (old new : Row) (d : ℕ) : Type 0 where
  stays : Same old new d → Piece n finest old new d
  cut : (p : Third) → Long n old d → level_of old d < finest → IsThird p old new d → Piece n finest old new d

module _ (n finest : ℕ) (old new : Row) (some : 1 ≤ n) (below : rank n old / n < finest) where
  pub kept_piece : Kept n old new → (d : ℕ) → d < 6 → Piece n finest old new d
  kept_piece k d l =
      elim (cases_lt d n) [
        | inl a ↦ elim (long? n old some d a) [ inl x ↦ cut middle x (omega (arith, x.level)) (k.cut d x) | inr x ↦ stays (k.rest d l x) ]
        | inr a ↦ stays (k.rest d l (λ x. absurd (omega (arith, x.direction))))
      ]

  pub given_piece : (d : ℕ) (s : Side) (first : ℕ → Bool) → Long n old d → Given n old new d s first → (e : ℕ) → e < 6 → Piece n finest old new e
  given_piece d s first long g e l =
      elim (cases_eq e d) [
        | inl x ↦ subst (Piece n finest old new) (sym x) (cut (outer s) long (omega (arith, long.level)) g.own)
        | inr x ↦ elim (cases_lt e n) [
          | inl a ↦ elim (long? n old some e a) [
            | inl y ↦ elim (test (first e)) [
              | inl t ↦ cut middle y (omega (arith, y.level)) (g.cut e y x t)
              | inr t ↦ stays (g.rest e l x (λ _ z. t z))
            ]
            | inr y ↦ stays (g.rest e l x (λ z _. y z))
          ]
          | inr a ↦ stays (g.rest e l x (λ z _. absurd (omega (arith, z.direction))))
        ]
      ]

third_interval : (p : Third) (f t : ℕ) → IsInterval f t → t < 19 → IsInterval (start_of p f t) (t + 1)
third_interval lower f t i h = third f t 0 i h (omega arith) (omega arith)
third_interval middle f t i h = third f t 1 i h (omega arith) (omega arith)
third_interval upper f t i h = third f t 2 i h (omega arith) (omega arith)

module _ (n finest : ℕ) (old new : Row) (some : 1 ≤ n) (six : n ≤ 6) (fine : finest ≤ 19) where
  side_wider : (d x : ℕ) → Piece n finest old new d → In (first_of new d) (level_of new d) x → In (first_of old d) (level_of old d) x
  side_wider d x (stays s) i = from_same old new d x s i
  side_wider d x (cut p long h t) i = wider p (first_of old d) (level_of old d) x (omega arith) (from_third old new d x p t i)

  side_level : Near n old → (d : ℕ) → d < n → Piece n finest old new d → (rank n old / n ≤ level_of new d) × (level_of new d ≤ rank n old / n + 1)
  side_level near d l (stays s) = elim (level_is n old some near d l) [ inl e ↦ (omega (arith, s.level), omega (arith, s.level)) | inr e ↦ (omega (arith, s.level), omega (arith, s.level)) ]
  side_level near d l (cut p long h t) = (omega (arith, t.level, long.level), omega (arith, t.level, long.level))

  module _ (pieces : (d : ℕ) → d < 6 → Piece n finest old new d) where
    pub piece_wider : (c : List ℕ) → LiesIn n c new → LiesIn n c old
    piece_wider c h = lies n c old (λ d l. side_wider d (get_or c d 0) (pieces d (omega arith)) (lies_at n c new h d l))

    module _ (box : (d : ℕ) → d < 6 → InDirection n finest old d) where
      near : (d e : ℕ) → d < n → e < n → level_of new d ≤ level_of new e + 1
      near d e l m =
          let old_near = near_own n finest old six box in
          omega (arith, (side_level old_near d l (pieces d (omega arith))).1, (side_level old_near e m (pieces e (omega arith))).0)

      direction : (d : ℕ) → d < 6 → Piece n finest old new d → InDirection n finest new d
      direction d l (stays s) = record {
        interval = subst₂ IsInterval (sym s.first) (sym s.level) (box d l).interval;
        at_most = λ h. omega (arith, s.level, (box d l).at_most h);
        near = λ h e k. near d e h k;
        unused = λ h. s.level ∙ (box d l).unused h;
      }
      direction d l (cut p long h t) = record {
        interval = subst₂ IsInterval (sym t.first) (sym t.level) (third_interval p (first_of old d) (level_of old d) (box d l).interval (omega arith));
        at_most = λ k. omega (arith, t.level);
        near = λ k e m. near d e k m;
        unused = λ k. absurd (omega (arith, long.direction));
      }

      pub piece_box : (d : ℕ) → d < 6 → InDirection n finest new d
      piece_box d l = direction d l (pieces d l)
