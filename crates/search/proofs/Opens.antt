-- The outcomes of opening on a table that is the search's own.
use Rattle.std.proofs.Common.{◌≡◌, ℕ, ◌+◌, ◌≤◌, ◌≢◌, List, Ok, Err, sym, refl, ◌∙◌, subst, inl, inr, arith}
use Rattle.policy.specs.Rules.{OnlyFilled, ReachesLargest}
use Rattle.policy.specs.declared.front.Front.{Front}
use Rattle.ranks.specs.Ranks.{Ranks}
use Rattle.refusal.specs.declared.Refusal.TheVariants.{NoRoom, NothingToCut}
use Rattle.table.specs.Fronts.{FrontOf}
use Rattle.table.specs.declared.rows.Row.{Row}
use Rattle.search.specs.Calls.{Cleared, Opened, OpensIn, OwnRest, Room, SomeBox}
use Rattle.search.specs.Counts.{points_of}
use Rattle.search.specs.declared.states.Rest.{Rest}
use Rattle.search.specs.declared.states.Round.{Round}
use Rattle.search.proofs.Chosen.{points_box, some_points}

module _ (meaning : Front → Ranks) (rest : Rest) (table : List Row) (front : Front) (own : OwnRest rest table)
    (sound : OnlyFilled front (meaning front)) (reaches : ReachesLargest front (meaning front))
    (of : FrontOf rest.shape.n rest.shape.finest rest.boxes table front) (points : ℕ) (is : points ≡ points_of rest.shape.n (meaning front)) where
  pub two : SomeBox rest table → 2 ≤ points
  two b =
      omega (
        arith,
        is,
        some_points rest.shape.n rest.shape.finest rest.boxes table front (meaning front) rest.shape.some rest.shape.few rest.shape.fine own of
            sound reaches b,
      )

  pub some_box : points ≢ 0 → SomeBox rest table
  some_box h =
      points_box rest.shape.n rest.shape.finest rest.boxes table front (meaning front) rest.shape.some rest.shape.few rest.shape.fine own of
      sound (λ e. h (is ∙ e))

  pub opens_none : points ≡ 0 → OpensIn meaning rest table (Err (NothingToCut, rest)) table
  opens_none e = inl (λ b. omega (arith, two b), (refl, refl))

  pub opens_full : points ≢ 0 → (Room rest table points → ⊥) → OpensIn meaning rest table (Err (NoRoom, rest)) table
  opens_full h full =
      inr (some_box h, (front, of, inl (λ room. full (subst (Room rest table) (sym is) room), (refl, refl))))

  pub opens_ok : (round : Round) (after : List Row) → points ≢ 0 → Room rest table points
      → Opened rest (meaning front) round → Cleared rest.boxes (rest.boxes + points) table after → OpensIn meaning rest table (Ok round) after
  opens_ok round after h room o cleared =
      inr (
        some_box h,
        (
          front,
          of,
          inr (
            subst (Room rest table) is room,
            (o, subst (λ k. Cleared rest.boxes (rest.boxes + k) table after) is cleared),
          ),
        ),
      )
