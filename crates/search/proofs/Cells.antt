-- Every point of an accepted open has a cell that locate gives.
use Rattle.std.proofs.Common.{◌≡◌, ℕ, zero, suc, ◌+◌, ◌-◌, ◌<◌, ◌≢◌, List, [], ◌∷◌, length, get_or, Ok, Err, Result, refl, ap, inl, inr, arith}
use Rattle.std.proofs.lemmas.Bool.{cases_eq}
use Rattle.grid.specs.Grid.{middle_of}
use Rattle.grid.proofs.Lengths.{cells_at_third}
use Rattle.policy.specs.declared.front.Front.{Front}
use Rattle.ranks.specs.Ranks.{Ranks}
use Rattle.refusal.specs.declared.Refusal.{Refusal}
use Rattle.table.specs.Rows.{first_of, level_of, row_at}
use Rattle.table.specs.declared.rows.Row.{Row}
use Rattle.search.specs.Calls.{Opens, OwnRound}
use Rattle.search.specs.Points.{CellOf, Located, Moved, Side, high, low, third_at}
use Rattle.search.specs.Runs.{CellsOf, LawfulAt, LocatedCells}
use Rattle.search.specs.declared.states.Rest.{Rest}
use Rattle.search.specs.declared.states.Round.{Round}
use Rattle.search.proofs.Firsts.{box_level}
use Rattle.search.proofs.Openings.{own_round}
use Rattle.search.proofs.Outcomes.{opened_by}
use Rattle.search.proofs.Places.{point_of}
use Rattle.search.proofs.Thirds.{third_odd}

-- the list of things that there are for each number below m
list_of : {X : Type 0} (default : X) (m : ℕ) (P : ℕ → X → Type 0) → ((i : ℕ) → i < m → (x : X) × P i x)
    → (xs : List X) × (length xs ≡ m) × ((i : ℕ) → i < m → P i (get_or xs i default))
list_of default zero P f = ([], refl, λ i l. absurd (omega arith))
list_of {X} default (suc m) P f =
    let x = f 0 (omega arith) in
    let more = list_of default m (λ i. P (suc i)) (λ i l. f (suc i) (omega arith)) in
    (x.0 ∷ more.0, ap suc more.1, each x more)
  where
    each : (x : (y : X) × P 0 y) (more : (xs : List X) × (length xs ≡ m) × ((i : ℕ) → i < m → P (suc i) (get_or xs i default)))
        → (i : ℕ) → i < suc m → P i (get_or (x.0 ∷ more.0) i default)
    each x more zero l = x.1
    each x more (suc i) l = more.2 i (omega arith)

moved : (s : Side) (f t : ℕ) → t < 19 → (x : ℕ) × Moved s f t x
moved low f t h = let o = third_odd t in (middle_of f t - third_at t, omega (arith, o.1, cells_at_third t h))
moved high f t h = (middle_of f t + third_at t, refl)

-- the cell of a point
cell_of : (n : ℕ) (row : Row) (d : ℕ) (s : Side) → d < n → level_of row d < 19 → (c : List ℕ) × (length c ≡ n) × CellOf n row d s c
cell_of n row d s l h =
    let at = moved s (first_of row d) (level_of row d) h in
    let f = list_of 0 n (λ e x. (e ≡ d → Moved s (first_of row d) (level_of row d) x) × (e ≢ d → x ≡ middle_of (first_of row e) (level_of row e)))
    (λ e k. elim (cases_eq e d) [
      | inl y ↦ (at.0, (λ _. at.1, λ ne. absurd (ne y)))
      | inr y ↦ (middle_of (first_of row e) (level_of row e), (λ e. absurd (y e), λ _. refl))
    ]) in
    (f.0, f.1, record { moved = (f.2 d l).0 refl; others = λ e k. (f.2 e k).1 })

located : (round : Round) (table : List Row) → OwnRound round table → (p : ℕ) → p < round.points → (c : List ℕ) × (length c ≡ round.shape.n) × Located round table p c
located round table own p l =
    let q = point_of round table own p l in
    let box = q.4.taken.first.1.0.box in
    let level = box_level round.shape.n round.shape.finest round.boxes table q.0 q.1 round.shape.some box in
    let c = cell_of round.shape.n (row_at table q.1) q.2 q.3 q.4.long.direction (omega (arith, level, q.4.long.level, round.shape.fine)) in
    (c.0, c.1, record { row = q.1; of = q.0; direction = q.2; side = q.3; point = q.4; cell = c.2 })

pub cells_exist : (meaning : Front → Ranks) (rest : Rest) (table after : List Row) (round : Round) → LawfulAt meaning rest table
    → Opens meaning rest table (Ok round) after → (cells : List (List ℕ)) × CellsOf round after cells
cells_exist meaning rest table after round lawful out =
    let own = own_round meaning rest table round after lawful (opened_by meaning rest table round after out) in
    let f = list_of [] round.points (λ p c. (length c ≡ round.shape.n) × Located round after p c)
    (λ p l. let c = located round after own p l in (c.0, (c.1, c.2))) in (
      f.0,
      record {
        count = f.1;
        each = λ p l. let c = f.2 p l in
            (get_or f.0 p [], c.0, inr (own, inr (l, inr (omega (arith, c.0), (refl, record { cell = c.1; same_length = refl; nothing_after = λ d k. refl })))));
      },
    )

-- the same of what open gives
pub located_cells : (meaning : Front → Ranks) (rest : Rest) (table after : List Row) (out : Result Round (Refusal × Rest)) → LawfulAt meaning rest table
    → Opens meaning rest table out after → LocatedCells out after
located_cells meaning rest table after (Ok round) lawful o = (round.few.1, cells_exist meaning rest table after round lawful o)
located_cells meaning rest table after (Err refused) lawful o = tt
