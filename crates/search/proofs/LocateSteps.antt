-- The rank, the long side and the cell of a point, as locate finds them.
use Rattle.std.proofs.Common.{◌≡◌, ℕ, ◌+◌, ◌-◌, ◌*◌, ◌/◌, ◌%◌, ◌<◌, ◌≤◌, T, List, length, get_or, Some, Option, refl, ap, subst, arith}
use Rattle.order.specs.declared.records.Candidate.{Candidate}
use Rattle.ranks.specs.Ranks.{ranks}
use Rattle.table.specs.Boxes.{First, FirstOfRank, Long, Own}
use Rattle.table.specs.Rows.{row_at}
use Rattle.table.specs.declared.rows.Row.{Row}
use Rattle.search.specs.Calls.{LocatedIn}
use Rattle.search.specs.Counts.{points_below}
use Rattle.search.specs.Points.{Coordinate, Side, high, longs_below, low, point_at}
use Rattle.search.specs.declared.states.Round.{Round}
use Rattle.search.proofs.Levels.{longs, near_own}

-- the box that a first candidate stands for
pub at_first : (n finest boxes : ℕ) (table : List Row) (r : ℕ) (o : Option Candidate) (c : Candidate) → FirstOfRank n finest boxes table r o → o ≡ Some c → First n finest boxes table r c.row
at_first n finest boxes table r o c f e = (c.answer, subst (FirstOfRank n finest boxes table r) e f)

pub side_number : (n finest boxes : ℕ) (table : List Row) (r j number : ℕ) → 1 ≤ n → n ≤ 6 → Own n finest boxes table → First n finest boxes table r j → number < 2 * (n - r % n) → number / 2 < longs_below n (row_at table j) n
side_number n finest boxes table r j number some six own f l =
    omega (arith, longs n (row_at table j) some (near_own n finest (row_at table j) six (own.each j f.1.0.box.within).directions), ap (λ (x : ℕ). x % n) f.1.0.box.ranked)

module _ (round : Round) (table : List Row) (p r j number d : ℕ) where
  pub number_is : (s : Side) → (s ≡ low → number % 2 ≡ 0) → (s ≡ high → number % 2 ≡ 1) → p ≡ points_below round.shape.n (ranks round.chosen) r + number
      → number / 2 ≡ longs_below round.shape.n (row_at table j) d → p ≡ point_at round r (row_at table j) d s
  number_is low even odd is half = let e = even refl in omega arith
  number_is high even odd is half = let o = odd refl in omega arith

pub located_in : (round : Round) (table : List Row) (p r j number d : ℕ) (s : Side) (list after : List ℕ)
    → T (ranks round.chosen r) → First round.shape.n round.shape.finest round.boxes table r j
    → p ≡ points_below round.shape.n (ranks round.chosen) r + number
    → Long round.shape.n (row_at table j) d → number / 2 ≡ longs_below round.shape.n (row_at table j) d
    → (s ≡ low → number % 2 ≡ 0) → (s ≡ high → number % 2 ≡ 1)
    → ((e : ℕ) → e < round.shape.n → Coordinate (row_at table j) d s e (get_or after e 0))
    → length after ≡ length list → ((e : ℕ) → round.shape.n ≤ e → get_or after e 0 ≡ get_or list e 0)
    → LocatedIn round table p list after
located_in round table p r j number d s list after chosen first is long half even odd cell same rest = record {
  cell = record {
    row = j;
    of = r;
    direction = d;
    side = s;
    point = record {
      taken = record { in_set = chosen; first = first };
      long = long;
      number = number_is round table p r j number d s even odd is half;
    };
    cell = record { moved = (cell d long.direction).moved refl; others = λ e l x. (cell e l).middle x };
  };
  same_length = same;
  nothing_after = rest;
}
