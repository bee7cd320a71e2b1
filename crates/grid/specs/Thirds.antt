-- The thirds of an interval: which they are, that each cell lies in one of them, and where their middles are.
use Rattle.std.specs.Prelude.{◌≡◌, ℕ, ◌+◌, ◌*◌, ◌<◌, ◌≤◌, ◌⊎◌}
use Rattle.grid.specs.Grid.{cells_at, middle_of}
use Rattle.grid.specs.declared.interval.Interval.{Interval}
use Rattle.grid.specs.declared.interval.cut.Thirds.{Thirds}

-- the cells of a third
abbrev pub third_of : Interval → ℕ
third_of i = cells_at (i.level + 1)

abbrev pub middle : Interval → ℕ
middle i = middle_of i.first i.level

-- cell c lies in the interval
abbrev pub LiesIn : ℕ → Interval → Type 0
LiesIn c i = (i.first ≤ c) × (c < i.first + cells_at i.level)

-- which intervals the thirds are
pub record ThirdsOf (i : Interval) (t : Thirds) : Type 0 where
  pub low_first : t.low.first ≡ i.first
  pub middle_first : t.middle.first ≡ i.first + third_of i
  pub high_first : t.high.first ≡ i.first + 2 * third_of i
  pub low_level : t.low.level ≡ i.level + 1
  pub middle_level : t.middle.level ≡ i.level + 1
  pub high_level : t.high.level ≡ i.level + 1

-- the thirds cover the interval, lie inside it, and do not overlap
pub record Partition (i : Interval) (t : Thirds) : Type 0 where
  pub covers : (c : ℕ) → LiesIn c i → LiesIn c t.low ⊎ (LiesIn c t.middle ⊎ LiesIn c t.high)
  pub inside : (c : ℕ) → LiesIn c t.low ⊎ (LiesIn c t.middle ⊎ LiesIn c t.high) → LiesIn c i
  pub low_middle : (c : ℕ) → LiesIn c t.low → LiesIn c t.middle → ⊥
  pub low_high : (c : ℕ) → LiesIn c t.low → LiesIn c t.high → ⊥
  pub middle_high : (c : ℕ) → LiesIn c t.middle → LiesIn c t.high → ⊥

-- the middle third keeps the middle, and the outer ones have it moved by a third of the side
pub record Centred (i : Interval) (t : Thirds) : Type 0 where
  pub kept : middle t.middle ≡ middle i
  pub moved_down : middle t.low + third_of i ≡ middle i
  pub moved_up : middle t.high ≡ middle i + third_of i
