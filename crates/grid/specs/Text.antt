-- How an interval is written: its first cell and its level, with a slash between.
use Rattle.std.specs.Prelude.{ℕ, List, ◌++◌, codes, decimal}
use Rattle.grid.specs.declared.interval.Interval.{Interval}

abbrev pub interval_text : Interval → List ℕ
interval_text i = decimal i.first ++ (codes "/" ++ decimal i.level)

-- the same for a first cell and a level, as plain numbers
abbrev pub side_text : ℕ → ℕ → List ℕ
side_text first level = decimal first ++ (codes "/" ++ decimal level)
