-- The entries written so far.
use Rattle.std.proofs.Common.{◌≡◌, ℕ, ◌<◌, ◌≤◌, length, get_or, None}
use Rattle.table.specs.Fronts.{answer_in}
use Rattle.table.proofs.fronts.entries_of.Given as goal

abbrev pub invariant-loop-r : goal.invariant-loop-r
invariant-loop-r l = (length l.entries ≡ 114)
    × ((q : ℕ) → q < l.r → get_or l.entries q None ≡ answer_in (get_or l.firsts q None))
    × ((q : ℕ) → l.r ≤ q → q < 114 → get_or l.entries q None ≡ None)
