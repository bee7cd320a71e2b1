-- What makes a front real.
use Rattle.std.specs.Prelude.{◌≡◌, ℕ, ◌*◌, ◌≤◌, Bool, true, false, ◌&&◌, List, length, ℤ, Some, None, Option, int_le, slice_index_or}
use Rattle.order.specs.Answers.{in_range}
use Rattle.order.specs.declared.answer.Answer.{Answer}
use Rattle.order.specs.declared.answer.Answer.TheVariants.{Reading, NotFeasible}

-- the least and the greatest reading are readings, in this order
abbrev pub ends_fit : Option (ℤ × ℤ) → Bool
ends_fit None = true
ends_fit (Some ends) = in_range ends.0 && (in_range ends.1 && int_le ends.0 ends.1)

-- an entry's reading lies between the least and the greatest, and there is none without these
abbrev pub entry_fits : Option (ℤ × ℤ) → Option Answer → Bool
entry_fits ends None = true
entry_fits ends (Some NotFeasible) = true
entry_fits None (Some (Reading x)) = false
entry_fits (Some ends) (Some (Reading x)) = int_le ends.0 x && int_le x ends.1

-- the entries from a rank on are empty
abbrev pub EmptyFrom : ℕ → List (Option Answer) → Type 0
EmptyFrom low entries = (r : ℕ) → low ≤ r → slice_index_or entries r None ≡ None

abbrev pub AllFit : Option (ℤ × ℤ) → List (Option Answer) → Type 0
AllFit ends entries = (r : ℕ) → entry_fits ends (slice_index_or entries r None) ≡ true

-- 1 to 6 directions, an entry for each rank, empty from the last level on, and readings that fit
abbrev pub IsFront : ℕ → List (Option Answer) → Option (ℤ × ℤ) → Type 0
IsFront directions entries ends =
    (1 ≤ directions) × (directions ≤ 6) × (length entries ≡ 114) × EmptyFrom (19 * directions) entries × (ends_fit ends ≡ true) × AllFit ends entries
