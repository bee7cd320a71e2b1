-- What stands at the front of some bytes: an item, or why there is none.
use Rattle.std.specs.Prelude.{◌≡◌, ℕ, ◌+◌, ◌<◌, ◌≤◌, List, ◌++◌, length, take, Ok, Err, Result, ◌≢◌}
use Rattle.std.specs.Borrow.{Bor}
use Rattle.record.specs.Items.{Fit, body_len, bytes_of, mark_bytes}
use Rattle.record.specs.declared.item.Item.{Item}
use Rattle.record.specs.declared.item.Mark.{Mark}
use Rattle.record.specs.declared.item.Unread.{Unread}
use Rattle.record.specs.declared.item.Unread.TheVariants.{MarkCut, Unknown, BodyCut}

-- why no item stands there
abbrev pub Unreads : List ℕ → Unread → Type 0
Unreads bytes MarkCut = length bytes < 2
Unreads bytes Unknown = (2 ≤ length bytes) × ((m : Mark) → take 2 bytes ≢ mark_bytes m)
Unreads bytes (BodyCut m) = (take 2 bytes ≡ mark_bytes m) × (length bytes < 2 + body_len m)

-- what was read stands there
abbrev pub Reads : List ℕ → Result (Item × Bor (List ℕ)) Unread → Type 0
Reads bytes (Ok p) = (bytes ≡ bytes_of p.0 ++ p.1.now) × Fit p.0
Reads bytes (Err u) = Unreads bytes u

-- this item was read, and these bytes are left
abbrev pub IsRead : Item → List ℕ → Result (Item × Bor (List ℕ)) Unread → Type 0
IsRead i rest (Ok p) = (p.0 ≡ i) × (p.1.now ≡ rest)
IsRead i rest (Err u) = ⊥

-- whatever item stands there is read
abbrev pub ReadsAll : List ℕ → Result (Item × Bor (List ℕ)) Unread → Type 0
ReadsAll bytes r = (i : Item) (rest : List ℕ) → Fit i → bytes ≡ bytes_of i ++ rest → IsRead i rest r
