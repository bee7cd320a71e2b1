-- The front of the bytes shows the item: no item's bytes begin another's.
use Rattle.std.proofs.Common.{◌≡◌, ℕ, ◌+◌, ◌≤◌, List, ◌++◌, length, take, rules}
use Rattle.std.proofs.lemmas.Int.{ints}
use Rattle.record.specs.Items.{Fit, body_len, bytes_of, mark_bytes, mark_of}
use Rattle.record.specs.declared.item.Item.{Item}
use Rattle.record.specs.declared.item.Mark.{Mark}

pub same_mark : (m k : Mark) → mark_bytes m ≡ mark_bytes k → m ≡ k
same_mark m k e = search rules

pub front_mark : (i : Item) (x : List ℕ) → take 2 (bytes_of i ++ x) ≡ mark_bytes (mark_of i)
front_mark i x = search rules

pub long : (i : Item) (x : List ℕ) → 2 + body_len (mark_of i) ≤ length (bytes_of i ++ x)
long i x = search rules

pub same_item : (i j : Item) (x y : List ℕ) → Fit i → Fit j → bytes_of i ++ x ≡ bytes_of j ++ y → i ≡ j
same_item i j x y f g e = search (rules, ints)

pub same_rest : (i j : Item) (x y : List ℕ) → Fit i → Fit j → bytes_of i ++ x ≡ bytes_of j ++ y → x ≡ y
same_rest i j x y f g e = search (rules, ints)
