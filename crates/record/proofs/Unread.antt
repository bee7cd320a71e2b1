-- Where no item can be read none stands, and for one reason only.
use Rattle.std.proofs.Common.{◌≡◌, ℕ, List, ◌++◌, rules}
use Rattle.record.specs.Items.{bytes_of}
use Rattle.record.specs.Reading.{Unreads}
use Rattle.record.specs.declared.item.Item.{Item}
use Rattle.record.specs.declared.item.Unread.{Unread}

pub no_item : (bs : List ℕ) (u : Unread) → Unreads bs u → (i : Item) (x : List ℕ) → bs ≡ bytes_of i ++ x → ⊥
no_item bs u h i x e = search rules

pub one_unread : (bs : List ℕ) (u v : Unread) → Unreads bs u → Unreads bs v → u ≡ v
one_unread bs u v h k = search rules
