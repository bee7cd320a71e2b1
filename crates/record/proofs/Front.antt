-- From what a slice pattern has found at the front of the bytes to what is read there.
use Rattle.std.proofs.Common.{◌≡◌, ℕ, ◌+◌, ◌-◌, ◌≤◌, List, ◌++◌, length, get_or, take, drop, sym, ◌∙◌, append_assoc, take-append-drop, drop-drop, rules}
use Rattle.std.proofs.lemmas.List.{take_rest}
use Rattle.record.specs.Items.{Fit, body_len, body_of, bytes_of, mark_bytes, mark_of}
use Rattle.record.specs.Reading.{Unreads}
use Rattle.record.specs.declared.item.Item.{Item}
use Rattle.record.specs.declared.item.Mark.{Mark}
use Rattle.record.specs.declared.item.Unread.TheVariants.{Unknown}
use Rattle.record.proofs.Decode.{same_item, same_rest}
use Rattle.record.proofs.Unread.{no_item}

-- what a pattern has after an item
abbrev rest : List ℕ → Item → List ℕ
rest bs i = let n : ℕ = 2 + body_len (mark_of i) in take (length bs - n) (drop n bs)

-- an item's mark and body were found
pub found : {bs : List ℕ} {i : Item} → take 2 bs ≡ mark_bytes (mark_of i) → take (body_len (mark_of i)) (drop 2 bs) ≡ body_of i → Fit i → record { reads : (bs ≡ bytes_of i ++ rest bs i) × Fit i; all : (j : Item) (x : List ℕ) → Fit j → bs ≡ bytes_of j ++ x → (i ≡ j) × (rest bs i ≡ x) }
found {bs} {i} m b f =
    let e : bs ≡ bytes_of i ++ rest bs i = simp (← m, ← b, append_assoc, take_rest, ← drop-drop, take-append-drop) in
    record { reads = (e, f); all = λ j x g k. (same_item i j _ x f g (sym e ∙ k), same_rest i j _ x f g (sym e ∙ k)) }

-- no mark was found
pub unknown : {bs : List ℕ} → 2 ≤ length bs → ((m : Mark) → get_or bs 0 0 ≡ get_or (mark_bytes m) 0 0 → get_or bs 1 0 ≡ get_or (mark_bytes m) 1 0 → ⊥) → record { reads : Unreads bs Unknown; all : (i : Item) (x : List ℕ) → Fit i → bs ≡ bytes_of i ++ x → ⊥ }
unknown {bs} h none =
    let u : Unreads bs Unknown = (h, λ m e. none m (search rules) (search rules)) in
    record { reads = u; all = λ i x f e. no_item bs Unknown u i x e }
