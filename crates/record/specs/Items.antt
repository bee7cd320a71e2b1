-- The bytes of a record's items.
use Rattle.std.specs.Prelude.{ℕ, ◌/◌, ◌%◌, ◌<◌, List, [], ◌∷◌, ◌++◌, codes, FitsSigned}
use Rattle.std.specs.Int.{w32}
use Rattle.std.proofs.Common.{of_z}
use Rattle.order.specs.declared.answer.Answer.TheVariants as answer
use Rattle.hull.specs.contracts.hull.record.HullRecordable.TheImpl.{ghosts as hull}
use Rattle.policy.specs.contracts.recordable.EveryRecordable.TheImpl.{ghosts as every}
use Rattle.record.specs.declared.item.Item.{Item}
use Rattle.record.specs.declared.item.Item.TheVariants as item
use Rattle.record.specs.declared.item.Mark.{Mark}
use Rattle.record.specs.declared.item.Mark.TheVariants as mark
use Rattle.record.specs.declared.item.Named.TheVariants as named

-- the two bytes of a mark; those of policies are their own
abbrev pub mark_bytes : Mark → List ℕ
mark_bytes mark.Begin = codes "BG"
mark_bytes mark.Value = codes "VL"
mark_bytes mark.NotFeasible = codes "NF"
mark_bytes mark.Cap = codes "CP"
mark_bytes mark.Every = every.mark
mark_bytes mark.Hull = hull.mark

-- how many bytes stand after a mark; those of policies are their own
abbrev pub body_len : Mark → ℕ
body_len mark.Begin = 2
body_len mark.Value = 4
body_len mark.NotFeasible = 0
body_len mark.Cap = 1
body_len mark.Every = every.body
body_len mark.Hull = hull.body

-- a number's bytes, the high byte first
abbrev pub two_bytes : ℕ → List ℕ
two_bytes x = x / 256 % 256 ∷ x % 256 ∷ []

abbrev pub four_bytes : ℕ → List ℕ
four_bytes x = x / 16777216 % 256 ∷ x / 65536 % 256 ∷ two_bytes x

abbrev pub mark_of : Item → Mark
mark_of (item.Begin n f) = mark.Begin
mark_of (item.Answer (answer.Reading x)) = mark.Value
mark_of (item.Answer answer.NotFeasible) = mark.NotFeasible
mark_of (item.Cap m) = mark.Cap
mark_of (item.Round named.Every) = mark.Every
mark_of (item.Round (named.Hull e)) = mark.Hull

-- what stands after the mark; a signed number as its 32 bits
abbrev pub body_of : Item → List ℕ
body_of (item.Begin n f) = n ∷ f ∷ []
body_of (item.Answer (answer.Reading x)) = four_bytes (of_z w32 x)
body_of (item.Answer answer.NotFeasible) = []
body_of (item.Cap m) = m ∷ []
body_of (item.Round named.Every) = []
body_of (item.Round (named.Hull e)) = two_bytes e

abbrev pub bytes_of : Item → List ℕ
bytes_of i = mark_bytes (mark_of i) ++ body_of i

-- an item whose numbers its bytes can hold
abbrev pub Fit : Item → Type 0
Fit (item.Begin n f) = Unit {0}
Fit (item.Answer (answer.Reading x)) = FitsSigned w32 x
Fit (item.Answer answer.NotFeasible) = Unit {0}
Fit (item.Cap m) = Unit {0}
Fit (item.Round named.Every) = Unit {0}
Fit (item.Round (named.Hull e)) = e < 65536
