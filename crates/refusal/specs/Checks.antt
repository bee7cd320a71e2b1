-- Calls that make their checks in order, and what a result holds.
use Rattle.std.specs.Prelude.{◌≡◌, ◌⊎◌, Ok, Err, Result}

-- a check: where `good` fails, the outcome is `refused`, and else what the later checks say
abbrev pub Check : Type 0 → Type 0 → Type 0 → Type 0
Check good refused rest = ((good → ⊥) × refused) ⊎ (good × rest)

-- a refusal, which leaves the memory that was lent as it was
abbrev pub Refused : {X E S : Type 0} → S → S → Result X E → E → Type 0
Refused lent after out e = (out ≡ Err e) × (after ≡ lent)

-- the result is a value of which P holds
abbrev pub Gives : {X E : Type 0} → Result X E → (X → Type 0) → Type 0
Gives (Ok x) P = P x
Gives (Err e) P = ⊥
