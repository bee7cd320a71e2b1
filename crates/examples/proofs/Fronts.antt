-- The front of some readings: its entries, and the ranks that have none.
use Rattle.std.proofs.Common.{◌≡◌, ℕ, zero, suc, ◌-◌, ◌*◌, ◌<◌, ◌≤◌, true, false, eqb, List, [], ◌∷◌, ◌++◌, map, length, get_or, replicate, ℤ, Some, None, Option, refl, ap, ◌∙◌, arith, length-append}
use lib.ListN.{length-replicate}
use Rattle.std.proofs.lemmas.List.{length-map}
use Rattle.std.proofs.lemmas.Bool.{ne_eqb, or_from}
use Rattle.std.specs.List.{AllByRecursion}
use Rattle.order.specs.declared.answer.Answer.{Answer}
use Rattle.policy.specs.Fronts.{IsFront, ends_fit, entry_fits}
use Rattle.table.proofs.Formed.{none_fits}
use Rattle.examples.specs.Examples.{ends_of, entries_of, only, reading}

-- some readings and then so many empty entries
abbrev padded : List ℕ → ℕ → List (Option Answer)
padded xs m = map (λ x. Some (reading x)) xs ++ replicate m None

none_in : (m r : ℕ) → get_or (replicate {A = Option Answer} m None) r None ≡ None
none_in zero r = refl
none_in (suc m) zero = refl
none_in (suc m) (suc r) = none_in m r

none_past : (xs : List ℕ) (m r : ℕ) → length xs ≤ r → get_or (padded xs m) r None ≡ None
none_past [] m r h = none_in m r
none_past (x ∷ xs) m zero h = absurd (omega arith)
none_past (x ∷ xs) m (suc r) h = none_past xs m r (omega arith)

-- past its readings a front has no entry
pub empty_past : (readings : List ℕ) (r : ℕ) → length readings ≤ r → get_or (entries_of readings) r None ≡ None
empty_past readings r h = none_past readings (114 - length readings) r h

abbrev pub Fit : Option (ℤ × ℤ) → ℕ → Type 0
Fit ends x = entry_fits ends (Some (reading x)) ≡ true

all_fit : (ends : Option (ℤ × ℤ)) (xs : List ℕ) (m r : ℕ) → AllByRecursion (Fit ends) xs → entry_fits ends (get_or (padded xs m) r None) ≡ true
all_fit ends [] m r h = ap (entry_fits ends) (none_in m r) ∙ none_fits ends
all_fit ends (x ∷ xs) m zero h = h.0
all_fit ends (x ∷ xs) m (suc r) h = all_fit ends xs m r h.1

-- there is an entry for each rank
entries_long : (readings : List ℕ) → length readings ≤ 114 → length (entries_of readings) ≡ 114
entries_long readings few =
    omega (
      arith,
      length-append (map (λ x. Some (reading x)) readings) (replicate {A = Option Answer} (114 - length readings) None),
      length-map {B = Option Answer} readings (λ x. Some (reading x)),
      length-replicate {A = Option Answer} (114 - length readings) None,
    )

-- readings that are a front
pub is_front : (n : ℕ) (readings : List ℕ) → 1 ≤ n → n ≤ 6 → length readings ≤ 19 * n → ends_fit (ends_of readings) ≡ true → AllByRecursion (Fit (ends_of readings)) readings
    → IsFront n (entries_of readings) (ends_of readings)
is_front n readings some few short ends fit = (
  some,
  few,
  entries_long readings (omega arith),
  λ r h. empty_past readings r (omega arith),
  ends,
  λ r. all_fit (ends_of readings) readings (114 - length readings) r fit,
)

-- no rank from k on is among the listed ones
pub none_listed : (chosen : List ℕ) (k r : ℕ) → AllByRecursion (λ c. c < k) chosen → k ≤ r → only chosen r ≡ false
none_listed [] k r h l = refl
none_listed (c ∷ cs) k r h l = or_from (only cs r) (eqb r c) (none_listed cs k r h.1 l) (ne_eqb r c (λ e. omega (arith, h.0)))
