-- Which ranks the hull chooses at a front of some readings: those of the first ranks are computed, and no other is chosen.
use Rattle.std.proofs.Common.{◌≡◌, ℕ, zero, suc, ◌*◌, ◌<◌, ◌≤◌, Bool, true, false, List, length, get_or, ℤ, is_some, None, Option, sym, refl, ap, ◌∙◌, subst, inl, inr, arith}
use Rattle.std.proofs.lemmas.Bool.{true≢false, cases_eq, cases_lt}
use Rattle.std.specs.List.{AllByRecursion}
use Rattle.order.specs.declared.answer.Answer.{Answer}
use Rattle.policy.specs.Fronts.{AllFit, EmptyFrom, IsFront, ends_fit}
use Rattle.policy.specs.Levels.{filled}
use Rattle.policy.specs.declared.front.Front.{Front}
use Rattle.hull.specs.Chosen.{hull_sound}
use Rattle.hull.specs.Decide.{hull_ranks}
use Rattle.examples.specs.Examples.{Right, ends_of, entries_of, hull, only}
use Rattle.examples.proofs.Fronts.{empty_past, none_listed}

-- the hull chooses of the ranks below k those that are listed
abbrev pub Agrees : ℕ → List ℕ → Front → ℕ → Type 0
Agrees share chosen f zero = Unit {0}
Agrees share chosen f (suc k) = Agrees share chosen f k × (hull_ranks share f k ≡ only chosen k)

agrees_at : (share : ℕ) (chosen : List ℕ) (f : Front) (k r : ℕ) → r < k → Agrees share chosen f k → hull_ranks share f r ≡ only chosen r
agrees_at share chosen f zero r l h = absurd (omega arith)
agrees_at share chosen f (suc k) r l h = elim (cases_eq r k) [
  | inl e ↦ subst (λ x. hull_ranks share f x ≡ only chosen x) (sym e) h.1
  | inr x ↦ agrees_at share chosen f k r (omega arith) h.0
]

-- the same at every front of these directions, entries and readings
abbrev pub Agree : ℕ → List ℕ → ℕ → ℕ → List (Option Answer) → Option (ℤ × ℤ) → Type 0
Agree share chosen k n entries readings =
    (some : 1 ≤ n) (few : n ≤ 6) (long : length entries ≡ 114) (empty : EmptyFrom (19 * n) entries) (ends : ends_fit readings ≡ true) (fits : AllFit readings entries)
    → Agrees share chosen (record {
      directions = n;
      entries = entries;
      readings = readings;
      some = some;
      few = few;
      long = long;
      empty = empty;
      ends = ends;
      fits = fits;
    }) k

module _ (n share : ℕ) (readings chosen : List ℕ) where
  agrees : Agree share chosen (length readings) n (entries_of readings) (ends_of readings)
      → (f : Front) → f.directions ≡ n → f.entries ≡ entries_of readings → f.readings ≡ ends_of readings → Agrees share chosen f (length readings)
  agrees h f d e s =
      subst (λ x. Agree share chosen (length readings) x f.entries f.readings) (sym d)
      (subst (λ x. Agree share chosen (length readings) n x f.readings) (sym e)
      (subst (λ x. Agree share chosen (length readings) n (entries_of readings) x) (sym s) h))
      f.some f.few f.long f.empty f.ends f.fits

  -- a rank without an entry is not chosen
  not_chosen : (f : Front) → f.entries ≡ entries_of readings → (r : ℕ) → length readings ≤ r → (b : Bool) → hull_ranks share f r ≡ b → b ≡ false
  unfolding filled
  not_chosen f e r l false h = refl
  not_chosen f e r l true h =
      absurd (true≢false (sym (hull_sound share f r h) ∙ ap (λ (x : List (Option Answer)). is_some (get_or x r None)) e ∙ ap is_some (empty_past readings r l)))

  pub chooses : IsFront n (entries_of readings) (ends_of readings) → AllByRecursion (λ c. c < length readings) chosen
      → Agree share chosen (length readings) n (entries_of readings) (ends_of readings) → Right (hull n share readings chosen)
  chooses front below h = (
    front,
    λ f d e s r. elim (cases_lt r (length readings)) [
      | inl l ↦ agrees_at share chosen f (length readings) r l (agrees h f d e s)
      | inr l ↦ not_chosen f e r l (hull_ranks share f r) refl ∙ sym (none_listed chosen (length readings) r below l)
    ],
  )
