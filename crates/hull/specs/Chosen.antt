-- The ranks that the hull chooses: the conditions, and the rules of a policy.
use Rattle.std.specs.Prelude.{◌≡◌, ℕ, ◌<◌, true, ◌↔◌, refl}
use Rattle.std.proofs.Common.{arith}
use Rattle.std.proofs.lemmas.Bool.{false≢true}
use Rattle.ranks.proofs.Lowest.{not_below}
use Rattle.ranks.specs.Ranks.{Lowest}
use Rattle.policy.specs.Filled.{div_mono}
use Rattle.policy.specs.Levels.{filled, level}
use Rattle.policy.specs.declared.front.Front.{Front}
use Rattle.hull.specs.Decide.{does, chosen?, hull_ranks}
use Rattle.hull.specs.Optimal.{Chosen, Taken}
use Rattle.hull.specs.Takes.{take_of, taken_filled}

does_true : {A : Type 0} (d : Dec A) → does d ≡ true → A
does_true (yes a) h = a
does_true (no n) h = absurd (false≢true h)

true_does : {A : Type 0} (d : Dec A) → A → does d ≡ true
true_does (yes a) h = refl
true_does (no n) h = absurd (n h)

-- a rank is in the computed set exactly where the conditions hold
pub hull_conditions : (e : ℕ) (f : Front) (j : ℕ) → (hull_ranks e f j ≡ true) ↔ Chosen e f j
unfolding hull_ranks
hull_conditions e f j = (does_true (chosen? e f j), true_does (chosen? e f j))

pub hull_sound : (e : ℕ) (f : Front) (r : ℕ) → hull_ranks e f r ≡ true → filled f r ≡ true
hull_sound e f r h = taken_filled f r ((hull_conditions e f r).0 h).taken

-- no size is larger than that of the lowest filled rank
pub hull_reaches : (e : ℕ) (f : Front) (r : ℕ) → Lowest (filled f) r → (k : ℕ) × (hull_ranks e f k ≡ true) × (level f k ≡ level f r)
hull_reaches e f r w =
    let u = take_of f r w.has in
    let largest = λ (i : ℕ) (t : Taken f i) (l : level f i < level f u.0). absurd (omega (arith, l, u.2, div_mono r i f.directions f.some (not_below (filled f) r i w (taken_filled f i t)))) in
    (u.0, (hull_conditions e f u.0).1 (record { taken = u.1; yields = largest }), u.2)
