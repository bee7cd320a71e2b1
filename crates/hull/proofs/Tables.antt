-- The table of the taken ranks, and iterations over it.
use Rattle.std.proofs.Common.{Bor, ◌≡◌, ℕ, zero, suc, ◌<◌, Bool, true, false, List, [], ◌∷◌, get_or, length, take, drop, length-take, ⊎_elim, ◌+◌, Some, None, Option, Decides, sym, refl, ◌∙◌, subst, ap, arith}
use Rattle.std.specs.List.{list_all, list_any, flat_map}
use Rattle.std.specs.Option.{option_to_list}
use Rattle.std.proofs.lemmas.Bool.{and_parts, and_from, or_left, or_right, cases_lt, false≢true}
use Rattle.std.proofs.lemmas.List.{get_or-drop, get_or-take, get_or_past}
use Rattle.std.proofs.lemmas.Grind.{get_or_after_one}
use Rattle.std.specs.declared.iter.Copied.{Copied}
use Rattle.std.specs.declared.iter.Flatten.{Flatten}
use Rattle.std.specs.declared.iter.Once.{Once}
use Rattle.std.specs.Iterator.Adapters.{copied_source, flatten_source, flatten_front, flatten_back, flatten_done, flatten_steps, once_item, once_steps}
use Rattle.std.proofs.iter.Yields.{copies}
use Rattle.std.proofs.lemmas.Iterator.{YieldsList}
use Rattle.std.proofs.lemmas.Iterator.Adapters.{YieldsList-from_flatten, YieldsList-from_once}
use Rattle.std.proofs.lemmas.Iterator.Consumers.{YieldsList-from_copied}
use Rattle.order.specs.declared.records.RankEntry.{RankEntry}
use Rattle.policy.specs.Levels.{level, FirstOfLevel}
use Rattle.policy.specs.declared.front.Front.{Front}
use Rattle.hull.specs.Decide.{does}
use Rattle.hull.specs.Optimal.{Taken}
use Rattle.hull.specs.TakenRanks.{TakenRanks}
use Rattle.hull.specs.Takes.{taken_one}

module _ (f : Front) (table : List (Option RankEntry)) (is : TakenRanks f table) where
  -- what stands at a level is its taken rank
  module _ (t : ℕ) (e : RankEntry) (here : get_or table t None ≡ Some e) where
    first : FirstOfLevel f t (Some e)
    unfolding TakenRanks
    first = subst (FirstOfLevel f t) here (is t)

    pub here_level : level f e.rank ≡ t
    here_level = first.0.of_level

    pub here_taken : Taken f e.rank
    here_taken = (
      e.answer,
      (
        record { of_level = refl; holds = first.0.holds },
        λ x v. first.1 x (record { of_level = v.of_level ∙ here_level; holds = v.holds }),
      ),
    )

  -- a taken rank stands at its level
  pub taken_here : (s : ℕ) → Taken f s → (e : RankEntry) × (get_or table (level f s) None ≡ Some e) × (e.rank ≡ s)
  unfolding TakenRanks
  taken_here s u = go (get_or table (level f s) None) refl
    where
      go : (o : Option RankEntry) → get_or table (level f s) None ≡ o → (e : RankEntry) × (get_or table (level f s) None ≡ Some e) × (e.rank ≡ s)
      go None h = absurd (subst (FirstOfLevel f (level f s)) h (is (level f s)) (record { answer = u.0; rank = s }) u.1.0)
      go (Some e) h = (e, h, taken_one f s e.rank u (here_taken (level f s) e h) (here_level (level f s) e h))

module _ (table : List (Option RankEntry)) (l t : ℕ) where
  -- the levels past l
  pub past_level : get_or (drop 1 (drop l table)) t None ≡ get_or table (l + (1 + t)) None
  past_level = get_or_after_one (drop l table) t None ∙ get_or-drop l table (1 + t) None

  -- the levels below l
  pub below_level : t < l → get_or (take l table) t None ≡ get_or table t None
  below_level h = get_or-take l table t None h

  pub none_below : (e : RankEntry) → get_or (take l table) t None ≡ Some e → t < l
  none_below e here = ⊎_elim (λ h. h) (λ g. let none = get_or_past (take l table) t None (omega (arith, length-take l table)) in let z : ◌≡◌ {A = ℕ} 0 1 = cc in absurd (omega arith)) (cases_lt t l)

-- a copied and flattened iteration over options yields what they hold
pub YieldsList-filled : {S : Type 0} {steps : S → Option (Bor (Option RankEntry)) → S → Type 0} {ys : List (Option RankEntry)} {s : Flatten (Copied S) (Once RankEntry)}
    (becomes : Option RankEntry → Once RankEntry → Type 0) → ((x : Option RankEntry) (j : Once RankEntry) → becomes x j → once_item j ≡ x)
    → YieldsList steps (λ y. y.now) (copied_source (flatten_source s)) ys → flatten_front s ≡ None → flatten_back s ≡ None → flatten_done s ≡ false
    → YieldsList (flatten_steps (copies steps) becomes once_steps) (λ e. e) s (flat_map option_to_list ys)
YieldsList-filled becomes same road = YieldsList-from_flatten becomes once_steps (λ e. e) option_to_list (λ x j b. YieldsList-from_once x (same x j b)) (YieldsList-from_copied road)

-- a test of all that stands in a list of options
module _ (test : RankEntry → Bool) where
  pub each_passes : (xs : List (Option RankEntry)) → list_all test (flat_map option_to_list xs) ≡ true → (t : ℕ) (e : RankEntry) → get_or xs t None ≡ Some e → test e ≡ true
  each_passes [] h t e here = let z : ◌≡◌ {A = ℕ} 0 1 = cc in absurd (omega arith)
  each_passes (None ∷ xs) h zero e here = let z : ◌≡◌ {A = ℕ} 0 1 = cc in absurd (omega arith)
  each_passes (None ∷ xs) h (suc t) e here = each_passes xs h t e here
  each_passes (Some x ∷ xs) h zero e here = let same : x ≡ e = cc in ap test (sym same) ∙ (and_parts (test x) _ h).0
  each_passes (Some x ∷ xs) h (suc t) e here = each_passes xs (and_parts (test x) _ h).1 t e here

  pub all_pass : (xs : List (Option RankEntry)) → ((t : ℕ) (e : RankEntry) → get_or xs t None ≡ Some e → test e ≡ true) → list_all test (flat_map option_to_list xs) ≡ true
  all_pass [] h = refl
  all_pass (None ∷ xs) h = all_pass xs (λ t. h (suc t))
  all_pass (Some x ∷ xs) h = and_from (test x) _ (h zero x refl) (all_pass xs (λ t. h (suc t)))

  pub some_passes : (xs : List (Option RankEntry)) (t : ℕ) (e : RankEntry) → get_or xs t None ≡ Some e → test e ≡ true → list_any test (flat_map option_to_list xs) ≡ true
  some_passes [] t e here p = let z : ◌≡◌ {A = ℕ} 0 1 = cc in absurd (omega arith)
  some_passes (None ∷ xs) zero e here p = let z : ◌≡◌ {A = ℕ} 0 1 = cc in absurd (omega arith)
  some_passes (None ∷ xs) (suc t) e here p = some_passes xs t e here p
  some_passes (Some x ∷ xs) zero e here p = let same : x ≡ e = cc in or_left (test x) _ (ap test same ∙ p)
  some_passes (Some x ∷ xs) (suc t) e here p = or_right (test x) _ (some_passes xs t e here p)

-- what an iteration yields stands at a place
pub place_of : (xs : List (Option RankEntry)) (k : ℕ) (e d : RankEntry) → k < length (flat_map option_to_list xs) → e ≡ get_or (flat_map option_to_list xs) k d → (t : ℕ) × (get_or xs t None ≡ Some e)
place_of [] k e d h same = absurd (omega arith)
place_of (None ∷ xs) k e d h same = let w = place_of xs k e d h same in (suc w.0, w.1)
place_of (Some x ∷ xs) zero e d h same = (0, ap Some (sym same))
place_of (Some x ∷ xs) (suc k) e d h same = let w = place_of xs k e d (omega arith) same in (suc w.0, w.1)

-- a test that decides a statement is that of any decision of it
pub decided : {A : Type 0} (b : Bool) (d : Dec A) → Decides b A → b ≡ does d
decided b (yes a) h = h.1 a
decided true (no n) h = absurd (n (h.0 refl))
decided false (no n) h = refl

pub decides : {A : Type 0} (d : Dec A) → does d ≡ true → A
decides (yes a) h = a
decides (no n) h = absurd (false≢true h)
