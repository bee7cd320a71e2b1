-- What the boxes of a table show makes a front, and a table has one front.
use Rattle.std.proofs.lemmas.Grind.{common_steps}
use Rattle.std.proofs.Common.{◌≡◌, ℕ, ◌*◌, ◌<◌, ◌≤◌, Bool, true, false, cond, List, length, get_or, ℤ, ◌≤ℤ◌, Some, None, Option, sym, refl, ap, ◌∙◌, ⊎_elim, arith}
use borrow.Author.Differences.{ints}
use lib.Signed.{le_z}
use Rattle.std.proofs.lemmas.List.{get_or_past}
use Rattle.std.proofs.lemmas.Bool.{cases_lt, and_from}
use Rattle.order.specs.Answers.{allowed, in_range}
use Rattle.order.specs.declared.answer.Answer.{Answer}
use Rattle.order.specs.declared.answer.Answer.TheVariants.{Reading, NotFeasible}
use Rattle.order.specs.declared.records.Candidate.{Candidate}
use Rattle.policy.specs.Fronts.{AllFit, EmptyFrom, ends_fit, entry_fits}
use Rattle.table.specs.Boxes.{FirstOfRank}
use Rattle.table.specs.Entries.{shown_by}
use Rattle.table.specs.Fronts.{Reads, ReadingsOf, answer_in}
use Rattle.table.specs.Rows.{row_at}
use Rattle.table.specs.declared.rows.Entry.{Entry}
use Rattle.table.specs.declared.rows.Entry.TheVariants.{Answered, Waiting}
use Rattle.table.specs.declared.rows.Row.{Row}

-- what an entry shows is allowed
shown_allowed : (e : Entry) (a : Answer) → shown_by e ≡ Some a → allowed a ≡ true
shown_allowed (Answered b) a h = go (allowed b) refl h
  where
    go : (t : Bool) → allowed b ≡ t → cond t (Some b) None ≡ Some a → allowed a ≡ true
    go true e q = let same : b ≡ a = cc in ap allowed (sym same) ∙ e
    go false e q = let z : ◌≡◌ {A = ℕ} 0 1 = cc in absurd (omega arith)
shown_allowed Waiting a h = let z : ◌≡◌ {A = ℕ} 0 1 = cc in absurd (omega arith)

at_most : (x y : ℤ) → x ≤ℤ y → le_z x y ≡ true
at_most x y h = grind (arith, ints)

-- an entry that is not there fits
pub none_fits : (ends : Option (ℤ × ℤ)) → entry_fits ends None ≡ true
none_fits None = refl
none_fits (Some ends) = refl

module _ (n finest boxes : ℕ) (table : List Row) where
  reads_range : (j : ℕ) (x : ℤ) → Reads boxes table j x → in_range x ≡ true
  reads_range j x r = shown_allowed (row_at table j).entry (Reading x) r.1

  pub ends_of : (ends : Option (ℤ × ℤ)) → ReadingsOf boxes table ends → ends_fit ends ≡ true
  ends_of None f = refl
  ends_of (Some ends) f =
      and_from _ _ (reads_range f.0.0 ends.0 f.0.1)
      (and_from _ _ (reads_range f.1.0 ends.1 f.1.1) (at_most ends.0 ends.1 (f.2 f.0.0 ends.0 f.0.1).1))

  reading_fits : (ends : Option (ℤ × ℤ)) (x : ℤ) (j : ℕ) → ReadingsOf boxes table ends → Reads boxes table j x → entry_fits ends (Some (Reading x)) ≡ true
  reading_fits None x j f r = absurd (f j x r)
  reading_fits (Some ends) x j f r = let b = f.2 j x r in and_from _ _ (at_most ends.0 x b.0) (at_most x ends.1 b.1)

  answer_fits : (ends : Option (ℤ × ℤ)) (a : Answer) (j : ℕ) → ReadingsOf boxes table ends → j < boxes → shown_by (row_at table j).entry ≡ Some a → entry_fits ends (Some a) ≡ true
  answer_fits ends (Reading x) j f l h = reading_fits ends x j f (l, h)
  answer_fits None NotFeasible j f l h = refl
  answer_fits (Some ends) NotFeasible j f l h = refl

  candidate_fits : (ends : Option (ℤ × ℤ)) (r : ℕ) (o : Option Candidate) → ReadingsOf boxes table ends → FirstOfRank n finest boxes table r o → entry_fits ends (answer_in o) ≡ true
  candidate_fits ends r None f first = none_fits ends
  candidate_fits ends r (Some c) f first = answer_fits ends c.answer c.row f first.0.box.within first.0.answered

  module _ (entries : List (Option Answer)) (firsts : List (Option Candidate)) (long : length entries ≡ 114)
      (is : (r : ℕ) → r < 114 → get_or entries r None ≡ answer_in (get_or firsts r None))
      (first : (r : ℕ) → r < 114 → FirstOfRank n finest boxes table r (get_or firsts r None)) where
    pub empty_from : finest ≤ 19 → EmptyFrom (19 * n) entries
    empty_from fine r far = grind (arith, common_steps)

    pub all_fit : (ends : Option (ℤ × ℤ)) → ReadingsOf boxes table ends → AllFit ends entries
    all_fit ends f r = ⊎_elim
        (λ l. ap (entry_fits ends) (is r l) ∙ candidate_fits ends r _ f (first r l))
        (λ l. ap (entry_fits ends) (get_or_past entries r None (omega (arith, long))) ∙ none_fits ends)
        (cases_lt r 114)
