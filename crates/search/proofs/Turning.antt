-- What the calls that an item asks for make of what is due.
use Rattle.std.proofs.Common.{◌≡◌, ℕ, ◌+◌, T, List, [], ◌∷◌, set, Some, None, Ok, Err, Option, Result, sym, refl, subst, inl, inr, le_refl}
use Rattle.order.specs.Answers.{allowed}
use Rattle.order.specs.declared.answer.Answer.{Answer}
use Rattle.order.specs.declared.answer.Answer.TheVariants as answer
use Rattle.policy.specs.declared.cap.Most.{Most}
use Rattle.record.specs.Items.{mark_of}
use Rattle.record.specs.declared.item.Item.TheVariants as item
use Rattle.record.specs.declared.item.Mark.TheVariants as mark
use Rattle.record.specs.declared.item.Named.{Named}
use Rattle.record.specs.declared.item.Named.TheVariants as named
use Rattle.refusal.specs.Checks.{Check}
use Rattle.refusal.specs.declared.Refusal.{Refusal}
use Rattle.refusal.specs.declared.Refusal.TheVariants.{ShareAboveLimit}
use Rattle.table.specs.Rows.{row_at}
use Rattle.table.specs.declared.rows.Row.{Row}
use Rattle.search.specs.Calls.{Answers, Begins, OpensIn, OwnRest, with_answer}
use Rattle.search.specs.Tales.{CapMakes, Makes, meaning_of, under}
use Rattle.search.specs.Turns.{Among, AnsweredBelow, Declines, InTurn, OpensNamed, Ready, Turns, cap_number}
use Rattle.search.specs.Turns.Declines.{no_policy, no_round}
use Rattle.search.specs.Turns.Ready.{plain, with_cap}
use Rattle.search.specs.declared.replay.due.Due.{Due}
use Rattle.search.specs.declared.states.Rest.{Rest}
use Rattle.search.specs.declared.states.Round.{Round}
use Rattle.search.proofs.Invariant.{begins}
use Rattle.search.proofs.Named.{named_lawful}
use Rattle.search.proofs.NextPoints.{none_answered}
use Rattle.search.proofs.Outcomes.{begun_by, ok_err, open_refusal, opened_by}

-- a check that was passed, and one that was not
pub check_ok : {X E : Type 0} {good P : Type 0} {x : X} {e : E} → Check good (Ok x ≡ Err e) P → good × P
check_ok (inl x) = ok_err x.1
check_ok (inr x) = x

pub check_err : {X E : Type 0} {good : Type 0} {w e : E} → Check good (◌≡◌ {A = Result X E} (Err w) (Err e)) ⊥ → (good → ⊥) × (w ≡ e)
check_err (inl x) = (x.0, let same = x.1 in cc)
check_err (inr x) = absurd x.1

-- Marks in turn

pub answer_among : (a : Answer) → Among (mark_of (item.Answer a)) (mark.Value ∷ mark.NotFeasible ∷ [])
answer_among (answer.Reading x) = inl refl
answer_among answer.NotFeasible = inr (inl refl)

pub round_in_turn : {d : Due} {rest : Rest} {cap : Option Most} (by : Named) → Ready d rest cap → InTurn d (mark_of (item.Round by))
round_in_turn named.Every plain = inr (inl refl)
round_in_turn named.Every with_cap = inl refl
round_in_turn (named.Hull share) plain = inr (inr (inl refl))
round_in_turn (named.Hull share) with_cap = inr (inl refl)

-- Begin

pub begin_refusal : (n finest : ℕ) (table : List Row) (a : Answer) (why : Refusal) (after : List Row) → Begins n finest table a (Err why) after → after ≡ table
begin_refusal n finest table a why after (inl x) = x.1.1
begin_refusal n finest table a why after (inr (s, inl x)) = x.1.1
begin_refusal n finest table a why after (inr (s, inr (f, inl x))) = x.1.1
begin_refusal n finest table a why after (inr (s, inr (f, inr (l, inl x)))) = x.1.1
begin_refusal n finest table a why after (inr (s, inr (f, inr (l, inr (k, x))))) = absurd x.0

pub own_begun : (n finest : ℕ) (table : List Row) (a : Answer) (rest : Rest) (after : List Row) → Begins n finest table a (Ok rest) after → OwnRest rest after
own_begun n finest table a rest after b =
    let s = begun_by n finest table a rest after b in
    (begins rest table after a s.rows s.allowed_answer s.begun.one_box s.begun.no_round s.after_is).own

-- Open

pub cap_makes : (cap : Option Most) → CapMakes (cap_number cap)
cap_makes None = tt
cap_makes (Some most) = most.form

pub named_ok : (cap : Option ℕ) (by : Named) (rest : Rest) (table : List Row) (round : Round) (after : List Row)
    → OpensNamed cap by rest table (Ok round) after → Makes by × OpensIn (under cap (meaning_of by)) rest table (Ok round) after
named_ok cap by rest table round after (inl x) = ok_err x.1.0
named_ok cap by rest table round after (inr x) = x

pub own_opened : (cap : Option Most) (by : Named) (rest : Rest) (table : List Row) (round : Round) (after : List Row)
    → OwnRest rest table → OpensIn (under (cap_number cap) (meaning_of by)) rest table (Ok round) after → AnsweredBelow round after 0
own_opened cap by rest table round after own o =
    let meaning = under (cap_number cap) (meaning_of by) in
    none_answered meaning rest table round after (named_lawful (cap_number cap) by rest table (cap_makes cap)) (opened_by meaning rest table round after (inr (own, o)))

pub named_refused : {d : Due} (place : ℕ) (cap : Option Most) (by : Named) (rest : Rest) (table : List Row) (why : Refusal) (after : List Row)
    → OwnRest rest table → OpensNamed (cap_number cap) by rest table (Err why) after → Ready d rest cap
    → Turns place d table (item.Round by) (Err (record { why = why; place = place })) after
named_refused {d} place cap by rest table why after own (inl x) r =
    let same : why ≡ ShareAboveLimit = let e = x.1.0 in cc in
    (x.1.1, inr (round_in_turn by r, subst (λ w. Declines place d table (item.Round by) w place) (sym same) (no_policy r x.0)))
named_refused {d} place cap by rest table why after own (inr (m, (refused, same, o))) r = (
  (open_refusal (under (cap_number cap) (meaning_of by)) rest table refused after (inr (own, o))).1,
  inr (round_in_turn by r, subst (λ w. Declines place d table (item.Round by) w place) (sym same) (no_round r m o)),
)

-- Answer

pub answers_ok : (round : Round) (table : List Row) (p : ℕ) (a : Answer) (after : List Row) → T (allowed a) → AnsweredBelow round table p
    → after ≡ set table (round.boxes + p) (with_answer (row_at table (round.boxes + p)) a) → Answers round table p a (Ok tt) after
answers_ok round table p a after k h e = inr (k, inr (h.own, inr (h.within, inr (h.waits p (le_refl p) h.within, (refl, e)))))
