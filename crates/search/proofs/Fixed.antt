-- A check, a refusal, a value, a state: each is one. Begin, open, answer and best have one outcome.
use Rattle.std.proofs.lemmas.Grind.{common_steps}
use Rattle.std.proofs.Common.{◌≡◌, ℕ, ◌+◌, ◌*◌, ◌<◌, ◌≤◌, List, ℤ, Some, None, Ok, Err, Option, Result, sym, refl, ap, ◌∙◌, subst, inl, inr, arith}
use Rattle.std.proofs.lemmas.Bool.{cases_lt}
use mathlib.Core.HLevel.{is_prop→PathP, ×_prop, ×₃_prop}
use native.Mathlib.Bridge.{le_prop}
use native.Mathlib.Nat.{ℕ_set}
use Rattle.std.proofs.lemmas.List.{ext_get_or}
use Rattle.order.proofs.Among.{first_among_one}
use Rattle.order.specs.Records.{candidate_before}
use Rattle.order.specs.declared.answer.Answer.{Answer}
use Rattle.order.specs.declared.answer.Answer.TheVariants.{Reading}
use Rattle.order.specs.declared.records.Candidate.{Candidate}
use Rattle.policy.specs.declared.cap.Most.{Most}
use Rattle.policy.specs.declared.front.Front.{Front}
use Rattle.ranks.proofs.Sets.{same_words}
use Rattle.ranks.specs.Ranks.{Ranks, ranks}
use Rattle.refusal.specs.Checks.{Check, Gives, Refused}
use Rattle.refusal.specs.declared.Refusal.{Refusal}
use Rattle.refusal.specs.declared.Refusal.TheVariants.{AlreadyAnswered, Directions, FinestLevel, NoRoom, NoRow, NoSuchPoint, NotOwnTable, NothingToCut, ReadingOutOfRange}
use Rattle.table.proofs.OneFront.{candidate_total, front_one}
use Rattle.table.specs.Rows.{no_row}
use Rattle.table.specs.declared.rows.Row.{Row}
use Rattle.table.specs.declared.shape.Shape.{Shape}
use Rattle.search.specs.Calls.{Answers, Begins, Begun, BestOf, Bests, BoxOf, Cleared, Opened, Opens, OpensIn, Room}
use Rattle.search.specs.Counts.{points_of}
use Rattle.search.specs.Once.{One}
use Rattle.search.specs.declared.states.Rest.{Rest}
use Rattle.search.specs.declared.states.Round.{Round}

-- a check leaves one outcome where what follows it does
pub check_one : {X E M : Type 0} (good : Type 0) (lent : M) (e : E) (rest : Result X E → M → Type 0) → (good → One rest)
    → One (λ (out : Result X E) (after : M). Check good (Refused lent after out e) (rest out after))
check_one good lent e rest h out out' after after' (inl p) (inl q) = (p.1.0 ∙ sym q.1.0, p.1.1 ∙ sym q.1.1)
check_one good lent e rest h out out' after after' (inl p) (inr q) = absurd (p.0 q.0)
check_one good lent e rest h out out' after after' (inr p) (inl q) = absurd (q.0 p.0)
check_one good lent e rest h out out' after after' (inr p) (inr q) = h p.0 out out' after after' p.1 q.1

-- a result that holds a value of which P holds is one where P holds of one value
pub gives_one : {X E : Type 0} (P : X → Type 0) → ((x y : X) → P x → P y → x ≡ y) → (out out' : Result X E) → Gives out P → Gives out' P → out ≡ out'
gives_one P h (Ok x) (Ok y) p q = ap Ok (h x y p q)
gives_one P h (Ok x) (Err f) p q = absurd q
gives_one P h (Err e) out' p q = absurd p

-- States

shape_same : (a b : Shape) → a.n ≡ b.n → a.finest ≡ b.finest → a ≡ b
shape_same a b p q = λ i. record {
  n = p i;
  finest = q i;
  some = is_prop→PathP (λ j. 1 ≤ p j) (λ j. le_prop) a.some b.some i;
  few = is_prop→PathP (λ j. p j ≤ 6) (λ j. le_prop) a.few b.few i;
  coarse = is_prop→PathP (λ j. 1 ≤ q j) (λ j. le_prop) a.coarse b.coarse i;
  fine = is_prop→PathP (λ j. q j ≤ 19) (λ j. le_prop) a.fine b.fine i;
}

pub rest_same : (a b : Rest) → a.shape ≡ b.shape → a.boxes ≡ b.boxes → a.rounds ≡ b.rounds → a ≡ b
rest_same a b p r s = λ i. record {
  shape = p i;
  boxes = r i;
  rounds = s i;
  few = is_prop→PathP (λ j. (2 * s j < r j) × (r j ≤ 65535)) (λ j. ×_prop le_prop le_prop) a.few b.few i;
}

round_same : (a b : Round) → a.shape ≡ b.shape → a.boxes ≡ b.boxes → a.rounds ≡ b.rounds → a.chosen ≡ b.chosen → a.points ≡ b.points → a ≡ b
round_same a b p r s c t = λ i. record {
  shape = p i;
  boxes = r i;
  rounds = s i;
  chosen = c i;
  points = t i;
  few = is_prop→PathP (λ j. (2 * s j < r j) × (2 ≤ t j) × (r j + t j ≤ 65535)) (λ j. ×₃_prop le_prop le_prop le_prop) a.few b.few i;
  counted = is_prop→PathP (λ j. t j ≡ points_of (p j).n (ranks (c j))) (λ j. ℕ_set (t j) (points_of (p j).n (ranks (c j)))) a.counted b.counted i;
}

pub most_same : (a b : Most) → a.number ≡ b.number → a ≡ b
most_same a b p = λ i. record { number = p i; form = is_prop→PathP (λ j. (1 ≤ p j) × (p j ≤ 114)) (λ j. ×_prop le_prop le_prop) a.form b.form i }

-- Begin

begun_one : (n finest : ℕ) (a b : Rest) → Begun n finest a → Begun n finest b → a ≡ b
begun_one n finest a b x y =
    rest_same a b (shape_same a.shape b.shape (x.is_n ∙ sym y.is_n) (x.is_finest ∙ sym y.is_finest))
    (x.one_box ∙ sym y.one_box) (x.no_round ∙ sym y.no_round)

pub begins_one : (n finest : ℕ) (table : List Row) (a : Answer) → One (Begins n finest table a)
begins_one n finest table a =
    check_one _ table Directions _ (λ _. check_one _ table FinestLevel _ (λ _. check_one _ table NoRow _ (λ _. check_one _ table ReadingOutOfRange _
    (λ _ out out' after after' x y. (gives_one (Begun n finest) (begun_one n finest) out out' x.0 y.0, x.1 ∙ sym y.1)))))

-- Open

cleared_one : (from to : ℕ) (table a b : List Row) → Cleared from to table a → Cleared from to table b → a ≡ b
cleared_one from to table a b x y = ext_get_or no_row a b (x.same_length ∙ sym y.same_length) (λ j h. elim (cases_lt j from) [
  | inl l ↦ x.below j l ∙ sym (y.below j l)
  | inr g ↦ elim (cases_lt j to) [ inl l ↦ x.waits j g l ∙ sym (y.waits j g l) | inr k ↦ x.above j k ∙ sym (y.above j k) ]
])

opened_one : (rest : Rest) (chosen : Ranks) (a b : Round) → Opened rest chosen a → Opened rest chosen b → a ≡ b
opened_one rest chosen a b x y =
    round_same a b (x.same_shape ∙ sym y.same_shape) (x.same_boxes ∙ sym y.same_boxes) (x.same_rounds ∙ sym y.same_rounds)
    (same_words a.chosen b.chosen (x.is_chosen ∙ sym y.is_chosen)) (x.is_points ∙ sym y.is_points)

-- opening at one front
abbrev OpensAt : (Front → Ranks) → Rest → List Row → Front → Result Round (Refusal × Rest) → List Row → Type 0
OpensAt meaning rest table front out after =
    Check (Room rest table (points_of rest.shape.n (meaning front))) (Refused table after out (NoRoom, rest))
    (Gives out (Opened rest (meaning front)) × Cleared rest.boxes (rest.boxes + points_of rest.shape.n (meaning front)) table after)

opens_at_one : (meaning : Front → Ranks) (rest : Rest) (table : List Row) (front : Front) → One (OpensAt meaning rest table front)
opens_at_one meaning rest table front =
    check_one _ table (NoRoom, rest) _ (λ _ out out' after after' x y.
    (gives_one (Opened rest (meaning front)) (opened_one rest (meaning front)) out out' x.0 y.0, cleared_one _ _ table after after' x.1 y.1))

pub opens_in_one : (meaning : Front → Ranks) (rest : Rest) (table : List Row) → One (OpensIn meaning rest table)
opens_in_one meaning rest table =
    check_one _ table (NothingToCut, rest) _ (λ _ out out' after after' x y.
    opens_at_one meaning rest table x.0 out out' after after' x.2
    (subst (λ f. OpensAt meaning rest table f out' after') (front_one rest.shape.n rest.shape.finest rest.boxes table y.0 x.0 y.1 x.1) y.2))

pub opens_one : (meaning : Front → Ranks) (rest : Rest) (table : List Row) → One (Opens meaning rest table)
opens_one meaning rest table = check_one _ table (NotOwnTable, rest) _ (λ _. opens_in_one meaning rest table)

-- Answer

pub answers_one : (round : Round) (table : List Row) (p : ℕ) (a : Answer) → One (Answers round table p a)
answers_one round table p a =
    check_one _ table ReadingOutOfRange _ (λ _. check_one _ table NotOwnTable _ (λ _. check_one _ table NoSuchPoint _ (λ _. check_one _ table AlreadyAnswered _
    (λ _ out out' after after' x y. (x.0 ∙ sym y.0, x.1 ∙ sym y.1)))))

-- Best

same_best : (a b : ℕ × ℤ) → ◌≡◌ {A = Option Candidate} (Some (record { answer = Reading a.1; row = a.0 })) (Some (record { answer = Reading b.1; row = b.0 })) → (a.0 ≡ b.0) × (a.1 ≡ b.1)
same_best a b e = grind (arith, common_steps)

best_one : (rest : Rest) (table : List Row) (o p : Option (ℕ × ℤ)) → BestOf rest table o → BestOf rest table p → o ≡ p
best_one rest table None None x y = refl
best_one rest table None (Some b) x y = absurd (x b.0 b.1 y.0.within y.0.shows)
best_one rest table (Some a) None x y = absurd (y a.0 a.1 x.0.within x.0.shows)
best_one rest table (Some a) (Some b) x y =
    let same = same_best a b (first_among_one candidate_before candidate_total (BoxOf rest table) _ _ x y) in
    λ i. Some (same.0 i, same.1 i)

pub bests_one : (rest : Rest) (table : List Row) (out out' : Result (Option (ℕ × ℤ)) Refusal) → Bests rest table out → Bests rest table out' → out ≡ out'
bests_one rest table out out' (inl x) (inl y) = x.1 ∙ sym y.1
bests_one rest table out out' (inl x) (inr y) = absurd (x.0 y.0)
bests_one rest table out out' (inr x) (inl y) = absurd (y.0 x.0)
bests_one rest table out out' (inr x) (inr y) = gives_one (BestOf rest table) (best_one rest table) out out' x.1 y.1
