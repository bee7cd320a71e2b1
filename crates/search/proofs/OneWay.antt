-- An item is accepted in one way, or refused in one way, and not both.
use Rattle.std.proofs.Common.{◌≡◌, ℕ, ◌≤◌, T, List, Ok, Err, Option, Result, sym, refl, ap, ◌∙◌, subst, subst₂, inl, inr, arith}
use Rattle.std.proofs.lemmas.Int.{ints}
use Rattle.std.proofs.lemmas.Bool.Decides.{nat_tests}
use Rattle.order.specs.Answers.{allowed}
use Rattle.order.specs.declared.answer.Answer.{Answer}
use Rattle.order.specs.declared.answer.Answer.TheVariants as answer
use Rattle.policy.specs.declared.cap.Most.{Most}
use Rattle.record.specs.Items.{Fit, mark_of}
use Rattle.record.specs.declared.item.Item.{Item}
use Rattle.record.specs.declared.item.Item.TheVariants as item
use Rattle.record.specs.declared.item.Named.{Named}
use Rattle.record.specs.declared.item.Named.TheVariants as named
use Rattle.refusal.specs.declared.Refusal.{Refusal}
use Rattle.table.specs.declared.rows.Row.{Row}
use Rattle.search.specs.Calls.{Closes, Opens, OpensIn}
use Rattle.search.specs.Tales.{Makes, meaning_of, under}
use Rattle.search.specs.Turns.{Declines, InTurn, Ready, Turn, cap_number}
use Rattle.search.specs.Turns.Declines.{bad_reading, no_begin, no_cap, no_policy, no_round}
use Rattle.search.specs.Turns.Ready.{plain, with_cap}
use Rattle.search.specs.Turns.Turn.{begins, caps, centre, last, opens, point}
use Rattle.search.specs.declared.replay.due.Due.{Due}
use Rattle.search.specs.declared.replay.due.Due.TheVariants as due
use Rattle.search.specs.declared.states.Rest.{Rest}
use Rattle.search.specs.declared.states.Round.{Round}
use Rattle.search.proofs.Fixed.{answers_one, begins_one, most_same, opens_in_one, opens_one}
use Rattle.search.proofs.OneClose.{close_one}
use Rattle.search.proofs.Outcomes.{answered_by, begun_by, ok_err}
use Rattle.search.proofs.Turning.{answer_among, round_in_turn}

-- The numbers of an accepted item

allowed_fits : (a : Answer) → T (allowed a) → Fit (item.Answer a)
allowed_fits (answer.Reading x) h = grind (arith, ints, nat_tests)
allowed_fits answer.NotFeasible h = tt

makes_fits : (by : Named) → Makes by → Fit (item.Round by)
makes_fits named.Every h = tt
makes_fits (named.Hull share) h = omega arith

-- an answer that was accepted is allowed
answer_allowed : {d next : Due} {table after : List Row} (a : Answer) → Turn d table (item.Answer a) next after → T (allowed a)
answer_allowed a (centre {n = n} {finest = f} {rest = rest} {table = t} {after = u} b) = (begun_by n f t a rest u b).allowed_answer
answer_allowed a (point {round = round} {p = p} {table = t} {after = u} o l) = (answered_by round t p a u o).allowed_answer
answer_allowed a (last {round = round} {p = p} {table = t} {between = u} o l c) = (answered_by round t p a u o).allowed_answer

pub turn_fits : {d next : Due} {table after : List Row} {i : Item} → Turn d table i next after → Fit i
turn_fits begins = tt
turn_fits (centre {a = a} b) = allowed_fits a (answer_allowed a (centre b))
turn_fits (caps most e) = tt
turn_fits (opens {by = by} r m o) = makes_fits by m
turn_fits (point {a = a} o l) = allowed_fits a (answer_allowed a (point o l))
turn_fits (last {a = a} o l c) = allowed_fits a (answer_allowed a (last o l c))

pub turn_in_turn : {d next : Due} {table after : List Row} {i : Item} → Turn d table i next after → InTurn d (mark_of i)
turn_in_turn begins = inl refl
turn_in_turn (centre {a = a} b) = answer_among a
turn_in_turn (caps most e) = inl refl
turn_in_turn (opens {by = by} r m o) = round_in_turn by r
turn_in_turn (point {a = a} o l) = answer_among a
turn_in_turn (last {a = a} o l c) = answer_among a

-- One way

ok_same : {X E : Type 0} {x y : X} → ◌≡◌ {A = Result X E} (Ok x) (Ok y) → x ≡ y
ok_same p = cc

err_same : {X E : Type 0} {x y : E} → ◌≡◌ {A = Result X E} (Err x) (Err y) → x ≡ y
err_same p = cc

-- the search and the cap of a round that may be opened
ready_rest : {d : Due} {rest last : Rest} {one two : Option Most} → Ready d rest one → Ready d last two → rest ≡ last
ready_rest plain plain = refl
ready_rest with_cap with_cap = refl

ready_cap : {d : Due} {rest last : Rest} {one two : Option Most} → Ready d rest one → Ready d last two → one ≡ two
ready_cap plain plain = refl
ready_cap with_cap with_cap = refl

-- the same opening of what may be opened
same_opening : {d : Due} {rest last : Rest} {one two : Option Most} (P : (Option Most) → Rest → Type 0)
    → Ready d rest one → Ready d last two → P two last → P one rest
same_opening P r q h = subst₂ P (sym (ready_cap r q)) (sym (ready_rest r q)) h

pub one_way : {d next other : Due} {table after left : List Row} {i : Item} → Turn d table i next after → Turn d table i other left → (next ≡ other) × (after ≡ left)
one_way begins begins = (refl, refl)
one_way (centre {n = n} {finest = f} {a = a} {table = t} b) (centre c) =
    let one = begins_one n f t a _ _ _ _ b c in (ap due.Rest (ok_same one.0), one.1)
one_way (caps {rest = rest} most e) (caps other f) = (ap (due.Capped rest) (most_same most other (e ∙ sym f)), refl)
one_way (opens {rest = rest} {cap = most} {by = by} {table = t} {after = u} r m o) (opens {round = round} {after = v} q k p) =
    let one = opens_one (under (cap_number most) (meaning_of by)) rest t _ _ u v o
    (same_opening (λ c s. Opens (under (cap_number c) (meaning_of by)) s t (Ok round) v) r q p) in
    (ap (λ (x : Round). due.Points x 0) (ok_same one.0), one.1)
one_way (point {round = round} {p = p} {a = a} {table = t} o l) (point q m) = (refl, (answers_one round t p a _ _ _ _ o q).1)
one_way (point o l) (last q m c) = absurd (omega arith)
one_way (last o l c) (point q m) = absurd (omega arith)
one_way (last {round = round} {p = p} {a = a} {table = t} {between = u} o l c) (last {rest = rest} {after = v} q m k) =
    let same = (answers_one round t p a _ _ _ _ o q).1 in
    let one = close_one round u _ _ _ v c (subst (λ x. Closes round x (Ok rest) v) (sym same) k) in
    (ap due.Rest (ok_same one.0), one.1)

-- what is accepted is not refused
pub not_both : {d next : Due} {table after : List Row} {i : Item} {here place : ℕ} {why : Refusal} → Turn d table i next after → Declines here d table i why place → ⊥
not_both begins refused = elim refused [ ]
not_both (centre {a = a} b) (bad_reading h) = h (answer_allowed a (centre b))
not_both (centre {n = n} {finest = f} {a = a} {table = t} b) (no_begin h c) = ok_err (begins_one n f t a _ _ _ _ b c).0
not_both (caps most e) (no_cap h) = h (subst (λ (m : ℕ). (1 ≤ m) × (m ≤ 114)) e most.form)
not_both (opens r m o) (no_policy q h) = h m
not_both (opens {rest = rest} {cap = most} {by = by} {table = t} {after = u} r m o) (no_round {refused = refused} {after = v} q k p) =
    opened_in o
    (same_opening (λ c s. OpensIn (under (cap_number c) (meaning_of by)) s t (Err refused) v) r q p)
  where
    opened_in : {round : Round} → Opens (under (cap_number most) (meaning_of by)) rest t (Ok round) u → OpensIn (under (cap_number most) (meaning_of by)) rest t (Err refused) v → ⊥
    opened_in (inl x) y = ok_err x.1.0
    opened_in (inr x) y = ok_err (opens_in_one (under (cap_number most) (meaning_of by)) rest t _ _ u v x.1 y).0
not_both (point {a = a} o l) (bad_reading h) = h (answer_allowed a (point o l))
not_both (last {a = a} o l c) (bad_reading h) = h (answer_allowed a (last o l c))

-- it is refused in one way
pub one_refusal : {d : Due} {table : List Row} {i : Item} {here place other : ℕ} {why cause : Refusal} → Declines here d table i why place → Declines here d table i cause other
    → (why ≡ cause) × (place ≡ other)
one_refusal (bad_reading h) (bad_reading k) = (refl, refl)
one_refusal (bad_reading h) (no_begin k c) = absurd (h k)
one_refusal (no_begin h b) (bad_reading k) = absurd (k h)
one_refusal (no_begin {n = n} {finest = f} {a = a} {table = t} h b) (no_begin k c) = (err_same (begins_one n f t a _ _ _ _ b c).0, refl)
one_refusal (no_cap h) (no_cap k) = (refl, refl)
one_refusal (no_policy r h) (no_policy q k) = (refl, refl)
one_refusal (no_policy r h) (no_round q k p) = absurd (h k)
one_refusal (no_round r h o) (no_policy q k) = absurd (k h)
one_refusal (no_round {rest = rest} {cap = most} {by = by} {table = t} {after = u} r h o) (no_round {refused = refused} {after = v} q k p) =
    let one = opens_in_one (under (cap_number most) (meaning_of by)) rest t _ _ u v o
    (same_opening (λ c s. OpensIn (under (cap_number c) (meaning_of by)) s t (Err refused) v) r q p) in
    (ap (λ (x : Refusal × Rest). x.0) (err_same one.0), refl)
