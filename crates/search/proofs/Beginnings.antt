-- One item more after those with which the record of a run begins.
use Rattle.std.proofs.lemmas.Grind.{common_steps}
use Rattle.std.proofs.Common.{◌≡◌, ℕ, ◌+◌, List, [], ◌∷◌, ◌++◌, length, Some, None, Ok, sym, refl, ap, ◌∙◌, subst₂, append_assoc, arith, length-append}
use Rattle.order.specs.declared.answer.Answer.{Answer}
use Rattle.record.specs.declared.item.Item.{Item}
use Rattle.record.specs.declared.item.Item.TheVariants as item
use Rattle.table.specs.declared.rows.Row.{Row}
use Rattle.search.specs.Calls.{Answers}
use Rattle.search.specs.Replays.{Starts}
use Rattle.search.specs.Replays.Starts.{capped, nothing, playing, rested, shaped}
use Rattle.search.specs.Tales.{Plays, Tale, Told, items_of, round_items}
use Rattle.search.specs.Tales.AnsweredInOrder.{more, none}
use Rattle.search.specs.Tales.Tale.{◌then◌}
use Rattle.search.specs.Turns.{Turn}
use Rattle.search.specs.Turns.Ready.{plain, with_cap}
use Rattle.search.specs.Turns.Turn.{begins, caps, centre, last, opens, point}
use Rattle.search.specs.declared.replay.due.Due.{Due}
use Rattle.search.specs.declared.replay.due.Due.TheVariants as due
use Rattle.search.specs.declared.states.Rest.{Rest}
use Rattle.search.specs.declared.states.Round.{Round}

-- a round as told so far, with one answer more
abbrev pub grown : Told → Answer → Told
grown told a = record { cap = told.cap; by = told.by; answers = told.answers ++ a ∷ [] }

pub grown_length : (l : List Answer) (a : Answer) → length (l ++ a ∷ []) ≡ length l + 1
grown_length l a = length-append l (a ∷ [])

grown_items : (xs : List Item) (told : Told) (a : Answer) → xs ++ round_items (grown told a) ≡ xs ++ round_items told ++ item.Answer a ∷ []
grown_items xs told a = grind (arith, common_steps)

again : {table : List Row} {xs ys : List Item} {d e : Due} {after : List Row} → xs ≡ ys → d ≡ e → Starts table xs d after → Starts table ys e after
again {table} {after = after} p q h = subst₂ (λ x y. Starts table x y after) p q h

grown_plays : {rest : Rest} {table after next : List Row} {told : Told} {round : Round} (a : Answer) → Plays rest table told round after
    → Answers round after (length told.answers) a (Ok tt) next → Plays rest table (grown told a) round next
grown_plays {told = told} a h o = record { cleared = h.cleared; caps = h.caps; makes = h.makes; opens = h.opens; answered = more told.answers a h.answered o }

pub one_more : {table before after : List Row} {items : List Item} {d next : Due} {i : Item} → Starts table items d before → Turn d before i next after → Starts table (items ++ i ∷ []) next after
one_more nothing begins = shaped
one_more nothing (opens r m o) = elim r [ ]
one_more shaped (centre {n = n} {finest = f} {a = a} b) = rested (Tale.begun n f a) b
one_more shaped (opens r m o) = elim r [ ]
one_more (rested tale h) (caps most e) = again (ap (λ (m : ℕ). items_of tale ++ item.Cap m ∷ []) e) refl (capped tale h most)
one_more (rested {rest = rest} tale h) (opens {by = by} {round = round} {after = after} plain m o) =
    playing tale h (record { cap = None; by = by; answers = [] }) (record { cleared = after; caps = tt; makes = m; opens = o; answered = none }) (omega (arith, round.few.1))
one_more (capped {rest = rest} tale h most) (opens {by = by} {round = round} {after = after} with_cap m o) =
    again (sym (append_assoc (items_of tale) (item.Cap most.number ∷ []) (item.Round by ∷ []))) refl
    (playing tale h (record { cap = Some most.number; by = by; answers = [] }) (record { cleared = after; caps = most.form; makes = m; opens = o; answered = none }) (omega (arith, round.few.1)))
one_more (playing tale h told plays l) (opens r m o) = elim r [ ]
one_more (playing {round = round} tale h told plays l) (point {a = a} o left) =
    again (grown_items (items_of tale) told a) (ap (λ (k : ℕ). due.Points round k) (grown_length told.answers a))
    (playing tale h (grown told a) (grown_plays a plays o) (omega (arith, grown_length told.answers a)))
one_more (playing {rest = rest} {round = round} {between = between} tale h told plays l) (last {a = a} {between = filled} o all c) =
    again (grown_items (items_of tale) told a) refl
    (rested (tale then grown told a) (rest, between, h, record { round = round; filled = filled; plays = grown_plays a plays o; all = grown_length told.answers a ∙ all; closes = c }))
