-- A record as its items one after another: the way that each run's record goes.
use Rattle.std.proofs.Common.{◌≡◌, ℕ, ◌<◌, List, [], ◌∷◌, ◌++◌, map, length, Some, None, Ok, Option, sym, refl, ap, subst₂, append_assoc, arith}
use Rattle.std.proofs.lemmas.List.{map-append}
use Rattle.order.specs.declared.answer.Answer.{Answer}
use Rattle.policy.specs.declared.cap.Most.{Most}
use Rattle.record.specs.declared.item.Item.{Item}
use Rattle.record.specs.declared.item.Item.TheVariants as item
use Rattle.record.specs.declared.item.Named.{Named}
use Rattle.table.specs.declared.rows.Row.{Row}
use Rattle.search.specs.Calls.{Closes, Opens}
use Rattle.search.specs.Replays.{Starts}
use Rattle.search.specs.Replays.Starts.{capped, nothing, playing, rested, shaped}
use Rattle.search.specs.Tales.{AnsweredInOrder, CapMakes, Completes, Leads, Makes, Plays, Tale, Told, cap_items, items_of, meaning_of, round_items, under}
use Rattle.search.specs.Tales.AnsweredInOrder.{more, none}
use Rattle.search.specs.Tales.Tale.{◌then◌}
use Rattle.search.specs.Turns.{Turn}
use Rattle.search.specs.Turns.Ready.{plain, with_cap}
use Rattle.search.specs.Turns.Turn.{begins, caps, centre, last, opens, point}
use Rattle.search.specs.declared.replay.due.Due.{Due}
use Rattle.search.specs.declared.replay.due.Due.TheVariants as due
use Rattle.search.specs.declared.states.Rest.{Rest}
use Rattle.search.specs.declared.states.Round.{Round}
use Rattle.search.proofs.Beginnings.{grown_length}

pub data Steps : Due → List Row → List Item → Due → List Row → Type 0 where
  stop : {d : Due} {table : List Row} → Steps d table [] d table
  go : {d next end : Due} {table between after : List Row} {i : Item} {items : List Item}
      → Turn d table i next between → Steps next between items end after → Steps d table (i ∷ items) end after

joins : {d next end : Due} {table between after : List Row} {xs ys : List Item} → Steps d table xs next between → Steps next between ys end after → Steps d table (xs ++ ys) end after
joins stop k = k
joins (go s h) k = go s (joins h k)

again : {d next end : Due} {table after : List Row} {xs ys : List Item} → xs ≡ ys → next ≡ end → Steps d table xs next after → Steps d table ys end after
again {d} {table = t} {after = u} p q h = subst₂ (λ x y. Steps d t x y u) p q h

-- the answers of a round that is still open
answer_steps : {round : Round} {table after : List Row} {answers : List Answer} → AnsweredInOrder round table answers after → length answers < round.points
    → Steps (due.Points round 0) table (map item.Answer answers) (due.Points round (length answers)) after
answer_steps none l = stop
answer_steps {round} (more answers a h o) l =
    let e = grown_length answers a in
    again (sym (map-append item.Answer answers (a ∷ []))) (ap (λ (k : ℕ). due.Points round k) (sym e)) (joins (answer_steps h (omega arith)) (go (point o (omega arith)) stop))

-- the answers of a whole round
close_steps : {round : Round} {table filled after : List Row} {answers : List Answer} {rest : Rest} → AnsweredInOrder round table answers filled → length answers ≡ round.points
    → Closes round filled (Ok rest) after → Steps (due.Points round 0) table (map item.Answer answers) (due.Rest rest) after
close_steps {round} none e c = absurd (omega (arith, round.few.1))
close_steps (more answers a h o) e c =
    let f = grown_length answers a in
    again (sym (map-append item.Answer answers (a ∷ []))) refl (joins (answer_steps h (omega arith)) (go (last o (omega arith) c) stop))

open_steps : {rest : Rest} {table after : List Row} {round : Round} (cap : Option ℕ) (by : Named) → CapMakes cap → Makes by
    → Opens (under cap (meaning_of by)) rest table (Ok round) after → Steps (due.Rest rest) table (cap_items cap ++ item.Round by ∷ []) (due.Points round 0) after
open_steps None by c m o = go (opens plain m o) stop
open_steps (Some number) by c m o = let most : Most = record { number = number; form = c } in go (caps most refl) (go (opens (with_cap {most = most}) m o) stop)

regroup : (told : Told) → cap_items told.cap ++ item.Round told.by ∷ [] ++ map item.Answer told.answers ≡ round_items told
regroup told = append_assoc (cap_items told.cap) (item.Round told.by ∷ []) (map item.Answer told.answers)

play_steps : {rest : Rest} {table after : List Row} {round : Round} (told : Told) → Plays rest table told round after → length told.answers < round.points
    → Steps (due.Rest rest) table (round_items told) (due.Points round (length told.answers)) after
play_steps told h l = again (regroup told) refl (joins (open_steps told.cap told.by h.caps h.makes h.opens) (answer_steps h.answered l))

complete_steps : {rest next : Rest} {table after : List Row} (told : Told) → Completes rest table told next after
    → Steps (due.Rest rest) table (round_items told) (due.Rest next) after
complete_steps told h =
    let k = h.plays in
    again (regroup told) refl (joins (open_steps told.cap told.by k.caps k.makes k.opens) (close_steps k.answered h.all h.closes))

pub tale_steps : {table : List Row} (tale : Tale) {rest : Rest} {after : List Row} → Leads table tale rest after → Steps due.Start table (items_of tale) (due.Rest rest) after
tale_steps (Tale.begun n finest a) h = go begins (go (centre h) stop)
tale_steps (tale then told) h = joins (tale_steps tale h.2) (complete_steps told h.3)

pub begun_steps : {table after : List Row} {items : List Item} {d : Due} → Starts table items d after → Steps due.Start table items d after
begun_steps nothing = stop
begun_steps shaped = go begins stop
begun_steps (rested tale h) = tale_steps tale h
begun_steps (capped tale h most) = joins (tale_steps tale h) (go (caps most refl) stop)
begun_steps (playing tale h told k l) = joins (tale_steps tale h) (play_steps told k l)
