-- The outcomes of opening, and what makes the round real.
use Rattle.std.proofs.Common.{sym, refl, ap, ◌∙◌}
use Rattle.std.proofs.lemmas.Bool.{true≢false}
use Rattle.search.specs.Counts.{points_of}
use Rattle.search.proofs.Opens.{opens_full, opens_none, opens_ok, some_box, two}
use Rattle.search.proofs.Slices.{front_in_table}
use Rattle.search.proofs.states.Rest.open_in.Goals as goal

pub returns-then-points-eq0 : goal.returns-then-points-eq0
returns-then-points-eq0 g c =
    let s = c.args.self in let table = c.args.table.now in let policy = c.args.policy.now in let front = c.front_of-front.result in
    opens_none (g.P.Policy.chosen policy) s table front c.requires (g.met.P.Policy.sound policy front) (g.met.P.Policy.reaches policy front)
    (front_in_table s.shape.n s.shape.finest s.boxes table c.requires.rows front c.front_of-front.ensures.front) c.points_of-points.result
    (c.points_of-points.ensures.value ∙ ap (points_of s.shape.n) c.choose-chosen.ensures) c.if-points-eq0.true

pub returns-then-not-has_room : goal.returns-then-not-has_room
returns-then-not-has_room g c =
    let s = c.args.self in let table = c.args.table.now in let policy = c.args.policy.now in let front = c.front_of-front.result in
    opens_full (g.P.Policy.chosen policy) s table front c.requires (g.met.P.Policy.sound policy front) (g.met.P.Policy.reaches policy front)
    (front_in_table s.shape.n s.shape.finest s.boxes table c.requires.rows front c.front_of-front.ensures.front) c.points_of-points.result
    (c.points_of-points.ensures.value ∙ ap (points_of s.shape.n) c.choose-chosen.ensures) c.if-points-eq0.false
    (λ room. true≢false (sym (c.if-not-has_room.ensures.1 room)))

pub invariant_of-result : goal.invariant_of-result
invariant_of-result g c =
    let s = c.args.self in let table = c.args.table.now in let policy = c.args.policy.now in let front = c.front_of-front.result in
    let meaning = g.P.Policy.chosen policy in
    let of = front_in_table s.shape.n s.shape.finest s.boxes table c.requires.rows front c.front_of-front.ensures.front in
    let is = c.points_of-points.ensures.value ∙ ap (points_of s.shape.n) c.choose-chosen.ensures in
    let sound = g.met.P.Policy.sound policy front in let reaches = g.met.P.Policy.reaches policy front in
    let box = some_box meaning s table front c.requires sound reaches of c.points_of-points.result is c.if-points-eq0.false in
    let least = two meaning s table front c.requires sound reaches of c.points_of-points.result is box in
    record { few = (s.few.0, least, (c.if-not-has_room.ensures.0 refl).1); counted = c.points_of-points.ensures.value }

pub returns : goal.returns
returns g c =
    let s = c.args.self in let table = c.args.table.now in let policy = c.args.policy.now in let front = c.front_of-front.result in
    let is = c.points_of-points.ensures.value ∙ ap (points_of s.shape.n) c.choose-chosen.ensures in
    opens_ok (g.P.Policy.chosen policy) s table front c.requires (g.met.P.Policy.sound policy front) (g.met.P.Policy.reaches policy front)
    (front_in_table s.shape.n s.shape.finest s.boxes table c.requires.rows front c.front_of-front.ensures.front) c.points_of-points.result
    is _ _ c.if-points-eq0.false (c.if-not-has_room.ensures.0 refl)
    (record { same_shape = refl; same_boxes = refl; same_rounds = refl; is_chosen = c.choose-chosen.ensures; is_points = is })
    c.clear.ensures
