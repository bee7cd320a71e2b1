-- One taken rank more, and all of them.
use Rattle.std.proofs.Common.{◌≡◌, length, [], ◌∷◌, Bool, true, false, ◌&&◌, ◌||◌, ◌==◌, sym, refl, ap, ◌∙◌}
use Rattle.std.proofs.Math.Path.{fun_ext}
use mathlib.Core.Bool.{or-false}
use mathlib.Core.List.{map-id}
use Rattle.std.specs.List.{list_any, flat_map}
use Rattle.std.specs.Option.{option_to_list}
use Rattle.std.proofs.lemmas.Bool.{eqb-true, eq-eqb, false_from_ne_true, false≢true}
use Rattle.std.proofs.lemmas.Iterator.{YieldsList-from_slice}
use Rattle.std.proofs.lemmas.Iterator.Consumers.{YieldsList-turn, YieldsList-end}
use Rattle.std.proofs.lemmas.List.Folds.{list_any-append}
use Rattle.order.specs.declared.records.RankEntry.{RankEntry}
use Rattle.policy.specs.Levels.{level}
use Rattle.hull.specs.Chosen.{hull_conditions}
use Rattle.hull.specs.Decide.{hull_ranks}
use Rattle.hull.specs.Takes.{taken_rank}
use Rattle.hull.proofs.Tables.{YieldsList-filled, here_taken, place_of, some_passes, taken_here}
use Rattle.hull.proofs.hull.sizes.Sizes.chosen.Goals as goal

step_in : (h a e : Bool) → (e ≡ true → h ≡ true) → ((h && a) || e) ≡ (h && (a || (e || false)))
step_in true a e p = ap (λ (b : Bool). a || b) (sym (or-false e))
step_in false a true p = absurd (false≢true (p refl))
step_in false a false p = refl

step_out : (h a e : Bool) → (e ≡ true → h ≡ false) → (h && a) ≡ (h && (a || (e || false)))
step_out true a true p = absurd (false≢true (sym (p refl)))
step_out true a false p = sym (or-false a)
step_out false a e p = refl

all_of : (b c : Bool) → (b ≡ true → c ≡ true) → (b && c) ≡ b
all_of true c p = p refl
all_of false c p = refl

pub loop-j-preserved-then-is_chosen : goal.loop-j-preserved-then-is_chosen
loop-j-preserved-then-is_chosen c k =
    let f = c.args.self.now.front.now in
    let e = c.args.self.now.hull.share in
    let j = c.in-Some.j in
    let turn = YieldsList-turn (YieldsList-filled _ (λ x j b. b.0) (YieldsList-from_slice c.args.self.now.taken (cc)) (cc) (cc) (cc)) c.loop-j.yielded _ c.loop-j.yielded_by _ _ j c.in-Some.is c.next.ensures.steps in
    let place = place_of c.args.self.now.taken (length c.loop-j.yielded) j j turn.0 turn.1 in
    let taken = here_taken f c.args.self.now.taken c.args.self.now.of_front place.0 j place.1 in
    let chosen : hull_ranks e f j.rank ≡ true = (hull_conditions e f j.rank).1 (record { taken = taken; yields = c.is_chosen.ensures.0 c.if-is_chosen.true }) in
    ap (λ p. p k) (c.insert.ensures.put (taken_rank f j.rank taken)) ∙ ap (λ (b : Bool). b || k == j.rank) (c.loop-j.invariant k)
    ∙ step_in _ _ (k == j.rank) (λ h. ap (hull_ranks e f) (eqb-true k j.rank h) ∙ chosen)
    ∙ ap (λ (b : Bool). hull_ranks e f k && b) (sym (list_any-append (λ (s : RankEntry). k == s.rank) c.loop-j.yielded (j ∷ [])))

pub loop-j-preserved : goal.loop-j-preserved
loop-j-preserved c k =
    let f = c.args.self.now.front.now in
    let e = c.args.self.now.hull.share in
    let j = c.in-Some.j in
    c.loop-j.invariant k
    ∙ step_out _ _ (k == j.rank) (λ h. ap (hull_ranks e f) (eqb-true k j.rank h) ∙ false_from_ne_true _ (λ t. false≢true (sym c.if-is_chosen.false ∙ c.is_chosen.ensures.1 ((hull_conditions e f j.rank).0 t).yields)))
    ∙ ap (λ (b : Bool). hull_ranks e f k && b) (sym (list_any-append (λ (s : RankEntry). k == s.rank) c.loop-j.yielded (j ∷ [])))

pub returns : goal.returns
returns c =
    let f = c.args.self.now.front.now in
    let e = c.args.self.now.hull.share in
    let table = c.args.self.now.taken in
    let is = c.args.self.now.of_front in
    let end = YieldsList-end (YieldsList-filled _ (λ x j b. b.0) (YieldsList-from_slice c.args.self.now.taken (cc)) (cc) (cc) (cc)) c.loop-j.yielded _ c.loop-j.yielded_by _ _ c.in-None.is c.next.ensures.steps in
    let whole : c.loop-j.yielded ≡ flat_map option_to_list table = sym (map-id c.loop-j.yielded) ∙ end.0 in
    fun_ext (λ k. c.loop-j.invariant k ∙ all_of (hull_ranks e f k) _ (λ h.
    let w = taken_here f table is k ((hull_conditions e f k).0 h).taken in
    ap (list_any (λ (s : RankEntry). k == s.rank)) whole ∙ some_passes (λ (s : RankEntry). k == s.rank) table (level f k) w.0 w.1 (eq-eqb k w.0.rank (sym w.2))))
