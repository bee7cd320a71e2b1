-- Some bytes are replayed in one way: to the end of one run, or to one refusal.
use Rattle.std.proofs.Common.{◌≡◌, ℕ, ◌<◌, ◌≤◌, List, [], ◌++◌, length, take, Ok, Err, sym, refl, ap, ◌∙◌, subst, subst₂, inl, inr, append_assoc, arith, length-append}
use mathlib.Core.Path.{subst₃}
use Rattle.std.specs.List.{flat_map}
use Rattle.record.specs.Items.{bytes_of, mark_of}
use Rattle.record.specs.declared.item.Item.{Item}
use Rattle.record.proofs.Decode.{front_mark, long, same_item, same_rest}
use Rattle.refusal.specs.Checks.{Check}
use Rattle.table.specs.declared.rows.Row.{Row}
use Rattle.search.specs.Once.{One}
use Rattle.search.specs.Replays.{Declined, Refuses, Replays, Stops}
use Rattle.search.specs.Turns.{Declines, Turn}
use Rattle.search.specs.declared.replay.refused_at.RefusedAt.{RefusedAt}
use Rattle.search.specs.declared.replay.due.Due.{Due}
use Rattle.search.specs.declared.replay.due.Due.TheVariants as due
use Rattle.search.specs.declared.states.Rest.{Rest}
use Rattle.search.proofs.ItemSteps.{Steps, begun_steps, go, stop, tale_steps}
use Rattle.search.proofs.OneWay.{not_both, one_refusal, one_way, turn_fits, turn_in_turn}

-- no record of a run goes on with these bytes, nor ends where they are none
record Blocked (d : Due) (table : List Row) (bytes : List ℕ) : Type 0 where
  on : (i : Item) (x : List ℕ) (next : Due) (after : List Row) → bytes ≡ bytes_of i ++ x → Turn d table i next after → ⊥
  over : (rest : Rest) → bytes ≡ [] → d ≡ due.Rest rest → ⊥

whole_long : (bytes : List ℕ) (i : Item) (x : List ℕ) → bytes ≡ bytes_of i ++ x → 2 ≤ length bytes
whole_long bytes i x e = omega (arith, ap length e, long i x)

some_left : (bytes : List ℕ) → 0 < length bytes → bytes ≡ [] → ⊥
some_left bytes l e = omega (arith, ap length e)

blocks : (d : Due) (table : List Row) (here : ℕ) (bytes : List ℕ) (e : RefusedAt) → Stops d table here bytes e → Blocked d table bytes
blocks d table here bytes e (inl x) = record { on = λ i y next after p t. x.0 (omega (arith, whole_long bytes i y p)); over = λ rest p. x.1.0 rest }
blocks d table here bytes e (inr (some, inl x)) = record { on = λ i y next after p t. x.0 (whole_long bytes i y p); over = λ rest p q. some_left bytes some p }
blocks d table here bytes e (inr (some, inr (two, inl x))) =
    record { on = λ i y next after p t. x.0 (mark_of i, ap (take 2) p ∙ front_mark i y); over = λ rest p q. some_left bytes some p }
blocks d table here bytes e (inr (some, inr (two, inr (marked, inl x)))) =
    record { on = λ i y next after p t. x.0 (mark_of i, ap (take 2) p ∙ front_mark i y, turn_in_turn t); over = λ rest p q. some_left bytes some p }
blocks d table here bytes e (inr (some, inr (two, inr (marked, inr (turn, inl x))))) =
    record { on = λ i y next after p t. x.0 (i, y, turn_fits t, p); over = λ rest p q. some_left bytes some p }
blocks d table here bytes e (inr (some, inr (two, inr (marked, inr (turn, inr (whole, (j, z, fit, q, h))))))) =
    record {
      on = λ i y next after p t. not_both (subst (λ (k : Item). Turn d table k next after) (same_item i j y z (turn_fits t) fit (sym p ∙ q)) t) h;
      over = λ rest p r. some_left bytes some p;
    }

-- the same bytes lead to the same search and table
one_end : {d : Due} {table after left : List Row} {rest last : Rest} {xs ys : List Item} → Steps d table xs (due.Rest rest) after → Steps d table ys (due.Rest last) left
    → flat_map bytes_of xs ≡ flat_map bytes_of ys → (rest ≡ last) × (after ≡ left)
one_end stop stop e = (refl, refl)
one_end stop (go {i = j} {items = ys} y k) e = absurd (omega (arith, ap length e, long j (flat_map bytes_of ys)))
one_end (go {i = i} {items = xs} x h) stop e = absurd (omega (arith, ap length e, long i (flat_map bytes_of xs)))
one_end {d} {table = t} (go {i = i} {items = xs} x h) (go {next = n} {end = f} {between = u} {after = v} {i = j} {items = ys} y k) e =
    let same = same_item i j (flat_map bytes_of xs) (flat_map bytes_of ys) (turn_fits x) (turn_fits y) e in
    let rest = same_rest i j (flat_map bytes_of xs) (flat_map bytes_of ys) (turn_fits x) (turn_fits y) e in
    let way = one_way x (subst (λ (i : Item). Turn d t i n u) (sym same) y) in
    one_end h (subst₂ (λ (d : Due) (t : List Row). Steps d t ys f v) (sym way.0) (sym way.1) k) rest

-- two ways that are both blocked, or of which one ends, are one
one_start : {d one two : Due} {table after left : List Row} {xs ys : List Item} (bs cs : List ℕ) → Steps d table xs one after → Steps d table ys two left
    → flat_map bytes_of xs ++ bs ≡ flat_map bytes_of ys ++ cs → Blocked one after bs → Blocked two left cs → (one ≡ two) × (after ≡ left) × (bs ≡ cs)
one_start bs cs stop stop e b c = (refl, refl, e)
one_start bs cs stop (go {i = j} {items = ys} y k) e b c = absurd (b.on j (flat_map bytes_of ys ++ cs) _ _ (e ∙ append_assoc (bytes_of j) (flat_map bytes_of ys) cs) y)
one_start bs cs (go {i = i} {items = xs} x h) stop e b c = absurd (c.on i (flat_map bytes_of xs ++ bs) _ _ (sym e ∙ append_assoc (bytes_of i) (flat_map bytes_of xs) bs) x)
one_start {d} {table = t} bs cs (go {i = i} {items = xs} x h) (go {next = n} {end = f} {between = u} {after = v} {i = j} {items = ys} y k) e b c =
    let same_bytes = sym (append_assoc (bytes_of i) (flat_map bytes_of xs) bs) ∙ e ∙ append_assoc (bytes_of j) (flat_map bytes_of ys) cs in
    let same = same_item i j (flat_map bytes_of xs ++ bs) (flat_map bytes_of ys ++ cs) (turn_fits x) (turn_fits y) same_bytes in
    let rest = same_rest i j (flat_map bytes_of xs ++ bs) (flat_map bytes_of ys ++ cs) (turn_fits x) (turn_fits y) same_bytes in
    let way = one_way x (subst (λ (i : Item). Turn d t i n u) (sym same) y) in
    one_start bs cs h (subst₂ (λ (d : Due) (t : List Row). Steps d t ys f v) (sym way.0) (sym way.1) k) rest b c

clash : {d two : Due} {table after left : List Row} {rest : Rest} {xs ys : List Item} (bs : List ℕ) → Steps d table xs (due.Rest rest) after → Steps d table ys two left
    → flat_map bytes_of xs ≡ flat_map bytes_of ys ++ bs → Blocked two left bs → ⊥
clash bs stop stop e b = b.over _ (sym e) refl
clash bs stop (go {i = j} {items = ys} y k) e b = omega (arith, ap length e, ap length (append_assoc (bytes_of j) (flat_map bytes_of ys) bs), long j (flat_map bytes_of ys ++ bs))
clash bs (go {i = i} {items = xs} x h) stop e b = b.on i (flat_map bytes_of xs) _ _ (sym e) x
clash {d} {table = t} bs (go {i = i} {items = xs} x h) (go {next = n} {end = f} {between = u} {after = v} {i = j} {items = ys} y k) e b =
    let same_bytes = e ∙ append_assoc (bytes_of j) (flat_map bytes_of ys) bs in
    let same = same_item i j (flat_map bytes_of xs) (flat_map bytes_of ys ++ bs) (turn_fits x) (turn_fits y) same_bytes in
    let rest = same_rest i j (flat_map bytes_of xs) (flat_map bytes_of ys ++ bs) (turn_fits x) (turn_fits y) same_bytes in
    let way = one_way x (subst (λ (i : Item). Turn d t i n u) (sym same) y) in
    clash bs h (subst₂ (λ (d : Due) (t : List Row). Steps d t ys f v) (sym way.0) (sym way.1) k) rest b

-- A check with one refusal leaves one where what follows it does.
one_check : {E : Type 0} {good : Type 0} (why : E → Type 0) (rest : E → Type 0) → ((a b : E) → why a → why b → a ≡ b)
    → (good → (a b : E) → rest a → rest b → a ≡ b) → (a b : E) → Check good (why a) (rest a) → Check good (why b) (rest b) → a ≡ b
one_check why rest u v a b (inl x) (inl y) = u a b x.1 y.1
one_check why rest u v a b (inl x) (inr y) = absurd (x.0 y.0)
one_check why rest u v a b (inr x) (inl y) = absurd (y.0 x.0)
one_check why rest u v a b (inr x) (inr y) = v x.0 a b x.1 y.1

same : {E : Type 0} {x : E} (a b : E) → a ≡ x → b ≡ x → a ≡ b
same a b p q = p ∙ sym q

one_declined : (d : Due) (table : List Row) (here : ℕ) (bytes : List ℕ) (e f : RefusedAt) → Declined d table here bytes e → Declined d table here bytes f → e ≡ f
one_declined d table here bytes e f (i, x, fit, p, h) (j, y, fit', q, k) =
    let one = one_refusal h (subst (λ (z : Item). Declines here d table z f.why f.place) (sym (same_item i j x y fit fit' (sym p ∙ q))) k) in
    λ t. record { why = one.0 t; place = one.1 t }

pub one_stop : (d : Due) (table : List Row) (here : ℕ) (bytes : List ℕ) (e f : RefusedAt) → Stops d table here bytes e → Stops d table here bytes f → e ≡ f
one_stop d table here bytes =
    one_check _ _ (λ a b x y. x.1 ∙ sym y.1) (λ _. one_check _ _ same (λ _. one_check _ _ same (λ _. one_check _ _ same (λ _. one_check _ _ same (λ _. one_declined d table here bytes)))))

same_place : (xs ys : List Item) (bs cs bytes : List ℕ) → flat_map bytes_of xs ++ bs ≡ bytes → flat_map bytes_of ys ++ cs ≡ bytes → bs ≡ cs → length (flat_map bytes_of ys) ≡ length (flat_map bytes_of xs)
same_place xs ys bs cs bytes e f g =
    omega (arith, ap length e, ap length f, ap length g, length-append (flat_map bytes_of xs) bs, length-append (flat_map bytes_of ys) cs)

one_refused : (table after left : List Row) (bytes : List ℕ) (e f : RefusedAt) → Refuses table bytes e after → Refuses table bytes f left → (e ≡ f) × (after ≡ left)
one_refused table after left bytes e f r q =
    let a = blocks r.due after _ r.rest e r.stops in
    let b = blocks q.due left _ q.rest f q.stops in
    let way = one_start r.rest q.rest (begun_steps r.starts) (begun_steps q.starts) (r.whole ∙ sym q.whole) a b in
    let here = same_place r.items q.items r.rest q.rest bytes r.whole q.whole way.2 in (
      one_stop r.due after (length (flat_map bytes_of r.items)) r.rest e f r.stops
          (subst (λ (l : List ℕ). Stops r.due after (length (flat_map bytes_of r.items)) l f) (sym way.2)
          (subst₃ (λ (d : Due) (t : List Row) (n : ℕ). Stops d t n q.rest f) (sym way.0) (sym way.1) here q.stops)),
      way.1,
    )

pub replays_one : (table : List Row) (bytes : List ℕ) → One (Replays table bytes)
replays_one table bytes (Ok rest) (Ok last) after left x y =
    let one = one_end (tale_steps x.0 x.2) (tale_steps y.0 y.2) (x.1 ∙ sym y.1) in (ap Ok one.0, one.1)
replays_one table bytes (Ok rest) (Err f) after left x y =
    absurd (clash y.rest (tale_steps x.0 x.2) (begun_steps y.starts) (x.1 ∙ sym y.whole) (blocks y.due left _ y.rest f y.stops))
replays_one table bytes (Err e) (Ok last) after left x y =
    absurd (clash x.rest (tale_steps y.0 y.2) (begun_steps x.starts) (y.1 ∙ sym x.whole) (blocks x.due after _ x.rest e x.stops))
replays_one table bytes (Err e) (Err f) after left x y = let one = one_refused table after left bytes e f x y in (ap Err one.0, one.1)
