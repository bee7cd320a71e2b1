-- How a replay goes on, ends, and is refused.
use Rattle.std.proofs.Common.{◌≡◌, ℕ, ◌-◌, List, [], ◌∷◌, ◌++◌, length, Ok, sym, refl, ap, ◌∙◌, subst, inl, append_assoc, append-nil, arith, length-append}
use Rattle.std.proofs.lemmas.List.{flat_map_more}
use Rattle.std.specs.List.{flat_map}
use Rattle.record.specs.Items.{bytes_of}
use Rattle.record.specs.declared.item.Item.{Item}
use Rattle.refusal.specs.declared.Refusal.TheVariants.{RecordCutShort}
use Rattle.table.specs.declared.rows.Row.{Row}
use Rattle.search.specs.Replays.{Starts, Refuses, Replays, Stops, at}
use Rattle.search.specs.Replays.Starts.{rested}
use Rattle.search.specs.Tales.{Leads, Tale, items_of, record_of}
use Rattle.search.specs.Turns.{Turn}
use Rattle.search.specs.declared.replay.due.Due.{Due}
use Rattle.search.specs.declared.replay.due.Due.TheVariants as due
use Rattle.search.specs.declared.replay.refused_at.RefusedAt.{RefusedAt}
use Rattle.search.specs.declared.states.Rest.{Rest}
use Rattle.search.proofs.Beginnings.{one_more}

-- what was read so far is what the record of a run begins with, and the rest is left
abbrev pub SoFar : List Row → List ℕ → List ℕ → Due → List Row → Type 0
SoFar table bytes rest d after = (items : List Item) × (flat_map bytes_of items ++ rest ≡ bytes) × Starts table items d after

place_is : (table : List Row) (bytes rest : List ℕ) (d : Due) (after : List Row) (h : SoFar table bytes rest d after) → length bytes - length rest ≡ length (flat_map bytes_of h.0)
place_is table bytes rest d after h = omega (arith, length-append (flat_map bytes_of h.0) rest, ap length h.1)

-- one item more
pub so_far_more : (table : List Row) (bytes rest left : List ℕ) (d next : Due) (before after : List Row) (i : Item) → SoFar table bytes rest d before → rest ≡ bytes_of i ++ left
    → Turn d before i next after → SoFar table bytes left next after
so_far_more table bytes rest left d next before after i h e t = (
  h.0 ++ i ∷ [],
  ap (λ (l : List ℕ). l ++ left) (sym (flat_map_more bytes_of [] h.0 i)) ∙ append_assoc (flat_map bytes_of h.0) (bytes_of i) left
      ∙ ap (λ (l : List ℕ). flat_map bytes_of h.0 ++ l) (sym e) ∙ h.1,
  one_more h.2 t,
)

pub refuses : (table : List Row) (bytes rest : List ℕ) (d : Due) (after : List Row) (e : RefusedAt) → SoFar table bytes rest d after
    → Stops d after (length bytes - length rest) rest e → Refuses table bytes e after
refuses table bytes rest d after e h s = record {
  items = h.0;
  rest = rest;
  due = d;
  whole = h.1;
  starts = h.2;
  stops = subst (λ (k : ℕ). Stops d after k rest e) (place_is table bytes rest d after h) s;
}

-- the record ends while something is due
pub cut_off : (table : List Row) (bytes rest : List ℕ) (d : Due) (after : List Row) → SoFar table bytes rest d after → length rest ≡ 0 → ((r : Rest) → d ≡ due.Rest r → ⊥)
    → Refuses table bytes (at RecordCutShort (length bytes)) after
cut_off table bytes rest d after h none off =
    let here : length bytes ≡ length bytes - length rest = omega arith in
    refuses table bytes rest d after (at RecordCutShort (length bytes)) h (inl (λ some. omega arith, (off, ap (at RecordCutShort) here)))

run_of : {table after : List Row} {items : List Item} {rest : Rest} → Starts table items (due.Rest rest) after → (tale : Tale) × (items_of tale ≡ items) × Leads table tale rest after
run_of (rested tale h) = (tale, refl, h)

none_left : (l : List ℕ) → length l ≡ 0 → l ≡ []
none_left [] e = refl
none_left (x ∷ l) e = absurd (omega arith)

-- the record ends at rest
pub ends : (table : List Row) (bytes left : List ℕ) (d : Due) (after : List Row) (rest : Rest) → SoFar table bytes left d after → length left ≡ 0 → d ≡ due.Rest rest
    → Replays table bytes (Ok rest) after
ends table bytes left d after rest h none e =
    let found = run_of (subst (λ (d : Due). Starts table h.0 d after) e h.2) in
    let whole : record_of found.0 ≡ bytes = ap (flat_map bytes_of) found.1 ∙ sym (append-nil (flat_map bytes_of h.0))
    ∙ ap (λ (l : List ℕ). flat_map bytes_of h.0 ++ l) (sym (none_left left none)) ∙ h.1 in
    (found.0, whole, found.2)
