-- The cells of a box, and of the rows that closing makes of it.
use Rattle.std.proofs.Common.{◌≡◌, ℕ, ◌+◌, ◌/◌, ◌<◌, ◌≤◌, Bool, ◌&&◌, T, ◌≢◌, ◌⊎◌, List, length, get_or, sym, ◌∙◌, subst, subst₂, inl, inr, arith}
use Rattle.std.proofs.lemmas.Bool.{cases_eq}
use Rattle.grid.specs.Grid.{middle_of}
use Rattle.table.specs.Boxes.{Long}
use Rattle.table.specs.Rows.{IsMiddle, LiesIn, first_of, level_of, rank}
use Rattle.table.specs.declared.rows.Row.{Row}
use Rattle.table.proofs.Chains.{Strict, leader}
use Rattle.table.proofs.Sums.{both, both_left, both_right, test}
use Rattle.search.specs.Points.{CellOf, Given, IsThird, Kept, Moved, Same, Side, Third, is_long, middle, outer, start_of}
use Rattle.search.proofs.Levels.{long_is, long_yes, long?}
use Rattle.search.proofs.Thirds.{In, middle_in, middle_moved, middle_same, moved_in, moved_off, moved_side, not_both, off, off_middle, off_outer, one_side}

-- direction by direction
pub lies_at : (n : ℕ) (c : List ℕ) (row : Row) → LiesIn n c row → (d : ℕ) → d < n → In (first_of row d) (level_of row d) (get_or c d 0)
lies_at n c row h d l = record { from = h.from d l; to = h.to d l }

pub lies : (n : ℕ) (c : List ℕ) (row : Row) → ((d : ℕ) → d < n → In (first_of row d) (level_of row d) (get_or c d 0)) → LiesIn n c row
lies n c row h = record { from = λ d l. (h d l).from; to = λ d l. (h d l).to }

module _ (old new : Row) (e x : ℕ) where
  pub from_third : (p : Third) → IsThird p old new e → In (first_of new e) (level_of new e) x → In (start_of p (first_of old e) (level_of old e)) (level_of old e + 1) x
  from_third p t i = subst₂ (λ a b. In a b x) t.first t.level i

  to_third : (p : Third) → IsThird p old new e → In (start_of p (first_of old e) (level_of old e)) (level_of old e + 1) x → In (first_of new e) (level_of new e) x
  to_third p t i = subst₂ (λ a b. In a b x) (sym t.first) (sym t.level) i

  pub from_same : Same old new e → In (first_of new e) (level_of new e) x → In (first_of old e) (level_of old e) x
  from_same t i = subst₂ (λ a b. In a b x) t.first t.level i

  to_same : Same old new e → In (first_of old e) (level_of old e) x → In (first_of new e) (level_of new e) x
  to_same t i = subst₂ (λ a b. In a b x) (sym t.first) (sym t.level) i

-- the number of c in direction e is off the middle third
abbrev off_in : Row → List ℕ → ℕ → Bool
off_in old c e = off (first_of old e) (level_of old e) (get_or c e 0)

-- a box that can be cut
module _ (n : ℕ) (old : Row) (some : 1 ≤ n) (six : n ≤ 6) (cut : rank n old / n < 19) where
  long_cut : (e : ℕ) → Long n old e → level_of old e < 19
  long_cut e l = omega (arith, l.level)

  given_own : (new : Row) (d : ℕ) (s : Side) (first : ℕ → Bool) → Long n old d → Given n old new d s first → (c : List ℕ) → LiesIn n c new
      → In (start_of (outer s) (first_of old d) (level_of old d)) (level_of old d + 1) (get_or c d 0)
  given_own new d s first l g c h = from_third old new d (get_or c d 0) (outer s) g.own (lies_at n c new h d l.direction)

  -- a cell lies in one of the rows at most
  pub kept_given : (kept new : Row) (d : ℕ) (s : Side) (first : ℕ → Bool) → Kept n old kept → Long n old d → Given n old new d s first
      → (c : List ℕ) → LiesIn n c kept → LiesIn n c new → ⊥
  kept_given kept new d s first k l g c i j =
      not_both s (first_of old d) (level_of old d) (get_or c d 0) (long_cut d l)
      (from_third old kept d (get_or c d 0) middle (k.cut d l) (lies_at n c kept i d l.direction)) (given_own new d s first l g c j)

  module _ (b : ℕ → ℕ → Bool) (order : Strict b) where
    apart : (one two : Row) (d e : ℕ) (s z : Side) → Long n old d → Long n old e
        → Given n old one d s (λ x. b x d) → Given n old two e z (λ x. b x e) → (c : List ℕ) → LiesIn n c one → LiesIn n c two → d ≢ e → T (b d e) → ⊥
    apart one two d e s z l m g h c i j x t =
        not_both s (first_of old d) (level_of old d) (get_or c d 0) (long_cut d l)
        (from_third old two d (get_or c d 0) middle (h.cut d l x t) (lies_at n c two j d l.direction)) (given_own one d s (λ x. b x d) l g c i)

    pub given_given : (one two : Row) (d e : ℕ) (s z : Side) → Long n old d → Long n old e
        → Given n old one d s (λ x. b x d) → Given n old two e z (λ x. b x e) → (c : List ℕ) → LiesIn n c one → LiesIn n c two → (d ≡ e) × (s ≡ z)
    given_given one two d e s z l m g h c i j =
        elim (cases_eq d e) [
          | inl x ↦ (
            x,
            one_side s z (first_of old d) (level_of old d) (get_or c d 0) (long_cut d l) (given_own one d s (λ x. b x d) l g c i)
                (subst (λ y. In (start_of (outer z) (first_of old y) (level_of old y)) (level_of old y + 1) (get_or c y 0)) (sym x) (given_own two e z (λ x. b x e) m h c j)),
          )
          | inr x ↦ elim (order.total d e x) [
            | inl t ↦ absurd (apart one two d e s z l m g h c i j x t)
            | inr t ↦ absurd (apart two one e d z s m l h g c j i (λ y. x (sym y)) t)
          ]
        ]

    -- and in one of them at least
    pub covered : (c : List ℕ) → LiesIn n c old
        → ((new : Row) → Kept n old new → LiesIn n c new)
        ⊎ ((d : ℕ) × (s : Side) × Long n old d × ((new : Row) → Given n old new d s (λ x. b x d) → LiesIn n c new))
    covered c i =
        elim (leader b order n (λ e. is_long n old e && off_in old c e)) [
          | inl none ↦ inl (λ new k. lies n c new (λ e l. elim (long? n old some e l) [
            | inl x ↦ to_third old new e (get_or c e 0) middle (k.cut e x)
                (off_middle (first_of old e) (level_of old e) (get_or c e 0) (long_cut e x) (lies_at n c old i e l) (λ t. none e l (both (is_long n old e) (off_in old c e) (long_yes n old some e x) t)))
            | inr x ↦ to_same old new e (get_or c e 0) (k.rest e (omega arith) x) (lies_at n c old i e l)
          ]))
          | inr found ↦
              let d : ℕ = found.0 in
              let x : Long n old d = long_is n old some d found.1.within (both_left (is_long n old d) (off_in old c d) found.1.holds) in
              let side = off_outer (first_of old d) (level_of old d) (get_or c d 0) (long_cut d x) (lies_at n c old i d found.1.within) (both_right (is_long n old d) (off_in old c d) found.1.holds) in
              inr (
                d,
                side.0,
                x,
                λ new g. lies n c new (λ e l. elim (cases_eq e d) [
                  | inl y ↦ subst (λ z. In (first_of new z) (level_of new z) (get_or c z 0)) (sym y) (to_third old new d (get_or c d 0) (outer side.0) g.own side.1)
                  | inr y ↦ elim (test (is_long n old e && b e d)) [
                    | inl t ↦ let z = long_is n old some e l (both_left (is_long n old e) (b e d) t) in
                        to_third old new e (get_or c e 0) middle (g.cut e z y (both_right (is_long n old e) (b e d) t))
                        (off_middle (first_of old e) (level_of old e) (get_or c e 0) (long_cut e z) (lies_at n c old i e l)
                        (λ w. order.irrefl d (order.trans d e d (found.1.leads e l (both (is_long n old e) (off_in old c e) (long_yes n old some e z) w) y)
                        (both_right (is_long n old e) (b e d) t))))
                    | inr t ↦ to_same old new e (get_or c e 0)
                        (g.rest e (omega arith) y (λ z w. t (both (is_long n old e) (b e d) (long_yes n old some e z) w))) (lies_at n c old i e l)
                  ]
                ]),
              )
        ]

  -- middles
  pub kept_middle : (new : Row) → Kept n old new → (c : List ℕ) → IsMiddle n old c → IsMiddle n new c
  kept_middle new k c m = record {
    directions = m.directions;
    middle = λ e l. elim (long? n old some e l) [
      | inl x ↦ m.middle e l ∙ sym (middle_same (first_of old e) (level_of old e) (long_cut e x)) ∙ sym (cc ((k.cut e x).first, (k.cut e x).level))
      | inr x ↦ let z = k.rest e (omega arith) x in m.middle e l ∙ sym (cc (z.first, z.level))
    ];
  }

  pub given_middle : (new : Row) (d : ℕ) (s : Side) (first : ℕ → Bool) → Long n old d → Given n old new d s first → (c : List ℕ) → length c ≡ n → CellOf n old d s c → IsMiddle n new c
  given_middle new d s first l g c len m = record {
    directions = len;
    middle = λ e k. elim (cases_eq e d) [
      | inl x ↦ subst (λ y. get_or c y 0 ≡ middle_of (first_of new y) (level_of new y)) (sym x)
          (middle_moved s (first_of old d) (level_of old d) (get_or c d 0) (long_cut d l) m.moved ∙ sym (cc (g.own.first, g.own.level)))
      | inr x ↦ elim (test (is_long n old e && first e)) [
        | inl t ↦ let y = long_is n old some e k (both_left (is_long n old e) (first e) t) in
            let z = g.cut e y x (both_right (is_long n old e) (first e) t) in
            m.others e k x ∙ sym (middle_same (first_of old e) (level_of old e) (long_cut e y)) ∙ sym (cc (z.first, z.level))
        | inr t ↦ let z = g.rest e (omega arith) x (λ y z. t (both (is_long n old e) (first e) (long_yes n old some e y) z)) in
            m.others e k x ∙ sym (cc (z.first, z.level))
      ]
    ];
  }

  pub cell_in : (d : ℕ) (s : Side) → Long n old d → (c : List ℕ) → CellOf n old d s c → LiesIn n c old
  cell_in d s l c m =
      lies n c old (λ e k. elim (cases_eq e d) [
        | inl x ↦ subst (λ y. In (first_of old y) (level_of old y) (get_or c y 0)) (sym x) (moved_in s (first_of old d) (level_of old d) (get_or c d 0) (long_cut d l) m.moved)
        | inr x ↦ subst (In (first_of old e) (level_of old e)) (sym (m.others e k x)) (middle_in (first_of old e) (level_of old e))
      ])

pub middle_lies : (n : ℕ) (row : Row) (c : List ℕ) → IsMiddle n row c → LiesIn n c row
middle_lies n row c m =
    lies n c row (λ e k. subst (In (first_of row e) (level_of row e)) (sym (m.middle e k)) (middle_in (first_of row e) (level_of row e)))

-- a point's cell is not the middle, and tells its direction and side
pub cell_off : (n : ℕ) (old : Row) (d : ℕ) (s : Side) (c : List ℕ) → d < n → CellOf n old d s c → IsMiddle n old c → ⊥
cell_off n old d s c l m i = moved_off s (first_of old d) (level_of old d) (get_or c d 0) m.moved (i.middle d l)

pub cell_same : (n : ℕ) (old : Row) (d e : ℕ) (s z : Side) (c : List ℕ) → d < n → e < n → CellOf n old d s c → CellOf n old e z c → (d ≡ e) × (s ≡ z)
cell_same n old d e s z c l m i j =
    elim (cases_eq d e) [
      | inl x ↦ (
        x,
        moved_side s z (first_of old d) (level_of old d) (get_or c d 0) i.moved
            (subst (λ y. Moved z (first_of old y) (level_of old y) (get_or c y 0)) (sym x) j.moved),
      )
      | inr x ↦ absurd (moved_off s (first_of old d) (level_of old d) (get_or c d 0) i.moved (j.others d l x))
    ]
