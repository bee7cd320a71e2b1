-- The box that the point is of, and its cell.
use Rattle.std.proofs.Common.{ℕ, ◌/◌, ◌∙◌, T, sym, refl, ap, subst, inr, arith}
use Rattle.search.proofs.LocateSteps.{at_first, located_in, side_number}
use Rattle.search.proofs.look.Looked.locate.Goals as goal

pub long_side-d-requires : goal.long_side-d-requires
long_side-d-requires c =
    let l = c.args.self.now in let q = l.round.now in let s = q.shape in let t = l.table.now in let r = c.rank_of-rank.result.0 in
    let first = at_first s.n s.finest q.boxes t r _ c.in-Some.first
    (l.found r c.rank_of-rank.ensures.chosen.0) c.in-Some.is in (
      ap (λ (k : ℕ). r / k) c.from-n.ensures ∙ ap (λ (x : ℕ). x / s.n) (sym first.1.0.box.ranked),
      side_number s.n s.finest q.boxes t r c.in-Some.first.row c.rank_of-rank.result.1 s.some s.few l.own first c.rank_of-rank.ensures.among,
    )

pub returns : goal.returns
returns c =
    let l = c.args.self.now in let q = l.round.now in let s = q.shape in let t = l.table.now in let r = c.rank_of-rank.result.0 in
    let chosen = c.rank_of-rank.ensures.chosen in
    let first = at_first s.n s.finest q.boxes t r _ c.in-Some.first
    (l.found r chosen.0) c.in-Some.is in
    inr (
      c.if-point-round.false,
      inr (
        omega (arith, c.from-n.ensures, c.if-cells-n.false),
        (
          refl,
          located_in q t c.args.point r c.in-Some.first.row c.rank_of-rank.result.1 c.long_side-d.result c.side_of.result c.args.cells.now c.write_cell.new.cells
              (subst T (sym chosen.1) tt) first c.rank_of-rank.ensures.number c.long_side-d.ensures.0 c.long_side-d.ensures.1 c.side_of.ensures.low c.side_of.ensures.high
              c.write_cell.ensures.cell c.write_cell.ensures.same c.write_cell.ensures.after,
        ),
      ),
    )
