-- Three thirds of a side.
use Rattle.std.proofs.Common.{◌≡◌, ℕ, ◌+◌, ◌*◌, inl, inr, ⊎_elim, arith}
use Rattle.std.proofs.lemmas.Bool.{cases_lt}
use Rattle.grid.specs.Grid.{cells_at}
use Rattle.grid.proofs.Lengths.{cells_at_third, third}
use Rattle.grid.proofs.interval.Interval.cut.Goals as goal

pub invariant_of-result : goal.invariant_of-result
invariant_of-result c = let s = c.args.self.now in record { form = third s.first s.level 0 s.form c.requires (omega arith) (omega arith) }

pub invariant_of-result-2 : goal.invariant_of-result-2
invariant_of-result-2 c = let s = c.args.self.now in record { form = third s.first s.level 1 s.form c.requires (omega arith) (omega arith) }

pub invariant_of-result-3 : goal.invariant_of-result-3
invariant_of-result-3 c = let s = c.args.self.now in record { form = third s.first s.level 2 s.form c.requires (omega arith) (omega arith) }

pub returns-clause-partition : goal.returns-clause-partition
returns-clause-partition c =
    let t = c.args.self.now.level in
    let s : ℕ = c.cells_at-third.result in
    let whole : cells_at t ≡ 3 * s = omega (arith, cells_at_third t c.requires) in
    record {
      covers = λ x h. ⊎_elim (λ l. inl (h.0, omega arith)) (λ l. inr (⊎_elim (λ m. inl (omega arith, omega arith)) (λ m. inr (omega arith, omega arith)) (cases_lt x (c.args.self.now.first + 2 * s)))) (cases_lt x (c.args.self.now.first + s));
      inside = λ x. ⊎_elim (λ h. (omega arith, omega arith)) (⊎_elim (λ h. (omega arith, omega arith)) (λ h. (omega arith, omega arith)));
      low_middle = λ x p q. omega arith;
      low_high = λ x p q. omega arith;
      middle_high = λ x p q. omega arith;
    }

pub returns-clause-centred : goal.returns-clause-centred
returns-clause-centred c =
    let whole = cells_at_third c.args.self.now.level c.requires in
    record { kept = omega arith; moved_down = omega arith; moved_up = omega arith }
