-- Both products fit 64 bits.
use Rattle.std.proofs.Common.{arith}
use Rattle.std.proofs.lemmas.Int.{ints, to_z-of_z}
use Rattle.hull.proofs.Products.{compared_fits, compared_number}
use Rattle.hull.proofs.hull.sizes.conditions.Slope.is_at_most.Goals as goal

pub returns : goal.returns
returns c =
    let a = c.args.self.now in let b = c.args.other.now in
    let x = compared_number a.rise a.rise_low a.rise_high in
    let y = compared_number b.rise b.rise_low b.rise_high in
    let p = compared_number a.run (omega (arith, ints, a.run_low)) (omega (arith, ints, a.run_high)) in
    let q = compared_number b.run (omega (arith, ints, b.run_low)) (omega (arith, ints, b.run_high)) in
    let f = compared_fits a.rise b.run a.rise_low a.rise_high b.run_low b.run_high in
    let g = compared_fits b.rise a.run b.rise_low b.rise_high a.run_low a.run_high in
    simp to_z-of_z
