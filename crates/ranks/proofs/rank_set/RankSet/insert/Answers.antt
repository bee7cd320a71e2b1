-- The digit that is set, and the bounds of the words.
use mathlib.Core.Path.{fun_ext}
use Rattle.std.proofs.Common.{ℕ, ◌-◌, ◌*◌, ◌%◌, ◌^◌, ◌<◌, arith, rules}
use lib.Bits.{or_lt}
use Rattle.std.proofs.lemmas.Nat.{one_shl, pow_below}
use Rattle.ranks.specs.Ranks.{ranks}
use Rattle.ranks.proofs.Words.{put_low, put_high}
use Rattle.ranks.proofs.rank_set.RankSet.insert.Goals as goal

pub invariant_of-self : goal.invariant_of-self
invariant_of-self c =
    let s = c.args.self.now in
    search (rules, or_lt 64 s.low ((1 * 2 ^ c.args.rank) % 2 ^ 64) s.whole (omega arith))

pub invariant_of-self-then-rank-lt-RANKS : goal.invariant_of-self-then-rank-lt-RANKS
invariant_of-self-then-rank-lt-RANKS c =
    let s = c.args.self.now in
    let r : ℕ = c.args.rank - 64 in
    let small : 2 ^ r < 2 ^ 50 = pow_below r 50 (omega arith) in
    record { whole = s.whole; short = or_lt 50 s.high ((1 * 2 ^ r) % 2 ^ 64) s.short (omega (arith, one_shl r 64 (omega arith), small)) }

pub returns-then-rank-lt64-clause-put : goal.returns-then-rank-lt64-clause-put
unfolding ranks
returns-then-rank-lt64-clause-put c _ =
    let s = c.args.self.now in
    fun_ext (put_low s.high s.low s.whole c.args.rank c.if-rank-lt64.true)

pub returns-then-rank-lt-RANKS-clause-put : goal.returns-then-rank-lt-RANKS-clause-put
unfolding ranks
returns-then-rank-lt-RANKS-clause-put c _ =
    let s = c.args.self.now in
    fun_ext (put_high s.high s.low s.whole c.args.rank c.if-rank-lt64.false c.if-rank-lt-RANKS.true)
