use Rattle.std.proofs.Common.{ℕ, ◌≡◌, ◌+◌, ◌-◌, ◌*◌, ◌↔◌, IsTrue, take, drop, subst, arith}
use Rattle.bd_wire.specs.Text.{AreZeros}
use Rattle.bd_tails.proofs.tails.is_zero.Goals as goal

pub returns : goal.returns
returns c =
    let size : c.args.i * 4096 + 4096 - c.args.i * 4096 ≡ 4096 = omega arith in
    subst (λ (n : ℕ). IsTrue c.all_zero.result ↔ AreZeros (take n (drop (c.args.i * 4096) c.args.bytes.now))) size c.all_zero.ensures
