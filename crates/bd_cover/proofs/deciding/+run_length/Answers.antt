use Rattle.std.proofs.Common.{◌≡◌, ℕ, suc, ◌+◌, sym, subst, ◌∙◌, arith}
use Rattle.std.specs.Option.{option_copied}
use Rattle.bd_cover.specs.Covering.{IsRun}
use Rattle.bd_cover.proofs.Joins.{run_more}
use Rattle.bd_cover.proofs.deciding.+run_length.Goals as goal

pub returns-then-eq-clause-run : goal.returns-then-eq-clause-run
returns-then-eq-clause-run t c =
    let more : suc c.run_length.result ≡ 1 + c.run_length.result = omega arith in
    subst (λ (count : ℕ). IsRun c.args.buffer.now c.args.at c.args.edges.now count) more
    (run_more c.args.buffer.now c.args.at c.args.edges.now c.edge-item.result (option_copied c.end_of.result) c.newest.result c.run_length.result c.in-len1-up.len_at_least c.edge-item.is c.end_of.ensures c.newest.ensures (sym c.eq.ensures ∙ c.if-eq.true) c.run_length.ensures.run)
