use Rattle.std.proofs.Common.{ℕ, ◌≤◌, Option, None, Some, subst, sym, arith}
use Rattle.std.specs.Prelude.{IfSome, unwrap_or}
use Rattle.bd_limits.specs.Limits.{file_limit}
use Rattle.bd_command.specs.Command.{IsShortPath}
use Rattle.bd_stream.proofs.exporting.head_in.Goals as goal

len_fits : (o : Option ℕ) → unwrap_or o 0 ≤ file_limit → IfSome o (λ n. n ≤ file_limit)
len_fits None h = tt
len_fits (Some n) h = h

pub returns-clause-fits : goal.returns-clause-fits
returns-clause-fits c =
    record {
      path = subst IsShortPath (sym c.in_ok-clone.ensures.cases) (c.as_bytes.ensures.names, c.as_bytes.ensures.length);
      mode = c.if-mode-gt-MAX_MODE.false;
      len = len_fits c.match-reply.mode.1 (omega arith);
    }
