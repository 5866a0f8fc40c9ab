-- The summary is written, and the fault's line after it, or the sink failed.
use Rattle.std.proofs.Common.{ap}
use Rattle.bd_shell.specs.Fault.{Faults}
use Rattle.bd_shell.specs.Session.{end_of}
use Rattle.bd_fill.specs.Counting.{tally_line}
use Rattle.bd_calls.proofs.Fills.{tells_all, tells_cut, rose_of_sink, told_known, said_whole, said_part, cut_known}
use Rattle.bd_calls.proofs.fill.end_fill.Goals as goal

pub returns-in-Ok-clause-told : goal.returns-in-Ok-clause-told
returns-in-Ok-clause-told g c =
    tells_all (end_of c.args.filled.ended.result) _ _ _ _ _ _ _ _ c.end_call.ensures.status
    (said_whole _ _ _ _ c.write_line-size.ensures.text c.in-Ok.ensures.written) (ap (λ (f : Faults). f.sink) c.in-Ok.ensures.cause.kept) (c.end_call.ensures.last 0 0)

pub returns-in-Ok-clause-known : goal.returns-in-Ok-clause-known
returns-in-Ok-clause-known g c =
    told_known (end_of c.args.filled.ended.result) _ _ _ _ _ _ (
    tells_all (end_of c.args.filled.ended.result) _ (tally_line c.args.filled.tally) _ _ _ _ _ _ c.end_call.ensures.status
    (said_whole _ _ _ _ c.write_line-size.ensures.text c.in-Ok.ensures.written) (ap (λ (f : Faults). f.sink) c.in-Ok.ensures.cause.kept) (c.end_call.ensures.last 0 0))

pub returns-in-Err-clause-told : goal.returns-in-Err-clause-told
returns-in-Err-clause-told g c =
    tells_cut (end_of c.args.filled.ended.result) _ _ _ _ _ _ c.requires c.status_after.ensures
    (said_part _ _ _ _ c.write_line-size.ensures.text c.in-Err.ensures.part) (rose_of_sink _ _ _ _ c.in-Err.ensures.kind c.in-Err.ensures.cause.cause)

pub returns-in-Err-clause-known : goal.returns-in-Err-clause-known
returns-in-Err-clause-known g c = cut_known (end_of c.args.filled.ended.result) _ c.status_after.ensures
