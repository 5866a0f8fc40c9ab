use Rattle.std.proofs.Common.{map, string_bytes}
use Rattle.std.proofs.lemmas.Result.{err_from_is_err_and}
use Rattle.bd_words.specs.Calls.{asked}
use Rattle.bd_words.specs.Line.{AreTaken}
use Rattle.bd_calls.proofs.Offered.{offers, offers_within, refuses, refuses_others, refuses_unread}
use Rattle.bd_calls.proofs.task.read_task.Goals as goal

pub returns-in_err-call : goal.returns-in_err-call
returns-in_err-call c =
    let p = err_from_is_err_and c.from_residual.result c.from_residual.ensures.1 in
    rw (p.1, p.2) (record {
      task = tt;
      within = tt;
      refused = λ refused. refuses_unread (map string_bytes c.args.words.now) (c.in_err-call.ensures.refused refused);
      by_clap = λ refused taken. absurd (c.in_err-call.ensures.clap_refuses refused taken);
    })

pub returns : goal.returns
returns c =
    let words = map string_bytes c.args.words.now in
    let o = c.task_of.result in
    let made = c.in_ok-call.ensures.call in
    record {
      task = offers words (asked c.in_ok-call.call) o c.ok_or.result made c.task_of.ensures.task c.ok_or.ensures.value;
      within = offers_within o c.ok_or.result c.task_of.ensures.within c.ok_or.ensures.value;
      refused = refuses words (asked c.in_ok-call.call) o c.ok_or.result made c.task_of.ensures.task c.ok_or.ensures.value;
      by_clap = refuses_others words (asked c.in_ok-call.call) o c.ok_or.result (AreTaken words) made c.task_of.ensures.task c.ok_or.ensures.value;
    }
