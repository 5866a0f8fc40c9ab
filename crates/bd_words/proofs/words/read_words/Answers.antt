use Rattle.std.proofs.Common.{◌≡◌, ◌∙◌, IfErr, IfOk, Ok, Result, Some, [], ap, map, string_bytes, subst, sym, None}
use Rattle.clap.specs.Words.{App, fault_of, is_simple, is_simple_and_free, kind_of, subcommand_of, subcommand_rows_of}
use Rattle.bd_words.specs.Words.{Call, call_of}
use Rattle.bd_words.specs.Line.{HasRead, line}
use Rattle.bd_words.specs.Calls.{IsWithinLimits, asked}
use Rattle.bd_words.specs.declared.words.Call.{Call as Read}
use Rattle.bd_words.specs.declared.words.WordsFault.{WordsFault}
use Rattle.bd_words.specs.declared.words.WordsFault.TheVariants.{Refused}
use Rattle.bd_words.proofs.Outcomes.{call_read, fails, line_is_free, line_is_simple, not_taken, taken, within, words_are_utf8}
use Rattle.bd_words.proofs.words.read_words.Goals as goal

passes : (c : goal.Joined-matches) → fault_of line (map string_bytes c.args.words.now) ≡ []
passes c = sym (ap (λ (a : App). fault_of a (map string_bytes c.args.words.now)) c.in_ok-line.ensures.line)
    ∙ c.in-Ok.ensures.kinds (ap is_simple_and_free c.in_ok-line.ensures.line ∙ line_is_free)

-- the call that was read
record Got (c : goal.Joined-matches) : Type 0 where
  pub call : Read
  pub is : c.ok_or.result ≡ Ok call
  pub of : call_of (map string_bytes c.args.words.now) ≡ Some (asked call)
  pub within : IsWithinLimits call

got : (c : goal.Joined-matches) → Got c
got c =
    let same = (c.in-Ok.ensures.matches (ap is_simple c.in_ok-line.ensures.line ∙ line_is_simple)).1
    ∙ ap (λ (a : App). subcommand_of a (map string_bytes c.args.words.now)) c.in_ok-line.ensures.line in
    let found = subcommand_rows_of c.in-Ok.matches in
    let call = taken (map string_bytes c.args.words.now) found (words_are_utf8 c.args.words.now) (passes c) same in
    let read = call_read c.call_in.result c.ok_or.result call.0 c.ok_or.ensures.value (c.call_in.ensures call.0 call.2) in
    record {
      call = read.0;
      is = read.1;
      of = call.1 ∙ ap Some (sym read.2);
      within = within read.0 found (subst (λ (x : Call). HasRead x found) (sym read.2) call.2);
    }

pub returns-in-Ok-clause-call : goal.returns-in-Ok-clause-call
returns-in-Ok-clause-call c =
    subst (λ r. IfOk r (λ call. call_of (map string_bytes c.args.words.now) ≡ Some (asked call))) (sym (got c).is) (got c).of

pub returns-in-Ok-clause-within : goal.returns-in-Ok-clause-within
returns-in-Ok-clause-within c = subst (λ r. IfOk r IsWithinLimits) (sym (got c).is) (got c).within

pub returns-in-Ok-clause-refused : goal.returns-in-Ok-clause-refused
returns-in-Ok-clause-refused c =
    subst (λ r. IfErr r (λ fault. fault ≡ Refused → call_of (map string_bytes c.args.words.now) ≡ None)) (sym (got c).is) tt

pub returns-in-Ok-clause-clap_takes : goal.returns-in-Ok-clause-clap_takes
returns-in-Ok-clause-clap_takes c = subst (λ (r : Result Read WordsFault). IfOk r (λ _. fault_of line (map string_bytes c.args.words.now) ≡ [])) (sym (got c).is) (passes c)

pub returns-in-Ok-clause-clap_refuses : goal.returns-in-Ok-clause-clap_refuses
returns-in-Ok-clause-clap_refuses c =
    subst (λ r. IfErr r (λ fault. fault ≡ Refused → fault_of line (map string_bytes c.args.words.now) ≡ [] → ⊥)) (sym (got c).is) tt

refuses : (c : goal.Joined-error) → c.of_parse.result ≡ Refused → fault_of line (map string_bytes c.args.words.now) ≡ [] → ⊥
refuses c refused none =
    fails (kind_of c.in-Err.error) _ c.of_parse.result (c.in-Err.ensures.kinds (ap is_simple_and_free c.in_ok-line.ensures.line ∙ line_is_free))
    c.of_parse.ensures.memory refused
    (ap (λ (a : App). fault_of a (map string_bytes c.args.words.now)) c.in_ok-line.ensures.line ∙ none)

pub returns-in-Err-clause-refused : goal.returns-in-Err-clause-refused
returns-in-Err-clause-refused c = λ refused. not_taken (map string_bytes c.args.words.now) (words_are_utf8 c.args.words.now) (refuses c refused)

pub returns-in-Err-clause-clap_refuses : goal.returns-in-Err-clause-clap_refuses
returns-in-Err-clause-clap_refuses c = λ refused. refuses c refused
