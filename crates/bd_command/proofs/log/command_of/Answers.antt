use Rattle.std.proofs.Common.{◌≡◌, ◌==◌, ℕ, length, false, subst, MatchOption, arith, sym, ◌∙◌, ap}
use Rattle.std.proofs.lemmas.Bool.Decides.{nat_tests}
use Rattle.bd_wire.specs.Reading.{Reads}
use Rattle.bd_wire.specs.Encoding.{BeginsNone}
use Rattle.bd_command.specs.Log.{IsLogged, command_bytes}
use Rattle.bd_command.proofs.Records.{not_whole, none_whole}
use Rattle.bd_command.proofs.log.command_of.Goals as goal
use Rattle.bd_command.proofs.log.command_of.Goals.{in_default-via-in-Some+else-is_empty, in_default-via-in_default}

-- what isn't empty has an item
not_empty : (n : ℕ) → false ≡ (n == 0) → n ≡ 0 → ⊥
not_empty n e h = grind (arith, nat_tests)

pub returns-in_default : goal.returns-in_default
returns-in_default c =
    let start = c.new-ahead.result in
    let end = c.command.new.ahead in
    elim c.in_default.branch [
      | in_default-via-in-Some+else-is_empty w ↦
          let found = subst (λ found. MatchOption found (BeginsNone IsLogged command_bytes start.left) (λ d. IsLogged d × Reads start end (command_bytes d))) w.in-Some.is c.in_ok-command.ensures in
          not_whole c.args.bytes.now end.left w.in-Some.command found.0 (sym c.new-ahead.ensures.left ∙ found.1.front)
          (λ none. not_empty (length w.left.result.now) (sym w.if-is_empty.false ∙ w.is_empty.ensures) (ap length (w.left.ensures ∙ none)))
      | in_default-via-in_default w ↦
          let found = subst (λ found. MatchOption found (BeginsNone IsLogged command_bytes start.left) (λ d. IsLogged d × Reads start end (command_bytes d))) w.in_default.is c.in_ok-command.ensures in
          none_whole c.args.bytes.now (subst (BeginsNone IsLogged command_bytes) c.new-ahead.ensures.left found)
    ]
