use Rattle.std.proofs.Common.{◌≡◌, ◌==◌, ℕ, length, false, true, [], arith, sym, ap, subst, ◌∙◌}
use Rattle.std.proofs.lemmas.Bool.{true≢false}
use Rattle.std.proofs.lemmas.Bool.Decides.{nat_tests}
use Rattle.bd_wire.specs.Encoding.{BeginsNone}
use Rattle.bd_command.specs.Log.{IsLogged, log_record, IsLogReadAs}
use Rattle.bd_super.specs.Superblocks.{version_number}
use Rattle.bd_checkpoint.proofs.Records.{no_record, more_left, of_other_version, whole_record, empty_is_nil}
use Rattle.bd_checkpoint.proofs.commands.command_in.Goals as goal

-- what isn't empty has an item
not_empty : (n : ℕ) → (n == 0) ≡ false → n ≡ 0 → ⊥
not_empty n e h = grind (arith, nat_tests)

is_empty : (n : ℕ) → (n == 0) ≡ true → n ≡ 0
is_empty n e = grind (arith, nat_tests)

pub returns-in_default : goal.returns-in_default
returns-in_default c =
    let found = subst (IsLogReadAs c.new-cursor.result c.log_read.new.cursor) c.in_default.is c.in_ok-command.ensures.read in
    no_record (version_number c.args.version) c.args.bytes.now (subst (BeginsNone IsLogged log_record) c.new-cursor.ensures.left found.0)

pub returns-then-not-is_empty : goal.returns-then-not-is_empty
returns-then-not-is_empty c =
    let found = subst (IsLogReadAs c.new-cursor.result c.log_read.new.cursor) c.in-Some.is c.in_ok-command.ensures.read in
    let full : c.is_empty.result ≡ false = cc in
    more_left c.log_records_are_prefix_free.ensures (version_number c.args.version) c.args.bytes.now c.log_read.new.cursor.left c.in-Some.command found.0 (sym c.new-cursor.ensures.left ∙ found.1.front)
    (λ none. not_empty (length c.left.result.now) (sym c.is_empty.ensures ∙ full) (ap length (c.left.ensures ∙ none)))

pub returns-then-not-has_record : goal.returns-then-not-has_record
returns-then-not-has_record c =
    let found = subst (IsLogReadAs c.new-cursor.result c.log_read.new.cursor) c.in-Some.is c.in_ok-command.ensures.read in
    let refused : c.has_record.result ≡ false = cc in
    of_other_version c.log_records_are_prefix_free.ensures (version_number c.args.version) c.args.bytes.now c.log_read.new.cursor.left c.in-Some.command found.0 (sym c.new-cursor.ensures.left ∙ found.1.front)
    (λ of. true≢false (sym (c.has_record.ensures.1 of) ∙ refused))

pub returns : goal.returns
returns c =
    let found = subst (IsLogReadAs c.new-cursor.result c.log_read.new.cursor) c.in-Some.is c.in_ok-command.ensures.read in
    let empty : c.is_empty.result ≡ true = cc in
    let of : c.has_record.result ≡ true = cc in
    let nil : c.log_read.new.cursor.left ≡ [] = sym c.left.ensures ∙ empty_is_nil c.left.result.now (is_empty (length c.left.result.now) (sym c.is_empty.ensures ∙ empty)) in
    ((found.0, c.has_record.ensures.0 of), whole_record c.args.bytes.now c.log_read.new.cursor.left c.in-Some.command (sym c.new-cursor.ensures.left ∙ found.1.front) nil)
