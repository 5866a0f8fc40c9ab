use Rattle.std.proofs.Common.{◌≡◌, ◌-◌, length, arith, subst}
use Rattle.std.specs.Int.{w16}
use Rattle.bd_wire.specs.Numbers.{be}
use Rattle.bd_wire.specs.Text.{text16}
use Rattle.bd_wire.specs.Writing.{Puts}
use Rattle.bd_wire.proofs.TextLemmas.{length-text16}
use Rattle.bd_wire.proofs.WritingLemmas.{Puts-append}
use Rattle.bd_command.specs.Log.{command_bytes}
use Rattle.bd_command.proofs.Command.log_write.Goals as goal

pub returns : goal.returns
unfolding text16
returns c =
    let bytes = command_bytes c.args.self.now in
    let size : c.log_size.result - 2 ≡ length bytes = omega (arith, c.log_size.ensures, length-text16 bytes) in
    let count = subst (λ n. Puts c.args.out.now c.put_u16.new.self (be w16 n)) size c.put_u16.ensures.puts in
    Puts-append c.args.out.now c.put_u16.new.self c.write_fields.new.out (be w16 (length bytes)) bytes count c.write_fields.ensures
