use Rattle.std.proofs.Common.{refl, ap, ◌∙◌, ◌++◌, ◌+◌, length, List}
use Rattle.bd_message.specs.declared.message.Message.{Message}
use Rattle.bd_files.specs.Sends.{growth}
use Rattle.bd_files.proofs.Writes.{write_makes}
use Rattle.bd_files.proofs.write.messages.Goals as goal

pub returns-clause-makes : goal.returns-clause-makes
returns-clause-makes c =
    write_makes c.args.path.now c.args.mode c.args.off c.args.len (c.args.off + length c.args.bytes.now) c.args.bytes.now c.append.new.self.items c.in_ok-patches.field-0.items c.requires.names refl
    (c.in_ok-append.ensures.items ∙ ap (λ (ms : List Message). ms ++ c.in_ok-patches.field-0.items) c.in_ok-list.ensures.value) c.in_ok-patches.ensures.writes

pub returns-clause-list : goal.returns-clause-list
returns-clause-list c =
    c.in_ok-append.ensures.items ∙ ap (λ (ms : List Message). ms ++ c.in_ok-patches.field-0.items) c.in_ok-list.ensures.value
    ∙ ap (λ (ms : List Message). growth c.args.path.now c.args.mode c.args.len (c.args.off + length c.args.bytes.now) ++ ms) c.in_ok-patches.ensures.list
