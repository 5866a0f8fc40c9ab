use Rattle.std.proofs.Common.{◌≡◌, rules}
use Rattle.std.specs.Bool.{Decides}
use Rattle.std.proofs.lemmas.Slice.Eq.{slice_eq-Decides}
use Rattle.bd_message.specs.declared.message.Message.{Message}
use Rattle.bd_message.specs.contracts.message.MessagePartialEq.TheImpl.{eq-value}
use Rattle.bd_graft.proofs.looking.are_same.Goals as goal

message_eq : (a b : Message) → Decides (eq-value.it a b) (a ≡ b)
message_eq a b = search rules

pub returns : goal.returns
returns c = slice_eq-Decides message_eq _ _ _ c.eq.ensures
