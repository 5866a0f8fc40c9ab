use Rattle.bd_message.proofs.EncodingSizes.{message_alone}
use Rattle.bd_message.proofs.laws.messages_are_prefix_free.Goals as goal

pub returns : goal.returns
returns c = message_alone
