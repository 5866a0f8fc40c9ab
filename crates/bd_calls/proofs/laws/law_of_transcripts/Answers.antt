-- Each entry follows from a tree.
use Rattle.bd_calls.proofs.Trees.{each_can_be, image_tree}
use Rattle.bd_calls.proofs.Walks.{each_cheap}
use Rattle.bd_calls.proofs.Acks.{all_in_order}
use Rattle.bd_shell.proofs.Alone.{all_alone}
use Rattle.bd_calls.proofs.laws.law_of_transcripts.Goals as goal

pub returns : goal.returns
returns c = record { first = image_tree; each = each_can_be; cost = each_cheap; order = all_in_order; alone = all_alone }
