use Rattle.bd_memnodes.specs.Maps.{nodes_in}
use Rattle.bd_memnodes.specs.Plans.{step_of}
use Rattle.bd_memnodes.specs.Stored.{table_in}
use Rattle.bd_memnodes.proofs.Settling.{IsDone}
use Rattle.bd_memnodes.proofs.Parts.{carried}
use Rattle.bd_memnodes.proofs.kept.Kept.carry_out.Goals as goal

done : (c : goal.After-settle) → IsDone (nodes_in c.args.self.now.nodes) (table_in c.args.self.now) (step_of c.args.plan) (nodes_in c.settle.new.self.nodes) (table_in c.settle.new.self)
done c =
    carried c.args.self.now c.put.new.self c.settle.new.self c.args.plan _ c.requires.whole c.put.ensures.owing c.put.ensures.root c.put.ensures.next
    c.settle.ensures.settled c.settle.ensures.size c.settle.ensures.root c.settle.ensures.next

pub returns-clause-committed : goal.returns-clause-committed
returns-clause-committed c = (done c).committed

pub returns-clause-table : goal.returns-clause-table
returns-clause-table c = (done c).table

pub returns-clause-whole : goal.returns-clause-whole
returns-clause-whole c = record { sound = (done c).committed.sound; idle = c.settle.ensures.idle }
