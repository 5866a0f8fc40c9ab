use Rattle.std.proofs.Common.{◌≡◌, refl, OnOk, Some}
use Rattle.bd_node.specs.declared.node.Node.{Node}
use Rattle.bd_node.specs.Tables.{IsSound}
use Rattle.bd_node.specs.Pushes.{CanPush, HasPushed, IsPushed}
use Rattle.bd_memnodes.specs.Maps.{nodes_in}
use Rattle.bd_memnodes.specs.Stored.{table_in}
use Rattle.bd_memnodes.proofs.Views.{of_kept, to_kept, err_reads}
use Rattle.bd_memnodes.proofs.store.MemNodesNodeStore.push_down.Goals as goal

pub push_down-requires-clause-can : goal.push_down-requires-clause-can
push_down-requires-clause-can c =
    to_kept (λ n t. CanPush n t c.args.push) c.self.inside.kept c.self.inside.visits c.args.self.now c.self.view_is
    (c.requires.can tt (of_kept IsSound c.self.inside.kept c.self.inside.visits c.args.self.now c.self.view_is c.self.invariant.sound))

pub returns-clause-table : goal.returns-clause-table
returns-clause-table c =
    of_kept (λ n t. OnOk c.push_down.result (HasPushed t c.args.push (table_in c.push_down.new.self))) c.self.inside.kept c.self.inside.visits c.args.self.now c.self.view_is
    c.push_down.ensures.table

pub returns-clause-committed : goal.returns-clause-committed
returns-clause-committed c = λ known sound.
    of_kept (λ n t. (parent child : Node) → n c.args.push.parent ≡ Some parent → n c.args.push.child ≡ Some child → OnOk c.push_down.result (IsPushed n t c.args.push parent child (nodes_in c.push_down.new.self.nodes) (table_in c.push_down.new.self)))
    c.self.inside.kept c.self.inside.visits c.args.self.now c.self.view_is c.push_down.ensures.pushed

pub returns-clause-err : goal.returns-clause-err
returns-clause-err c =
    err_reads c.self.inside.kept c.push_down.new.self c.self.inside.visits c.self.inside.visits c.args.self.now _ c.push_down.result c.self.view_is refl c.push_down.ensures.err
