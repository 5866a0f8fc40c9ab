use Rattle.std.proofs.Common.{◌≡◌, false, true, refl, OnOk, Some}
use Rattle.bd_node.specs.declared.node.Node.{Node}
use Rattle.bd_node.specs.Steps.{IsCommitted, append_step, grown}
use Rattle.bd_memnodes.specs.Maps.{nodes_in}
use Rattle.bd_memnodes.specs.Stored.{table_in}
use Rattle.bd_memnodes.proofs.Views.{of_kept, err_reads}
use Rattle.bd_memnodes.proofs.Appended.{on_ok_grown}
use Rattle.bd_memnodes.specs.Seen.{table}
use Rattle.bd_memnodes.proofs.store.MemNodesNodeStore.append.Goals as goal

pub returns-clause-table : goal.returns-clause-table
returns-clause-table c =
    on_ok_grown (table c.args.self.now) c.args.list (table_in c.append.new.self) c.append.result
    (of_kept (λ n t. OnOk c.append.result (table_in c.append.new.self ≡ grown t c.args.list)) c.self.inside.kept c.self.inside.visits c.args.self.now c.self.view_is c.append.ensures.table)
    (λ id on. let e : false ≡ true = on in cc)

pub returns-clause-committed : goal.returns-clause-committed
returns-clause-committed c = λ known sound.
    of_kept (λ n t. (root : Node) → n t.root ≡ Some root → OnOk c.append.result (IsCommitted n t (append_step t root c.args.list) (nodes_in c.append.new.self.nodes) (table_in c.append.new.self)))
    c.self.inside.kept c.self.inside.visits c.args.self.now c.self.view_is c.append.ensures.committed

pub returns-clause-err : goal.returns-clause-err
returns-clause-err c =
    err_reads c.self.inside.kept c.append.new.self c.self.inside.visits c.self.inside.visits c.args.self.now _ c.append.result c.self.view_is refl c.append.ensures.err
