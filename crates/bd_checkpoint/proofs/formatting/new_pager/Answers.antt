use Rattle.std.proofs.Common.{List, ap, subst, ◌∙◌}
use Rattle.bd_message.specs.declared.message.Message.{Message}
use Rattle.bd_node.specs.New.{new_table}
use Rattle.bd_node.specs.Steps.{HasGrown}
use Rattle.bd_node.specs.Tables.{Table}
use Rattle.bd_pager.specs.Pagers.{nodes_of, table_of}
use Rattle.bd_table.specs.declared.table.Table.{Table as Checkpoint}
use Rattle.bd_checkpoint.proofs.FreshTree.{nodes_are_fresh, committed_fresh, fits_fresh, fresh_of_tree}
use Rattle.bd_checkpoint.proofs.formatting.new_pager.Goals as goal

pub append-requires : goal.append-requires
append-requires g c = fits_fresh (table_of c.in-Ok-fresh.pager) c.in-Ok.list c.in-Ok-fresh.ensures.table c.in-Ok.ensures

pub returns-clause-nodes : goal.returns-clause-nodes
returns-clause-nodes g c = λ told.
    let p = c.in-Ok-fresh.pager in
    let q = c.append.new.self in
    let f = c.in-Ok-fresh.ensures in
    let grown = subst (λ (l : List Message). HasGrown new_table l (table_of q)) c.in-Ok.ensures (subst (λ (t : Table). HasGrown t c.in-Ok.list (table_of q)) f.table c.in-Ok-append.ensures.table) in
    nodes_are_fresh (nodes_of g.D.Device q) (table_of q)
    (committed_fresh (nodes_of g.D.Device p) (table_of p) c.in-Ok.list (nodes_of g.D.Device q) (table_of q) f.nodes f.table c.in-Ok.ensures (c.in-Ok-append.ensures.committed (f.known told))) grown

pub returns-clause-tree : goal.returns-clause-tree
returns-clause-tree g c = λ told.
    let p = c.in-Ok-fresh.pager in
    let q = c.append.new.self in
    let f = c.in-Ok-fresh.ensures in
    let grown = subst (λ (l : List Message). HasGrown new_table l (table_of q)) c.in-Ok.ensures (subst (λ (t : Table). HasGrown t c.in-Ok.list (table_of q)) f.table c.in-Ok-append.ensures.table) in
    let committed = committed_fresh (nodes_of g.D.Device p) (table_of p) c.in-Ok.list (nodes_of g.D.Device q) (table_of q) f.nodes f.table c.in-Ok.ensures (c.in-Ok-append.ensures.committed (f.known told)) in
    fresh_of_tree (nodes_of g.D.Device q) (table_of q) (nodes_are_fresh (nodes_of g.D.Device q) (table_of q) committed grown) (ap (λ (t : Table). t.root) grown.is) committed.sound

pub returns-clause-table : goal.returns-clause-table
returns-clause-table g c =
    let q = c.append.new.self in
    subst (λ (l : List Message). HasGrown new_table l (table_of q)) c.in-Ok.ensures (subst (λ (t : Table). HasGrown t c.in-Ok.list (table_of q)) c.in-Ok-fresh.ensures.table c.in-Ok-append.ensures.table)

pub returns-clause-new : goal.returns-clause-new
returns-clause-new g c =
    let f = c.in-Ok-fresh.ensures.unsaved in
    let kept = c.append.ensures.stays.beside in
    record {
      device = c.append.ensures.device ∙ f.device;
      saved = ap (λ (t : Checkpoint). t.entries) kept.saved ∙ f.saved;
      at = kept.at ∙ f.at;
      spare = kept.spare ∙ f.spare;
      lent = c.append.ensures.lent ∙ f.lent;
    }

pub returns-clause-room : goal.returns-clause-room
returns-clause-room g c = c.append.ensures.stays.beside.room ∙ c.in-Ok-fresh.ensures.room
