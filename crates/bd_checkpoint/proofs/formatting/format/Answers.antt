use Rattle.std.proofs.Common.{ℕ, true, false, length, IfSome, sym, ap, subst, ◌∙◌}
use Rattle.std.specs.Prelude.{IsSome}
use Rattle.std.proofs.lemmas.List.{length-replicate}
use Rattle.bd_device.specs.Device.{left_now, Stays}
use Rattle.bd_device.proofs.Calls.{stays_then}
use Rattle.bd_node.specs.Steps.{with_touched}
use Rattle.bd_node.specs.Meaning.{Nodes}
use Rattle.bd_node.specs.Tables.{Table, IsSound}
use Rattle.bd_super.specs.Live.{NoneIsCommitted}
use Rattle.bd_super.specs.Published.{AreSettled}
use Rattle.bd_table.specs.Tables.{AreFreeSlots, IsTableAt}
use Rattle.bd_pager.specs.Pagers.{Paged, nodes_of, table_of}
use Rattle.bd_pager.proofs.AppendedLemmas.{touched_sound}
use Rattle.bd_model.specs.Tree.{root_only}
use Rattle.bd_checkpoint.specs.Kept.{slots_held, AreOfTree}
use Rattle.bd_checkpoint.specs.Recovering.{saved_of}
use Rattle.bd_checkpoint.specs.Surviving.{IsLowOrSpare}
use Rattle.bd_checkpoint.proofs.FreshTree.{has_room}
use Rattle.bd_checkpoint.proofs.Published.{settled_only}
use Rattle.bd_checkpoint.proofs.Slots.{told_before}
use Rattle.bd_checkpoint.proofs.formatting.format.Goals as goal

pub first_checkpoint-requires-clause-spare : goal.first_checkpoint-requires-clause-spare
first_checkpoint-requires-clause-spare g c = ap length c.in-Ok-new_pager.ensures.new.spare ∙ length-replicate c.args.slots true

pub first_checkpoint-requires-clause-size : goal.first_checkpoint-requires-clause-size
first_checkpoint-requires-clause-size g c = ap g.D.Device.block_count c.in-Ok-new_pager.ensures.new.device ∙ c.in-Ok.ensures.stays.count ∙ c.requires.size

pub first_checkpoint-requires-clause-room : goal.first_checkpoint-requires-clause-room
first_checkpoint-requires-clause-room g c =
    let p = c.in-Ok-new_pager.pager in
    has_room c.args.slots c.clear_supers.new.dev p c.requires.slots c.in-Ok-new_pager.ensures.new (ap (λ (t : Table). t.next) c.in-Ok-new_pager.ensures.table.is)

pub first_checkpoint-requires-clause-none : goal.first_checkpoint-requires-clause-none
first_checkpoint-requires-clause-none g c =
    subst (λ (d : g.row.D.Denot). IfSome (g.D.Device.contents d) NoneIsCommitted) (sym c.in-Ok-new_pager.ensures.new.device) c.in-Ok.ensures.cleared

pub first_checkpoint-requires-clause-settled : goal.first_checkpoint-requires-clause-settled
first_checkpoint-requires-clause-settled g c =
    let D = g.D.Device in
    let mid = c.clear_supers.new.dev in
    subst (λ (d : g.row.D.Denot). AreSettled (D.contents d) (left_now D d)) (sym c.in-Ok-new_pager.ensures.new.device) (settled_only (D.contents mid) (left_now D mid) c.in-Ok.ensures.only)

pub returns-clause-stands : goal.returns-clause-stands
returns-clause-stands g c = λ told.
    let known = c.in-Ok.ensures.told told in
    c.in-Ok-first_checkpoint.ensures.stands root_only (c.in-Ok-new_pager.ensures.known known) (c.in-Ok-new_pager.ensures.tree known)

pub returns-clause-known : goal.returns-clause-known
returns-clause-known g c = λ told. c.in-Ok-first_checkpoint.ensures.saved.keeps.known (c.in-Ok-new_pager.ensures.known (c.in-Ok.ensures.told told))

pub returns-clause-told : goal.returns-clause-told
returns-clause-told g c = λ told.
    let first = c.in-Ok-new_pager.pager in
    let new = c.first_checkpoint.new.pager in
    let saved = c.in-Ok-first_checkpoint.ensures.saved in
    let cleared = subst (λ (d : g.row.D.Denot). IsSome (g.D.Device.contents d)) c.in-Ok-new_pager.ensures.new.device
    (told_before (IsLowOrSpare first.spare) (g.D.Device.contents first.dev) (g.D.Device.contents new.dev) saved.keeps.elsewhere told) in
    let known = c.in-Ok-new_pager.ensures.known cleared in
    let now : IsSound (nodes_of g.D.Device first) (with_touched (λ id. false) (table_of first)) =
    touched_sound (λ id. false) (nodes_of g.D.Device first) (table_of first) (c.in-Ok-new_pager.ensures.tree cleared).sound in (
      saved.keeps.known known,
      subst (λ (t : Table). IsSound (nodes_of g.D.Device new) t) (sym saved.table)
          (subst (λ (n : Nodes). IsSound n (with_touched (λ id. false) (table_of first))) (sym (saved.keeps.nodes known)) now),
    )

pub returns-clause-nodes : goal.returns-clause-nodes
returns-clause-nodes g c = λ told.
    let known = c.in-Ok.ensures.told told in
    c.in-Ok-first_checkpoint.ensures.saved.keeps.nodes (c.in-Ok-new_pager.ensures.known known) ∙ c.in-Ok-new_pager.ensures.nodes known

pub returns-clause-table : goal.returns-clause-table
returns-clause-table g c = c.in-Ok-first_checkpoint.ensures.saved.table ∙ ap (with_touched (λ id. false)) c.in-Ok-new_pager.ensures.table.is

pub returns-clause-tree : goal.returns-clause-tree
returns-clause-tree g c = λ told.
    let known = c.in-Ok.ensures.told told in
    let first = c.in-Ok-new_pager.pager in
    let new = c.first_checkpoint.new.pager in
    let saved = c.in-Ok-first_checkpoint.ensures.saved in
    let was : AreOfTree (nodes_of g.D.Device first) (table_of first) root_only = c.in-Ok-new_pager.ensures.tree known in
    let now : AreOfTree (nodes_of g.D.Device first) (with_touched (λ id. false) (table_of first)) root_only = record {
      sound = touched_sound (λ id. false) (nodes_of g.D.Device first) (table_of first) was.sound;
      is_tree = was.is_tree;
      represents = was.represents;
    } in
    subst (λ (t : Table). AreOfTree (nodes_of g.D.Device new) t root_only) (sym saved.table)
    (subst (λ (n : Nodes). AreOfTree n (with_touched (λ id. false) (table_of first)) root_only) (sym (saved.keeps.nodes (c.in-Ok-new_pager.ensures.known known))) now)

pub returns-clause-place : goal.returns-clause-place
returns-clause-place g c =
    let new = c.first_checkpoint.new.pager in
    subst (λ (n : ℕ). IsTableAt n new.at new.saved) (ap length c.in-Ok-new_pager.ensures.new.spare ∙ length-replicate c.args.slots true) c.in-Ok-first_checkpoint.ensures.saved.place

pub returns-clause-spare : goal.returns-clause-spare
returns-clause-spare g c =
    let new = c.first_checkpoint.new.pager in
    subst (λ (n : ℕ). AreFreeSlots n (slots_held (saved_of new)) new.spare) (ap length c.in-Ok-new_pager.ensures.new.spare ∙ length-replicate c.args.slots true) c.in-Ok-first_checkpoint.ensures.saved.spare

pub returns-clause-lent : goal.returns-clause-lent
returns-clause-lent g c = ap (λ (p : Paged g.row.D.Denot). p.is_lent) c.in-Ok-first_checkpoint.ensures.saved.rest ∙ c.in-Ok-new_pager.ensures.new.lent

pub returns-clause-stays : goal.returns-clause-stays
returns-clause-stays g c =
    let mid = c.clear_supers.new.dev in
    stays_then c.in-Ok.ensures.stays
    (subst (λ (d : g.row.D.Denot). Stays g.D.Device d c.first_checkpoint.new.pager.dev) c.in-Ok-new_pager.ensures.new.device c.in-Ok-first_checkpoint.ensures.stays)

pub returns-clause-faults : goal.returns-clause-faults
returns-clause-faults g c = c.in-Ok-first_checkpoint.ensures.cause.kept ∙ ap g.D.Device.fault_count c.in-Ok-new_pager.ensures.new.device ∙ c.in-Ok.ensures.cause.kept

pub returns-clause-room : goal.returns-clause-room
returns-clause-room g c = c.in-Ok-first_checkpoint.ensures.saved.keeps.room ∙ c.in-Ok-new_pager.ensures.room
