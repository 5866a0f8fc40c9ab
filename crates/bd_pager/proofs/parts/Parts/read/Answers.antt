use Rattle.std.proofs.Common.{ℕ, ◌++◌, List, Option, IfSome, refl, sym, ap, subst, ◌∙◌}
use Rattle.std.specs.Prelude.{Contains}
use Rattle.bd_device.specs.Blocks.{Image}
use Rattle.bd_node.specs.Nodes.{buffer_size}
use Rattle.bd_table.specs.Image.{HoldsTable}
use Rattle.bd_table.specs.Tables.{AreFreeSlots, IsTableAt, slots_of}
use Rattle.bd_table.specs.declared.table.TableEntry.{TableEntry}
use Rattle.bd_tails.specs.Tails.{AreTails}
use Rattle.bd_format.specs.Slots.{HasNode}
use Rattle.bd_pager.proofs.parts.Parts.read.Goals as goal

pub returns-clause-parts : goal.returns-clause-parts
returns-clause-parts g c =
    let known = g.D.Device.contents c.args.dev.now in
    let slots = c.args.slots in
    let t = c.in_ok-saved.saved in
    let entry = c.root_entry-entry.result in
    let n = c.in_ok-node.node.value in
    record {
      table = subst (λ (l : List ℕ). IsTableAt slots l t) c.as_slice.ensures.value c.in_ok-saved.ensures.table;
      entry = entry;
      among = subst (λ (es : List TableEntry). Contains es entry) c.as_slice-2.ensures c.root_entry-entry.ensures.among;
      is_root = c.root_entry-entry.ensures.root;
      node = c.in_ok-node.node;
      of_level = c.in_ok-node.ensures.node;
      spots = c.in_ok-spots.ensures;
      at_is = refl;
      spare = subst (λ (l : List ℕ). AreFreeSlots slots (l ++ slots_of t.entries) c.in_ok-usage.usage.spare) c.as_slice-3.ensures.value
          (subst (λ (es : List TableEntry). AreFreeSlots slots (c.as_slice-3.result.now ++ slots_of es) c.in_ok-usage.usage.spare) c.as_slice-4.ensures c.in_ok-usage.ensures.spare);
      root = refl;
      next = refl;
      size = sym (c.buffer_size-size.ensures ∙ ap buffer_size c.deref.ensures);
      cached = c.in_ok-cache.ensures.empty;
      visits = refl;
      lent = refl;
      tails = subst (λ (o : Option Image). AreTails o c.in_ok-node.tails) (c.read_root.ensures.reads.kept ∙ c.in_ok-saved.ensures.reads.kept) c.in_ok-node.ensures.tails;
      written = refl;
      table_held = subst (λ (l : List ℕ). IfSome known (λ image. HoldsTable image slots l t)) c.as_slice.ensures.value c.in_ok-saved.ensures.held;
      root_held = subst (λ (o : Option Image). IfSome o (λ image. HasNode image entry.slot entry.level n)) c.in_ok-saved.ensures.reads.kept c.in_ok-node.ensures.held;
    }
