-- The nodes that the slots of a table's entries encode, and the ids of these.
use Rattle.std.proofs.Common.{◌≡◌, ℕ, ◌+◌, ◌<◌, ◌≤◌, Bool, true, false, cond, List, [], ◌∷◌, length, get_or, Option, None, Some, refl, sym, ap, subst, ◌∙◌, arith}
use Rattle.std.specs.Prelude.{◌==◌, Contains}
use Rattle.std.specs.Option.{option_map}
use Rattle.std.proofs.lemmas.Bool.{eqb-true}
use Rattle.std.proofs.lemmas.Option.{same_Some, none-some}
use Rattle.std.proofs.lemmas.List.{length-map, get_or-map}
use Rattle.std.proofs.lemmas.List.Elements.{All-map, Contains-get_or}
use Rattle.bd_device.specs.Blocks.{Image}
use Rattle.bd_tails.specs.Tails.{slot_bytes}
use Rattle.bd_format.specs.Decoding.{node_in}
use Rattle.bd_format.specs.Images.{IsImage}
use Rattle.bd_format.specs.Slots.{HasNode, IsLowerLevel}
use Rattle.bd_node.specs.declared.node.Node.{Node}
use Rattle.bd_node.specs.Nodes.{names}
use Rattle.bd_node.specs.Meaning.{Nodes}
use Rattle.bd_node.specs.Closed.{buffer_size_in}
use Rattle.bd_node.specs.Shape.{IsShape}
use Rattle.bd_node.specs.Tables.{Table, IsKept, IsTable, IsLower, IsNodeOf, IsStored, IsSound, one_if, references}
use Rattle.bd_node.proofs.Lookup.{each_weaker}
use Rattle.bd_table.specs.Entries.{entry_of, level_at}
use Rattle.bd_table.specs.Tables.{IsTableEntry, AreTableEntries}
use Rattle.bd_table.proofs.EntryLemmas.{entry_found, entry_stands}
use Rattle.bd_table.specs.declared.table.Table.{Table as StoredTable}
use Rattle.bd_table.specs.declared.table.TableEntry.{TableEntry}
use Rattle.bd_image.specs.Stored.{refs_in, level_in, IsNodeAt, HoldsNodes, table_of}
use Rattle.bd_tally.specs.Ids.{AreIdsOf, IsCounted}
use Rattle.bd_tally.specs.Seen.{AreRight, IsLeastWrong, named_so_far}
use Rattle.bd_tally.proofs.IdLemmas.{names_listed, counted_sound}
use Rattle.bd_check.specs.Slots.{ids_of, node_of_entry, nodes_in, HaveGoodNodes, IsMiscounted}

-- ---- entries

-- the entry that is found has the id
pub entry_is : (entries : List TableEntry) (id : ℕ) (e : TableEntry) → entry_of entries id ≡ Some e → e.id ≡ id
entry_is [] id e found = absurd (none-some e found)
entry_is (x ∷ entries) id e found = by (x.id == id) refl (entry_is entries id e) found
  where
    by : (b : Bool) → (x.id == id) ≡ b → (entry_of entries id ≡ Some e → e.id ≡ id) → cond b (Some x) (entry_of entries id) ≡ Some e → e.id ≡ id
    by true is later here = ap (λ (y : TableEntry). y.id) (sym (same_Some x e here)) ∙ eqb-true x.id id is
    by false is later there = later there

own_entry : (entries : List TableEntry) (id : ℕ) (e : TableEntry) → entry_of entries id ≡ Some e → entry_of entries e.id ≡ Some e
own_entry entries id e found = subst (λ (i : ℕ). entry_of entries i ≡ Some e) (sym (entry_is entries id e found)) found

by_entry : (P : Type 0) (o : Option TableEntry) → (o ≡ None → P) → ((e : TableEntry) → o ≡ Some e → P) → P
by_entry P None none some = none refl
by_entry P (Some e) none some = some e refl

module _ (t : StoredTable) (are : AreTableEntries t.next_id t.root t.entries) where
  entry_at : (id : ℕ) (e : TableEntry) → entry_of t.entries id ≡ Some e → IsTableEntry e
  entry_at id e found =
      let at = entry_stands t.entries id e found in
      subst IsTableEntry at.2 (are.each at.0 e at.1)

  below_next : (id : ℕ) (e : TableEntry) → entry_of t.entries id ≡ Some e → e.id < t.next_id
  below_next id e found =
      let at = entry_stands t.entries id e found in
      subst (λ (o : TableEntry). o.id < t.next_id) at.2 (are.below_next at.0 e at.1)

  -- an id has an entry where its references aren't 0
  kept_entry : (P : Type 0) (id : ℕ) → 1 ≤ refs_in (entry_of t.entries id) → ((e : TableEntry) → entry_of t.entries id ≡ Some e → P) → P
  kept_entry P id kept then =
      by_entry P (entry_of t.entries id)
      (λ none.
      let no_refs : refs_in (entry_of t.entries id) ≡ 0 = ap refs_in none in
      absurd (omega arith))
      then

  -- ---- the table

  pub is_table : (nodes : Nodes) → IsTable (table_of t nodes)
  is_table nodes =
      let root = are.has_root in
      let e : TableEntry = root.1 in
      let own : entry_of t.entries e.id ≡ Some e = entry_found t.entries e are.rising (root.0, root.2, root.3) in
      let found : entry_of t.entries t.root ≡ Some e = subst (λ (i : ℕ). entry_of t.entries i ≡ Some e) root.4.0 own in
      record {
        root = subst (λ (o : Option TableEntry). 1 ≤ refs_in o) (sym found) (entry_at t.root e found).refs;
        inner = subst (λ (o : Option TableEntry). 1 ≤ level_in o) (sym found) root.4.1;
        low = λ id kept. kept_entry (1 ≤ id) id kept (λ o there. subst (λ (i : ℕ). 1 ≤ i) (entry_is t.entries id o there) (entry_at id o there).id);
        below = λ id kept. kept_entry (id < t.next_id) id kept (λ o there. subst (λ (i : ℕ). i < t.next_id) (entry_is t.entries id o there) (below_next id o there));
      }

  pub are_ids : (nodes : Nodes) → AreIdsOf (table_of t nodes) (ids_of t.entries)
  are_ids nodes = record {
    once = λ i j d up within same.
        let none : TableEntry = record { id = 0; refs = 0; slot = 0; level = 0 } in
        let long : length (ids_of t.entries) ≡ length t.entries = length-map t.entries (λ (e : TableEntry). e.id) in
        let inside : j < length t.entries = omega (arith, within, long) in
        let first : get_or (ids_of t.entries) i d ≡ (get_or t.entries i none).id = get_or-map (λ (e : TableEntry). e.id) t.entries i none d (omega (arith, up, inside)) in
        let second : get_or (ids_of t.entries) j d ≡ (get_or t.entries j none).id = get_or-map (λ (e : TableEntry). e.id) t.entries j none d inside in
        let less : (get_or t.entries i none).id < (get_or t.entries j none).id = are.rising i j none up inside in
        omega (arith, first, second, less, same);
    kept = All-map (IsKept (table_of t nodes)) (λ (e : TableEntry). e.id) t.entries
        (λ k d within.
        subst (λ (o : Option TableEntry). 1 ≤ refs_in o) (sym (entry_found t.entries (get_or t.entries k d) are.rising (Contains-get_or t.entries k d within))) (are.each k d within).refs);
    below = All-map (λ (id : ℕ). id < t.next_id) (λ (e : TableEntry). e.id) t.entries are.below_next;
    each = λ id kept.
        kept_entry (Contains (ids_of t.entries) id) id kept (λ e found.
        let at = entry_stands t.entries id e found in
        let long : length (ids_of t.entries) ≡ length t.entries = length-map t.entries (λ (o : TableEntry). o.id) in
        let is : get_or (ids_of t.entries) at.0 id ≡ id =
        get_or-map (λ (o : TableEntry). o.id) t.entries at.0 e id at.1 ∙ ap (λ (o : TableEntry). o.id) at.2 ∙ entry_is t.entries id e found in
        let inside : at.0 < length (ids_of t.entries) = (let low : at.0 < length t.entries = at.1 in omega (arith, long)) in
        (at.0, inside, is));
  }

  -- ---- nodes

  -- without references there is no entry, and no node
  pub no_node : (image : Image) (id : ℕ) → refs_in (entry_of t.entries id) ≡ 0 → nodes_in image t id ≡ None
  no_node image id none =
      by_entry (nodes_in image t id ≡ None) (entry_of t.entries id)
      (λ absent. ap (node_of_entry image) absent)
      (λ e found.
      let some : 1 ≤ e.refs = (entry_at id e found).refs in
      let is : refs_in (entry_of t.entries id) ≡ e.refs = ap refs_in found in
      absurd (omega arith))

  lower_kept : (nodes : Nodes) (level c : ℕ) (o : Option TableEntry) → entry_of t.entries c ≡ o → IsLowerLevel level (option_map (λ (e : TableEntry). e.level) o) → IsLower (table_of t nodes) level c
  lower_kept nodes level c None is lower = absurd lower
  lower_kept nodes level c (Some e) is lower = record {
    kept = subst (λ (o : Option TableEntry). 1 ≤ refs_in o) (sym is) (entry_at c e is).refs;
    lower = subst (λ (o : Option TableEntry). level_in o < level) (sym is) lower;
  }

  -- the names in all nodes are those in the nodes of the entries
  pub all_named : (image : Image) (c : ℕ) → named_so_far (nodes_in image t) t (ids_of t.entries) c ≡ references (nodes_in image t) t.next_id t.root c
  all_named image c =
      ap (λ (n : ℕ). n + one_if t.root c)
      (sym (names_listed (nodes_in image t) (table_of t (nodes_in image t)) (ids_of t.entries) (are_ids (nodes_in image t)) (no_node image) c))

  pub miscounted : (image : Image) (id : ℕ) → IsLeastWrong (named_so_far (nodes_in image t) t (ids_of t.entries)) t.entries id → IsMiscounted image t id
  miscounted image id least = record {
    entry = least.entry;
    among = least.among;
    id_is = least.id_is;
    wrong = λ same. least.wrong (same ∙ sym (all_named image least.entry.id));
    least = λ k d within below. least.least k d within below ∙ all_named image (get_or t.entries k d).id;
  }

module _ (decodes : (n : Node) (bytes : List ℕ) → IsShape n → IsImage n bytes → node_in bytes ≡ Some n) (image : Image) (t : StoredTable) (good : HaveGoodNodes image t) where
  pub held : HoldsNodes image t (nodes_in image t)
  held = record { each = λ id. at id (entry_of t.entries id) refl }
    where
      at : (id : ℕ) (o : Option TableEntry) → entry_of t.entries id ≡ o → IsNodeAt image o (node_of_entry image o)
      at id None is = tt
      at id (Some e) is =
          let node = good e (own_entry t.entries id e is) in
          let has : HasNode image e.slot e.level node.0 = node.1.held in
          subst (λ (n : Option Node). IsNodeAt image (Some e) n) (sym (decodes node.0 (slot_bytes image e.slot) has.shape has.image_is)) has

  module _ (are : AreTableEntries t.next_id t.root t.entries) where
    pub stored : (id : ℕ) → IsKept (table_of t (nodes_in image t)) id → IsStored (nodes_in image t) (table_of t (nodes_in image t)) id
    stored id kept =
        let table : Table = table_of t (nodes_in image t) in
        kept_entry t are (IsStored (nodes_in image t) (table_of t (nodes_in image t)) id) id kept (λ e is.
        let node = good e (own_entry t.entries id e is) in
        let n : Node = node.0 in
        let has : HasNode image e.slot e.level n = node.1.held in
        let own : IsNodeOf table e.level n = record {
          shape = has.shape;
          level_is = has.level_is;
          lower = each_weaker (λ (c : ℕ). IsLowerLevel e.level (level_at t.entries c)) (IsLower table e.level)
              (λ c lower. lower_kept t are (nodes_in image t) e.level c (entry_of t.entries c) refl lower) (names n) node.1.lower;
        } in
        record {
          node = n;
          there = ap (node_of_entry image) is ∙ decodes n (slot_bytes image e.slot) has.shape has.image_is;
          of_table = subst (λ (l : ℕ). IsNodeOf table l n) (sym (ap level_in is)) own;
        })

    pub sound : AreRight (named_so_far (nodes_in image t) t (ids_of t.entries)) t.entries → IsSound (nodes_in image t) (table_of t (nodes_in image t))
    sound right =
        counted_sound (nodes_in image t) (table_of t (nodes_in image t)) (ids_of t.entries) (is_table t are (nodes_in image t)) (are_ids t are (nodes_in image t))
        stored (no_node t are image) (λ root there. sym (ap buffer_size_in there)) counted
      where
        counted : (id : ℕ) → IsKept (table_of t (nodes_in image t)) id → IsCounted (nodes_in image t) (table_of t (nodes_in image t)) (ids_of t.entries) id
        counted id kept =
            kept_entry t are (IsCounted (nodes_in image t) (table_of t (nodes_in image t)) (ids_of t.entries) id) id kept (λ e is.
            let at = entry_stands t.entries id e is in
            let here : e.refs ≡ named_so_far (nodes_in image t) t (ids_of t.entries) e.id = subst (λ (o : TableEntry). o.refs ≡ named_so_far (nodes_in image t) t (ids_of t.entries) o.id) at.2 (right at.0 e at.1) in
            ap refs_in is ∙ here ∙ ap (named_so_far (nodes_in image t) t (ids_of t.entries)) (entry_is t.entries id e is))
