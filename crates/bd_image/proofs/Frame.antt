-- What an image stands for where its used blocks stay.
use Rattle.std.proofs.Common.{◌≡◌, ℕ, zero, suc, ◌+◌, ◌-◌, ◌/◌, ◌<◌, ◌≤◌, inl, inr, List, [], ◌∷◌, ◌++◌, length, take, drop, min, get_or, Option, None, Some, refl, sym, ap, subst, ◌∙◌, arith, length-append}
use Rattle.std.specs.Prelude.{slice_index}
use Rattle.std.specs.List.{concat}
use Rattle.std.proofs.lemmas.List.{length-drop, length-take, ext_get_or, get_or-take, get_or-drop, get_or_default, get_or_append_left, get_or-append_right, get_or-map, length-map}
use Rattle.bd_model.specs.Tree.{Tree}
use Rattle.bd_slots.specs.Layout.{slot_block}
use Rattle.bd_device.specs.Blocks.{Image}
use Rattle.bd_device.specs.Changes.{IsInRange, bytes_at}
use Rattle.bd_device.specs.Commits.{block_at, IsCommitted}
use Rattle.bd_format.specs.Images.{IsImage}
use Rattle.bd_node.specs.declared.node.Node.{Node}
use Rattle.bd_node.specs.Meaning.{Nodes}
use Rattle.bd_table.specs.Tables.{slots_of}
use Rattle.bd_table.specs.Image.{table_block, block_total, first_bytes, HoldsTable}
use Rattle.bd_table.specs.declared.table.Table.{Table as StoredTable}
use Rattle.bd_table.specs.declared.table.TableEntry.{TableEntry}
use Rattle.bd_table.proofs.BlockLemmas.{first_bytes_more}
use Rattle.bd_table.proofs.EntryLemmas.{entry_stands}
use Rattle.bd_super.specs.Superblocks.{log_block}
use Rattle.bd_super.specs.Live.{IsLive}
use Rattle.bd_super.specs.declared.superblock.Super.{Super}
use Rattle.bd_log.specs.Batches.{IsBatchAt, AreChained, AreBatches, body_blocks}
use Rattle.bd_log.specs.declared.batch.Batch.{Batch}
use Rattle.bd_tails.specs.Tails.{slot_bytes, IsOfSlot}
use Rattle.bd_table.specs.Entries.{entry_of}
use Rattle.bd_image.specs.Stored.{IsNodeAt, HoldsNodes}
use Rattle.bd_image.specs.ImageTree.{HasTree}
use Rattle.bd_image.specs.Used.{used_slots, IsOfSlots, SameBlocks, SameSlots, SameUsed}

-- ---- blocks in a row

row_same : (old new : Image) (b n : ℕ) → length new ≡ length old → ((i : ℕ) → b ≤ i → i < b + n → block_at new i ≡ block_at old i) → take n (drop b new) ≡ take n (drop b old)
row_same old new b n size same =
    let long : length (take n (drop b new)) ≡ length (take n (drop b old)) =
    length-take n (drop b new) ∙ ap (min n) (length-drop b new ∙ ap (λ k. k - b) size ∙ sym (length-drop b old)) ∙ sym (length-take n (drop b old)) in
    ext_get_or [] (take n (drop b new)) (take n (drop b old)) long
    (λ i lt.
    let below : i < n = omega (arith, lt, length-take n (drop b new)) in
    get_or-take n (drop b new) i [] below ∙ get_or-drop b new i []
    ∙ same (b + i) (omega arith) (omega arith)
    ∙ sym (get_or-drop b old i []) ∙ sym (get_or-take n (drop b old) i [] below))

pub bytes_same : (old new : Image) (b n : ℕ) → length new ≡ length old → ((i : ℕ) → b ≤ i → i < b + n → block_at new i ≡ block_at old i) → bytes_at new b n ≡ bytes_at old b n
bytes_same old new b n size same = ap concat (row_same old new b n size same)

-- ---- which slots are used

table_used : (at : List ℕ) (t : StoredTable) (k : ℕ) → k < block_total at → IsOfSlots (used_slots at t) (table_block at k)
table_used at t k lt =
    let below : k / 16 < length at = omega (arith, lt) in
    let slot : ℕ = slice_index at (k / 16) in (
      k / 16,
      slot,
      omega (arith, below, length-append at (slots_of t.entries)),
      get_or_append_left at (slots_of t.entries) slot (k / 16) below ∙ get_or_default at (k / 16) slot 0 below,
      (omega arith, omega arith),
    )

node_used : (at : List ℕ) (t : StoredTable) (id : ℕ) (e : TableEntry) (b : ℕ) → entry_of t.entries id ≡ Some e → IsOfSlot e.slot b → IsOfSlots (used_slots at t) b
node_used at t id e b found own =
    let stands = entry_stands t.entries id e found in
    let slots : List ℕ = slots_of t.entries in
    let long : length slots ≡ length t.entries = length-map t.entries (λ (x : TableEntry). x.slot) in
    let there : get_or slots stands.0 e.slot ≡ e.slot = get_or-map (λ (x : TableEntry). x.slot) t.entries stands.0 e e.slot stands.1 ∙ ap (λ (x : TableEntry). x.slot) stands.2 in
    let index : length at + stands.0 - length at ≡ stands.0 = omega arith in (
      length at + stands.0,
      e.slot,
      omega (arith, stands.1, long, length-append at slots),
      get_or-append_right at slots (length at) (length at + stands.0) e.slot refl (omega arith) ∙ ap (λ i. get_or slots i e.slot) index ∙ there,
      own,
    )

-- ---- the table

first_same : (at : List ℕ) (t : StoredTable) (old new : Image) → SameSlots (used_slots at t) old new → (k : ℕ) → k ≤ block_total at → first_bytes new at k ≡ first_bytes old at k
first_same at t old new same zero le = refl
first_same at t old new same (suc k) le =
    let one : suc k ≡ k + 1 = omega arith in
    let b : ℕ = table_block at k in
    let front : first_bytes new at k ≡ first_bytes old at k = first_same at t old new same k (omega arith) in
    let next : block_at new b ≡ block_at old b = same b (table_used at t k (omega arith)) in
    let more : first_bytes new at (k + 1) ≡ first_bytes old at (k + 1) =
    first_bytes_more new at k ∙ ap (λ l. l ++ block_at new b) front ∙ ap (λ l. first_bytes old at k ++ l) next ∙ sym (first_bytes_more old at k) in
    subst (λ (n : ℕ). first_bytes new at n ≡ first_bytes old at n) (sym one) more

pub table_same : (slots : ℕ) (at : List ℕ) (t : StoredTable) (old new : Image) → SameSlots (used_slots at t) old new → HoldsTable old slots at t → HoldsTable new slots at t
table_same slots at t old new same h = (h.0, first_same at t old new same (block_total at) (omega arith) ∙ h.1)

-- ---- the nodes

node_same : (at : List ℕ) (t : StoredTable) (old new : Image) → length new ≡ length old → SameSlots (used_slots at t) old new → (id : ℕ) (o : Option TableEntry) (n : Option Node) → entry_of t.entries id ≡ o
    → IsNodeAt old o n → IsNodeAt new o n
node_same at t old new size same id None None found h = h
node_same at t old new size same id None (Some n) found h = absurd h
node_same at t old new size same id (Some e) None found h = absurd h
node_same at t old new size same id (Some e) (Some n) found h =
    let bytes : slot_bytes new e.slot ≡ slot_bytes old e.slot =
    bytes_same old new (slot_block e.slot) 16 size (λ i low high. same i (node_used at t id e i found (low, high))) in
    record { shape = h.shape; level_is = h.level_is; image_is = subst (IsImage n) (sym bytes) h.image_is }

pub nodes_same : (at : List ℕ) (t : StoredTable) (nodes : Nodes) (old new : Image) → length new ≡ length old → SameSlots (used_slots at t) old new → HoldsNodes old t nodes → HoldsNodes new t nodes
nodes_same at t nodes old new size same h = record { each = λ id. node_same at t old new size same id (entry_of t.entries id) (nodes id) refl (h.each id) }

-- ---- the batches

-- the blocks of a half stay
abbrev pub SameHalf : ℕ → Image → Image → Type 0
SameHalf first = SameBlocks (IsInRange first (first + 64))

committed_back : (first place : ℕ) (old new : Image) → SameHalf first old new → place < 64 → IsCommitted new (first + place) → IsCommitted old (first + place)
committed_back first place old new same lt h = sym (ap (λ (l : List ℕ). slice_index l 0) (same (first + place) (omega arith, omega arith))) ∙ h

committed_same : (first place : ℕ) (old new : Image) → SameHalf first old new → place < 64 → IsCommitted old (first + place) → IsCommitted new (first + place)
committed_same first place old new same lt h = ap (λ (l : List ℕ). slice_index l 0) (same (first + place) (omega arith, omega arith)) ∙ h

batch_same : (first epoch place : ℕ) (old new : Image) (batch : Batch) → length new ≡ length old → SameHalf first old new → IsBatchAt old first epoch place batch → IsBatchAt new first epoch place batch
batch_same first epoch place old new batch size same h = record {
  body = h.body;
  some = h.some;
  each = h.each;
  room = h.room;
  bytes = bytes_same old new batch.body (body_blocks batch.records) size (λ i low high. same i (omega (arith, low, h.body), omega (arith, high, h.body, h.room))) ∙ h.bytes;
}

chain_same : (first epoch place : ℕ) (old new : Image) (batches : List Batch) (end : ℕ) → length new ≡ length old → SameHalf first old new → place < 64
    → AreChained old first epoch place batches end → AreChained new first epoch place batches end × (end < 64)
chain_same first epoch place old new [] end size same lt h = (h, omega (arith, lt, h))
chain_same first epoch place old new (batch ∷ batches) end size same lt h =
    let rest = chain_same first epoch (place + 1 + body_blocks batch.records) old new batches end size same (omega (arith, h.1.room)) h.2 in
    ((committed_same first place old new same lt h.0, batch_same first epoch place old new batch size same h.1, rest.0), rest.1)

pub batches_same : (first epoch : ℕ) (old new : Image) (batches : List Batch) (end : ℕ) → length new ≡ length old → SameHalf first old new
    → AreBatches old first epoch batches end → AreBatches new first epoch batches end
batches_same first epoch old new batches end size same h =
    let chain = chain_same first epoch 0 old new batches end size same (omega arith) h.follow in
    record { follow = chain.0; closed = λ on. h.closed (committed_back first end old new same chain.1 on) }

-- ---- the image

pub tree_same : (s : Super) (t : StoredTable) (place : ℕ) (tree : Tree) (count : ℕ) (old new : Image) → SameUsed s t old new → IsLive new s → HasTree s t place tree count old → HasTree s t place tree count new
tree_same s t place tree count old new same live h =
    let size : length new ≡ length old = live.held.size ∙ sym h.starts.live.held.size in
    let half : SameHalf (log_block s.half) old new = λ b own. same b (inl own) in
    let slots : SameSlots (used_slots s.table t) old new = λ b own. same b (inr own) in
    record {
      nodes = h.nodes;
      base = h.base;
      batches = h.batches;
      starts = record { live = live; table = table_same s.slots s.table t old new slots h.starts.table; stored = nodes_same s.table t h.nodes old new size slots h.starts.stored };
      have = h.have;
      logged = batches_same (log_block s.half) s.epoch old new h.batches place size half h.logged;
      leads = h.leads;
      count_is = h.count_is;
    }
