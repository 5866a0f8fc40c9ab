-- A pager while a checkpoint of its nodes is made.
use Rattle.std.proofs.Common.{◌≡◌, ℕ, ◌<◌, inl, inr, Bool, false, ◌&&◌, List, ◌++◌, length, Option, None, Some, IfSome, refl, sym, ap, subst, ◌∙◌}
use Rattle.std.specs.Prelude.{Contains}
use Rattle.std.proofs.Math.Bool.{and-false}
use Rattle.std.proofs.lemmas.List.Elements.{Contains-append_right}
use Rattle.bd_model.specs.Tree.{Tree}
use Rattle.bd_device.specs.Changes.{StaysBut}
use Rattle.bd_device.specs.declared.device.Device.{Ghosts}
use Rattle.bd_node.specs.Meaning.{Nodes}
use Rattle.bd_node.specs.Tables.{Table}
use Rattle.bd_node.specs.Steps.{with_touched}
use Rattle.bd_table.specs.Tables.{AreFreeSlots, IsTableAt, slots_of}
use Rattle.bd_table.specs.declared.table.Table.{Table as StoredTable}
use Rattle.bd_table.specs.declared.table.TableEntry.{TableEntry}
use Rattle.bd_super.specs.declared.superblock.Super.{Super}
use Rattle.bd_log.specs.Logs.{LogState}
use Rattle.bd_pager.specs.declared.place.Spot.{Spot}
use Rattle.bd_pager.specs.declared.written.Written.{Written}
use Rattle.bd_pager.specs.Moving.{Spills}
use Rattle.bd_pager.specs.WritingOut.{IsWrittenOut}
use Rattle.bd_pager.specs.Slots.{IsSpare}
use Rattle.bd_pager.specs.Places.{Spots, IsBadSpot}
use Rattle.bd_pager.specs.Pagers.{Paged, cache_room, spots_of, nodes_of, table_at, touched_at, table_of, is_saved, is_changed, is_known, IsEntryOf, AreEntriesOf, IsReady, saved_as}
use Rattle.bd_pager.proofs.CountingLemmas.{held_unchanged}
use Rattle.bd_pager.proofs.FlagLemmas.{taken_held, entry_slot}
use Rattle.bd_pager.proofs.SpilledLemmas.{spilled_table}
use Rattle.bd_checkpoint.specs.Following.{HasTableOf, AreWritten, saved_by}
use Rattle.bd_checkpoint.specs.Kept.{Saved, slots_held, IsOpenOn, AreOfTree}
use Rattle.bd_checkpoint.specs.Recovering.{saved_of}
use Rattle.bd_checkpoint.specs.Saving.{KeepsNodes, StaysUnsaved, IsSaved}
use Rattle.bd_checkpoint.specs.Surviving.{IsLow, IsLowOrSpare, SurvivesOn}
use Rattle.bd_checkpoint.proofs.Slots.{stays_both, stays_same, stays_wider}
use Rattle.bd_checkpoint.proofs.WrittenOut.{AreEncoded, are_written, table_written}

-- ---- nothing is changed since what was written

module _ (spare : List Bool) (spots : Spots) (root next : ℕ) (w : Written) (ready : IsReady spare spots root next w) where
  unchanged : (id : ℕ) (o : Option Spot) → spots id ≡ o → is_changed w.spare o ≡ false
  unchanged id None there = refl
  unchanged id (Some s) there =
      let found = ready.entries.all id s there in
      let e : TableEntry = found.1 in
      let own : IsEntryOf e (spots e.id) = subst (λ (x : TableEntry). IsEntryOf x (spots x.id)) found.3 (ready.entries.each found.0 e found.2) in
      let mine : IsEntryOf e (Some s) = subst (λ (o : Option Spot). IsEntryOf e o) (ap spots found.4 ∙ there) own in
      let among : Contains w.table.entries e = (found.0, found.2, found.3) in
      let taken : Contains (w.at ++ slots_of w.table.entries) e.slot = Contains-append_right w.at (slots_of w.table.entries) e.slot (entry_slot w.table.entries e among) in
      let low : e.slot < length spare = subst (λ (k : ℕ). k < length spare) taken.2 (ready.table.differ.below taken.0 e.slot taken.1) in
      held_unchanged w.spare e.slot s.place (taken_held (length spare) (w.at ++ slots_of w.table.entries) w.spare e.slot ready.spare_is low taken) mine.2

  none_touched : ◌≡◌ {A = ℕ → Bool} (touched_at w.table.entries w.spare spots) (λ id. false)
  none_touched = λ i id. one id i
    where
      one : (id : ℕ) → touched_at w.table.entries w.spare spots id ≡ false
      one id = ap (λ (b : Bool). is_saved w.table.entries id && b) (unchanged id (spots id) refl) ∙ and-false (is_saved w.table.entries id)

  saved_table : (size : ℕ) → table_at spots root size next (touched_at w.table.entries w.spare spots) ≡ table_at spots root size next (λ id. false)
  saved_table size = ap (λ (f : ℕ → Bool). table_at spots root size next f) none_touched

-- ---- what is left

-- no call of the device
pub untouched : {D : Type 0} (g : Ghosts D) (p : Paged D) → SurvivesOn g p p
untouched g p = record { rest = refl; nodes = refl; elsewhere = stays_same IsLow (g.contents p.dev); known = λ was. was; bad = λ id b h. h }

module _ {D : Type 0} (g : Ghosts D) (old mid last : Paged D) (spills : Spills g old mid) (survives : SurvivesOn g mid last) where
  pub keeps : KeepsNodes g old last
  keeps = record {
    elsewhere = stays_both (IsLowOrSpare old.spare) (g.contents old.dev) (g.contents mid.dev) (g.contents last.dev)
        (stays_wider (IsSpare old.spare) (IsLowOrSpare old.spare) (g.contents old.dev) (g.contents mid.dev) (λ b not is. not (inr is)) spills.moves.elsewhere)
        (stays_wider IsLow (IsLowOrSpare old.spare) (g.contents mid.dev) (g.contents last.dev) (λ b not is. not (inl is)) survives.elsewhere);
    known = λ was. survives.known (spills.moves.known was);
    nodes = λ was. survives.nodes ∙ (λ i id. spills.moves.nodes was id i);
    bad = λ was id b h. spills.bad was id b (survives.bad id b h);
    room = ap (λ (x : Paged D). cache_room x) survives.rest ∙ spills.room;
  }

  abbrev with_device : Paged D → Paged D
  with_device x = record old { dev = last.dev; spots = x.spots; cache = x.cache; tails = x.tails; written = x.written }

  rest : last ≡ with_device last
  rest = survives.rest ∙ ap (λ (x : Paged D). let p : Paged D = record x { dev = last.dev } in p) spills.rest ∙ sym (ap with_device survives.rest)

  pub unsaved : StaysUnsaved g old last
  unsaved = record {
    keeps = keeps;
    table = ap (λ (x : Paged D). table_of x) survives.rest ∙ spilled_table g old mid spills;
    rest = rest;
  }

  module _ (at : List ℕ) (w : IsWrittenOut (g.contents mid.dev) at mid) (new : Paged D) (marked : new ≡ saved_as w.written last) where
    abbrev with_saved : Paged D → Paged D
    with_saved x = record old { dev = x.dev; spots = x.spots; saved = x.saved; at = x.at; spare = x.spare; cache = x.cache; tails = x.tails; written = None }

    same_spare : mid.spare ≡ old.spare
    same_spare = ap (λ (x : Paged D). x.spare) spills.rest

    table : table_of new ≡ with_touched (λ id. false) (table_of old)
    table =
        ap (λ (x : Paged D). table_of x) marked
        ∙ ap (λ (x : Paged D). table_of (saved_as w.written x)) survives.rest
        ∙ saved_table mid.spare (spots_of mid) mid.root mid.next w.written w.ready mid.size
        ∙ ap (with_touched (λ id. false)) (spilled_table g old mid spills)

    free : AreFreeSlots (length old.spare) (slots_held (saved_of new)) new.spare
    free =
        subst (λ (x : Paged D). AreFreeSlots (length old.spare) (slots_held (saved_of x)) x.spare) (sym marked)
        (subst (λ (l : List Bool). AreFreeSlots (length l) (w.written.at ++ slots_of w.written.table.entries) w.written.spare) same_spare w.ready.spare_is)

    entries : AreEntriesOf new.saved.entries (spots_of new)
    entries =
        subst (λ (x : Paged D). AreEntriesOf x.saved.entries (spots_of x)) (sym marked)
        (subst (λ (x : Paged D). AreEntriesOf w.written.table.entries (spots_of x)) (sym survives.rest) w.ready.entries)

    root : new.saved.root ≡ new.root
    root =
        ap (λ (x : Paged D). x.saved.root) marked ∙ w.ready.root_is
        ∙ sym (ap (λ (x : Paged D). x.root) survives.rest) ∙ sym (ap (λ (x : Paged D). x.root) marked)

    next : new.saved.next_id ≡ new.next
    next =
        ap (λ (x : Paged D). x.saved.next_id) marked ∙ w.ready.next_is
        ∙ sym (ap (λ (x : Paged D). x.next) survives.rest) ∙ sym (ap (λ (x : Paged D). x.next) marked)

    place : IsTableAt (length old.spare) new.at new.saved
    place =
        subst (λ (x : Paged D). IsTableAt (length old.spare) x.at x.saved) (sym marked)
        (subst (λ (l : List Bool). IsTableAt (length l) w.written.at w.written.table) same_spare w.ready.table)

    pub all_saved : IsSaved g old new
    all_saved = record {
      keeps = record {
        elsewhere = subst (λ (x : Paged D). StaysBut (IsLowOrSpare old.spare) (g.contents old.dev) (g.contents x.dev)) (sym marked) keeps.elsewhere;
        known = λ was. subst (λ (x : Paged D). is_known g x) (sym marked) (keeps.known was);
        nodes = λ was. ap (λ (x : Paged D). nodes_of g x) marked ∙ keeps.nodes was;
        bad = λ was id b h. keeps.bad was id b (subst (λ (x : Paged D). IsBadSpot (g.contents x.dev) (spots_of x id) b) marked h);
        room = ap (λ (x : Paged D). cache_room x) marked ∙ keeps.room;
      };
      table = table;
      entries = entries;
      root = root;
      next = next;
      place = place;
      spare = free;
      rest = marked ∙ ap (saved_as w.written) rest ∙ sym (ap with_saved marked);
    }

-- ---- a superblock with the table that was written

module _ {D : Type 0} (g : Ghosts D) (old mid : Paged D) (spills : Spills g old mid) (at : List ℕ) (w : IsWrittenOut (g.contents mid.dev) at mid) (s : Super) (slots : s.slots ≡ length mid.spare) (table : s.table ≡ at) where
  -- the nodes that are written have the same tree
  of_tree : (tree : Tree) → is_known g old → AreOfTree (nodes_of g old) (table_of old) tree → AreOfTree (nodes_of g mid) (table_of mid) tree
  of_tree tree known of =
      let nodes : nodes_of g mid ≡ nodes_of g old = (λ i id. spills.moves.nodes known id i) in
      subst (λ (t : Table). AreOfTree (nodes_of g mid) t tree) (sym (spilled_table g old mid spills))
      (subst (λ (m : Nodes). AreOfTree m (table_of old) tree) (sym nodes) of)

  pub written_for : AreEncoded → (tree : Tree) → is_known g old → AreOfTree (nodes_of g old) (table_of old) tree → AreWritten (g.contents mid.dev) s w.written.table (nodes_of g mid) tree
  written_for encoded tree known of = are_written g encoded mid at s tree w slots table (spills.moves.known known) (of_tree tree known of)

  module _ (last new : Paged D) (survives : SurvivesOn g mid last) (marked : IfSome last.written (λ (v : Written). new ≡ saved_as v last)) where
    -- what was written is the last checkpoint
    marked_is : new ≡ saved_as w.written last
    marked_is = subst (λ (o : Option Written). IfSome o (λ (v : Written). new ≡ saved_as v last)) (ap (λ (x : Paged D). x.written) survives.rest ∙ w.written_is) marked

    pub at_new : new.at ≡ at
    at_new = ap (λ (x : Paged D). x.at) marked_is ∙ w.at_is

    pub device_new : new.dev ≡ last.dev
    device_new = ap (λ (x : Paged D). x.dev) marked_is

    pub saved_new : IsSaved g old new
    saved_new = all_saved g old mid last spills survives at w new marked_is

    pub open_new : (log : LogState) → ((t : StoredTable) → IfSome (g.contents mid.dev) (HasTableOf s t) → IsOpenOn g last.dev s (saved_by s t) log) → IsOpenOn g new.dev s (saved_of new) log
    open_new log published =
        let here : IsOpenOn g last.dev s (saved_by s w.written.table) log = published w.written.table (table_written g mid at s w slots table) in
        subst (λ (x : Paged D). IsOpenOn g x.dev s (saved_of x) log) (sym marked_is)
        (subst (λ (l : List ℕ). IsOpenOn g last.dev s (let saved : Saved = record { at = l; table = w.written.table } in saved) log) (table ∙ sym w.at_is) here)
