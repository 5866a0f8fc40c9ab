-- How commands, syncs and checkpoints move the view of a volume on a device.
use Rattle.std.specs.Prelude.{◌≡◌, ℕ, ◌+◌, ◌<◌, ◌≤◌, ◌⊎◌, ◌==◌, false, if◌then◌else◌, List, [], ◌∷◌, IsTrue}
use Rattle.bd_limits.specs.Limits.{flush_limit}
use Rattle.bd_command.specs.Command.{writes}
use Rattle.bd_command.specs.declared.Command.{Command}
use Rattle.bd_model.specs.Tree.{Tree}
use Rattle.bd_model.specs.Laws.{after}
use Rattle.bd_dirs.specs.Kinds.{kind_of}
use Rattle.bd_dirs.specs.Sendings.{sending}
use Rattle.bd_node.specs.Steps.{with_touched}
use Rattle.bd_node.specs.Tables.{IsKept}
use Rattle.bd_log.specs.Batches.{blocks_for}
use Rattle.bd_image.specs.Versions.{mode_version}
use Rattle.bd_view.specs.Trees.{FlushesFor, IsSettledFor, HasSent, source_of, sent_from, waiting_limit}
use Rattle.bd_view.specs.Views.{View, keys_of, is_saved, changed_count, kept_ids, free_slots, save_slots, need_slots, record_room, log_size}

-- ---- between checkpoints

-- nodes alone change: of those that the last checkpoint has and that stay, one that was touched
-- stays so, and one that isn't is what it was
pub record OnlyNodes (old new : View) : Type 0 where
  pub touched : (id : ℕ) → IsKept new.tree.table id → IsTrue (is_saved old id)
      → IsTrue (old.tree.table.touched id) → IsTrue (new.tree.table.touched id)
  pub same : (id : ℕ) → IsKept new.tree.table id → IsTrue (is_saved old id)
      → new.tree.table.touched id ≡ false → new.tree.nodes id ≡ old.tree.nodes id
  pub rest : new ≡ record old { tree = new.tree }

-- ---- checkpoints

-- after a checkpoint no node is touched, it has the kept ones and the version that is written, and
-- the log begins anew
abbrev pub saved_view : View → View
saved_view v = record v {
  tree = record v.tree { table = with_touched (λ id. false) v.tree.table };
  saved = kept_ids v.tree.table;
  version = mode_version;
  epoch = v.epoch + 1;
  place = 0;
  waiting = 0;
}

-- a checkpoint was made, for which slots were free
pub record Saves (old new : View) : Type 0 where
  pub room : save_slots old ≤ free_slots old
  pub after : new ≡ saved_view old

-- so many slots are free, and a checkpoint needs more, so many
pub record IsCheckpointFull (v : View) (free need : ℕ) : Type 0 where
  pub free_is : free ≡ free_slots v
  pub need_is : need ≡ save_slots v
  pub short : free < need

-- no checkpoint makes more slots free: nothing has changed since the last one, or there are too few
-- for one
abbrev pub CannotSave : View → Type 0
CannotSave v = (changed_count v ≡ 0) ⊎ (free_slots v < save_slots v)

-- ---- within a command

-- a writing command made one flush step, for which slots were free
pub record FlushesIn (c : Command) (old new : View) : Type 0 where
  pub room : need_slots c old ≤ free_slots old
  pub flushes : FlushesFor c old.tree new.tree
  pub rest : OnlyNodes old new

-- too few slots are free for its next step, or the log has no room for its record
abbrev pub CallsForSave : Command → View → Type 0
CallsForSave c v = (free_slots v < need_slots c v) ⊎ (record_room c v < log_size c)

-- a writing command made a checkpoint that it needed
pub record SavesIn (c : Command) (old new : View) : Type 0 where
  pub writing : IsTrue (writes c)
  pub calls_for : CallsForSave c old
  pub saves : Saves old new

-- so many flush steps of a command, and checkpoints, lead from the first view to the second
pub data AreSteps (c : Command) : ℕ → View → View → Type 0 where
  none : (v : View) → AreSteps c 0 v v
  flush : (n : ℕ) (v w x : View) → AreSteps c n v w → FlushesIn c w x → AreSteps c (n + 1) v x
  save : (n : ℕ) (v w x : View) → AreSteps c n v w → SavesIn c w x → AreSteps c n v x

-- a command made them, at most 65,536 flush steps
pub record HasStepped (c : Command) (old new : View) : Type 0 where
  pub made : ℕ
  pub steps : AreSteps c made old new
  pub few : made ≤ flush_limit

-- after them so many slots are free and the next one, or what the command sends, needs more, so
-- many; and no checkpoint helps
pub record IsCommandFull (c : Command) (old new : View) (free need : ℕ) : Type 0 where
  pub writing : IsTrue (writes c)
  pub stepped : HasStepped c old new
  pub free_is : free ≡ free_slots new
  pub need_is : need ≡ need_slots c new
  pub short : free < need
  pub unsaved : CannotSave new

-- neither is needed: little waits in the root, no step is due on the way of a source, and there is
-- room in slots and in the log
pub record IsQuietFor (c : Command) (v : View) : Type 0 where
  pub enough : v.tree.table.size ≤ waiting_limit c
  pub settled : IsSettledFor (source_of (kind_of c)) v.tree
  pub room : need_slots c v ≤ free_slots v
  pub log : log_size c ≤ record_room c v

-- ---- an accepted command

-- a writing command that a tree accepts makes flush steps and checkpoints, until no more bytes wait
-- in the root than its limit and, unless it made 65,536 steps, none is due on the way of a graft's
-- source; then slots are free, and it sends just what it comes to
pub record IsExecuted (t : Tree) (c : Command) (old new : View) : Type 0 where
  pub mid : View
  pub stepped : HasStepped c old mid
  pub enough : mid.tree.table.size ≤ waiting_limit c
  pub settled : (stepped.made ≡ flush_limit)
      ⊎ IsSettledFor (sent_from (sending (keys_of old) t c)) mid.tree
  pub room : need_slots c mid ≤ free_slots mid
  pub sent : HasSent (sending (keys_of old) t c) mid.tree new.tree
  pub rest : OnlyNodes mid new

-- its record waits too
abbrev pub logged : Command → View → View
logged c v = record v { waiting = v.waiting + log_size c }

-- and there was room in the log for its record, which waits for a sync
pub record IsAccepted (t : Tree) (c : Command) (old new : View) : Type 0 where
  pub last : View
  pub executed : IsExecuted t c old last
  pub log : log_size c ≤ record_room c last
  pub after : new ≡ logged c last

-- after a sync nothing waits, and the next batch goes after the one that was written, if one was
abbrev pub synced : View → View
synced v = record v {
  place = if v.waiting == 0 then v.place else v.place + 1 + blocks_for v.waiting;
  waiting = 0;
}

-- ---- replay

-- a command of the log made one flush step, for which no slot is needed
pub record FlushesAgain (c : Command) (old new : View) : Type 0 where
  pub flushes : FlushesFor c old.tree new.tree
  pub rest : OnlyNodes old new

-- so many of them lead from the first view to the second
pub data AreFlushedAgain (c : Command) : ℕ → View → View → Type 0 where
  none : (v : View) → AreFlushedAgain c 0 v v
  more : (n : ℕ) (v w x : View) → AreFlushedAgain c n v w → FlushesAgain c w x
      → AreFlushedAgain c (n + 1) v x

-- a command of the log makes flush steps, at most 65,536, until no more bytes wait in the root than
-- its limit and, unless it made so many, none is due on the way of a graft's source; then it sends
-- just what it comes to, and its record doesn't wait again
pub record IsReplayed (t : Tree) (c : Command) (old new : View) : Type 0 where
  pub made : ℕ
  pub mid : View
  pub flushed : AreFlushedAgain c made old mid
  pub few : made ≤ flush_limit
  pub enough : mid.tree.table.size ≤ waiting_limit c
  pub settled : (made ≡ flush_limit)
      ⊎ IsSettledFor (sent_from (sending (keys_of old) t c)) mid.tree
  pub sent : HasSent (sending (keys_of old) t c) mid.tree new.tree
  pub rest : OnlyNodes mid new

-- these commands were replayed, one after the other, from a tree on
abbrev pub AreReplayed : Tree → List Command → View → View → Type 0
AreReplayed t [] old new = new ≡ old
AreReplayed t (c ∷ cs) old new =
    (mid : View) × IsReplayed t c old mid × AreReplayed (after t c) cs mid new
