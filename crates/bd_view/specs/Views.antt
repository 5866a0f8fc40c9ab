-- What is seen of a volume on a device, and its numbers of slots and of bytes.
use Rattle.std.specs.Prelude.{ℕ, ◌+◌, ◌-◌, ◌*◌, ◌==◌, ◌&&◌, ◌||◌, nat_le, nat_lt, not, if◌then◌else◌, Bool, List, [], ◌∷◌, length}
use Rattle.std.specs.List.{filter, list_any, range_with_len}
use Rattle.bd_limits.specs.Limits.{late_limit}
use Rattle.bd_slots.specs.Layout.{table_length}
use Rattle.bd_command.specs.Log.{log_record}
use Rattle.bd_command.specs.declared.Command.{Command}
use Rattle.bd_message.specs.KeyMaps.{At}
use Rattle.bd_dirs.specs.Kinds.{Kind, SendsLate, kind_of}
use Rattle.bd_node.specs.Tables.{Table, sum_below, kept_count, root_at}
use Rattle.bd_log.specs.Logs.{room_at}
use Rattle.bd_image.specs.Versions.{mode_version, sets_mode}
use Rattle.bd_view.specs.Trees.{TreeView, fresh_tree}

-- the tree; the ids of the last checkpoint's nodes, in rising order; the slots of the image; the
-- version and the epoch of that checkpoint; the place in the log of the next batch's commit block,
-- and the bytes of the records that wait for it
pub record View : Type 0 where
  pub tree : TreeView
  pub saved : List ℕ
  pub slots : ℕ
  pub version : ℕ
  pub epoch : ℕ
  pub place : ℕ
  pub waiting : ℕ

-- what stands at each key
abbrev pub keys_of : View → At
keys_of v = root_at v.tree.nodes v.tree.table

-- the first one of an image of so many slots: its root alone is in the first checkpoint
abbrev pub fresh_view : ℕ → View
fresh_view slots = record {
  tree = fresh_tree;
  saved = 1 ∷ [];
  slots = slots;
  version = mode_version;
  epoch = 1;
  place = 0;
  waiting = 0;
}

-- ---- nodes

abbrev pub is_kept : Table → ℕ → Bool
is_kept t id = nat_le 1 (t.count id)

-- the last checkpoint has the node
abbrev pub is_saved : View → ℕ → Bool
is_saved v id = list_any (λ other. other == id) v.saved

-- the node is kept, and not as the last checkpoint has it: it was made or changed since
abbrev pub is_changed : View → ℕ → Bool
is_changed v id =
    is_kept v.tree.table id && (not (is_saved v id) || v.tree.table.touched id)

-- how many nodes are
abbrev pub changed_count : View → ℕ
changed_count v = sum_below v.tree.table.next (λ id. if is_changed v id then 1 else 0)

-- the ids of the kept nodes, in rising order
abbrev pub kept_ids : Table → List ℕ
kept_ids t = filter (is_kept t) (range_with_len 0 t.next)

-- how many nodes stand one below the other
abbrev pub height : Table → ℕ
height t = t.level t.root + 1

-- ---- slots

-- a checkpoint of so many nodes holds one for each, and its table's
abbrev pub held_slots : ℕ → ℕ
held_slots count = count + table_length count

-- those that the last checkpoint doesn't hold
abbrev pub free_slots : View → ℕ
free_slots v = v.slots - held_slots (length v.saved)

-- those that a checkpoint would be written to: of the changed nodes, and of its table
abbrev pub save_slots : View → ℕ
save_slots v = changed_count v + table_length (kept_count v.tree.table)

-- how many more a command may need for its next step: a flush step, messages or a graft; 4 are
-- enough for the messages of a `remove` or a `truncate`, for which nothing is flushed
abbrev pub step_slots : Kind → Table → ℕ
step_slots SendsLate t = if nat_le t.size late_limit then 4 else 2 * height t + 8
step_slots other t = 2 * height t + 8

-- how many have to be free for that, so that a checkpoint can be written after it
abbrev pub need_slots : Command → View → ℕ
need_slots c v = save_slots v + step_slots (kind_of c) v.tree.table

-- ---- the log

-- for how many bytes of records the next batch has room, beside those that wait for it
abbrev pub log_room : View → ℕ
log_room v = room_at v.place - v.waiting

-- the same for a command's record: none, where the image's version has no such record
abbrev pub record_room : Command → View → ℕ
record_room c v = if nat_lt v.version mode_version && sets_mode c then 0 else log_room v

-- the bytes of a command's record
abbrev pub log_size : Command → ℕ
log_size c = length (log_record c)
