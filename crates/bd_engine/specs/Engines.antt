-- What an engine is seen as.
use Rattle.std.specs.Prelude.{◌≡◌, ◌⊎◌, ◌==◌, ◌&&◌, ◌-◌, ◌^◌, nat_lt, if◌then◌else◌, ℕ, [], false, is_some, length, Option, None, Some, IsSome, IfSome, Result, Ok, Err, ◌+◌, Bool, min}
use Rattle.std.specs.List.{concat, AllByRecursion}
use Rattle.bd_limits.specs.Limits.{cached_limit}
use Rattle.bd_command.specs.declared.Command.{Command}
use Rattle.bd_message.specs.KeyMaps.{At, HasMapCause}
use Rattle.bd_message.specs.declared.fault.Counter.{Counter}
use Rattle.bd_message.specs.declared.fault.MapFault.{MapFault}
use Rattle.bd_message.specs.declared.fault.MapFault.TheVariants.{DeviceFault, Damaged, Worn, NoMemory}
use Rattle.bd_slots.specs.Layout.{image_blocks}
use Rattle.bd_io.specs.Cause.{next_count}
use Rattle.bd_device.specs.Blocks.{Image}
use Rattle.bd_device.specs.Changes.{StaysBut}
use Rattle.bd_device.specs.Device.{left_now, Goes, Stays}
use Rattle.bd_device.specs.declared.device.Device.{Ghosts}
use Rattle.bd_node.specs.Meaning.{Nodes}
use Rattle.bd_node.specs.Tables.{IsSound, root_at}
use Rattle.bd_table.specs.Tables.{IsTableAt}
use Rattle.bd_table.specs.declared.table.Table.{Table as StoredTable}
use Rattle.bd_super.specs.Superblocks.{IsSuper}
use Rattle.bd_super.specs.declared.superblock.Super.{Super}
use Rattle.bd_log.specs.Batches.{IsLogRecord}
use Rattle.bd_log.specs.Logs.{LogState}
use Rattle.bd_graft.specs.declared.grafting.Walk.{Walk}
use Rattle.bd_pager.specs.Keeping.{KeepsSaved}
use Rattle.bd_pager.specs.Moving.{IsDue, WritesOnly}
use Rattle.bd_pager.specs.Places.{IsBadSpot, NoneTurnsBad}
use Rattle.bd_pager.specs.Slots.{IsSpare}
use Rattle.bd_pager.specs.Pagers.{Paged, cache_room, spots_of, nodes_of, table_of, is_known, is_bad, IsReadOf, is_first_damaged}
use Rattle.bd_image.specs.Standing.{IsAsBefore}
use Rattle.bd_image.specs.Stored.{HoldsNodes, table_of as stored_table}
use Rattle.bd_image.specs.Versions.{version_of, mode_version}
use Rattle.bd_checkpoint.specs.Kept.{IsOpenOn, AllAsBefore}
use Rattle.bd_checkpoint.specs.Recovering.{saved_of}
use Rattle.bd_checkpoint.specs.Surviving.{SurvivesOn}
use Rattle.bd_view.specs.Moves.{OnlyNodes}
use Rattle.bd_view.specs.Trees.{IsWornToStep}
use Rattle.bd_view.specs.Views.{View}
use Rattle.bd_recall.specs.Kept.{Findings, IsKept}
use Rattle.bd_shown.specs.Shown.{shown}

-- the nodes, with the device under them; what is kept of look-ups; the log; the live superblock; the
-- number of the device's call at which it was stopped; how the last graft went; and how many flush
-- steps were made since it started, up to a u64's last value
pub record EngineState (D : Type 0) : Type 0 where
  pub pager : Paged D
  pub recalled : Findings
  pub log : LogState
  pub live : Super
  pub stop : Option ℕ
  pub walk : Walk
  pub flushes : ℕ

abbrev pub seen : {D : Type 0} → Paged D → Findings → LogState → Super → Option ℕ → Walk → ℕ
    → EngineState D
seen pager recalled log live stop walk flushes = record {
  pager = pager;
  recalled = recalled;
  log = log;
  live = live;
  stop = stop;
  walk = walk;
  flushes = flushes;
}

-- one that goes on, in which nothing was grafted or flushed
abbrev pub started : {D : Type 0} → Paged D → Findings → LogState → Super → EngineState D
started pager recalled log live =
    seen pager recalled log live None (record { visits = 0; height = 0 }) 0

-- its view
abbrev pub view_of : {D : Type 0} → Ghosts D → EngineState D → View
view_of g e = shown g e.pager e.walk (version_of e.live) e.live.epoch e.log.place
    (length (concat e.log.waiting))

-- what stands at each key
abbrev pub keys_of : {D : Type 0} → Ghosts D → Paged D → At
keys_of g p = root_at (nodes_of g p) (table_of p)

-- the nodes are known and sound
pub record HasSoundNodes {D : Type 0} (g : Ghosts D) (p : Paged D) : Type 0 where
  pub known : is_known g p
  pub sound : IsSound (nodes_of g p) (table_of p)

-- so are an engine's nodes, and what is kept of look-ups is what stands there
pub record IsSoundOn {D : Type 0} (g : Ghosts D) (e : EngineState D) : Type 0 where
  pub known : is_known g e.pager
  pub sound : IsSound (nodes_of g e.pager) (table_of e.pager)
  pub kept : IsKept (keys_of g e.pager) e.recalled

-- the block is that of a slot without its node; or, where the engine isn't sound, the one that is
-- damaged then; as far as its nodes are known
abbrev pub IsBadOn : {D : Type 0} → Ghosts D → EngineState D → ℕ → Type 0
IsBadOn g e b = is_known g e.pager
    → ((id : ℕ) × IsBadSpot (g.contents e.pager.dev) (spots_of e.pager id) b)
    ⊎ (is_first_damaged g e.pager b × ¬ IsSoundOn g e)

-- it is sound where its nodes are, as one is that keeps nothing of look-ups
abbrev pub IsFreshOn : {D : Type 0} → Ghosts D → EngineState D → Type 0
IsFreshOn g e = HasSoundNodes g e.pager → IsSoundOn g e

-- of some calls none failed at Ok, and at an error each fault has its cause: the device's is that
-- of the last call, and of no other, damage is of a bad block, and a counter is worn as is told
abbrev pub HasCause : {D T : Type 0} → Ghosts D → Paged D → Paged D → (Counter → Type 0)
    → Result T MapFault → Type 0
HasCause g old new worn result =
    HasMapCause (g.fault_count old.dev) (g.fault_count new.dev) (g.last_failed new.dev)
    (is_bad g new) worn result

-- why a flush step of a command has no room in a counter
abbrev pub IsWornIn : {D : Type 0} → Ghosts D → Paged D → Command → Counter → Type 0
IsWornIn g p c =
    IsWornToStep (is_known g p × IsSound (nodes_of g p) (table_of p)) (nodes_of g p) (table_of p) c

-- ---- what calls leave

-- only the device was read: the view stays, nodes that were known stay so, and sound ones with what
-- stands at the keys
pub record IsReadOn {D : Type 0} (g : Ghosts D) (old new : EngineState D) : Type 0 where
  pub read : IsReadOf g old.pager new.pager
  pub known : is_known g old.pager → is_known g new.pager
  pub view : view_of g new ≡ view_of g old
  pub sound : IsSoundOn g old → IsSoundOn g new
  pub rest : new ≡ record old { pager = new.pager; recalled = new.recalled }

-- the count of flush steps after so many more, which stops at a u64's last value
abbrev pub flushed_on : ℕ → ℕ → ℕ
flushed_on before more = min (before + more) (2 ^ 64 - 1)

-- the count after a call that says whether it made one
abbrev pub flushes_after : {E : Type 0} → ℕ → Result Bool E → ℕ
flushes_after before (Ok made) = if made then flushed_on before 1 else before
flushes_after before (Err fault) = before

-- only nodes were changed, in memory, and with them what is kept of look-ups, how the last graft
-- went and how many flush steps were made: nothing was written, and nodes that were known stay so
pub record OnlyNodesOn {D : Type 0} (g : Ghosts D) (old new : EngineState D) : Type 0 where
  pub keeps : KeepsSaved g old.pager new.pager
  pub known : is_known g old.pager → is_known g new.pager
  pub view : is_known g old.pager → OnlyNodes (view_of g old) (view_of g new)
  pub rest : new ≡ record old {
    pager = new.pager;
    recalled = new.recalled;
    walk = new.walk;
    flushes = new.flushes;
  }

-- the number of the device's last call where it stopped the engine: that call failed, and since this
-- count of failed writes and barriers one more failed, or it stands at its last value
abbrev pub stop_after : {T : Type 0} → ℕ → ℕ → ℕ → Result T MapFault → Option ℕ
stop_after before now calls (Ok done) = None
stop_after before now calls (Err DeviceFault) =
    if (now == before) && nat_lt before (2 ^ 64 - 1) then None else Some calls
stop_after before now calls (Err (Damaged block)) = None
stop_after before now calls (Err (Worn _)) = None
stop_after before now calls (Err NoMemory) = None

-- the same, where a sync failed, which a write or a barrier did
abbrev pub stop_by : {T E : Type 0} → ℕ → Result T E → Option ℕ
stop_by calls (Ok done) = None
stop_by calls (Err fault) = Some calls

-- no write or barrier failed: it goes on, no more was written than slots that the last checkpoint
-- doesn't hold, and an image that a crash now leaves stands for what one of before stood for
pub record IsGoingOn {D : Type 0} (g : Ghosts D) (old new : EngineState D) : Type 0 where
  pub stop_is : new.stop ≡ None
  pub slots : StaysBut (IsSpare old.pager.spare) (g.contents old.pager.dev)
      (g.contents new.pager.dev)
  pub write_faults : g.write_fault_count new.pager.dev ≡ g.write_fault_count old.pager.dev
  pub kept : AllAsBefore (left_now g old.pager.dev) (left_now g new.pager.dev)

-- a write or a barrier failed, by the device's last call, which stopped it
pub record IsStopped {D : Type 0} (g : Ghosts D) (old new : EngineState D) : Type 0 where
  pub stop_is : new.stop ≡ Some (g.call_count new.pager.dev)
  pub write_faults :
      g.write_fault_count new.pager.dev ≡ next_count (g.write_fault_count old.pager.dev)

-- its log begins anew, in an image of the version that is written: no batch is there, and nothing
-- waits
pub record IsBegunAnew {D : Type 0} (e : EngineState D) : Type 0 where
  pub version : version_of e.live ≡ mode_version
  pub place : e.log.place ≡ 0
  pub waiting : e.log.waiting ≡ []

-- how many changed nodes stay in memory when a step begins
abbrev pub memory_limit : ℕ
memory_limit = 8

-- changed nodes were written early, also where a call failed: no more than slots that the last
-- checkpoint doesn't hold were written, and of these no more than those of nodes that have left
-- memory, and where it was stopped that of the next one; the view stays, no block becomes bad, also
-- where nodes aren't sound, and an image that a crash leaves, inside it or after it, stands for all
-- that one of before stood for
pub record WritesEarly {D : Type 0} (g : Ghosts D) (old new : EngineState D) : Type 0 where
  pub table : table_of new.pager ≡ table_of old.pager
  pub known : is_known g old.pager → is_known g new.pager
  pub nodes : is_known g old.pager → nodes_of g new.pager ≡ nodes_of g old.pager
  pub view : is_known g old.pager → view_of g new ≡ view_of g old
  pub others : view_of g new ≡ record (view_of g old) { tree = (view_of g new).tree }
  pub time : Goes g old.pager.dev new.pager.dev (IsAsBefore (left_now g old.pager.dev))
  pub kept : AllAsBefore (left_now g old.pager.dev) (left_now g new.pager.dev)
  pub slots : StaysBut (IsSpare old.pager.spare) (g.contents old.pager.dev)
      (g.contents new.pager.dev)
  pub due : WritesOnly g (IsDue old.pager.root (is_some new.stop) (spots_of old.pager)
      (spots_of new.pager)) old.pager.dev new.pager.dev
  pub bad : is_known g old.pager → NoneTurnsBad (g.contents old.pager.dev) (spots_of old.pager)
      (g.contents new.pager.dev) (spots_of new.pager)
  pub first : (b : ℕ) → is_first_damaged g new.pager b → is_first_damaged g old.pager b
  pub stays : Stays g old.pager.dev new.pager.dev
  pub pager : new.pager ≡ record old.pager {
    dev = new.pager.dev;
    spots = new.pager.spots;
    cache = new.pager.cache;
    tails = new.pager.tails;
    written = new.pager.written;
  }
  pub rest : new ≡ record old { pager = new.pager; stop = new.stop }

-- only blocks before the slots were changed: the nodes stay, and what stands at the keys
pub record KeepsNodesOn {D : Type 0} (g : Ghosts D) (old new : EngineState D) : Type 0 where
  pub pager : SurvivesOn g old.pager new.pager
  pub sound : IsSoundOn g old → IsSoundOn g new
  pub live : new.live ≡ old.live
  pub walk : new.walk ≡ old.walk
  pub flushes : new.flushes ≡ old.flushes

-- ---- between two calls

-- the nodes that the image stores by the last checkpoint are sound
pub record HasSoundStored (image : Image) (t : StoredTable) : Type 0 where
  pub nodes : Nodes
  pub held : HoldsNodes image t nodes
  pub sound : IsSound nodes (stored_table t nodes)

-- the nodes are known, and no worse than what the last checkpoint has: none of the slots that it
-- doesn't hold is bad for one, and where its nodes are sound these are
pub record IsNoWorse {D : Type 0} (g : Ghosts D) (p : Paged D) : Type 0 where
  pub known : is_known g p
  pub good : (id b : ℕ) → IsBadSpot (g.contents p.dev) (spots_of p id) b → ¬ IsSpare p.spare b
  pub sound : IfSome (g.contents p.dev) (λ image. HasSoundStored image p.saved
      → IsSound (nodes_of g p) (table_of p))

-- the device, which isn't lent, has the blocks of an image of the superblock's slots, in which the
-- last checkpoint's table stands; its pager's cache has room for 64 nodes; the log's bytes
-- are whole records; and, until it is stopped, what is known of its images, and that the nodes are
-- no worse than the last checkpoint's, as far as the device tells what it has
pub record IsStanding {D : Type 0} (g : Ghosts D) (e : EngineState D) : Type 0 where
  pub fits : IsSuper e.live
  pub size : g.block_count e.pager.dev ≡ image_blocks e.live.slots
  pub slots : length e.pager.spare ≡ e.live.slots
  pub table : IsTableAt e.live.slots e.pager.at e.pager.saved
  pub unlent : e.pager.is_lent ≡ false
  pub room : cache_room e.pager ≡ cached_limit
  pub records : AllByRecursion IsLogRecord e.log.waiting
  pub going : e.stop ≡ None → IsOpenOn g e.pager.dev e.live (saved_of e.pager) e.log
  pub no_worse : e.stop ≡ None → IsSome (g.contents e.pager.dev) → IsNoWorse g e.pager

-- an engine of these parts may start, whatever it keeps of look-ups
abbrev pub MayStart : {D : Type 0} → Ghosts D → Paged D → LogState → Super → Type 0
MayStart g pager log live =
    (recalled : Findings) → IsStanding g (started pager recalled log live)
