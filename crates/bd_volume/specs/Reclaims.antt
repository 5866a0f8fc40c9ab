-- How a volume makes changes of reclaiming, and why it stops.
use Rattle.std.specs.Prelude.{◌≡◌, ℕ, ◌+◌, ◌^◌, ◌<◌, ◌≤◌, ◌⊎◌, Option, None, Some, ⊤}
use Rattle.bd_message.specs.declared.fault.Counter.TheVariants.{Epoch}
use Rattle.bd_device.specs.declared.device.Device.{Ghosts}
use Rattle.bd_cover.specs.declared.walking.Reclaim.{Reclaim}
use Rattle.bd_reclaim.specs.Changes.{LeavesLess}
use Rattle.bd_view.specs.Views.{View, changed_count, free_slots, save_slots}
use Rattle.bd_view.specs.Moves.{CannotSave}
use Rattle.bd_view.specs.Reclaiming.{push_limit, edge_need, pushes_in, HasRoomFor, IsDueChange, HasNoChange, Reclaims, SavesBetween, AreReclaims, IsReclaimFull}
use Rattle.bd_engine.specs.Engines.{EngineState, view_of as view_in}
use Rattle.bd_volume.specs.declared.fault.Fault.{Fault}
use Rattle.bd_volume.specs.declared.fault.Fault.TheVariants.{Device, Damaged, Worn, NoMemory, Full, Stopped}
use Rattle.bd_volume.specs.Wears.{HasBegunReclaiming, IsWornToReclaim, WearsReclaiming, ShowsWornToReclaim}

-- after so many pushes a change was made that was due, which leaves less to change unless it is a
-- push; or nodes were changed, and a checkpoint was made, since too few slots were free for the
-- change
pub data ChangesOnce (before after : ℕ) (old new : View) : Type 0 where
  made : (change : Reclaim) → Reclaims before change old new
      → LeavesLess old.tree.nodes old.tree.table change new.tree.nodes new.tree.table
      → after ≡ before + pushes_in change → ChangesOnce before after old new
  saved : (change : Reclaim) → SavesBetween before change old new → 1 ≤ changed_count old
      → after ≡ before → ChangesOnce before after old new

-- after so many pushes no change was left, or this was done, after which there were so many
abbrev pub IsChangedTo : ℕ → Option ℕ → View → View → Type 0
IsChangedTo before None old new = (new ≡ old) × HasNoChange before new
IsChangedTo before (Some after) old new = ChangesOnce before after old new

-- changes lead from the first view on, so many of them pushes, and none is left; or after so many
-- pushes one more was made
abbrev pub IsPushedTo : ℕ → Option ℕ → View → View → Type 0
IsPushedTo before None first new = AreReclaims before first new × HasNoChange before new
IsPushedTo before (Some after) first new =
    AreReclaims after first new × (before < after) × (after ≤ push_limit)

-- changes, so many of them pushes, and checkpoints between them, until none is left
pub record ChangesAll (old new : View) : Type 0 where
  pub pushes : ℕ
  pub changes : AreReclaims pushes old new
  pub whole : HasNoChange pushes new

-- so many slots are free, the change of an edge that is due needs more, so many, and no checkpoint
-- helps
pub record IsEdgeFull (pushes free need : ℕ) (v : View) : Type 0 where
  pub change : Reclaim
  pub next : IsDueChange pushes change v
  pub short : ¬ HasRoomFor change v
  pub free_is : free ≡ free_slots v
  pub need_is : need ≡ edge_need v
  pub unsaved : CannotSave v

-- why no checkpoint is made before the change of an edge
abbrev pub IsEdgeSaveFault : Fault → View → Type 0
IsEdgeSaveFault Device v = ⊤
IsEdgeSaveFault (Damaged block) v = ⊥
IsEdgeSaveFault (Worn which) v = (which ≡ Epoch) × (2 ^ 64 ≤ v.epoch + 1)
IsEdgeSaveFault NoMemory v = ⊤
IsEdgeSaveFault (Full free need) v =
    (free ≡ free_slots v) × (need ≡ edge_need v) × CannotSave v
IsEdgeSaveFault (Stopped call) v = ⊥

-- why no due change is made, or no checkpoint before it
abbrev pub IsChangeFault : Fault → ℕ → View → Type 0
IsChangeFault Device pushes v = ⊤
IsChangeFault (Damaged block) pushes v = ⊥
IsChangeFault (Worn which) pushes v = IsWornToReclaim which v
IsChangeFault NoMemory pushes v = ⊤
IsChangeFault (Full free need) pushes v = IsEdgeFull pushes free need v
IsChangeFault (Stopped call) pushes v = ⊥

-- changes were made, and such a fault came
pub record StopsChanging (fault : Fault) (old new : View) : Type 0 where
  pub pushes : ℕ
  pub changes : AreReclaims pushes old new
  pub cause : IsChangeFault fault pushes new

-- what is told of a fault where the nodes may not be known: which counter is worn, and with which
-- numbers slots are too few
abbrev pub ShowsEdge : {D : Type 0} → Ghosts D → Fault → EngineState D → Type 0
ShowsEdge g Device e = ⊤
ShowsEdge g (Damaged block) e = ⊤
ShowsEdge g (Worn which) e = ShowsWornToReclaim g which e
ShowsEdge g NoMemory e = ⊤
ShowsEdge g (Full free need) e =
    (free ≡ free_slots (view_in g e)) × (need ≡ edge_need (view_in g e))
ShowsEdge g (Stopped call) e = ⊤

-- ---- reclaiming as a whole

-- why it stops, and what it leaves
abbrev pub IsReclaimFault : Fault → View → View → Type 0
IsReclaimFault Device old new = HasBegunReclaiming old new
IsReclaimFault (Damaged block) old new = ⊥
IsReclaimFault (Worn which) old new = WearsReclaiming which old new
IsReclaimFault NoMemory old new = HasBegunReclaiming old new
IsReclaimFault (Full free need) old new = IsReclaimFull old free need new
IsReclaimFault (Stopped call) old new = ⊥

-- what is told of it where the nodes may not be known
abbrev pub ShowsReclaim : {D : Type 0} → Ghosts D → Fault → EngineState D → Type 0
ShowsReclaim g Device e = ⊤
ShowsReclaim g (Damaged block) e = ⊤
ShowsReclaim g (Worn which) e = ShowsWornToReclaim g which e
ShowsReclaim g NoMemory e = ⊤
ShowsReclaim g (Full free need) e = (free ≡ free_slots (view_in g e))
    × ((need ≡ save_slots (view_in g e)) ⊎ (need ≡ edge_need (view_in g e)))
ShowsReclaim g (Stopped call) e = ⊤
