-- Why the calls of a volume fail.
use Rattle.std.proofs.Common.{◌≡◌, ℕ, ◌+◌, ◌^◌, ◌<◌, ◌≤◌, List, Bool, refl, sym, subst, inl, inr, arith}
use Rattle.std.specs.Prelude.{IsTrue, Result, Ok, Err, IfErr, OnErr}
use Rattle.bd_limits.specs.Limits.{flush_limit}
use Rattle.bd_command.specs.Command.{writes}
use Rattle.bd_command.specs.declared.Command.{Command}
use Rattle.bd_message.specs.declared.fault.Counter.{Counter}
use Rattle.bd_message.specs.declared.fault.Counter.TheVariants.{Count, NextId, Level, Refs, Epoch, Flushes}
use Rattle.bd_message.specs.declared.fault.MapFault.{MapFault}
use Rattle.bd_message.specs.declared.fault.MapFault.TheVariants as map
use Rattle.bd_message.specs.KeyMaps.{IsCause, NeverWorn}
use Rattle.bd_device.specs.declared.device.Device.{Ghosts}
use Rattle.bd_super.specs.declared.superblock.Super.{Super}
use Rattle.bd_node.specs.Tables.{Table, IsSound}
use Rattle.bd_graft.specs.Grafting.{IsWornForGraft, IsWornByGraft, OnWorn}
use Rattle.bd_dirs.specs.declared.plan.Plan.TheVariants.{Graft}
use Rattle.bd_dirs.specs.Kinds.{Kind, Reads, Sends, SendsLate, Grafts, kind_of}
use Rattle.bd_dirs.specs.Plans.{IsPlanOf, IsPlanKind}
use Rattle.bd_effects.proofs.Uncounted.{never_by_graft, never_counted}
use Rattle.bd_pager.specs.Calling.{read_table}
use Rattle.bd_pager.specs.Pagers.{Paged, nodes_of, table_of, is_known, is_bad, IsReadOf}
use Rattle.bd_view.specs.Trees.{TreeView, waiting_limit}
use Rattle.bd_view.specs.Views.{View}
use Rattle.bd_view.specs.Moves.{AreSteps, HasStepped, CallsForSave}
use Rattle.bd_engine.specs.Engines.{EngineState, IsWornIn}
use Rattle.bd_volume.specs.declared.fault.Fault.{Fault}
use Rattle.bd_volume.specs.declared.fault.Fault.TheVariants.{Device, Damaged, Worn, NoMemory, Full, Stopped}
use Rattle.bd_volume.specs.declared.volume.Volume.{Volume}
use Rattle.bd_volume.specs.Faults.{fault_of}
use Rattle.bd_volume.specs.Volume.{view_of}
use Rattle.bd_volume.specs.Wears.{IsWornByKind, IsWornForSending, IsWornForSave, IsWornInReplay, IsWornNow, Wears, ShowsWornIn, IsGraftKind, ShowsWorn}
use Rattle.bd_volume.specs.Steps.{ShowsStep, ShowsFault, IsSaveFault, IsWornInStep, IsStepFault, IsCommandFault}
use Rattle.bd_volume.proofs.Stepped.{not_stepped}
use Rattle.bd_volume.proofs.Read.{read_worn}
use Rattle.bd_volume.proofs.Worn.{worn_where}

-- ---- a command's fault, after its steps

worn_halts : (which : Counter) (count : ℕ) (c : Command) (made : ℕ) (old new : View) → IsWornInStep which c new → IsWornNow which count c made old new
worn_halts Count count c made old new h = absurd h
worn_halts NextId count c made old new h = inl h
worn_halts Level count c made old new h = inl h
worn_halts Refs count c made old new h = inl h
worn_halts Epoch count c made old new h = h
worn_halts Flushes count c made old new h = absurd h

pub step_halts : (fault : Fault) (count : ℕ) (c : Command) (old new : View) → IsTrue (writes c) → HasStepped c old new → IsStepFault fault c new → IsCommandFault fault count c old new
step_halts Device count c old new writing s h = tt
step_halts (Damaged block) count c old new writing s h = h
step_halts (Worn which) count c old new writing s h = record { counts = writing; stepped = s; worn = worn_halts which count c s.made old new h }
step_halts NoMemory count c old new writing s h = tt
step_halts (Full free need) count c old new writing s h = record {
  writing = writing;
  stepped = s;
  free_is = h.free_is;
  need_is = h.need_is;
  short = h.short;
  unsaved = h.unsaved;
}
step_halts (Stopped call) count c old new writing s h = h

-- the count of accepted commands has no room
pub count_worn : (count : ℕ) (c : Command) (v : View) → IsTrue (writes c) → 2 ^ 64 ≤ count + 1 → Wears Count count c v v
count_worn count c v writing full = record { counts = writing; stepped = not_stepped c v v refl; worn = (full, refl) }

-- all flush steps were made
pub flushes_worn : (count : ℕ) (c : Command) (made : ℕ) (old new : View) → IsTrue (writes c) → AreSteps c made old new → made ≡ flush_limit → waiting_limit c < new.tree.table.size → Wears Flushes count c old new
flushes_worn count c made old new writing steps all waits = record {
  counts = writing;
  stepped = record { made = made; steps = steps; few = omega (arith, all) };
  worn = record { waits = waits; all = all };
}

-- ---- grafts

pub worn_kind : (kind : Kind) (which : Counter) (c : Command) (v : TreeView) (s d : List ℕ) (keep : Bool) → IsPlanOf kind (Graft s d keep) → v.table.size ≤ waiting_limit c → IsWornByGraft v.nodes v.table s d keep which → IsWornByKind kind which c v
worn_kind Reads which c v s d keep plan enough h = absurd plan
worn_kind Sends which c v s d keep plan enough h = absurd plan
worn_kind SendsLate which c v s d keep plan enough h = absurd plan
worn_kind (Grafts s2 d2 keep2) which c v s d keep plan enough h = record {
  enough = enough;
  worn = subst (λ (k : Bool). IsWornByGraft v.nodes v.table s2 d2 k which) plan.2
      (subst (λ (k : List ℕ). IsWornByGraft v.nodes v.table s2 k keep which) plan.1 (subst (λ (k : List ℕ). IsWornByGraft v.nodes v.table k d keep which) plan.0 h));
}

worn_graft : (which : Counter) (count : ℕ) (c : Command) (made : ℕ) (old v : View) (s d : List ℕ) (keep : Bool) → IsWornByGraft v.tree.nodes v.tree.table s d keep which → IsWornForSending which c v.tree → IsWornNow which count c made old v
worn_graft Count count c made old v s d keep h sent = absurd (never_by_graft v.tree.nodes v.tree.table s d keep Count (λ step w. w) (λ e. cc) h)
worn_graft NextId count c made old v s d keep h sent = inr sent
worn_graft Level count c made old v s d keep h sent = inr sent
worn_graft Refs count c made old v s d keep h sent = inr sent
worn_graft Epoch count c made old v s d keep h sent = absurd (never_by_graft v.tree.nodes v.tree.table s d keep Epoch (λ step w. w) (λ e. cc) h)
worn_graft Flushes count c made old v s d keep h sent = absurd (never_by_graft v.tree.nodes v.tree.table s d keep Flushes (λ step w. w) (λ e. cc) h)

-- the same of a command of the log
pub worn_graft_again : (which : Counter) (count : ℕ) (c : Command) (made : ℕ) (v : TreeView) (s d : List ℕ) (keep : Bool) → IsWornByGraft v.nodes v.table s d keep which → IsWornForSending which c v → IsWornInReplay which count c made v
worn_graft_again Count count c made v s d keep h sent = absurd (never_by_graft v.nodes v.table s d keep Count (λ step w. w) (λ e. cc) h)
worn_graft_again NextId count c made v s d keep h sent = inr sent
worn_graft_again Level count c made v s d keep h sent = inr sent
worn_graft_again Refs count c made v s d keep h sent = inr sent
worn_graft_again Epoch count c made v s d keep h sent = never_by_graft v.nodes v.table s d keep Epoch (λ step w. w) (λ e. cc) h
worn_graft_again Flushes count c made v s d keep h sent = absurd (never_by_graft v.nodes v.table s d keep Flushes (λ step w. w) (λ e. cc) h)

module _ {D : Type 0} (g : Ghosts D) where
  -- ---- checkpoints

  save_in_step : (a b : Volume D) (c : Command) (fault : Fault) → IsSaveFault a b fault → CallsForSave c (view_of g a) → view_of g b ≡ view_of g a → IsStepFault fault c (view_of g b)
  save_in_step a b c Device h calls same = tt
  save_in_step a b c (Damaged block) h calls same = h
  save_in_step a b c (Worn which) h calls same =
      subst (λ (w : Counter). IsWornInStep w c (view_of g b)) (sym h.0) (subst (λ (v : View). IsWornForSave c v) (sym same) (record { calls_for = calls; worn = h.1 }))
  save_in_step a b c NoMemory h calls same = tt
  save_in_step a b c (Full free need) h calls same = absurd h
  save_in_step a b c (Stopped call) h calls same = h

  pub saves_in_step : {T : Type 0} (r : Result T Fault) (a b : Volume D) (c : Command) → IfErr r (IsSaveFault a b) → CallsForSave c (view_of g a) → OnErr r (view_of g b ≡ view_of g a)
      → IfErr r (λ fault. IsStepFault fault c (view_of g b))
  saves_in_step (Ok x) a b c h calls same = tt
  saves_in_step (Err e) a b c h calls same = save_in_step a b c e h calls same

  save_shows : (a b : Volume D) (c : Command) (fault : Fault) → IsSaveFault a b fault → ShowsStep g fault c b.engine
  save_shows a b c Device h = tt
  save_shows a b c (Damaged block) h = tt
  save_shows a b c (Worn which) h =
      subst (λ (w : Counter). ShowsWornIn g w c b.engine) (sym h.0) (subst (λ (live : Super). 2 ^ 64 ≤ live.epoch + 1) (sym h.2) h.1)
  save_shows a b c NoMemory h = tt
  save_shows a b c (Full free need) h = absurd h
  save_shows a b c (Stopped call) h = tt

  pub saves_show : {T : Type 0} (r : Result T Fault) (a b : Volume D) (c : Command) → IfErr r (IsSaveFault a b) → IfErr r (λ fault. ShowsStep g fault c b.engine)
  saves_show (Ok x) a b c h = tt
  saves_show (Err e) a b c h = save_shows a b c e h

  -- a fault of a step is the command's
  worn_shows_step : (which : Counter) (count before : ℕ) (c : Command) (e : EngineState D) → ShowsWornIn g which c e → ShowsWorn g which count before c e
  worn_shows_step Count count before c e h = absurd h
  worn_shows_step NextId count before c e h = h
  worn_shows_step Level count before c e h = h
  worn_shows_step Refs count before c e h = h
  worn_shows_step Epoch count before c e h = h
  worn_shows_step Flushes count before c e h = absurd h

  pub step_shows : (fault : Fault) (count before : ℕ) (c : Command) (e : EngineState D) → ShowsStep g fault c e → ShowsFault g fault count before c e
  step_shows Device count before c e h = tt
  step_shows (Damaged block) count before c e h = tt
  step_shows (Worn which) count before c e h = worn_shows_step which count before c e h
  step_shows NoMemory count before c e h = tt
  step_shows (Full free need) count before c e h = h
  step_shows (Stopped call) count before c e h = tt

  -- where as many flush steps were made before
  pub shows_same : {T : Type 0} (r : Result T Fault) (count before first : ℕ) (c : Command) (e : EngineState D) → before ≡ first → IfErr r (λ fault. ShowsFault g fault count before c e) → IfErr r (λ fault. ShowsFault g fault count first c e)
  shows_same r count before first c e same h = subst (λ (n : ℕ). IfErr r (λ fault. ShowsFault g fault count n c e)) same h

  -- ---- flush steps

  -- that the nodes of a pager are known and sound
  abbrev AreKnownIn : Paged D → Type 0
  AreKnownIn p = is_known g p × IsSound (nodes_of g p) (table_of p)

  pub worn_in_step : (a : Volume D) (which : Counter) (c : Command) → is_known g a.engine.pager → IsWornIn g a.engine.pager c which → IsWornInStep which c (view_of g a)
  worn_in_step a Count c known h = never_counted (AreKnownIn a.engine.pager) (view_of g a).tree c Count (λ step w. w) (λ e. cc) h
  worn_in_step a NextId c known h = worn_where (AreKnownIn a.engine.pager) (IsSound (nodes_of g a.engine.pager) (table_of a.engine.pager)) (nodes_of g a.engine.pager) (table_of a.engine.pager) c NextId (λ sound. (known, sound)) h
  worn_in_step a Level c known h = worn_where (AreKnownIn a.engine.pager) (IsSound (nodes_of g a.engine.pager) (table_of a.engine.pager)) (nodes_of g a.engine.pager) (table_of a.engine.pager) c Level (λ sound. (known, sound)) h
  worn_in_step a Refs c known h = worn_where (AreKnownIn a.engine.pager) (IsSound (nodes_of g a.engine.pager) (table_of a.engine.pager)) (nodes_of g a.engine.pager) (table_of a.engine.pager) c Refs (λ sound. (known, sound)) h
  worn_in_step a Epoch c known h = absurd (never_counted (AreKnownIn a.engine.pager) (view_of g a).tree c Epoch (λ step w. w) (λ e. cc) h)
  worn_in_step a Flushes c known h = never_counted (AreKnownIn a.engine.pager) (view_of g a).tree c Flushes (λ step w. w) (λ e. cc) h

  -- one that isn't made, since a counter is worn or there is no memory
  pub flush_fails : (m n : ℕ) (last : Bool) (a b : Volume D) (c : Command) (fault : MapFault) → is_known g a.engine.pager → view_of g b ≡ view_of g a → ((block : ℕ) → is_bad g b.engine.pager block → ⊥)
      → IsCause m n last (is_bad g b.engine.pager) (IsWornIn g a.engine.pager c) fault → IsStepFault (fault_of fault) c (view_of g b)
  flush_fails m n last a b c map.DeviceFault known same good h = tt
  flush_fails m n last a b c (map.Damaged block) known same good h = good block h
  flush_fails m n last a b c (map.Worn which) known same good h = subst (λ (v : View). IsWornInStep which c v) (sym same) (worn_in_step a which c known h)
  flush_fails m n last a b c map.NoMemory known same good h = tt

  worn_shows : (b : Volume D) (which : Counter) (c : Command) → IsWornIn g b.engine.pager c which → ShowsWornIn g which c b.engine
  worn_shows b Count c h = absurd (never_counted (AreKnownIn b.engine.pager) (view_of g b).tree c Count (λ step w. w) (λ e. cc) h)
  worn_shows b NextId c h = inl h
  worn_shows b Level c h = inl h
  worn_shows b Refs c h = inl h
  worn_shows b Epoch c h = absurd (never_counted (AreKnownIn b.engine.pager) (view_of g b).tree c Epoch (λ step w. w) (λ e. cc) h)
  worn_shows b Flushes c h = absurd (never_counted (AreKnownIn b.engine.pager) (view_of g b).tree c Flushes (λ step w. w) (λ e. cc) h)

  pub flush_shows : (m n : ℕ) (last : Bool) (a b : Volume D) (c : Command) (fault : MapFault) → IsReadOf g a.engine.pager b.engine.pager
      → IsCause m n last (is_bad g b.engine.pager) (IsWornIn g a.engine.pager c) fault → ShowsStep g (fault_of fault) c b.engine
  flush_shows m n last a b c map.DeviceFault read h = tt
  flush_shows m n last a b c (map.Damaged block) read h = tt
  flush_shows m n last a b c (map.Worn which) read h = worn_shows b which c (read_worn g a.engine.pager b.engine.pager c which read h)
  flush_shows m n last a b c map.NoMemory read h = tt

  -- ---- reads, messages and grafts

  -- calls that wear no counter
  pub read_halts : (m n : ℕ) (last : Bool) (b : Volume D) (count : ℕ) (c : Command) (old new : View) (fault : MapFault) → ((block : ℕ) → is_bad g b.engine.pager block → ⊥) → IsCause m n last (is_bad g b.engine.pager) NeverWorn fault → IsCommandFault (fault_of fault) count c old new
  read_halts m n last b count c old new map.DeviceFault good h = tt
  read_halts m n last b count c old new (map.Damaged block) good h = good block h
  read_halts m n last b count c old new (map.Worn which) good h = absurd h
  read_halts m n last b count c old new map.NoMemory good h = tt

  pub graft_halts : (m n : ℕ) (last : Bool) (worn : Counter → Type 0) (b : Volume D) (count : ℕ) (c : Command) (old v : View) (s d : List ℕ) (keep : Bool) (fault : MapFault) → IsTrue (writes c) → IsPlanKind c (Graft s d keep) → HasStepped c old v → v.tree.table.size ≤ waiting_limit c
      → view_of g b ≡ v → ((block : ℕ) → is_bad g b.engine.pager block → ⊥) → IsCause m n last (is_bad g b.engine.pager) worn fault → OnWorn (IsWornByGraft v.tree.nodes v.tree.table s d keep) fault → IsCommandFault (fault_of fault) count c old (view_of g b)
  graft_halts m n last worn b count c old v s d keep map.DeviceFault writing kind stepped enough same good h by = tt
  graft_halts m n last worn b count c old v s d keep (map.Damaged block) writing kind stepped enough same good h by = good block h
  graft_halts m n last worn b count c old v s d keep (map.Worn which) writing kind stepped enough same good h by =
      subst (λ (w : View). Wears which count c old w) (sym same) (record {
        counts = writing;
        stepped = stepped;
        worn = worn_graft which count c stepped.made old v s d keep by (worn_kind (kind_of c) which c v.tree s d keep kind enough by);
      })
  graft_halts m n last worn b count c old v s d keep map.NoMemory writing kind stepped enough same good h by = tt

  -- a graft is planned for a command that is one
  plan_grafts : (kind : Kind) (s1 d1 : List ℕ) (keep : Bool) → IsPlanOf kind (Graft s1 d1 keep) → IsGraftKind kind
  plan_grafts Reads s1 d1 keep plan = absurd plan
  plan_grafts Sends s1 d1 keep plan = absurd plan
  plan_grafts SendsLate s1 d1 keep plan = absurd plan
  plan_grafts (Grafts s2 d2 keep2) s1 d1 keep plan = tt

  graft_worn_shows : (b : Volume D) (which : Counter) (c : Command) → (table_of b.engine.pager).size ≤ waiting_limit c → IsGraftKind (kind_of c) → IsWornForGraft (table_of b.engine.pager) which → ShowsWornIn g which c b.engine
  graft_worn_shows b Count c enough grafts h = absurd h
  graft_worn_shows b NextId c enough grafts h = inr (record { enough = enough; grafts = grafts; worn = h })
  graft_worn_shows b Level c enough grafts h = inr (record { enough = enough; grafts = grafts; worn = h })
  graft_worn_shows b Refs c enough grafts h = inr (record { enough = enough; grafts = grafts; worn = h })
  graft_worn_shows b Epoch c enough grafts h = absurd h
  graft_worn_shows b Flushes c enough grafts h = absurd h

  pub graft_shows : (m n : ℕ) (last : Bool) (a b : Volume D) (count before : ℕ) (c : Command) (s1 d1 : List ℕ) (keep : Bool) (fault : MapFault) → IsPlanKind c (Graft s1 d1 keep) → (table_of a.engine.pager).size ≤ waiting_limit c → IsReadOf g a.engine.pager b.engine.pager
      → IsCause m n last (is_bad g b.engine.pager) (IsWornForGraft (table_of a.engine.pager)) fault → ShowsFault g (fault_of fault) count before c b.engine
  graft_shows m n last a b count before c s1 d1 keep map.DeviceFault kind enough read h = tt
  graft_shows m n last a b count before c s1 d1 keep (map.Damaged block) kind enough read h = tt
  graft_shows m n last a b count before c s1 d1 keep (map.Worn which) kind enough read h =
      let same : table_of b.engine.pager ≡ table_of a.engine.pager = read_table g a.engine.pager b.engine.pager read in
      worn_shows_step which count before c b.engine (graft_worn_shows b which c (subst (λ (t : Table). t.size ≤ waiting_limit c) (sym same) enough) (plan_grafts (kind_of c) s1 d1 keep kind)
      (subst (λ (t : Table). IsWornForGraft t which) (sym same) h))
  graft_shows m n last a b count before c s1 d1 keep map.NoMemory kind enough read h = tt
