-- What a volume stands for once it is started, and why none starts.
use Rattle.std.proofs.Common.{rules, ◌≡◌, ◌≢◌, ℕ, ◌+◌, List, [], ◌∷◌, ◌++◌, length, Option, None, Some, refl, sym, subst, ap, ◌∙◌, inl, inr, arith, append-nil}
use Rattle.std.specs.Prelude.{◌⊎◌, IsSome, IfSome, IsSomeAnd, All, Result}
use Rattle.std.specs.List.{AllByRecursion}
use Rattle.std.proofs.lemmas.List.{length-map, map-append}
use Rattle.std.proofs.lemmas.List.Elements.{recursion_from_All}
use Rattle.bd_wire.specs.Encoding.{IsPrefixFree}
use Rattle.bd_command.specs.Log.{IsLogged, log_record}
use Rattle.bd_command.specs.declared.Command.{Command}
use Rattle.bd_model.specs.Tree.{Tree}
use Rattle.bd_model.specs.Laws.{Accepts}
use Rattle.bd_message.specs.declared.fault.Counter.{Counter}
use Rattle.bd_represent.specs.Represents.{Represents}
use Rattle.bd_device.specs.Blocks.{Image}
use Rattle.bd_device.specs.Device.{left_now, OnlyReads, IsImageCause}
use Rattle.bd_device.specs.Moments.{IsOnly}
use Rattle.bd_device.specs.declared.device.Device.{Ghosts}
use Rattle.bd_device.specs.declared.fault.ImageFault.{ImageFault}
use Rattle.bd_device.specs.declared.fault.ImageFault.TheVariants as image
use Rattle.bd_node.specs.Meaning.{Nodes}
use Rattle.bd_node.specs.Tables.{Table, IsSound, root_at}
use Rattle.bd_table.specs.declared.table.Table.{Table as StoredTable}
use Rattle.bd_table.proofs.TableLemmas.{one_table}
use Rattle.bd_super.specs.Live.{IsLive}
use Rattle.bd_super.specs.declared.superblock.Super.{Super}
use Rattle.bd_log.specs.Logs.{LogState}
use Rattle.bd_image.specs.ImageTree.{ImageStandsFor}
use Rattle.bd_image.specs.Stored.{HoldsNodes, table_of as stored_table}
use Rattle.bd_image.specs.Versions.{version_of}
use Rattle.bd_image.specs.Damage.{unplaced, IsTreeAfter, HasRecord, IsBadAt}
use Rattle.bd_image.specs.Damage.IsBadAt.{refused_record}
use Rattle.bd_checkpoint.specs.declared.commands.PlacedCommand.{PlacedCommand}
use Rattle.bd_checkpoint.specs.Commands.{IsPlacedIn, placed_record, records_for}
use Rattle.bd_checkpoint.specs.Kept.{AllStandFor, AreOfTree}
use Rattle.bd_checkpoint.specs.Recovering.{saved_of, IsBadIn, LeadsBy, LeadsTo}
use Rattle.bd_checkpoint.proofs.Checkpointed.{failed_after}
use Rattle.bd_checkpoint.proofs.Replaying.{leads_by}
use Rattle.bd_pager.specs.Damage.{IsFirstDamaged}
use Rattle.bd_pager.specs.Pagers.{spots_of, nodes_of, table_of, is_known, is_bad}
use Rattle.bd_pager.specs.Places.{IsBadSpot}
use Rattle.bd_view.specs.Moves.{AreReplayed}
use Rattle.bd_engine.specs.Engines.{EngineState, IsSoundOn, IsBadOn, IsFreshOn}
use Rattle.bd_engine.specs.Stored.{IsFound, ArePlaced, IsStoredBy}
use Rattle.bd_engine.proofs.Damage.{first_shown}
use Rattle.bd_volume.specs.declared.fault.Fault.{Fault}
use Rattle.bd_volume.specs.declared.fault.Fault.TheVariants.{Device, Damaged, Worn, NoMemory, Full, Stopped}
use Rattle.bd_volume.specs.declared.volume.Volume.{Volume}
use Rattle.bd_volume.specs.declared.volume.replaying.Replay.{Replay}
use Rattle.bd_volume.specs.Faults.{image_fault_of, IsStartCause}
use Rattle.bd_volume.specs.Rehearsals.{HasBase}
use Rattle.bd_volume.specs.Replays.{IsReplayCause, ReplaysEarly, HasTreeOn, WearsAgain, Refuses, commands_of, HasReplayed, ReplaysFront, StopsReplaying, ShowsReplay}
use Rattle.bd_volume.specs.Unstarted.{ShowsWornReplay}
use Rattle.bd_volume.specs.Volume.{StandsFor, IsFirstView, view_of, without_walk, count_of, device_of}
use Rattle.bd_volume.specs.Wears.{WearsReplaying, IsWornInReplay, ShowsWorn}
use Rattle.bd_volume.proofs.Bad.{bad_before}
use Rattle.bd_volume.proofs.Replayed.{leads_one, leads_next}
use Rattle.bd_volume.proofs.Safe.{safe_now}
use Rattle.bd_volume.proofs.Starts.{as_stands}

-- ---- faults of an image

pub unworn_as : {A : Type 0} (cause : ImageFault) (e : Fault) (which : Counter) → e ≡ image_fault_of cause → e ≡ Worn which → A
unworn_as image.DeviceFault e which is same = let bad : ⊥ = cc in absurd bad
unworn_as (image.Damaged block) e which is same = let bad : ⊥ = cc in absurd bad
unworn_as image.NoMemory e which is same = let bad : ⊥ = cc in absurd bad

-- it wears no counter
pub unworn : (known : Option Image) (cause : ImageFault) (e : Fault) → e ≡ image_fault_of cause → (t : Tree) (n : ℕ) → IfSome known (λ image. ImageStandsFor t n image → (which : Counter) → e ≡ Worn which → WearsReplaying which image)
unworn None cause e is t n = tt
unworn (Some image) cause e is t n = λ stands which worn. unworn_as cause e which is worn

image_cause : {D : Type 0} (g : Ghosts D) (old new : D) (cause : ImageFault) → IsImageCause g old new (IsBadIn (g.contents old)) cause → IsStartCause g old new (image_fault_of cause)
image_cause g old new image.DeviceFault h = h
image_cause g old new (image.Damaged block) h = h
image_cause g old new image.NoMemory h = h

pub open_cause : {D : Type 0} (g : Ghosts D) (old new left : D) (cause : ImageFault) (e : Fault) → e ≡ image_fault_of cause → left ≡ new → IsImageCause g old new (IsBadIn (g.contents old)) cause → IsStartCause g old left e
open_cause g old new left cause e is same h =
    subst (λ (f : Fault). IsStartCause g old left f) (sym is) (subst (λ (d : _). IsStartCause g old d (image_fault_of cause)) (sym same) (image_cause g old new cause h))

-- ---- lists of commands

pub middle : {X : Type 0} (P : X → Type 0) (xs : List X) (y : X) (ys : List X) → AllByRecursion P (xs ++ y ∷ ys) → P y
middle P [] y ys h = h.0
middle P (x ∷ xs) y ys h = middle P xs y ys h.1

pub front_of : {X : Type 0} (P : X → Type 0) (xs ys : List X) → AllByRecursion P (xs ++ ys) → AllByRecursion P xs
front_of P [] ys h = tt
front_of P (x ∷ xs) ys h = (h.0, front_of P xs ys h.1)

pub whole_front : {X : Type 0} (list front : List X) → list ≡ front ++ [] → list ≡ front
whole_front list front there = there ∙ append-nil front

module _ {D : Type 0} (g : Ghosts D) where
  -- ---- over the replay

  -- nodes that have a tree have it in a fresh volume
  pub base_has : (v : Volume D) (fresh : IsFreshOn g v.engine) (base : Tree) → HasBase g v.engine.pager base → HasTreeOn g v base
  base_has v fresh base h = record {
    nodes = fresh (record { known = h.known; sound = h.have.sound });
    is_tree = h.have.is_tree;
    represents = h.have.represents;
  }

  led_base : (v : Volume D) (list : List PlacedCommand) (t : Tree) (n : ℕ) → (h : LeadsTo g v.engine.pager v.engine.live list t n) → HasBase g v.engine.pager h.base
  led_base v list t n h = record { known = h.known; have = h.have }

  -- what is found has a tree
  opened_has : (v : Volume D) (fresh : IsFreshOn g v.engine) (list : List PlacedCommand) (t : Tree) (n : ℕ) → (h : LeadsTo g v.engine.pager v.engine.live list t n) → HasTreeOn g v h.base
  opened_has v fresh list t n h = base_has v fresh h.base (led_base v list t n h)

  pub started_for : {T : Type 0} (how : Replay) (dev : D) (a v : Volume D) (fresh : IsFreshOn g a.engine) (r : Result T Fault) (list : List PlacedCommand) (t : Tree) (n : ℕ) → a.count ≡ a.engine.live.count → a.engine.log.waiting ≡ [] → OnlyReads g dev (device_of a) → IsOnly (g.contents (device_of a)) (left_now g (device_of a))
      → ReplaysEarly g how a v r → ReplaysFront g list [] a v → LeadsTo g a.engine.pager a.engine.live list t n → IsSomeAnd (g.contents dev) (ImageStandsFor t n) → StandsFor g v t n
  started_for how dev a v fresh r list t n counted idle reads only writes front led h =
      let all : list ≡ front.front = whole_front list front.front front.there in
      let done : HasReplayed g led.base front.front a v = front.done led.base (opened_has a fresh list t n led) in
      let same : done.tree ≡ t = leads_one front.front led.base done.tree t done.leads (subst (λ (l : List PlacedCommand). LeadsBy l led.base t) all led.leads) in
      let has : HasTreeOn g v t = subst (λ (u : Tree). HasTreeOn g v u) same done.has in
      record {
        nodes = has.nodes;
        is_tree = has.is_tree;
        represents = has.represents;
        count_is =
            let many : length list ≡ length front.front = ap (λ (l : List PlacedCommand). length l) all in
            omega (arith, front.count_is, counted, led.count_is, many);
        safe = λ on.
            let left : AllStandFor t n (left_now g (device_of v)) = λ c was. as_stands (g.contents dev) (g.contents (device_of a)) (left_now g (device_of a)) t n reads.kept only h c (writes.early.kept c was) in
            safe_now g v.engine t n left (ap (λ (l : LogState). l.waiting) writes.early.log ∙ idle);
      }

  -- what it stands for has nothing to do with the last graft
  pub without_walk_stands : (v : Volume D) (t : Tree) (n : ℕ) → StandsFor g v t n → StandsFor g (without_walk v) t n
  without_walk_stands v t n h = record {
    nodes = record { known = h.nodes.known; sound = h.nodes.sound; kept = h.nodes.kept };
    is_tree = h.is_tree;
    represents = h.represents;
    count_is = h.count_is;
    safe = h.safe;
  }

  -- ---- the first view

  first_for : (known : Option Image) (a v : Volume D) (fresh : IsFreshOn g a.engine) (list : List PlacedCommand) (t : Tree) (n : ℕ) → ReplaysFront g list [] a v → (IsSomeAnd known (ImageStandsFor t n) → LeadsTo g a.engine.pager a.engine.live list t n)
      → IfSome known (λ image. ImageStandsFor t n image → IsFound image (view_of g a) (commands_of list)) → IfSome known (λ image. ImageStandsFor t n image → IsFirstView image (view_of g (without_walk v)))
  first_for None a v fresh list t n front leads found = tt
  first_for (Some image) a v fresh list t n front leads found = λ stands.
      let led : LeadsTo g a.engine.pager a.engine.live list t n = leads stands in
      let all : list ≡ front.front = whole_front list front.front front.there in
      record {
        stored = view_of g a;
        base = led.base;
        represents = led.have.represents;
        commands = commands_of list;
        found = found stands;
        last = view_of g v;
        view_is = refl;
        replayed = subst (λ (l : List PlacedCommand). AreReplayed led.base (commands_of l) (view_of g a) (view_of g v)) (sym all) (front.done led.base (opened_has a fresh list t n led)).views;
      }

  pub first_views : (known : Option Image) (a v : Volume D) (fresh : IsFreshOn g a.engine) (list : List PlacedCommand) → ReplaysFront g list [] a v → ((t : Tree) (n : ℕ) → IsSomeAnd known (ImageStandsFor t n) → LeadsTo g a.engine.pager a.engine.live list t n)
      → ((t : Tree) (n : ℕ) → IfSome known (λ image. ImageStandsFor t n image → IsFound image (view_of g a) (commands_of list))) → (t : Tree) (n : ℕ) → IfSome known (λ image. ImageStandsFor t n image → IsFirstView image (view_of g (without_walk v)))
  first_views known a v fresh list front leads found t n = first_for known a v fresh list t n front (leads t n) (found t n)

  -- ---- why the replay stops

  -- sound nodes of the image are those of the volume
  stored_sound : (a : Volume D) (fresh : IsFreshOn g a.engine) (image : Image) (nodes : Nodes) → is_known g a.engine.pager → IsStoredBy g a.engine image → HoldsNodes image a.engine.pager.saved nodes → IsSound nodes (stored_table a.engine.pager.saved nodes) → IsSoundOn g a.engine
  stored_sound a fresh image nodes known stored holds sound = fresh (record {
    known = known;
    sound = subst (λ (m : Nodes). IsSound m (table_of a.engine.pager)) (sym (stored.nodes.nodes nodes holds)) (subst (λ (t : Table). IsSound nodes t) (sym (stored.nodes.table nodes holds)) sound);
  })

  -- a block that is bad for the volume's nodes is why the image stands for no tree
  bad_image : (a : Volume D) (fresh : IsFreshOn g a.engine) (image : Image) (block : ℕ) → is_known g a.engine.pager → g.contents (device_of a) ≡ Some image → IsStoredBy g a.engine image → IsBadOn g a.engine block → IsBadAt image block
  bad_image a fresh image block known there stored bad = elim (bad known) [
    | inl spot ↦ stored.nodes.bad a.engine.live stored.live_is stored.table_is spot.0 block (subst (λ (o : Option Image). IsBadSpot o (spots_of a.engine.pager spot.0) block) there spot.1)
    | inr first ↦
        first_shown image a.engine.live (saved_of a.engine.pager) block stored.live_is stored.table_is stored.at_is
        (subst (λ (o : Option Image). IsFirstDamaged o a.engine.pager.saved.entries a.engine.pager.at block) there first.0)
        (λ nodes holds sound. first.1 (stored_sound a fresh image nodes known stored holds sound))
  ]

  -- the tree of the image's nodes is one that the volume's have
  stored_has : (a : Volume D) (fresh : IsFreshOn g a.engine) (image : Image) (records : List (List ℕ)) (tree : Tree) → is_known g a.engine.pager → IsStoredBy g a.engine image → (h : IsTreeAfter image a.engine.live records tree) → HasTreeOn g a h.base
  stored_has a fresh image records tree known stored h =
      let same : h.table ≡ a.engine.pager.saved = one_table a.engine.live.slots a.engine.live.table h.table a.engine.pager.saved h.starts.table.0 stored.table_is.0 (sym h.starts.table.1 ∙ stored.table_is.1) in
      let holds : HoldsNodes image a.engine.pager.saved h.nodes = subst (λ (t : StoredTable). HoldsNodes image t h.nodes) same h.starts.stored in
      let sound : IsSound h.nodes (stored_table a.engine.pager.saved h.nodes) = subst (λ (t : StoredTable). IsSound h.nodes (stored_table t h.nodes)) same h.have.sound in
      let reps : Represents (root_at h.nodes (stored_table a.engine.pager.saved h.nodes)) h.base = subst (λ (t : StoredTable). Represents (root_at h.nodes (stored_table t h.nodes)) h.base) same h.have.represents in
      record {
        nodes = stored_sound a fresh image h.nodes known stored holds sound;
        is_tree = h.have.is_tree;
        represents = subst (λ (m : Nodes). Represents (root_at m (table_of a.engine.pager)) h.base) (sym (stored.nodes.nodes h.nodes holds)) (subst (λ (t : Table). Represents (root_at h.nodes t) h.base) (sym (stored.nodes.table h.nodes holds)) reps);
      }

  refused_image : (a mid : Volume D) (fresh : IsFreshOn g a.engine) (image : Image) (list rest : List PlacedCommand) (next : PlacedCommand) → IsPrefixFree IsLogged log_record → is_known g a.engine.pager → IsStoredBy g a.engine image → ArePlaced image a.engine.live list
      → AllByRecursion (IsPlacedIn (version_of a.engine.live)) list → ReplaysFront g list (next ∷ rest) a mid → Refuses g mid next.command → IsBadAt image next.block
  refused_image a mid fresh image list rest next free known stored placed each before refuses =
      let version : ℕ = version_of a.engine.live in
      let split : records_for list ≡ records_for before.front ++ placed_record next ∷ records_for rest = ap records_for before.there ∙ map-append placed_record before.front (next ∷ rest) in
      let all : AllByRecursion (IsPlacedIn version) (before.front ++ next ∷ rest) = subst (λ (l : List PlacedCommand). AllByRecursion (IsPlacedIn version) l) before.there each in
      let there : HasRecord image a.engine.live (records_for before.front) next.block (log_record next.command) = record {
        live = placed.live_is;
        batches = placed.batches;
        place = placed.place;
        logged = placed.batches_are;
        rest = records_for rest;
        there = sym placed.placed.same ∙ split;
      } in
      refused_record a.engine.live (records_for before.front) next.block next.command there (middle (IsPlacedIn version) before.front next rest all)
      (λ tree h accepts.
      let done : HasReplayed g h.base before.front a mid = before.done h.base (stored_has a fresh image (unplaced (records_for before.front)) tree known stored h) in
      let led : LeadsBy before.front h.base tree = leads_by free version before.front h.base tree (front_of (IsPlacedIn version) before.front (next ∷ rest) all) h.leads in
      let same : tree ≡ done.tree = leads_one before.front h.base tree done.tree led done.leads in
      refuses done.tree done.has (subst (λ (u : Tree). Accepts u next.command) same accepts))

  bad_start : (known : Option Image) (a mid : Volume D) (fresh : IsFreshOn g a.engine) (list rest : List PlacedCommand) (next : PlacedCommand) (block : ℕ) → IsPrefixFree IsLogged log_record → g.contents (device_of a) ≡ known → (IsSome known → is_known g a.engine.pager) → IfSome known (IsStoredBy g a.engine)
      → IfSome known (λ image. ArePlaced image a.engine.live list) → AllByRecursion (IsPlacedIn (version_of a.engine.live)) list → ReplaysFront g list (next ∷ rest) a mid → ((block ≡ next.block) × Refuses g mid next.command) ⊎ IsBadOn g mid.engine block → IsBadIn known block
  bad_start None a mid fresh list rest next block free there told stored placed each before cause = tt
  bad_start (Some image) a mid fresh list rest next block free there told stored placed each before (inl refused) =
      subst (λ (b : ℕ). IsBadAt image b) (sym refused.0) (refused_image a mid fresh image list rest next free (told (search rules)) stored placed each before refused.1)
  bad_start (Some image) a mid fresh list rest next block free there told stored placed each before (inr bad) =
      bad_image a fresh image block (told (search rules)) there stored (bad_before g a.engine mid.engine block before.good before.sound bad)

  pub replay_cause : (dev : D) (a v : Volume D) (fresh : IsFreshOn g a.engine) (list : List PlacedCommand) (fault : Fault) → IsPrefixFree IsLogged log_record → g.contents (device_of a) ≡ g.contents dev → (IsSome (g.contents dev) → is_known g a.engine.pager) → IfSome (g.contents dev) (IsStoredBy g a.engine) → IfSome (g.contents dev) (λ image. ArePlaced image a.engine.live list)
      → All (IsPlacedIn (version_of a.engine.live)) list → g.fault_count (device_of a) ≡ g.fault_count dev → StopsReplaying g fault list a → IsReplayCause g a v fault → IsStartCause g dev (device_of v) fault
  replay_cause dev a v fresh list Device free there told stored placed each same stops h = failed_after g dev (device_of a) (device_of v) same h
  replay_cause dev a v fresh list (Damaged block) free there told stored placed each same stops h =
      (bad_start (g.contents dev) a stops.mid fresh list stops.rest stops.next block free there told stored placed (recursion_from_All (IsPlacedIn (version_of a.engine.live)) list each) stops.before stops.cause, h ∙ same)
  replay_cause dev a v fresh list (Worn which) free there told stored placed each same stops h = h ∙ same
  replay_cause dev a v fresh list NoMemory free there told stored placed each same stops h = h ∙ same
  replay_cause dev a v fresh list (Full free2 need) free there told stored placed each same stops h = h
  replay_cause dev a v fresh list (Stopped call) free there told stored placed each same stops h = h

  -- ---- from an image that stands for a tree

  -- a sound engine has no bad block, where its nodes have none
  pub not_bad : (e : EngineState D) (block : ℕ) → IsSoundOn g e → ¬ is_bad g e.pager block → IsBadOn g e block → ⊥
  not_bad e block s good bad = good (λ known. elim (bad known) [
    | inl spot ↦ inl spot
    | inr first ↦ absurd (first.1 s)
  ])

  not_damaged : (a mid : Volume D) (fresh : IsFreshOn g a.engine) (list rest : List PlacedCommand) (next : PlacedCommand) (block : ℕ) (t : Tree) (n : ℕ) → LeadsTo g a.engine.pager a.engine.live list t n → ReplaysFront g list (next ∷ rest) a mid
      → (IsSoundOn g a.engine → (block : ℕ) → ¬ is_bad g a.engine.pager block) → ((block ≡ next.block) × Refuses g mid next.command) ⊎ IsBadOn g mid.engine block → ⊥
  not_damaged a mid fresh list rest next block t n led before good (inl refused) =
      let done : HasReplayed g led.base before.front a mid = before.done led.base (opened_has a fresh list t n led) in
      refused.1 done.tree done.has (leads_next before.front next rest led.base done.tree t (subst (λ (l : List PlacedCommand). LeadsBy l led.base t) before.there led.leads) done.leads)
  not_damaged a mid fresh list rest next block t n led before good (inr bad) =
      let s : IsSoundOn g a.engine = (opened_has a fresh list t n led).nodes in
      not_bad a.engine block s (good s block) (bad_before g a.engine mid.engine block before.good before.sound bad)

  pub replay_undamaged : (a : Volume D) (fresh : IsFreshOn g a.engine) (list : List PlacedCommand) (fault : Fault) (block : ℕ) (t : Tree) (n : ℕ) → LeadsTo g a.engine.pager a.engine.live list t n → (IsSoundOn g a.engine → (block : ℕ) → ¬ is_bad g a.engine.pager block) → StopsReplaying g fault list a → fault ≢ Damaged block
  replay_undamaged a fresh list fault block t n led good stops is =
      let h : StopsReplaying g (Damaged block) list a = subst (λ (f : Fault). StopsReplaying g f list a) is stops in
      not_damaged a h.mid fresh list h.rest h.next block t n led h.before good h.cause

  -- where so many commands were replayed, and a counter has no room for the next one
  pub worn_of : (image : Image) (a : Volume D) (fresh : IsFreshOn g a.engine) (list : List PlacedCommand) (which : Counter) (base : Tree) → a.count ≡ a.engine.live.count → IsLive image a.engine.live → IsFound image (view_of g a) (commands_of list)
      → HasBase g a.engine.pager base → StopsReplaying g (Worn which) list a → WearsReplaying which image
  worn_of image a fresh list which base counted live found has h =
      let done : HasReplayed g base h.before.front a h.mid = h.before.done base (base_has a fresh base has) in
      let worn : WearsAgain which (count_of h.mid) h.next.command (view_of g h.mid) = h.cause (h.before.sound (base_has a fresh base has).nodes) in
      let split : commands_of list ≡ commands_of h.before.front ++ h.next.command ∷ commands_of h.rest = ap commands_of h.before.there ∙ map-append (λ (p : PlacedCommand). p.command) h.before.front (h.next ∷ h.rest) in
      let many : length (commands_of h.before.front) ≡ length h.before.front = length-map h.before.front (λ (p : PlacedCommand). p.command) in
      let count : count_of h.mid ≡ a.engine.live.count + length (commands_of h.before.front) = omega (arith, h.before.count_is, counted, many) in
      record {
        live = a.engine.live;
        live_is = live;
        stored = view_of g a;
        base = base;
        represents = has.have.represents;
        front = commands_of h.before.front;
        next = h.next.command;
        rest = commands_of h.rest;
        found = subst (λ (cs : List Command). IsFound image (view_of g a) cs) split found;
        mid = view_of g h.mid;
        replayed = done.views;
        made = worn.made;
        last = worn.last;
        flushed = worn.flushed;
        few = worn.few;
        worn = subst (λ (k : ℕ). IsWornInReplay which k h.next.command worn.made worn.last.tree) count worn.worn;
      }

  pub replay_wears : (known : Option Image) (a : Volume D) (fresh : IsFreshOn g a.engine) (list : List PlacedCommand) (fault : Fault) (t : Tree) (n : ℕ) → a.count ≡ a.engine.live.count → IfSome known (λ image. ArePlaced image a.engine.live list)
      → IfSome known (λ image. ImageStandsFor t n image → IsFound image (view_of g a) (commands_of list)) → (IsSomeAnd known (ImageStandsFor t n) → LeadsTo g a.engine.pager a.engine.live list t n) → StopsReplaying g fault list a
      → IfSome known (λ image. ImageStandsFor t n image → (which : Counter) → fault ≡ Worn which → WearsReplaying which image)
  replay_wears None a fresh list fault t n counted placed found leads stops = tt
  replay_wears (Some image) a fresh list fault t n counted placed found leads stops = λ stands which is.
      let led : LeadsTo g a.engine.pager a.engine.live list t n = leads stands in
      worn_of image a fresh list which led.base counted placed.live_is (found stands) (led_base a list t n led) (subst (λ (f : Fault). StopsReplaying g f list a) is stops)

  -- where the nodes may not be known
  pub replay_shows : (known : Option Image) (a v : Volume D) (list : List PlacedCommand) (fault : Fault) (which : Counter) → a.count ≡ a.engine.live.count → a.engine.flushes ≡ 0 → IfSome known (λ image. ArePlaced image a.engine.live list) → v.engine.live ≡ a.engine.live
      → ShowsReplay g fault list a v → fault ≡ Worn which → ShowsWornReplay g which known v
  replay_shows known a v list fault which counted fresh placed live shows is =
      let h : ShowsReplay g (Worn which) list a v = subst (λ (f : Fault). ShowsReplay g f list a v) is shows in
      let same : v.engine.live.count ≡ a.engine.live.count = ap (λ (s : Super). s.count) live in
      let count : count_of h.mid ≡ v.engine.live.count + length h.before.front = omega (arith, h.before.count_is, counted, same) in
      record {
        front = h.before.front;
        next = h.next;
        rest = h.rest;
        placed = subst (λ (l : List PlacedCommand). IfSome known (λ image. ArePlaced image v.engine.live l)) h.before.there (subst (λ (s : Super). IfSome known (λ image. ArePlaced image s list)) (sym live) placed);
        before = h.mid.engine.flushes;
        few = omega (arith, h.before.few, fresh);
        shows = subst (λ (n : ℕ). ShowsWorn g which n h.mid.engine.flushes h.next.command v.engine) count h.shows;
      }

  -- ---- on a new image

  pub formatted_for : (v : Volume D) (fresh : IsFreshOn g v.engine) (t : Tree) (n : ℕ) → is_known g v.engine.pager → AreOfTree (nodes_of g v.engine.pager) (table_of v.engine.pager) t → v.count ≡ n → AllStandFor t n (left_now g (device_of v)) → v.engine.log.waiting ≡ [] → StandsFor g v t n
  formatted_for v fresh t n known have count kept idle = record {
    nodes = fresh (record { known = known; sound = have.sound });
    is_tree = have.is_tree;
    represents = have.represents;
    count_is = count;
    safe = λ on. safe_now g v.engine t n kept idle;
  }
