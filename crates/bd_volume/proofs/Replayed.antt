-- Commands of the log, replayed one after the other.
use Rattle.std.proofs.Common.{◌≡◌, ℕ, ◌+◌, ◌*◌, ◌<◌, ◌≤◌, ◌^◌, Bool, false, List, [], ◌∷◌, ◌++◌, length, None, Some, refl, sym, subst, ap, ◌∙◌, inl, inr, arith, lit≤, append_assoc}
use Rattle.std.specs.Prelude.{◌⊎◌, Option, Result, Ok, Err, OnOk, IfErr, IsTrue}
use Rattle.std.proofs.lemmas.List.{length-append}
use Rattle.bd_limits.specs.Limits.{flush_limit}
use Rattle.bd_command.specs.Command.{IsCommand}
use Rattle.bd_command.specs.Log.{IsLogged}
use Rattle.bd_command.specs.declared.Command.{Command}
use Rattle.bd_command.specs.declared.reply.Reply.{Reply}
use Rattle.bd_command.specs.declared.reply.Reply.TheVariants as reply
use Rattle.bd_message.specs.declared.message.Message.{Message}
use Rattle.bd_model.specs.Tree.{Tree}
use Rattle.bd_model.specs.Step.{refusal_of}
use Rattle.bd_model.specs.Laws.{Accepts, after}
use Rattle.bd_model.proofs.TreeStays.{after_stays}
use Rattle.bd_message.specs.declared.fault.Counter.{Counter}
use Rattle.bd_message.specs.declared.fault.Counter.TheVariants.{Count, NextId, Level, Refs, Epoch, Flushes}
use Rattle.bd_message.specs.declared.fault.MapFault.{MapFault}
use Rattle.bd_message.specs.declared.fault.MapFault.TheVariants as map
use Rattle.bd_message.specs.KeyMaps.{At, SameAt, IsApplied, IsGrafted, IsCause, HasMapCause, NeverWorn, StaysUnlessDevice}
use Rattle.bd_device.specs.Device.{LastFailed}
use Rattle.bd_device.specs.declared.device.Device.{Ghosts}
use Rattle.bd_represent.specs.Represents.{Represents}
use Rattle.bd_represent.proofs.TreeLemmas.{Represents-along}
use Rattle.bd_dirs.specs.declared.plan.Plan.{Plan}
use Rattle.bd_dirs.specs.declared.plan.Plan.TheVariants.{Refused, Apply, Graft}
use Rattle.bd_dirs.specs.Kinds.{kind_of}
use Rattle.bd_dirs.specs.Plans.{IsPlan, IsPlanKind}
use Rattle.bd_dirs.specs.Sendings.{Sending, Batch, Move, sending}
use Rattle.bd_graft.specs.Grafting.{IsWornByGraft, OnWorn}
use Rattle.bd_effects.specs.Carrying.{accepts, TakesStep}
use Rattle.bd_effects.proofs.Carried.{done_accepted, applied_plan, grafted_plan}
use Rattle.bd_effects.proofs.Uncounted.{never_counted}
use Rattle.bd_checkpoint.specs.declared.commands.PlacedCommand.{PlacedCommand}
use Rattle.bd_checkpoint.specs.Recovering.{LeadsBy}
use Rattle.bd_checkpoint.proofs.Checkpointed.{failed_after}
use Rattle.bd_pager.specs.Pagers.{nodes_of, table_of, is_known, is_bad}
use Rattle.bd_node.specs.Tables.{IsSound}
use Rattle.bd_view.specs.Trees.{HasSent, IsSettledFor, TreeView, sent_from, waiting_limit}
use Rattle.bd_view.specs.Views.{View, keys_of as view_keys}
use Rattle.bd_view.specs.Moves.{OnlyNodes, FlushesAgain, AreFlushedAgain, IsReplayed, AreReplayed}
use Rattle.bd_view.specs.Moves.AreFlushedAgain.{none, more}
use Rattle.bd_engine.specs.Engines.{EngineState, keys_of, flushed_on, IsSoundOn, IsReadOn, IsWornIn, view_of as view_in}
use Rattle.bd_engine.proofs.Counted.{flushed_none as uncounted, flushed_once, flushed_few}
use Rattle.bd_volume.specs.declared.fault.Fault.{Fault}
use Rattle.bd_volume.specs.declared.fault.Fault.TheVariants.{Device, Damaged, Worn, NoMemory, Full, Stopped}
use Rattle.bd_volume.specs.declared.volume.Volume.{Volume}
use Rattle.bd_volume.specs.declared.volume.replaying.Replay.{Replay}
use Rattle.bd_volume.specs.Faults.{fault_of, HasNotFailed, IsFaultCause, HasFaultCause}
use Rattle.bd_volume.specs.Volume.{view_of, count_of, device_of, stop_of}
use Rattle.bd_volume.specs.Wears.{IsWornInReplay}
use Rattle.bd_volume.specs.Replays.{IsReplayCause, HasReplayCause, HasTreeOn, SendsAgain, ReplaysOn, IsWornAgain, WearsAgain, HasFlushedAgain, IsFlushFault, IsAgainFault, IsSendFault, IsReplayFault, commands_of, HasReplayed, ReplaysFront, KeepsGood}
use Rattle.bd_volume.proofs.Bad.{good_same, good_both, good_read, bad_on, bad_before}
use Rattle.bd_volume.proofs.Early.{GoesEarly, goes_none, goes_both}
use Rattle.bd_volume.proofs.Faulted.{worn_in_step, worn_kind, worn_graft_again}
use Rattle.bd_volume.proofs.Read.{read_same}

-- ---- flush steps

pub again_same : (c : Command) (n : ℕ) (a b d : View) → AreFlushedAgain c n a b → d ≡ b → AreFlushedAgain c n a d
again_same c n a b d p same = subst (λ (v : View). AreFlushedAgain c n a v) (sym same) p

-- a counter that has no room for the next one has none for the command
worn_again : (which : Counter) (count : ℕ) (c : Command) (made : ℕ) (v : TreeView) → IsWornAgain which c v → IsWornInReplay which count c made v
worn_again Count count c made v h = absurd h
worn_again NextId count c made v h = inl h
worn_again Level count c made v h = inl h
worn_again Refs count c made v h = inl h
worn_again Epoch count c made v h = absurd h
worn_again Flushes count c made v h = absurd h

pub all_flushed : (count : ℕ) (c : Command) (made : ℕ) (a b : View) → AreFlushedAgain c made a b → made ≡ flush_limit → waiting_limit c < b.tree.table.size → WearsAgain Flushes count c a
all_flushed count c made a b p all waits = record { made = made; last = b; flushed = p; few = omega (arith, all); worn = record { waits = waits; all = all } }

-- ---- one command

pub replayed_view : (t : Tree) (c : Command) (what : Sending) (a b : View) → SendsAgain c what a b → sending (view_keys a) t c ≡ what → IsReplayed t c a b
replayed_view t c what a b h is = record {
  made = h.made;
  mid = h.mid;
  flushed = h.flushed;
  few = h.few;
  enough = h.enough;
  settled = subst (λ (x : Sending). (h.made ≡ flush_limit) ⊎ IsSettledFor (sent_from x) h.mid.tree) (sym is) h.settled;
  sent = subst (λ (x : Sending). HasSent x h.mid.tree b.tree) (sym is) h.sent;
  rest = h.rest;
}

-- ---- several commands

-- the tree that a command follows is one
pub leads_one : (list : List PlacedCommand) (t u v : Tree) → LeadsBy list t u → LeadsBy list t v → u ≡ v
leads_one [] t u v h k = sym h ∙ k
leads_one (p ∷ ps) t u v h k = leads_one ps (after t p.command) u v h.1 k.1

pub leads_last : (list : List PlacedCommand) (p : PlacedCommand) (t u : Tree) → LeadsBy list t u → Accepts u p.command → LeadsBy (list ++ p ∷ []) t (after u p.command)
leads_last [] p t u h accepts = (subst (λ (x : Tree). Accepts x p.command) (sym h) accepts, ap (λ (x : Tree). after x p.command) h)
leads_last (q ∷ qs) p t u h accepts = (h.0, leads_last qs p (after t q.command) u h.1 accepts)

-- one that comes after others is accepted in its turn
pub leads_next : (list : List PlacedCommand) (p : PlacedCommand) (rest : List PlacedCommand) (t u v : Tree) → LeadsBy (list ++ p ∷ rest) t v → LeadsBy list t u → Accepts u p.command
leads_next [] p rest t u v h k = subst (λ (x : Tree). Accepts x p.command) k h.0
leads_next (q ∷ qs) p rest t u v h k = leads_next qs p rest (after t q.command) u v h.1 k.1

replayed_last : (list : List PlacedCommand) (p : PlacedCommand) (t u : Tree) (a b d : View) → LeadsBy list t u → AreReplayed t (commands_of list) a b → IsReplayed u p.command b d → AreReplayed t (commands_of (list ++ p ∷ [])) a d
replayed_last [] p t u a b d leads views one =
    (d, subst (λ (v : View). IsReplayed t p.command v d) views (subst (λ (x : Tree). IsReplayed x p.command b d) (sym leads) one), refl)
replayed_last (q ∷ qs) p t u a b d leads views one = (views.0, views.1, replayed_last qs p (after t q.command) u views.0 b d leads.1 views.2 one)

-- a plan that isn't done is a refusal
pub not_accepted : (at : At) (t : Tree) (c : Command) (plan : Plan) → accepts plan ≡ false → IsPlan at t c plan → ¬ Accepts t c
not_accepted at t c (Refused refusal) off h = λ accepts.
    let some : refusal_of t c ≡ Some refusal = h in
    let none : refusal_of t c ≡ None = accepts in
    cc
not_accepted at t c (Apply list) off h = λ accepts. cc
not_accepted at t c (Graft s d keep) off h = λ accepts. cc

module _ {D : Type 0} (g : Ghosts D) where
  -- ---- whether the device failed

  replay_cause_then : (a b d : Volume D) (fault : Fault) → HasNotFailed g a b → IsReplayCause g b d fault → IsReplayCause g a d fault
  replay_cause_then a b d Device same h = failed_after g (device_of a) (device_of b) (device_of d) same h
  replay_cause_then a b d (Damaged block) same h = h ∙ same
  replay_cause_then a b d (Worn which) same h = h ∙ same
  replay_cause_then a b d NoMemory same h = h ∙ same
  replay_cause_then a b d (Full free need) same h = h
  replay_cause_then a b d (Stopped call) same h = h

  -- after a call that was Ok
  pub cause_then : {T : Type 0} (r : Result T Fault) (a b d : Volume D) → HasNotFailed g a b → HasReplayCause g b d r → HasReplayCause g a d r
  cause_then (Ok x) a b d same h = record { kept = h.kept ∙ same; failed = tt }
  cause_then (Err e) a b d same h = record { kept = tt; failed = replay_cause_then a b d e same h.failed }

  pub cause_ok : {T : Type 0} (a b : Volume D) (x : T) → HasNotFailed g a b → HasReplayCause {T = T} g a b (Ok x)
  cause_ok a b x same = record { kept = same; failed = tt }

  pub cause_worn : {T : Type 0} (a b : Volume D) (which : Counter) → HasNotFailed g a b → HasReplayCause {T = T} g a b (Err (Worn which))
  cause_worn a b which same = record { kept = tt; failed = same }

  pub cause_damaged : {T : Type 0} (a b : Volume D) (block : ℕ) → HasNotFailed g a b → HasReplayCause {T = T} g a b (Err (Damaged block))
  cause_damaged a b block same = record { kept = tt; failed = same }

  cause_device : {T : Type 0} (a b : Volume D) (fault : Fault) → fault ≡ Device → IsFaultCause g a b fault → HasReplayCause {T = T} g a b (Err fault)
  cause_device {T} a b fault is h =
      let failed : LastFailed g (device_of a) (device_of b) = subst (λ (f : Fault). IsFaultCause g a b f) is h in
      subst (λ (f : Fault). HasReplayCause {T = T} g a b (Err f)) (sym is) (record { kept = tt; failed = failed })

  -- nodes were written early, or the device failed
  pub cause_spill : {T : Type 0} (r : Result T Fault) (a b : Volume D) → IfErr r (λ fault. fault ≡ Device) → HasFaultCause g a b r → HasReplayCause g a b r
  cause_spill (Ok x) a b is h = record { kept = h.kept; failed = tt }
  cause_spill {T} (Err e) a b is h = cause_device {T = T} a b e is h.failed

  map_replay_cause : (a b : Volume D) (worn : Counter → Type 0) (fault : MapFault) → StaysUnlessDevice (g.fault_count (device_of a)) (g.fault_count (device_of b)) fault
      → IsCause (g.fault_count (device_of a)) (g.fault_count (device_of b)) (g.last_failed (device_of b)) (is_bad g b.engine.pager) worn fault → IsReplayCause g a b (fault_of fault)
  map_replay_cause a b worn map.DeviceFault stays h = record { one = h.0; last = h.1 }
  map_replay_cause a b worn (map.Damaged block) stays h = stays
  map_replay_cause a b worn (map.Worn which) stays h = stays
  map_replay_cause a b worn map.NoMemory stays h = stays

  -- a call of the engine failed
  pub cause_map : {T U : Type 0} (a b : Volume D) (worn : Counter → Type 0) (fault : MapFault) → HasMapCause {T = U} (g.fault_count (device_of a)) (g.fault_count (device_of b)) (g.last_failed (device_of b)) (is_bad g b.engine.pager) worn (Err fault) → HasReplayCause {T = T} g a b (Err (fault_of fault))
  cause_map a b worn fault h = record { kept = tt; failed = map_replay_cause a b worn fault h.stays h.failed }

  -- ---- faults

  worn_in_again : (a : Volume D) (which : Counter) (c : Command) → is_known g a.engine.pager → IsWornIn g a.engine.pager c which → IsWornAgain which c (view_of g a).tree
  worn_in_again a Count c known h = worn_in_step g a Count c known h
  worn_in_again a NextId c known h = worn_in_step g a NextId c known h
  worn_in_again a Level c known h = worn_in_step g a Level c known h
  worn_in_again a Refs c known h = worn_in_step g a Refs c known h
  worn_in_again a Epoch c known h =
      never_counted (is_known g a.engine.pager × IsSound (nodes_of g a.engine.pager) (table_of a.engine.pager)) (view_of g a).tree c Epoch (λ step w. w) (λ e. cc) h
  worn_in_again a Flushes c known h = worn_in_step g a Flushes c known h

  -- of a flush step
  pub flush_again_fails : (m n : ℕ) (last : Bool) (a b : Volume D) (c : Command) (fault : MapFault) → (IsSoundOn g a.engine → IsSoundOn g b.engine)
      → KeepsGood g a.engine b.engine → IsCause m n last (is_bad g b.engine.pager) (IsWornIn g a.engine.pager c) fault → IsFlushFault g (fault_of fault) c a
  flush_again_fails m n last a b c map.DeviceFault sound good h = tt
  flush_again_fails m n last a b c (map.Damaged block) sound good h = bad_before g a.engine b.engine block good sound (bad_on g b.engine block h)
  flush_again_fails m n last a b c (map.Worn which) sound good h = λ s. worn_in_again a which c s.known h
  flush_again_fails m n last a b c map.NoMemory sound good h = tt

  -- or of what is written before it
  pub device_flush_fails : (fault : Fault) (c : Command) (a : Volume D) → fault ≡ Device → IsFlushFault g fault c a
  device_flush_fails fault c a is = subst (λ (f : Fault). IsFlushFault g f c a) (sym is) tt

  -- after nodes were written early
  pub early_flush_fails : (fault : Fault) (c : Command) (a b : Volume D) → KeepsGood g a.engine b.engine → (IsSoundOn g a.engine → IsSoundOn g b.engine) → (IsSoundOn g a.engine → view_of g b ≡ view_of g a) → IsFlushFault g fault c b → IsFlushFault g fault c a
  early_flush_fails Device c a b good sound same h = tt
  early_flush_fails (Damaged block) c a b good sound same h = bad_before g a.engine b.engine block good sound h
  early_flush_fails (Worn which) c a b good sound same h = λ s. subst (λ (v : View). IsWornAgain which c v.tree) (same s) (h (sound s))
  early_flush_fails NoMemory c a b good sound same h = tt
  early_flush_fails (Full free need) c a b good sound same h = h
  early_flush_fails (Stopped call) c a b good sound same h = h

  -- after other flush steps
  pub flushes_fail : (fault : Fault) (c : Command) (a b : Volume D) (made : ℕ) → KeepsGood g a.engine b.engine → (IsSoundOn g a.engine → IsSoundOn g b.engine) → (IsSoundOn g a.engine → AreFlushedAgain c made (view_of g a) (view_of g b)) → made ≤ flush_limit
      → IsFlushFault g fault c b → IsAgainFault g fault c a
  flushes_fail Device c a b made good sound flushed few h = tt
  flushes_fail (Damaged block) c a b made good sound flushed few h = bad_before g a.engine b.engine block good sound h
  flushes_fail (Worn which) c a b made good sound flushed few h = λ s. record {
    made = made;
    last = view_of g b;
    flushed = flushed s;
    few = few;
    worn = worn_again which (count_of a) c made (view_of g b).tree (h (sound s));
  }
  flushes_fail NoMemory c a b made good sound flushed few h = tt
  flushes_fail (Full free need) c a b made good sound flushed few h = h
  flushes_fail (Stopped call) c a b made good sound flushed few h = h

  -- ---- flush steps of a command of the log

  -- so many were made
  pub record FlushedOn (how : Replay) (c : Command) (made : ℕ) (a b : Volume D) : Type 0 where
    pub sound : IsSoundOn g a.engine → IsSoundOn g b.engine
    pub same : IsSoundOn g a.engine → SameAt (keys_of g a.engine.pager) (keys_of g b.engine.pager)
    pub flushed : IsSoundOn g a.engine → AreFlushedAgain c made (view_of g a) (view_of g b)
    pub goes : GoesEarly g how a b
    pub faults : HasNotFailed g a b
    pub count_is : count_of b ≡ count_of a
    pub counted : b.engine.flushes ≡ flushed_on a.engine.flushes made

  pub flushed_none : (how : Replay) (c : Command) (a : Volume D) → stop_of a ≡ None → a.engine.flushes < 2 ^ 64 → FlushedOn how c 0 a a
  flushed_none how c a going low = record {
    sound = λ s. s;
    same = λ s k. refl;
    flushed = λ s. none (view_of g a);
    goes = goes_none g how a going;
    faults = refl;
    count_is = refl;
    counted = uncounted a.engine.flushes low;
  }

  pub flushed_more : (how : Replay) (c : Command) (made : ℕ) (a b d : Volume D) → FlushedOn how c made a b → (IsSoundOn g b.engine → IsSoundOn g d.engine) → (IsSoundOn g b.engine → SameAt (keys_of g b.engine.pager) (keys_of g d.engine.pager))
      → (IsSoundOn g b.engine → FlushesAgain c (view_of g b) (view_of g d)) → GoesEarly g how b d → HasNotFailed g b d → count_of d ≡ count_of b → d.engine.flushes ≡ flushed_on b.engine.flushes 1 → FlushedOn how c (made + 1) a d
  flushed_more how c made a b d h sound same step goes faults count counted = record {
    sound = λ s. sound (h.sound s);
    same = λ s k. same (h.sound s) k ∙ h.same s k;
    flushed = λ s. more made (view_of g a) (view_of g b) (view_of g d) (h.flushed s) (step (h.sound s));
    goes = goes_both g how a b d h.goes goes;
    faults = faults ∙ h.faults;
    count_is = count ∙ h.count_is;
    counted = counted ∙ ap (λ (n : ℕ). flushed_on n 1) h.counted ∙ flushed_once a.engine.flushes made;
  }

  -- no more was
  pub flushed_last : (how : Replay) (c : Command) (made : ℕ) (a b d : Volume D) → FlushedOn how c made a b → (IsSoundOn g b.engine → IsSoundOn g d.engine) → (IsSoundOn g b.engine → SameAt (keys_of g b.engine.pager) (keys_of g d.engine.pager))
      → (IsSoundOn g b.engine → view_of g d ≡ view_of g b) → GoesEarly g how b d → HasNotFailed g b d → count_of d ≡ count_of b → d.engine.flushes ≡ b.engine.flushes → FlushedOn how c made a d
  flushed_last how c made a b d h sound same view goes faults count counted = record {
    sound = λ s. sound (h.sound s);
    same = λ s k. same (h.sound s) k ∙ h.same s k;
    flushed = λ s. again_same c made (view_of g a) (view_of g b) (view_of g d) (h.flushed s) (view (h.sound s));
    goes = goes_both g how a b d h.goes goes;
    faults = faults ∙ h.faults;
    count_is = count ∙ h.count_is;
    counted = counted ∙ h.counted;
  }

  -- there were few
  pub few_made : (how : Replay) (c : Command) (made : ℕ) (a b d : Volume D) → FlushedOn how c made a b → made ≤ flush_limit → d.engine.flushes ≡ b.engine.flushes → d.engine.flushes ≤ a.engine.flushes + flush_limit
  few_made how c made a b d h few same =
      let low : flushed_on a.engine.flushes made ≤ a.engine.flushes + made = flushed_few a.engine.flushes made in
      omega (arith, low, few, same, h.counted)

  pub has_flushed : (how : Replay) (c : Command) (source : Option (List ℕ)) (made : ℕ) (a b : Volume D) → FlushedOn how c made a b → made ≤ flush_limit → IsSoundOn g a.engine → (made ≡ flush_limit) ⊎ IsSettledFor source (view_of g b).tree → HasFlushedAgain c source (view_of g a) (view_of g b)
  has_flushed how c source made a b h few s settled = record { made = made; flushed = h.flushed s; few = few; settled = settled }

  -- ---- faults of what it sends

  -- of its messages
  pub append_fails : (m n : ℕ) (last : Bool) (a d : Volume D) (c : Command) (fault : MapFault) → (IsSoundOn g a.engine → IsSoundOn g d.engine) → KeepsGood g a.engine d.engine
      → IsCause m n last (is_bad g d.engine.pager) NeverWorn fault → IsAgainFault g (fault_of fault) c a
  append_fails m n last a d c map.DeviceFault sound good h = tt
  append_fails m n last a d c (map.Damaged block) sound good h = bad_before g a.engine d.engine block good sound (bad_on g d.engine block h)
  append_fails m n last a d c (map.Worn which) sound good h = absurd h
  append_fails m n last a d c map.NoMemory sound good h = tt

  -- of its graft
  pub graft_fails : (m n : ℕ) (failed : Bool) (worn : Counter → Type 0) (a b d : Volume D) (c : Command) (s1 d1 : List ℕ) (keep : Bool) (fault : MapFault) → IsPlanKind c (Graft s1 d1 keep) → (IsSoundOn g a.engine → IsSoundOn g b.engine) → (IsSoundOn g b.engine → IsSoundOn g d.engine)
      → KeepsGood g a.engine d.engine → (IsSoundOn g a.engine → HasFlushedAgain c (Some s1) (view_of g a) (view_of g b)) → (table_of b.engine.pager).size ≤ waiting_limit c
      → IsCause m n failed (is_bad g d.engine.pager) worn fault → (IsSoundOn g b.engine → OnWorn (IsWornByGraft (nodes_of g b.engine.pager) (table_of b.engine.pager) s1 d1 keep) fault) → IsAgainFault g (fault_of fault) c a
  graft_fails m n failed worn a b d c s1 d1 keep map.DeviceFault kind sound last good flushed enough h by = tt
  graft_fails m n failed worn a b d c s1 d1 keep (map.Damaged block) kind sound last good flushed enough h by = bad_before g a.engine d.engine block good (λ s. last (sound s)) (bad_on g d.engine block h)
  graft_fails m n failed worn a b d c s1 d1 keep (map.Worn which) kind sound last good flushed enough h by = λ s.
      let v : View = view_of g b in
      record {
        made = (flushed s).made;
        last = v;
        flushed = (flushed s).flushed;
        few = (flushed s).few;
        worn = worn_graft_again which (count_of a) c (flushed s).made v.tree s1 d1 keep (by (sound s)) (worn_kind (kind_of c) which c v.tree s1 d1 keep kind enough (by (sound s)));
      }
  graft_fails m n failed worn a b d c s1 d1 keep map.NoMemory kind sound last good flushed enough h by = tt

  -- of what is planned
  pub sends_fail : {T : Type 0} (r : Result T Fault) (p : PlacedCommand) (plan : Plan) (a : Volume D) → IfErr r (λ fault. IsAgainFault g fault p.command a) → IfErr r (λ fault. IsSendFault g fault p plan a)
  sends_fail (Ok x) p plan a h = tt
  sends_fail (Err Device) p plan a h = tt
  sends_fail (Err (Damaged block)) p plan a h = inr h
  sends_fail (Err (Worn which)) p plan a h = h
  sends_fail (Err NoMemory) p plan a h = tt
  sends_fail (Err (Full free need)) p plan a h = h
  sends_fail (Err (Stopped call)) p plan a h = h

  -- of one command
  pub replay_fails : (fault : Fault) (p : PlacedCommand) (plan : Plan) (a b : Volume D) → IsReadOn g a.engine b.engine → count_of b ≡ count_of a → ((t : Tree) → HasTreeOn g a t → IsPlan (keys_of g a.engine.pager) t p.command plan) → IsSendFault g fault p plan b → IsReplayFault g fault p a
  replay_fails Device p plan a b read count planned h = tt
  replay_fails (Damaged block) p plan a b read count planned h = elim h [
    | inl refused ↦ inl (refused.0, λ t has. not_accepted (keys_of g a.engine.pager) t p.command plan refused.1 (planned t has))
    | inr bad ↦ inr (bad_before g a.engine b.engine block (good_read g a.engine b.engine read) read.sound bad)
  ]
  replay_fails (Worn which) p plan a b read count planned h = λ s.
      subst (λ (v : View). WearsAgain which (count_of a) p.command v) read.view
      (subst (λ (n : ℕ). WearsAgain which n p.command (view_of g b)) count (h (read.sound s)))
  replay_fails NoMemory p plan a b read count planned h = tt
  replay_fails (Full free need) p plan a b read count planned h = h
  replay_fails (Stopped call) p plan a b read count planned h = h

  -- of planning it
  pub plan_fails : (m n : ℕ) (last : Bool) (a b : Volume D) (p : PlacedCommand) (fault : MapFault) → IsReadOn g a.engine b.engine → IsCause m n last (is_bad g b.engine.pager) NeverWorn fault → IsReplayFault g (fault_of fault) p a
  plan_fails m n last a b p map.DeviceFault read h = tt
  plan_fails m n last a b p (map.Damaged block) read h = inr (bad_before g a.engine b.engine block (good_read g a.engine b.engine read) read.sound (bad_on g b.engine block h))
  plan_fails m n last a b p (map.Worn which) read h = absurd h
  plan_fails m n last a b p map.NoMemory read h = tt

  pub count_again : (count : ℕ) (c : Command) (v : View) → 2 ^ 64 ≤ count + 1 → WearsAgain Count count c v
  count_again count c v full = record { made = 0; last = v; flushed = none v; few = lit≤ tt; worn = full }

  -- ---- one command

  pub read_has : (a b : Volume D) (t : Tree) → IsReadOn g a.engine b.engine → HasTreeOn g a t → HasTreeOn g b t
  read_has a b t read h = record {
    nodes = read.sound h.nodes;
    is_tree = h.is_tree;
    represents = Represents-along (keys_of g a.engine.pager) (keys_of g b.engine.pager) t (λ k key. read_same g a.engine b.engine read k) h.represents;
  }

  pub sends_again : (c : Command) (what : Sending) (a b d : View) → HasFlushedAgain c (sent_from what) a b → b.tree.table.size ≤ waiting_limit c → HasSent what b.tree d.tree → OnlyNodes b d → SendsAgain c what a d
  sends_again c what a b d h enough sent rest = record { made = h.made; mid = b; flushed = h.flushed; few = h.few; enough = enough; settled = h.settled; sent = sent; rest = rest }

  pub has_replayed : (a d : Volume D) (t : Tree) (c : Command) (what : Sending) (plan : Plan) (reply : Reply) → IsCommand c → IsTrue (accepts plan) → IsPlan (keys_of g a.engine.pager) t c plan → sending (keys_of g a.engine.pager) t c ≡ what
      → HasTreeOn g a t → IsSoundOn g d.engine → TakesStep t c (keys_of g d.engine.pager) reply → SendsAgain c what (view_of g a) (view_of g d) → ReplaysOn g t c a d
  has_replayed a d t c what plan reply limits does h is has sound takes sends = record {
    accepts = done_accepted (keys_of g a.engine.pager) t c plan does h;
    has = record { nodes = sound; is_tree = after_stays t c has.is_tree limits; represents = takes.represents };
    view = replayed_view t c what (view_of g a) (view_of g d) sends is;
  }

  -- after reads, and also once it is counted
  pub replays_read : (a b d e : Volume D) (t : Tree) (c : Command) → IsReadOn g a.engine b.engine → e.engine ≡ d.engine → ReplaysOn g t c b d → ReplaysOn g t c a e
  replays_read a b d e t c read same h = record {
    accepts = h.accepts;
    has = record {
      nodes = subst (λ (x : EngineState D). IsSoundOn g x) (sym same) h.has.nodes;
      is_tree = h.has.is_tree;
      represents = subst (λ (x : EngineState D). Represents (keys_of g x.pager) (after t c)) (sym same) h.has.represents;
    };
    view = subst (λ (v : View). IsReplayed t c v (view_of g e)) read.view (subst (λ (x : EngineState D). IsReplayed t c (view_of g b) (view_in g x)) (sym same) h.view);
  }

  -- by results
  pub replays_messages : {T : Type 0} (r : Result T Fault) (a d : Volume D) (t : Tree) (c : Command) (plan : Plan) (list sent : List Message) → IsLogged c → plan ≡ Apply list → sent ≡ list → IsPlan (keys_of g a.engine.pager) t c plan → HasTreeOn g a t → IsSoundOn g d.engine
      → OnOk r (SendsAgain c (Batch sent) (view_of g a) (view_of g d)) → OnOk r (IsApplied (keys_of g a.engine.pager) sent (keys_of g d.engine.pager)) → OnOk r (ReplaysOn g t c a d)
  replays_messages (Err e) a d t c plan list sent logged is same h has sound sends applied = tt
  replays_messages (Ok x) a d t c plan list sent logged is same h has sound sends applied =
      let old : At = keys_of g a.engine.pager in
      let new : At = keys_of g d.engine.pager in
      let p : IsPlan old t c (Apply list) = subst (IsPlan old t c) is h in
      has_replayed a d t c (Batch sent) plan reply.Done logged.1 (ap accepts is) h (p.2 ∙ ap Batch (sym same)) has sound
      (applied_plan old new t c plan list logged.0 is h (subst (λ (xs : List Message). IsApplied old xs new) same applied)) sends

  pub replays_graft : {T : Type 0} (r : Result T Fault) (a d : Volume D) (t : Tree) (c : Command) (plan : Plan) (s1 d1 s2 d2 : List ℕ) (keep : Bool) → IsLogged c → plan ≡ Graft s1 d1 keep → s2 ≡ s1 → d2 ≡ d1 → IsPlan (keys_of g a.engine.pager) t c plan → HasTreeOn g a t → IsSoundOn g d.engine
      → OnOk r (SendsAgain c (Move s2 d2 keep) (view_of g a) (view_of g d)) → OnOk r (IsGrafted (keys_of g a.engine.pager) s2 d2 keep (keys_of g d.engine.pager)) → OnOk r (ReplaysOn g t c a d)
  replays_graft (Err e) a d t c plan s1 d1 s2 d2 keep logged is es ed h has sound sends grafted = tt
  replays_graft (Ok x) a d t c plan s1 d1 s2 d2 keep logged is es ed h has sound sends grafted =
      let old : At = keys_of g a.engine.pager in
      let new : At = keys_of g d.engine.pager in
      let p : IsPlan old t c (Graft s1 d1 keep) = subst (IsPlan old t c) is h in
      has_replayed a d t c (Move s2 d2 keep) plan reply.Done logged.1 (ap accepts is) h (p.2 ∙ ap (λ (x : List ℕ). Move x d1 keep) (sym es) ∙ ap (λ (x : List ℕ). Move s2 x keep) (sym ed)) has sound
      (grafted_plan old new t c plan s1 d1 keep logged.0 is h (subst (λ (k : List ℕ). IsGrafted old k d1 keep new) es (subst (λ (k : List ℕ). IsGrafted old s2 k keep new) ed grafted))) sends

  -- ---- all of them

  pub front_none : (list : List PlacedCommand) (a : Volume D) → ReplaysFront g list list a a
  front_none list a = record {
    front = [];
    there = refl;
    sound = λ s. s;
    good = good_same g a.engine;
    done = λ t h. record { tree = t; leads = refl; has = h; views = refl };
    count_is = omega arith;
    few = omega arith;
  }

  pub front_same : (list rest others : List PlacedCommand) (a b : Volume D) → rest ≡ others → ReplaysFront g list rest a b → ReplaysFront g list others a b
  front_same list rest others a b same h = subst (λ (l : List PlacedCommand). ReplaysFront g list l a b) same h

  pub front_more : (list rest : List PlacedCommand) (p : PlacedCommand) (a b d : Volume D) → ReplaysFront g list (p ∷ rest) a b → KeepsGood g b.engine d.engine → (IsSoundOn g b.engine → IsSoundOn g d.engine)
      → ((t : Tree) → HasTreeOn g b t → ReplaysOn g t p.command b d) → count_of d ≡ count_of b + 1 → d.engine.flushes ≤ b.engine.flushes + flush_limit → ReplaysFront g list rest a d
  front_more list rest p a b d h good sound one count few = record {
    front = h.front ++ p ∷ [];
    there = h.there ∙ sym (append_assoc h.front (p ∷ []) rest);
    sound = λ s. sound (h.sound s);
    good = good_both g a.engine b.engine d.engine h.good good;
    done = λ t has.
        let was : HasReplayed g t h.front a b = h.done t has in
        let now : ReplaysOn g was.tree p.command b d = one was.tree was.has in
        record {
          tree = after was.tree p.command;
          leads = leads_last h.front p t was.tree was.leads now.accepts;
          has = now.has;
          views = replayed_last h.front p t was.tree (view_of g a) (view_of g b) (view_of g d) was.leads was.views now.view;
        };
    count_is =
        let many : length (h.front ++ p ∷ []) ≡ length h.front + 1 = length-append h.front (p ∷ []) in
        omega (arith, count, h.count_is, many);
    few =
        let many : length (h.front ++ p ∷ []) ≡ length h.front + 1 = length-append h.front (p ∷ []) in
        subst (λ (n : ℕ). d.engine.flushes ≤ a.engine.flushes + flush_limit * n) (sym many) (omega (arith, few, h.few));
  }
