-- What a replay comes to that writes nothing, over what was found in an image.
use Rattle.std.proofs.Common.{◌≡◌, ℕ, List, [], ◌∷◌, length, sym, subst, ap, inl, inr, arith}
use Rattle.std.specs.Prelude.{◌⊎◌}
use Rattle.bd_model.specs.Tree.{Tree}
use Rattle.bd_device.specs.declared.device.Device.{Ghosts}
use Rattle.bd_recall.specs.Kept.{Findings, KeepsNone}
use Rattle.bd_pager.specs.Pagers.{is_bad}
use Rattle.bd_checkpoint.specs.declared.commands.PlacedCommand.{PlacedCommand}
use Rattle.bd_checkpoint.specs.declared.recovering.Recovered.{Recovered}
use Rattle.bd_checkpoint.specs.Recovering.{LeadsBy}
use Rattle.bd_engine.specs.Engines.{EngineState, started, keys_of, IsSoundOn, IsBadOn, IsFreshOn}
use Rattle.bd_engine.proofs.Recalls.{kept_none, sound_with}
use Rattle.bd_volume.specs.declared.fault.Fault.{Fault}
use Rattle.bd_volume.specs.declared.fault.Fault.TheVariants.{Device, Damaged, Worn, NoMemory, Full, Stopped}
use Rattle.bd_volume.specs.declared.volume.Volume.{Volume}
use Rattle.bd_volume.specs.Volume.{count_of, device_of}
use Rattle.bd_volume.specs.Replays.{IsReplayCause, HasReplayed, ReplaysFront, StopsReplaying, Refuses}
use Rattle.bd_volume.specs.Rehearsals.{HasBase, HasRehearsed, IsRefusedOf, IsRehearsalFault}
use Rattle.bd_volume.proofs.Bad.{bad_before}
use Rattle.bd_volume.proofs.Started.{whole_front, base_has, not_bad, worn_of}

module _ {D : Type 0} (g : Ghosts D) (r : Recovered D) (recalled : Findings) (none : KeepsNone recalled) (count : ℕ) (counted : count ≡ r.live.count) where
  -- the volume that tries the commands
  abbrev begun : EngineState D
  begun = started r.pager recalled r.log r.live

  abbrev first : EngineState D → Volume D
  first e = record { engine = e; count = count }

  fresh : IsFreshOn g begun
  fresh h = sound_with g begun h (kept_none (keys_of g r.pager) recalled none)

  pub rehearsed : (e : EngineState D) (v : Volume D) → e ≡ begun → ReplaysFront g r.commands.items [] (first e) v → HasRehearsed g r (count_of v)
  rehearsed e v is front =
      let h : ReplaysFront g r.commands.items [] (first begun) v = subst (λ (x : EngineState D). ReplaysFront g r.commands.items [] (first x) v) is front in
      let all : r.commands.items ≡ h.front = whole_front r.commands.items h.front h.there in
      record {
        count_is =
            let many : length r.commands.items ≡ length h.front = ap (λ (l : List PlacedCommand). length l) all in
            omega (arith, h.count_is, counted, many);
        leads = λ base has.
            let done : HasReplayed g base h.front (first begun) v = h.done base (base_has g (first begun) fresh base has) in
            (done.tree, subst (λ (l : List PlacedCommand). LeadsBy l base done.tree) (sym all) done.leads);
      }

  -- the next command is refused, since of sound nodes no block is bad
  refused_of : (mid : Volume D) (rest : List PlacedCommand) (next : PlacedCommand) (block : ℕ) (base : Tree) → (IsSoundOn g begun → (b : ℕ) → ¬ is_bad g r.pager b) → HasBase g r.pager base → ReplaysFront g r.commands.items (next ∷ rest) (first begun) mid
      → ((block ≡ next.block) × Refuses g mid next.command) ⊎ IsBadOn g mid.engine block → IsRefusedOf r.commands.items base block
  refused_of mid rest next block base good has before (inl refused) =
      let done : HasReplayed g base before.front (first begun) mid = before.done base (base_has g (first begun) fresh base has) in
      record {
        front = before.front;
        next = next;
        rest = rest;
        there = before.there;
        tree = done.tree;
        leads = done.leads;
        refused = refused.1 done.tree done.has;
        block_is = refused.0;
      }
  refused_of mid rest next block base good has before (inr bad) =
      let s : IsSoundOn g begun = (base_has g (first begun) fresh base has).nodes in
      absurd (not_bad g begun block s (good s block) (bad_before g begun mid.engine block before.good before.sound bad))

  fails_from : (v : Volume D) (fault : Fault) → (IsSoundOn g begun → (b : ℕ) → ¬ is_bad g r.pager b) → StopsReplaying g fault r.commands.items (first begun) → IsReplayCause g (first begun) v fault → IsRehearsalFault g r (device_of v) fault
  fails_from v Device good h cause = cause
  fails_from v (Damaged block) good h cause = (λ base has. refused_of h.mid h.rest h.next block base good has h.before h.cause, cause)
  fails_from v (Worn which) good h cause = (λ image base live found has. worn_of g image (first begun) fresh r.commands.items which base counted live found has h, cause)
  fails_from v NoMemory good h cause = cause
  fails_from v (Full free need) good h cause = cause
  fails_from v (Stopped call) good h cause = cause

  pub rehearsal_fails : (e : EngineState D) (v : Volume D) (fault : Fault) → e ≡ begun → (IsSoundOn g e → (b : ℕ) → ¬ is_bad g e.pager b) → StopsReplaying g fault r.commands.items (first e) → IsReplayCause g (first e) v fault → IsRehearsalFault g r (device_of v) fault
  rehearsal_fails e v fault is good stops cause =
      fails_from v fault (subst (λ (x : EngineState D). IsSoundOn g x → (b : ℕ) → ¬ is_bad g x.pager b) is good)
      (subst (λ (x : EngineState D). StopsReplaying g fault r.commands.items (first x)) is stops)
      (subst (λ (x : EngineState D). IsReplayCause g (first x) v fault) is cause)
