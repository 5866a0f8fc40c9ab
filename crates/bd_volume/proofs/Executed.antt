-- What a volume stands for after a command, and what its faults say.
use Rattle.std.proofs.Common.{◌≡◌, ℕ, ◌+◌, inl, inr, Bool, true, false, refl, sym, subst, ap, ◌∙◌, arith}
use Rattle.std.specs.Prelude.{◌⊎◌, ◌&&◌, if◌then◌else◌, IsTrue, IsSome, IsNone, Option, None, Some, Result, Ok, Err, IfOk, IfErr, OnErr}
use Rattle.std.proofs.lemmas.Bool.{false≢true}
use Rattle.bd_command.specs.Command.{writes, is_done, accepted, IsCommand}
use Rattle.bd_command.specs.declared.Command.{Command}
use Rattle.bd_command.specs.declared.refusal.Refusal.{Refusal}
use Rattle.bd_command.specs.declared.reply.Reply.{Reply}
use Rattle.bd_command.specs.declared.reply.Reply.TheVariants as reply
use Rattle.bd_model.specs.Tree.{Tree}
use Rattle.bd_model.specs.Step.{step, stepped, refusal_of}
use Rattle.bd_model.proofs.TreeLaws.{after-reading}
use Rattle.bd_model.proofs.TreeStays.{after_stays}
use Rattle.bd_message.specs.KeyMaps.{At, SameAt}
use Rattle.bd_device.specs.declared.device.Device.{Ghosts}
use Rattle.bd_pager.specs.Pagers.{is_bad}
use Rattle.bd_checkpoint.specs.Recovering.{IsBadIn}
use Rattle.bd_checkpoint.proofs.Handed.{IsSince}
use Rattle.bd_dirs.specs.declared.plan.Plan.{Plan}
use Rattle.bd_dirs.specs.declared.plan.Plan.TheVariants.{Refused}
use Rattle.bd_dirs.specs.Plans.{IsPlan}
use Rattle.bd_effects.specs.Carrying.{accepts, TakesStep}
use Rattle.bd_effects.proofs.Carried.{done_accepted}
use Rattle.bd_view.specs.Views.{View}
use Rattle.bd_view.specs.Moves.{HasStepped, IsAccepted}
use Rattle.bd_engine.specs.Engines.{keys_of, IsSoundOn}
use Rattle.bd_volume.specs.declared.fault.Fault.{Fault}
use Rattle.bd_volume.specs.declared.fault.Fault.TheVariants.{Device, Damaged, Worn, NoMemory, Full, Stopped}
use Rattle.bd_volume.specs.declared.volume.Volume.{Volume}
use Rattle.bd_volume.specs.Faults.{HasFaultCause, IsFaultCause, IsGoing, IsHalted, IsStoppedRightly}
use Rattle.bd_volume.specs.Volume.{StandsFor, GoesBy, IsSafeOn, view_of, count_of, device_of, stop_of}
use Rattle.bd_volume.specs.Steps.{KeepsStanding, TakesSafely, IsLoggedOn, HasLogged, IsOfAccepted}
use Rattle.bd_volume.proofs.Safe.{no_time, goes_by_then}
use Rattle.bd_volume.proofs.Stepped.{stepped_stand}

-- what is said of an error is said of this one
pub at_err : {T E : Type 0} (r : Result T E) (e : E) (P : E → Type 0) → IfErr r P → r ≡ Err e → P e
at_err {T} {E} r e P h is = subst (λ (s : Result T E). IfErr s P) is h

-- ---- damage

-- a volume that names damage goes on, and the block is bad in what reads give
pub damage_named : {D T : Type 0} (g : Ghosts D) (r : Result T Fault) (old new : Volume D) → HasFaultCause g old new r → IsStoppedRightly g old new r
    → ((block : ℕ) → stop_of new ≡ None → is_bad g new.engine.pager block → IsBadIn (g.contents (device_of new)) block) → (block : ℕ) → r ≡ Err (Damaged block) → IsBadIn (g.contents (device_of new)) block
damage_named g r old new cause right shown block is =
    elim (at_err r (Damaged block) (λ fault. IsGoing g old new ⊎ (IsHalted g old new × (fault ≡ Device))) right.err is) [
      | inl on ↦ shown block on.stop_is (at_err r (Damaged block) (IsFaultCause g old new) cause.failed is).0
      | inr (halted, other) ↦ absurd (no other)
    ]
  where
    no : Damaged block ≡ Device → ⊥
    no same = cc

-- ---- what a tree accepts

pub none_refused : {A : Type 0} (t : Tree) (c : Command) → refusal_of t c ≡ None → IsSome (refusal_of t c) → A
none_refused t c none some = absurd (false≢true (subst (λ (o : Option Refusal). IsSome o) none some))

is_accepted : (t : Tree) (c : Command) → refusal_of t c ≡ None → IsNone (refusal_of t c)
is_accepted t c none = subst (λ (o : Option Refusal). IsNone o) (sym none) refl

accepted_fault : (fault : Fault) (t : Tree) (c : Command) → refusal_of t c ≡ None → IsOfAccepted fault t c
accepted_fault Device t c none = tt
accepted_fault (Damaged block) t c none = tt
accepted_fault (Worn which) t c none = is_accepted t c none
accepted_fault NoMemory t c none = tt
accepted_fault (Full free need) t c none = is_accepted t c none
accepted_fault (Stopped call) t c none = tt

-- where a plan is begun and fails, the command is one that the tree accepts
pub begun_accepted : {T : Type 0} (r : Result T Fault) (at : At) (t : Tree) (c : Command) (plan : Plan) → OnErr r (IsTrue (accepts plan)) → IsPlan at t c plan → IfErr r (λ fault. IsOfAccepted fault t c)
begun_accepted (Ok x) at t c plan does h = tt
begun_accepted (Err e) at t c plan does h = accepted_fault e t c (done_accepted at t c plan does h)

pub begun_refused : {T : Type 0} (P : Type 0) (r : Result T Fault) (at : At) (t : Tree) (c : Command) (plan : Plan) → OnErr r (IsTrue (accepts plan)) → IsPlan at t c plan → IsSome (refusal_of t c) → OnErr r P
begun_refused P (Ok x) at t c plan does h some = tt
begun_refused P (Err e) at t c plan does h some = none_refused t c (done_accepted at t c plan does h) some

-- a command that reads isn't counted
pub reads_accept : (c : Command) (reply : Reply) → writes c ≡ false → accepted c reply ≡ 0
reads_accept c reply reads = ap (λ (b : Bool). if b && is_done reply then 1 else 0) reads

-- a reply of a refusal isn't counted, and one of what is done is
refused_count : (b : Bool) → ◌≡◌ {A = ℕ} (if b && false then 1 else 0) 0
refused_count true = refl
refused_count false = refl

-- a refused command leaves the tree and the count
refused_tree : (t : Tree) (c : Command) (refusal : Refusal) → refusal_of t c ≡ Some refusal → (step t c).0 ≡ t
refused_tree t c refusal e = ap (λ (o : Option Refusal). (stepped t c o).0) e

module _ {D : Type 0} (g : Ghosts D) where
  -- at a fault, after steps alone, what stands at the keys of sound nodes stays
  pub keys_stay : {T : Type 0} (r : Result T Fault) (a b : Volume D) (c : Command) → (IsSoundOn g a.engine → OnErr r (HasStepped c (view_of g a) (view_of g b)))
      → OnErr r (IsSoundOn g a.engine → SameAt (keys_of g a.engine.pager) (keys_of g b.engine.pager))
  keys_stay (Ok x) a b c h = tt
  keys_stay (Err e) a b c h = λ s. stepped_stand c (view_of g a) (view_of g b) (h s)

  -- where the map takes the step, and the count rises with it, the volume stands for the tree after
  pub stands_after : (a d : Volume D) (c : Command) (reply : Reply) (t : Tree) (n : ℕ) → IsCommand c → StandsFor g a t n → IsSoundOn g d.engine → TakesStep t c (keys_of g d.engine.pager) reply → count_of d ≡ count_of a + accepted c reply
      → (d.engine.stop ≡ None → IsSafeOn g d.engine (step t c).0 (n + accepted c reply)) → StandsFor g d (step t c).0 (n + accepted c reply)
  stands_after a d c reply t n limits s sound takes counts safe = record {
    nodes = sound;
    is_tree = after_stays t c s.is_tree limits;
    represents = takes.represents;
    count_is = counts ∙ ap (λ (k : ℕ). k + accepted c reply) s.count_is;
    safe = safe;
  }

  -- ---- what a crash leaves

  -- nothing is done for a command that the tree refuses
  pub refused_safely : (a : Volume D) (at : At) (c : Command) (plan : Plan) (refusal : Refusal) (t : Tree) (n : ℕ) → plan ≡ Refused refusal → IsPlan at t c plan → StandsFor g a t n → TakesSafely g c a a t n (reply.Refused refusal)
  refused_safely a at c plan refusal t n is h s =
      let e : refusal_of t c ≡ Some refusal = subst (IsPlan at t c) is h in
      let same : n ≡ n + accepted c (reply.Refused refusal) = omega (arith, refused_count (writes c)) in
      record {
        safe = λ on. subst (λ (u : Tree). IsSafeOn g a.engine u (n + accepted c (reply.Refused refusal))) (sym (refused_tree t c refusal e)) (subst (λ (k : ℕ). IsSafeOn g a.engine t k) same (s.safe on));
        time = no_time g a t n;
      }

  -- what is planned was logged
  pub logged_safely : (a d : Volume D) (at : At) (c : Command) (plan : Plan) (t : Tree) (n : ℕ) → IsTrue (writes c) → IsTrue (accepts plan) → IsPlan at t c plan → HasLogged g c a d → StandsFor g a t n → TakesSafely g c a d t n reply.Done
  logged_safely a d at c plan t n writing does h logged s =
      let now : IsLoggedOn g c a d t n = logged t n s (done_accepted at t c plan does h) in
      let one : accepted c reply.Done ≡ 1 = ap (λ (b : Bool). if b && true then 1 else 0) writing in
      record { safe = λ on. subst (λ (k : ℕ). IsSafeOn g d.engine (step t c).0 (n + k)) (sym one) now.safe; time = now.time }

  -- ---- commands that read

  read_stands : (b : Volume D) (c : Command) (reply : Reply) (t : Tree) (n : ℕ) → writes c ≡ false → StandsFor g b t n → StandsFor g b (step t c).0 (n + accepted c reply)
  read_stands b c reply t n reads still =
      let none : accepted c reply ≡ 0 = reads_accept c reply reads in
      let same : n ≡ n + accepted c reply = omega (arith, none) in
      subst (λ (u : Tree). StandsFor g b u (n + accepted c reply)) (sym (after-reading t c reads)) (subst (λ (k : ℕ). StandsFor g b t k) same still)

  -- ---- by results

  pub reads_stand : (r : Result Reply Fault) (a b : Volume D) (c : Command) → writes c ≡ false → KeepsStanding g a b → IfOk r (λ reply. (t : Tree) (n : ℕ) → StandsFor g a t n → StandsFor g b (step t c).0 (n + accepted c reply))
  reads_stand (Ok reply) a b c reads keeps = λ t n s. read_stands b c reply t n reads (keeps t n s).stands
  reads_stand (Err e) a b c reads keeps = tt

  pub takes_stand : (r : Result Reply Fault) (a b d : Volume D) (c : Command) → IsCommand c → ((t : Tree) (n : ℕ) → StandsFor g a t n → IfOk r (TakesStep t c (keys_of g d.engine.pager))) → (IsSoundOn g a.engine → IsSoundOn g d.engine)
      → ((t : Tree) (n : ℕ) → StandsFor g a t n → IfOk r (TakesSafely g c b d t n)) → IfOk r (λ reply. count_of d ≡ count_of a + accepted c reply)
      → IfOk r (λ reply. (t : Tree) (n : ℕ) → StandsFor g a t n → StandsFor g d (step t c).0 (n + accepted c reply))
  takes_stand (Ok reply) a b d c limits takes sound safely counts = λ t n s. stands_after a d c reply t n limits s (sound s.nodes) (takes t n s) counts (safely t n s).safe
  takes_stand (Err e) a b d c limits takes sound safely counts = tt

  pub takes_time : (r : Result Reply Fault) (a b d : Volume D) (c : Command) → IsSince g (device_of b) → KeepsStanding g a b → ((t : Tree) (n : ℕ) → StandsFor g a t n → IfOk r (TakesSafely g c b d t n)) → OnErr r (KeepsStanding g b d)
      → (t : Tree) (n : ℕ) → StandsFor g a t n → GoesBy g a d t n
  takes_time (Ok reply) a b d c earlier keeps safely fails = λ t n s. goes_by_then g a b d t n earlier (keeps t n s).time (safely t n s).time
  takes_time (Err e) a b d c earlier keeps safely fails = λ t n s. goes_by_then g a b d t n earlier (keeps t n s).time (fails t n (keeps t n s).stands).time

  pub fails_stand : (r : Result Reply Fault) (a b d : Volume D) → KeepsStanding g a b → OnErr r (KeepsStanding g b d) → OnErr r ((t : Tree) (n : ℕ) → StandsFor g a t n → StandsFor g d t n)
  fails_stand (Ok reply) a b d keeps fails = tt
  fails_stand (Err e) a b d keeps fails = λ t n s. (fails t n (keeps t n s).stands).stands

  pub takes_reply : (r : Result Reply Fault) (a : Volume D) (new : At) (c : Command) → ((t : Tree) (n : ℕ) → StandsFor g a t n → IfOk r (TakesStep t c new)) → IfOk r (λ reply. (t : Tree) (n : ℕ) → StandsFor g a t n → reply ≡ (step t c).1)
  takes_reply (Ok reply) a new c takes = λ t n s. (takes t n s).reply_is
  takes_reply (Err e) a new c takes = tt

  pub executes_for : (r : Result Reply Fault) (a : Volume D) (c : Command) (old new : View) → ((t : Tree) (n : ℕ) → StandsFor g a t n → IfOk r (λ reply. accepted c reply ≡ 1 → IsAccepted t c old new))
      → IfOk r (λ reply. accepted c reply ≡ 1 → (t : Tree) (n : ℕ) → StandsFor g a t n → IsAccepted t c old new)
  executes_for (Ok reply) a c old new moves = λ done t n s. moves t n s done
  executes_for (Err e) a c old new moves = tt

  pub refused_for : (P : Type 0) (r : Result Reply Fault) (a : Volume D) (c : Command) → ((t : Tree) (n : ℕ) → StandsFor g a t n → IsSome (refusal_of t c) → OnErr r P) → OnErr r ((t : Tree) (n : ℕ) → StandsFor g a t n → IsSome (refusal_of t c) → P)
  refused_for P (Ok reply) a c stays = tt
  refused_for P (Err e) a c stays = λ t n s some. stays t n s some

  pub accepting_for : (r : Result Reply Fault) (a : Volume D) (c : Command) → ((t : Tree) (n : ℕ) → StandsFor g a t n → IfErr r (λ fault. IsOfAccepted fault t c)) → IfErr r (λ fault. (t : Tree) (n : ℕ) → StandsFor g a t n → IsOfAccepted fault t c)
  accepting_for (Ok reply) a c accepts = tt
  accepting_for (Err e) a c accepts = λ t n s. accepts t n s
