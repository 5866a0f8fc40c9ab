-- Room in the log for a command's record.
use Rattle.std.proofs.Common.{◌≡◌, ℕ, ◌≤◌, List, length, sym, subst, ap, ◌∙◌}
use Rattle.std.specs.Prelude.{Result, Ok, Err, OnOk, OnErr}
use Rattle.std.specs.List.{concat}
use Rattle.bd_command.specs.Log.{IsLogged}
use Rattle.bd_command.specs.declared.Command.{Command}
use Rattle.bd_device.specs.declared.device.Device.{Ghosts}
use Rattle.bd_super.specs.declared.superblock.Super.{Super}
use Rattle.bd_log.specs.Logs.{LogState}
use Rattle.bd_image.specs.Versions.{mode_version}
use Rattle.bd_view.specs.Views.{View, record_room, log_size}
use Rattle.bd_engine.specs.Engines.{EngineState, OnlyNodesOn, IsBegunAnew, view_of as view_in}
use Rattle.bd_volume.specs.declared.fault.Fault.{Fault}
use Rattle.bd_volume.specs.declared.volume.Volume.{Volume}
use Rattle.bd_volume.specs.Volume.{view_of}
use Rattle.bd_volume.specs.Steps.{HasLogRoom}

-- a log in which no batch is, and nothing waits, has room for each record
abbrev pub HasRoomAnew : Type 0
HasRoomAnew = (c : Command) (v : View) → IsLogged c → v.version ≡ mode_version → v.place ≡ 0 → v.waiting ≡ 0 → log_size c ≤ record_room c v

module _ {D : Type 0} (g : Ghosts D) where
  -- the room is that of the log and of the superblock's version
  room_same : (c : Command) (a b : EngineState D) → b.log ≡ a.log → b.live ≡ a.live → record_room c (view_in g b) ≡ record_room c (view_in g a)
  room_same c a b log live =
      ap (λ (l : LogState). record_room c (view_in g (record b { log = l }))) log
      ∙ ap (λ (s : Super). record_room c (view_in g (record b { log = a.log; live = s }))) live

  pub room_stays : (c : Command) (a b : EngineState D) → b.log ≡ a.log → b.live ≡ a.live → HasLogRoom c (view_in g a) → HasLogRoom c (view_in g b)
  room_stays c a b log live h = subst (λ (k : ℕ). log_size c ≤ k) (sym (room_same c a b log live)) h

  pub room_nodes : (c : Command) (a b : EngineState D) → OnlyNodesOn g a b → HasLogRoom c (view_in g a) → HasLogRoom c (view_in g b)
  room_nodes c a b r = room_stays c a b (ap (λ (e : EngineState D). e.log) r.rest) (ap (λ (e : EngineState D). e.live) r.rest)

  room_anew : (c : Command) (e : EngineState D) → HasRoomAnew → IsLogged c → IsBegunAnew e → HasLogRoom c (view_in g e)
  room_anew c e law logged h = law c (view_in g e) logged h.version h.place (ap (λ (w : List (List ℕ)). length (concat w)) h.waiting)

  -- ---- after a checkpoint, or none at a fault

  pub room_saved : {T : Type 0} (r : Result T Fault) (c : Command) (a b : Volume D) → HasRoomAnew → IsLogged c → OnOk r (IsBegunAnew b.engine) → OnErr r (b.engine.log ≡ a.engine.log) → OnErr r (b.engine.live ≡ a.engine.live)
      → HasLogRoom c (view_of g a) → HasLogRoom c (view_of g b)
  room_saved (Ok x) c a b law logged anew log live h = room_anew c b.engine law logged anew
  room_saved (Err e) c a b law logged anew log live h = room_stays c a.engine b.engine log live h

  pub room_made : {T : Type 0} (r : Result T Fault) (c : Command) (b : Volume D) → HasRoomAnew → IsLogged c → OnOk r (IsBegunAnew b.engine) → OnOk r (HasLogRoom c (view_of g b))
  room_made (Ok x) c b law logged anew = room_anew c b.engine law logged anew
  room_made (Err e) c b law logged anew = tt
