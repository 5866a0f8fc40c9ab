-- The room for a command's record in the log.
use Rattle.std.proofs.Common.{◌≡◌, ◌<◌, ◌≤◌, false, ◌&&◌, ap, arith, lit≤, inl, inr}
use Rattle.std.specs.Prelude.{nat_lt, length}
use Rattle.std.proofs.lemmas.Bool.{cases_Bool, cond-true, cond-false, and_from, and_left, lt-ltb, le-ltb}
use Rattle.bd_wire.proofs.TextLemmas.{length-text16}
use Rattle.bd_command.specs.Log.{IsLogged, command_bytes, log_record, record_limit}
use Rattle.bd_command.specs.declared.Command.{Command}
use Rattle.bd_log.specs.Logs.{room_at}
use Rattle.bd_image.specs.Versions.{mode_version, sets_mode, IsLoggedIn}
use Rattle.bd_view.specs.Views.{View, log_room, record_room, log_size}
use Rattle.bd_view.specs.Moves.{OnlyNodes}

pub nodes_record : (c : Command) (old new : View) → OnlyNodes old new → record_room c new ≡ record_room c old
nodes_record c old new h = ap (λ v. record_room c v) h.rest

-- a record has two bytes or more
record_long : (c : Command) → 2 ≤ log_size c
record_long c = omega (arith, length-text16 (command_bytes c))

no_mode : (c : Command) (v : View) → log_size c ≤ record_room c v → v.version < mode_version → sets_mode c ≡ false
no_mode c v room before =
    elim (cases_Bool (sets_mode c)) [
      | inl sets ↦ (let none : record_room c v ≡ 0 = cond-true (nat_lt v.version mode_version && sets_mode c) 0 (log_room v) (and_from _ _ (lt-ltb v.version mode_version before) sets) in
          absurd (omega (arith, none, room, record_long c)))
      | inr other ↦ other
    ]

pub version_has : (c : Command) (v : View) → IsLogged c → log_size c ≤ record_room c v → IsLoggedIn v.version c
version_has c v logged room = (logged, no_mode c v room)

-- where no batch is there
anew_room : record_limit ≤ room_at 0
anew_room = lit≤ tt

pub anew_has : ((command : Command) → IsLogged command → length (log_record command) ≤ record_limit) → (c : Command) (v : View) → IsLogged c → v.version ≡ mode_version → v.place ≡ 0 → v.waiting ≡ 0 → log_size c ≤ record_room c v
anew_has fit c v logged version place waiting =
    let later : nat_lt v.version mode_version ≡ false = le-ltb v.version mode_version (omega (arith, version)) in
    let same : record_room c v ≡ log_room v = cond-false (nat_lt v.version mode_version && sets_mode c) 0 (log_room v) (and_left _ _ later) in
    let room : room_at v.place ≡ room_at 0 = ap room_at place in
    omega (arith, same, room, waiting, anew_room, fit c logged)
