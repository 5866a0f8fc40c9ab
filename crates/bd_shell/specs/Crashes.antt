-- What a crash leaves of a run.
use Rattle.std.specs.Prelude.{◌≡◌, ℕ, ◌≤◌, List}
use Rattle.std.specs.List.{AllByRecursion, Contains}
use Rattle.bd_device.specs.Blocks.{Image}
use Rattle.bd_device.specs.Device.{Goes}
use Rattle.bd_device.specs.declared.device.Device.{Ghosts}
use Rattle.bd_image.specs.ImageTree.{ImageStandsFor}
use Rattle.bd_shell.specs.declared.outcome.Ack.{Ack}
use Rattle.bd_shell.specs.Transcript.{Point, State, point_of}

-- the image stands for one of these points, of at least so many accepted commands
pub record IsAtPoint (passed : List Point) (least : ℕ) (c : Image) : Type 0 where
  pub here : Point
  pub among : Contains passed here
  pub enough : least ≤ here.count
  pub stands : ImageStandsFor here.tree here.count c

-- an acknowledgement of some time before this call of the device: since its call a crash leaves a
-- point that was passed, of at least as many commands as it says
pub record IsAcked (s : State) (now : ℕ) (left : ℕ → Image → Type 0) (a : Ack) : Type 0 where
  pub past : a.calls ≤ now
  pub few : a.count ≤ s.count
  pub kept : (c : Image) → left a.calls c → IsAtPoint s.passed a.count c

-- calls went on from a device to this one, and inside them a crash leaves a point that was passed;
-- so it does since a call before the first; each acknowledgement holds, and they are the state's,
-- as the device's number of calls is
pub record IsSafeSince {D : Type 0} (g : Ghosts D) (first : D) (since : ℕ) (now : D)
    (acks : List Ack) (s : State) : Type 0 where
  pub time : Goes g first now (IsAtPoint s.passed 0)
  pub early : since ≤ g.call_count first
  pub begun : (c : Image) → g.left_since first since c → IsAtPoint s.passed 0 c
  pub here : Contains s.passed (point_of s)
  pub acked : AllByRecursion (IsAcked s (g.call_count now) (g.left_since now)) acks
  pub calls : s.calls ≡ g.call_count now
  pub acks_are : acks ≡ s.acks
