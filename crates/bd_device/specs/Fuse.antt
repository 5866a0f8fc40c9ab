-- What a device with a fuse shows.
use Rattle.std.specs.Prelude.{◌≡◌, ℕ, ◌+◌, ◌-◌, ◌^◌, ◌<◌, ◌≤◌, min, Bool, true, false, if◌then◌else◌, [], Option}
use Rattle.std.proofs.Common.{ap, sym, ◌∙◌, arith}
use Rattle.std.specs.Option.{option_map}
use Rattle.bd_io.specs.Cause.{next_count}
use Rattle.bd_device.specs.Blocks.{Image}
use Rattle.bd_device.specs.declared.fuse_device.Fuse.{Fuse}
use Rattle.bd_device.specs.declared.fuse_device.Fuse.TheVariants.{Whole, Blown}
use Rattle.bd_device.specs.declared.fuse_device.FuseDevice.{FuseDevice}

-- how many calls a fuse still passes on
abbrev pub passes_left : Fuse → ℕ
passes_left (Whole left) = left
passes_left (Blown refused) = 0

-- how many calls a fuse has refused
abbrev pub refused_by : Fuse → ℕ
refused_by (Whole left) = 0
refused_by (Blown refused) = refused

-- it has refused a call
abbrev pub is_blown : Fuse → Bool
is_blown (Whole left) = false
is_blown (Blown refused) = true

-- the device that it passes calls on to
abbrev pub inner_of : {D : Type 0} → FuseDevice D → D
inner_of f = f.inner

-- how many calls it still passes on
abbrev pub calls_left : {D : Type 0} → FuseDevice D → ℕ
calls_left f = passes_left f.fuse

-- how many calls it has refused
abbrev pub refused_count : {D : Type 0} → FuseDevice D → ℕ
refused_count f = refused_by f.fuse

-- it has refused a call, and so the last one
abbrev pub has_blown : {D : Type 0} → FuseDevice D → Bool
has_blown f = is_blown f.fuse

-- how many writes and barriers it has refused
abbrev pub refused_writes : {D : Type 0} → FuseDevice D → ℕ
refused_writes f = f.refused_writes

-- it has refused the last attach
abbrev pub is_detached : {D : Type 0} → FuseDevice D → Bool
is_detached f = f.detached

-- it has refused no call
abbrev pub IsFresh : {D : Type 0} → FuseDevice D → Type 0
IsFresh f = (f.fuse ≡ Whole (calls_left f)) × (f.refused_writes ≡ 0) × (f.detached ≡ false)

-- this count and that of what was refused, up to a u64's last value
abbrev pub with_refused : ℕ → ℕ → ℕ
with_refused count refused = min (count + refused) (2 ^ 64 - 1)

-- what reads give, and nothing after a refused attach
abbrev pub unless_detached : Bool → Option Image → Option Image
unless_detached detached contents = if detached then option_map (λ _. []) contents else contents

-- a meaning over an inner device's calls, of which there were so many: no call passed since
abbrev pub up_to : ℕ → (ℕ → Image → Type 0) → ℕ → Image → Type 0
up_to count left t = left (min t count)

-- A call was passed on, if one was left, or else refused: it failed, and the inner device stays.
pub record Spends {D : Type 0} (old new : FuseDevice D) (ok : Bool) : Type 0 where
  pub spent : calls_left new ≡ calls_left old - 1
  pub passed : 0 < calls_left old → refused_count new ≡ refused_count old
  pub refused : calls_left old ≡ 0 → refused_count new ≡ next_count (refused_count old)
  pub failed : calls_left old ≡ 0 → ok ≡ false
  pub stays : calls_left old ≡ 0 → inner_of new ≡ inner_of old

-- since an earlier call there is more
pub up_to-earlier : (count : ℕ) (left : ℕ → Image → Type 0)
    → ((t u : ℕ) (c : Image) → t ≤ u → left u c → left t c)
    → (t u : ℕ) (c : Image) → t ≤ u → up_to count left u c → up_to count left t c
up_to-earlier count left earlier t u c le was =
    earlier (min t count) (min u count) c (omega (arith, le)) was

-- without a refused attach it shows what the inner device shows
pub shows-attached : (detached : Bool) {shown contents : Option Image} → detached ≡ false
    → shown ≡ contents → shown ≡ unless_detached detached contents
shows-attached detached {shown} {contents} on e = e ∙ ap (λ b. unless_detached b contents) (sym on)
