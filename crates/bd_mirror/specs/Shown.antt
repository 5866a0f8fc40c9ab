-- What a mirror shows for a name, where both halves tell what they hold.
use Rattle.std.specs.Prelude.{[], List, ℕ, ◌-◌, ◌==◌, ◌&&◌, nat_lt, if◌then◌else◌, Option, None, Some}
use Rattle.bd_device.specs.Blocks.{Image}
use Rattle.bd_mirror.specs.Contents.{picked_together}
use Rattle.bd_mirror.specs.Names.{without_last}
use Rattle.bd_mirror.specs.Past.{attached_for}
use Rattle.bd_mirror.specs.declared.halves.Attached.{Attached}
use Rattle.bd_mirror.specs.declared.halves.Attached.TheVariants.{Nothing, Alone, Member, Pair, Apart}

-- the image that a mirror has of images of its halves
abbrev pub image_of : Attached → Image → Image → Image
image_of Nothing first second = []
image_of Alone first second = first
image_of Member first second = without_last first
image_of (Pair halves) first second = picked_together first second
image_of (Apart halves) first second = []

-- it is known where those of both halves are
abbrev pub shown_both : Attached → Option Image → Option Image → Option Image
shown_both at (Some first) (Some second) = Some (image_of at first second)
shown_both at _ _ = None

-- how many blocks that has, where those have so many
abbrev pub size_of : Attached → ℕ → ℕ → ℕ
size_of Nothing first second = 0
size_of Alone first second = first
size_of Member first second = first - 1
size_of (Pair halves) first second =
    if (first == second) && nat_lt 0 first then first - 1 else 0
size_of (Apart halves) first second = 0

-- of the second half what it shows for its name, where there is one, and else what it holds
abbrev pub second_image : Attached → Option Image → Option Image → Option Image
second_image Nothing held named = held
second_image Alone held named = held
second_image Member held named = held
second_image (Pair halves) held named = named
second_image (Apart halves) held named = held

-- what is attached by the name of the last attach
abbrev pub attached_by : Attached → Option (List ℕ) → Attached
attached_by Nothing name = Nothing
attached_by Alone None = Nothing
attached_by Alone (Some name) = attached_for name
attached_by Member None = Nothing
attached_by Member (Some name) = attached_for name
attached_by (Pair halves) None = Nothing
attached_by (Pair halves) (Some name) = attached_for name
attached_by (Apart halves) None = Nothing
attached_by (Apart halves) (Some name) = attached_for name
