-- What the words that were read ask for.
use Rattle.std.specs.Prelude.{◌≤◌, ⊤}
use Rattle.bd_limits.specs.Limits.{slot_minimum, slot_limit}
use Rattle.bd_words.specs.Words.{Call, Run, Format, Fill, Check, Export, Import, Serve, fill_limit, seed_limit}
use Rattle.bd_words.specs.declared.words.Call.{Call as Read}
use Rattle.bd_words.specs.declared.words.Call.TheVariants as read

-- the call that was read
abbrev pub asked : Read → Call
asked (read.Run image) = Run image.now
asked (read.Format image slots) = Format image.now slots
asked (read.Fill image seed count) = Fill image.now seed count
asked (read.Check image) = Check image.now
asked (read.Export image path) = Export image.now path.now
asked (read.Import image path) = Import image.now path.now
asked (read.Serve image) = Serve image.now

-- a new image gets 24 to 65,536 slots, and a fill has at most 100,000 lines
abbrev pub IsWithinLimits : Read → Type 0
IsWithinLimits (read.Run image) = ⊤
IsWithinLimits (read.Format image slots) = (slot_minimum ≤ slots) × (slots ≤ slot_limit)
IsWithinLimits (read.Fill image seed count) = (seed ≤ seed_limit) × (count ≤ fill_limit)
IsWithinLimits (read.Check image) = ⊤
IsWithinLimits (read.Export image path) = ⊤
IsWithinLimits (read.Import image path) = ⊤
IsWithinLimits (read.Serve image) = ⊤
