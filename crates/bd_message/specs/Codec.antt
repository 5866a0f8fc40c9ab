-- How messages are encoded.
use Rattle.std.specs.Prelude.{◌≡◌, ℕ, List, ◌∷◌, ◌++◌, Option, None, Some}
use Rattle.std.specs.Int.{w16, w64}
use Rattle.bd_wire.specs.Numbers.{be, FitsWidth}
use Rattle.bd_wire.specs.Text.{text16, FitsText16}
use Rattle.bd_wire.specs.Reading.{Unread, Reads}
use Rattle.bd_wire.specs.Encoding.{BeginsNone, FitsBoth, encode_both}
use Rattle.bd_message.specs.declared.message.Message.{Message}
use Rattle.bd_message.specs.declared.message.Message.TheVariants.{Put, Del, Patch, Cut, Goto}
use Rattle.bd_message.specs.Messages.{IsMessage}

-- a first byte that says which message it is, and then its parts in order
abbrev pub message_bytes : Message → List ℕ
message_bytes (Put key value) = 1 ∷ text16 key ++ text16 value
message_bytes (Del key) = 2 ∷ text16 key
message_bytes (Patch key off bytes) = 3 ∷ text16 key ++ be w16 off ++ text16 bytes
message_bytes (Cut prefix from) = 4 ∷ text16 prefix ++ text16 from
message_bytes (Goto prefix source child) = 5 ∷ text16 prefix ++ text16 source ++ be w64 child

-- a message was read off the front, or none stands there and nothing was read
abbrev pub IsReadAs : Unread → Unread → Option Message → Type 0
IsReadAs old new (Some m) = IsMessage m × Reads old new (message_bytes m)
IsReadAs old new None = BeginsNone IsMessage message_bytes old.left × (new ≡ old)

-- ---- the parts, where only their lengths are asked for

-- two texts
abbrev pub FitsTexts : List ℕ × List ℕ → Type 0
FitsTexts = FitsBoth FitsText16 FitsText16

abbrev pub encode_texts : List ℕ × List ℕ → List ℕ
encode_texts = encode_both text16 text16

-- a text, a number of two bytes and a text
abbrev pub FitsPart : (List ℕ × ℕ) × List ℕ → Type 0
FitsPart = FitsBoth (FitsBoth FitsText16 (FitsWidth w16)) FitsText16

abbrev pub encode_part : (List ℕ × ℕ) × List ℕ → List ℕ
encode_part = encode_both (encode_both text16 (be w16)) text16

-- two texts and a number of eight bytes
abbrev pub FitsGoto : (List ℕ × List ℕ) × ℕ → Type 0
FitsGoto = FitsBoth FitsTexts (FitsWidth w64)

abbrev pub encode_goto : (List ℕ × List ℕ) × ℕ → List ℕ
encode_goto = encode_both encode_texts (be w64)

-- a message with parts of such lengths, allowed or not
abbrev pub FitsMessage : Message → Type 0
FitsMessage (Put key value) = FitsTexts (key, value)
FitsMessage (Del key) = FitsText16 key
FitsMessage (Patch key off bytes) = FitsPart ((key, off), bytes)
FitsMessage (Cut prefix from) = FitsTexts (prefix, from)
FitsMessage (Goto prefix source child) = FitsGoto ((prefix, source), child)

-- such a message was read off the front, or none stands there
abbrev pub IsEncodedAs : Unread → Unread → Option Message → Type 0
IsEncodedAs old new (Some m) = FitsMessage m × Reads old new (message_bytes m)
IsEncodedAs old new None = BeginsNone FitsMessage message_bytes old.left

-- a value of parts was read off the front, or none stands there
abbrev pub IsPartAs : {A : Type 0} → (A → Type 0) → (A → List ℕ) → Unread → Unread → Option A
    → Type 0
IsPartAs fits encoding old new (Some v) = fits v × Reads old new (encoding v)
IsPartAs fits encoding old new None = BeginsNone fits encoding old.left
