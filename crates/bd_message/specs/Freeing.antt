-- Messages on the keys that begin with a prefix, and as messages on what follows it.
use Rattle.std.specs.Prelude.{◌≡◌, ℕ, ◌+◌, ◌-◌, Bool, true, false, nat_eq, if◌then◌else◌, List, [], ◌∷◌, ◌++◌, length, Option, None, Some, ⊤}
use Rattle.std.specs.Option.{option_map}
use Rattle.std.specs.Ordering.{is_lt}
use Rattle.bd_keys.specs.Keys.{key_cmp}
use Rattle.bd_message.specs.declared.message.Message.{Message}
use Rattle.bd_message.specs.declared.message.Message.TheVariants.{Put, Del, Patch, Cut, Goto}
use Rattle.bd_message.specs.Effect.{begins, rest}

-- the key of a message, or the prefix of its keys
abbrev pub stem : Message → List ℕ
stem (Put key value) = key
stem (Del key) = key
stem (Patch key off bytes) = key
stem (Cut prefix from) = prefix
stem (Goto prefix source child) = prefix

-- its key, or the prefix of its keys, begins with a prefix
abbrev pub CanStrip : List ℕ → Message → Type 0
CanStrip s m = begins (stem m) s ≡ true

-- where a cut from `from` on begins in what follows `t`: at the rest of `from`, at once or nowhere
abbrev pub from_after : List ℕ → List ℕ → Option (List ℕ)
from_after t from =
    if begins from t then Some (rest t from)
    else (if is_lt (key_cmp from t) then Some [] else None)

-- the part on the keys that begin with a prefix of a message of keys that begin with less
abbrev pub narrowed : List ℕ → Message → Option Message
narrowed s (Cut prefix from) =
    if begins s prefix then option_map (λ f. Cut s f) (from_after (rest prefix s) from) else None
narrowed s (Goto prefix source child) =
    if begins s prefix then Some (Goto s (source ++ rest prefix s) child) else None
narrowed s _ = None

-- a message's part on the keys that begin with a prefix; none where it changes nothing there
abbrev pub restricted : List ℕ → Message → Option Message
restricted s m = if begins (stem m) s then Some m else narrowed s m

-- a message on keys that begin with a prefix, as one on what follows it
abbrev pub stripped : List ℕ → Message → Message
stripped s (Put key value) = Put (rest s key) value
stripped s (Del key) = Del (rest s key)
stripped s (Patch key off bytes) = Patch (rest s key) off bytes
stripped s (Cut prefix from) = Cut (rest s prefix) from
stripped s (Goto prefix source child) = Goto (rest s prefix) source child

-- a message freed of a prefix: its part on the keys that begin with it, on what follows it
abbrev pub freed : List ℕ → Message → Option Message
freed s m = option_map (stripped s) (restricted s m)

-- a Goto of keys that all begin with the prefix, or another message
abbrev pub KeepsSource : List ℕ → Message → Type 0
KeepsSource s (Goto prefix source child) = begins prefix s ≡ true
KeepsSource s _ = ⊤

-- what stands in front of the keys that are asked of the node that a message names
abbrev pub source_of : Message → List ℕ
source_of (Goto prefix source child) = source
source_of _ = []

-- how long it is once the message is freed of a prefix
abbrev pub source_after : List ℕ → Message → ℕ
source_after s (Goto prefix source child) = length source + (length s - length prefix)
source_after s _ = 0

-- it decides what stands at each key, whatever stood there
abbrev pub CoversAll : Message → Type 0
CoversAll (Cut prefix from) = (prefix ≡ []) × (from ≡ [])
CoversAll (Goto prefix source child) = prefix ≡ []
CoversAll _ = ⊥

-- the lists differ where both have a byte, so that neither begins with the other
abbrev pub is_apart : List ℕ → List ℕ → Bool
is_apart [] l = false
is_apart (a ∷ k) [] = false
is_apart (a ∷ k) (b ∷ l) = if nat_eq a b then is_apart k l else true
