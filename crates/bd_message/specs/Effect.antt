-- What a message does to what stands at a key.
use Rattle.std.specs.Prelude.{ℕ, Bool, not, ◌&&◌, if◌then◌else◌, nat_eq, List, [], ◌∷◌, ◌++◌, length, drop, Option, Some, None}
use Rattle.std.specs.Option.{unwrap_or}
use Rattle.std.specs.List.{starts_with}
use Rattle.std.specs.Ordering.{is_lt}
use Rattle.std.specs.Cmp.Lexicographic.{pointwise}
use Rattle.bd_keys.specs.Edits.{overwritten}
use Rattle.bd_keys.specs.Keys.{key_cmp}
use Rattle.bd_message.specs.declared.message.Message.{Message}
use Rattle.bd_message.specs.declared.message.Message.TheVariants.{Put, Del, Patch, Cut, Goto}

-- two keys are the same bytes
abbrev pub same_key : List ℕ → List ℕ → Bool
same_key k l = pointwise nat_eq k l

-- a key begins with a prefix
abbrev pub begins : List ℕ → List ℕ → Bool
begins k prefix = starts_with nat_eq k prefix

-- what follows a prefix in a key that begins with it
abbrev pub rest : List ℕ → List ℕ → List ℕ
rest prefix k = drop (length prefix) k

-- a key of the prefix, from the beginning on
abbrev pub is_cut : List ℕ → List ℕ → List ℕ → Bool
is_cut prefix from k = begins k prefix && not (is_lt (key_cmp (rest prefix k) from))

-- what each node has at a key
abbrev pub NodesAt : Type 0
NodesAt = ℕ → List ℕ → Option (List ℕ)

-- what stands at a key after a message, where `old` stood before it; `below` is what nodes have
abbrev pub act : NodesAt → Message → List ℕ → Option (List ℕ) → Option (List ℕ)
act below (Put key value) k old = if same_key k key then Some value else old
act below (Del key) k old = if same_key k key then None else old
act below (Patch key off bytes) k old =
    if same_key k key then Some (overwritten (unwrap_or old []) off bytes) else old
act below (Cut prefix from) k old = if is_cut prefix from k then None else old
act below (Goto prefix source child) k old =
    if begins k prefix then below child (source ++ rest prefix k) else old

-- what stands there after several messages, in order
abbrev pub acts : NodesAt → List Message → List ℕ → Option (List ℕ) → Option (List ℕ)
acts below [] k old = old
acts below (m ∷ ms) k old = acts below ms k (act below m k old)

-- no node has anything, where no message names one
abbrev pub no_nodes : NodesAt
no_nodes child k = None
