-- How many bytes of a node's messages are pending for each of its edges.
use Rattle.std.specs.Prelude.{◌≡◌, ℕ, ◌+◌, ◌<◌, ◌≤◌, ◌⊎◌, List, [], ◌∷◌, length, take, drop, get_or, Option, Some, slice_get}
use Rattle.std.specs.List.{AllByRecursion}
use Rattle.bd_message.specs.declared.message.Message.{Message}
use Rattle.bd_message.specs.Messages.{size}
use Rattle.bd_node.specs.declared.node.Edge.{Edge}
use Rattle.bd_node.specs.Shape.{end_before, IsPending}

-- the message's size where it is pending for the edge, and else 0
abbrev pub IsWaiting : ℕ → Message → Edge → Option (List ℕ) → ℕ → Type 0
IsWaiting place m e hi n =
    (IsPending place m e hi × (n ≡ size m)) ⊎ ((¬ IsPending place m e hi) × (n ≡ 0))

-- so many bytes of messages are pending for the edge, where the first of them stands at a place
abbrev pub IsPendingSize : Edge → Option (List ℕ) → ℕ → List Message → ℕ → Type 0
IsPendingSize e hi place [] n = n ≡ 0
IsPendingSize e hi place (m ∷ ms) n =
    (own : ℕ) × (more : ℕ) × IsWaiting place m e hi own
    × IsPendingSize e hi (place + 1) ms more × (n ≡ own + more)

-- the bytes that are pending for each edge
abbrev pub ArePendingSizes : List Message → List Edge → List ℕ → Type 0
ArePendingSizes buffer [] sizes = sizes ≡ []
ArePendingSizes buffer (e ∷ es) [] = ⊥
ArePendingSizes buffer (e ∷ es) (n ∷ ns) =
    IsPendingSize e (end_before es) 0 buffer n × ArePendingSizes buffer es ns

-- the bytes for each edge, and then with the message's size where it is pending for the edge
pub record AreRaised (place : ℕ) (m : Message) (edges : List Edge) (old new : List ℕ) : Type 0 where
  pub long : length new ≡ length old
  pub each : (j : ℕ) (e : Edge) → slice_get edges j ≡ Some e → (own : ℕ)
      × IsWaiting place m e (end_before (drop (j + 1) edges)) own
      × (get_or new j 0 ≡ get_or old j 0 + own)

-- the greatest of some numbers, and the first place where it stands
pub record IsFirstGreatest (numbers : List ℕ) (place n : ℕ) : Type 0 where
  pub there : slice_get numbers place ≡ Some n
  pub most : AllByRecursion (λ m. m ≤ n) numbers
  pub first : AllByRecursion (λ m. m < n) (take place numbers)

-- most bytes are pending for the edge at this place, the first such one
pub record IsFullest (edges : List Edge) (buffer : List Message) (place bytes : ℕ) : Type 0 where
  pub sizes : List ℕ
  pub each : ArePendingSizes buffer edges sizes
  pub greatest : IsFirstGreatest sizes place bytes
