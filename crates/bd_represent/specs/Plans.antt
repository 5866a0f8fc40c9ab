-- What is planned for a key map, and what comes of it.
use Rattle.std.specs.Prelude.{ℕ, ◌≤◌, Bool, not, ◌&&◌, if◌then◌else◌, List, ◌++◌, length, Option, None, Some, All}
use Rattle.std.specs.Option.{option_map}
use Rattle.bd_names.specs.Names.{rest_below, is_under}
use Rattle.bd_model.specs.Tree.{Tree}
use Rattle.bd_message.specs.declared.message.Message.{Message}
use Rattle.bd_message.specs.Messages.{IsMessage, IsPlain}
use Rattle.bd_message.specs.KeyMaps.{At, IsApplied}
use Rattle.bd_message.specs.Effect.{acts, no_nodes}
use Rattle.bd_represent.specs.Represents.{Represents}

-- at most four messages that name no node: a batch wherever there is room
pub record IsSmallBatch (list : List Message) : Type 0 where
  pub few : length list ≤ 4
  pub each : All IsMessage list
  pub plain : All IsPlain list

-- what stands at each key after messages
abbrev pub after : List Message → At → At
after list at k = acts no_nodes list k (at k)

-- a map that had this represents the tree once the messages are done
abbrev pub Makes : At → List Message → Tree → Type 0
Makes at list t = (new : At) → IsApplied at list new → Represents new t

-- where what stands at a path after a graft of `a` to `b` stood before: nowhere under `a` where
-- that goes, at the same place of `a` for what is under `b`
abbrev pub source_of : List (List ℕ) → Option (List (List ℕ)) → Option (List (List ℕ))
source_of q None = Some q
source_of q (Some path) = Some path

abbrev pub source : List (List ℕ) → List (List ℕ) → Bool → List (List ℕ) → Option (List (List ℕ))
source a b keep q =
    if not keep && is_under a q then None
    else source_of q (option_map (λ below. a ++ below) (rest_below b q))
