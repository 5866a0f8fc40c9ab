-- What is planned for a command.
use Rattle.std.specs.Prelude.{◌≡◌, ◌≤◌, Bool, true, false, ◌&&◌, List, ℕ, [], length, Option, Some, None, ⊤}
use Rattle.bd_limits.specs.Limits.{key_limit, write_limit}
use Rattle.bd_keys.specs.Keys.{Begins}
use Rattle.bd_command.specs.declared.Command.{Command}
use Rattle.bd_command.specs.declared.Command.TheVariants.{Mkdir, Create, Write, Truncate, Remove, Rename, Clone, Chmod, Read, Stat, List as Ls}
use Rattle.std.specs.FinMap.{get, insert}
use Rattle.bd_model.specs.Tree.{Entry, Tree}
use Rattle.bd_model.specs.Step.{refusal_of, changed, new_refusal, file_bytes}
use Rattle.bd_records.specs.declared.Record.{Record}
use Rattle.bd_message.specs.KeyMaps.{At, IsGrafted}
use Rattle.bd_represent.specs.Represents.{record_of, Represents}
use Rattle.bd_represent.specs.Plans.{IsSmallBatch, Makes}
use Rattle.bd_files.specs.Smalls.{is_small, has_little, IsSmallAt}
use Rattle.bd_files.specs.declared.small.SmallFile.{SmallFile}
use Rattle.bd_dirs.specs.Kinds.{Kind, Reads, Sends, SendsLate, Grafts, kind_of}
use Rattle.bd_dirs.specs.Sendings.{Batch, Move, made, sending}
use Rattle.bd_dirs.specs.declared.plan.Plan.{Plan}
use Rattle.bd_dirs.specs.declared.plan.Plan.TheVariants.{Refused, Apply, Graft}

-- a write carries 1 to 2,048 bytes
abbrev pub HasSize : Command → Type 0
HasSize (Mkdir path) = ⊤
HasSize (Create path) = ⊤
HasSize (Write path off bytes) = (1 ≤ length bytes) × (length bytes ≤ write_limit)
HasSize (Truncate path len) = ⊤
HasSize (Remove path) = ⊤
HasSize (Rename a b) = ⊤
HasSize (Clone a b) = ⊤
HasSize (Chmod path mode) = ⊤
HasSize (Read path off len) = ⊤
HasSize (Stat path) = ⊤
HasSize (Ls path after) = ⊤

-- a map that had this represents the tree once the graft is done
abbrev pub MakesByGraft : At → List ℕ → List ℕ → Bool → Tree → Type 0
MakesByGraft at s d keep t = (new : At) → IsGrafted at s d keep new → Represents new t

-- the refusal of the tree, or what the command sends, which makes the tree after it
abbrev pub IsPlan : At → Tree → Command → Plan → Type 0
IsPlan at t c (Refused refusal) = refusal_of t c ≡ Some refusal
IsPlan at t c (Apply list) =
    (refusal_of t c ≡ None) × Makes at list (changed t c) × (sending at t c ≡ Batch list)
IsPlan at t c (Graft s d keep) =
    (refusal_of t c ≡ None) × MakesByGraft at s d keep (changed t c)
    × (sending at t c ≡ Move s d keep)

-- what is planned can be done wherever there is room
abbrev pub IsReady : Plan → Type 0
IsReady (Refused refusal) = ⊤
IsReady (Apply list) = IsSmallBatch list
IsReady (Graft s d keep) =
    (length s ≤ key_limit) × (length d ≤ key_limit) × (keep ≡ false → ¬ Begins d s)

-- a refusal, or messages
abbrev pub SendsMessages : Plan → Type 0
SendsMessages (Refused refusal) = ⊤
SendsMessages (Apply list) = ⊤
SendsMessages (Graft s d keep) = ⊥

-- a refusal, messages, or this graft
abbrev pub IsGraftPlan : List ℕ → List ℕ → Bool → Plan → Type 0
IsGraftPlan s d keep (Refused refusal) = ⊤
IsGraftPlan s d keep (Apply list) = ⊤
IsGraftPlan s d keep (Graft s2 d2 keep2) = (s2 ≡ s) × (d2 ≡ d) × (keep2 ≡ keep)

-- what commands that read, send or graft may have planned
abbrev pub IsPlanOf : Kind → Plan → Type 0
IsPlanOf Reads plan = SendsMessages plan
IsPlanOf Sends plan = SendsMessages plan
IsPlanOf SendsLate plan = SendsMessages plan
IsPlanOf (Grafts s d keep) plan = IsGraftPlan s d keep plan

-- a rename and a clone send messages or are grafts of their paths' keys, and each other command
-- sends messages
abbrev pub IsPlanKind : Command → Plan → Type 0
IsPlanKind c plan = IsPlanOf (kind_of c) plan

-- the file at `a` and the block that is stored of it, where it and what is at `b` have at most one
-- block each
abbrev pub IsCarriedAt : At → Tree → List (List ℕ) → List (List ℕ) → Option SmallFile → Type 0
IsCarriedAt at t a b None = (is_small (get t a) && has_little (get t b)) ≡ false
IsCarriedAt at t a b (Some file) =
    IsSmallAt at a (get t a) (Some file) × (has_little (get t b) ≡ true)

-- the refusal to make an entry at the path, or the message that makes any entry with this record
abbrev pub IsNewPlan : At → Tree → List (List ℕ) → Record → Plan → Type 0
IsNewPlan at t path r (Refused refusal) = new_refusal t path ≡ Some refusal
IsNewPlan at t path r (Apply list) =
    (new_refusal t path ≡ None)
    × ((e : Entry) → record_of e ≡ r → file_bytes (Some e) ≡ [] → Makes at list (insert t path e))
    × (list ≡ made path r)
IsNewPlan at t path r (Graft s d keep) = ⊥
