-- What an exporter has, and what an answer does to it.
use Rattle.std.specs.Prelude.{◌≡◌, ℕ, ◌≤◌, ◌++◌, List, [], ◌∷◌}
use Rattle.std.specs.declared.option.Option.{Option}
use Rattle.std.specs.declared.option.Option.TheVariants.{None, Some}
use Rattle.bd_limits.specs.Limits.{file_limit}
use Rattle.bd_command.specs.declared.refusal.Refusal.TheVariants.{NotFound}
use Rattle.bd_command.specs.declared.reply.Reply.{Reply}
use Rattle.bd_stream.specs.declared.fault.ExportFault.{ExportFault}
use Rattle.bd_stream.specs.declared.fault.ExportFault.TheVariants.{Refused, LongPath, NoMemory}
use Rattle.bd_stream.specs.declared.stage.Place.{Place}
use Rattle.bd_stream.specs.declared.stage.Stage.{Stage}
use Rattle.bd_stream.specs.declared.stage.Stage.TheVariants.{Look, Piece, Inside, Beside, Whole, Absent, Overlong}
use Rattle.bd_stream.specs.declared.exporting.Next.{Next}
use Rattle.bd_stream.specs.declared.exporting.Next.TheVariants.{At, Clear, Held, To}
use Rattle.bd_stream.specs.declared.exporter.Exporter.{Exporter}
use Rattle.bd_names.specs.Names.{parent_of}
use Rattle.bd_stream.specs.Importing.{Path, short_path}
use Rattle.bd_stream.specs.Places.{end_of}
use Rattle.bd_stream.specs.Exporting.{Export, Move, at, answered}

-- what an exporter has
abbrev pub seen : Exporter → Export
seen e = record { top = e.top; below = e.place.below; stage = e.stage; names = e.names.items }

-- ---- where it goes

abbrev pub without_first : List (List ℕ) → List (List ℕ)
without_first [] = []
without_first (n ∷ ns) = ns

-- an export that went on
abbrev pub gone : Export → Next → Export
gone s (At stage) = at stage s
gone s (Clear stage) =
    record { top = s.top; below = s.below; stage = stage; names = [] }
gone s (Held place) =
    record { top = s.top; below = place.below; stage = Look; names = without_first s.names }
gone s (To place stage names) =
    record { top = s.top; below = place.below; stage = stage; names = names.items }

-- a place is below the exported path
abbrev pub IsPlaced : Path → Place → Type 0
IsPlaced top place = place.path ≡ top ++ place.below

-- an exporter can go there
abbrev pub CanGo : Path → Next → Type 0
CanGo top (At stage) = end_of stage ≤ file_limit
CanGo top (Clear stage) = end_of stage ≤ file_limit
CanGo top (Held place) = IsPlaced top place
CanGo top (To place stage names) = IsPlaced top place × (end_of stage ≤ file_limit)

-- the directory around an entry
abbrev pub IsAround : Path → Path → Option Place → Type 0
IsAround top below None = parent_of below ≡ None
IsAround top below (Some place) = (parent_of below ≡ Some place.below) × IsPlaced top place

-- the place of a name in a directory, where its path in the tree is short
abbrev pub IsNextPlace : Path → Path → List ℕ → Option Place → Type 0
IsNextPlace top around name None = short_path (top ++ (around ++ name ∷ [])) ≡ None
IsNextPlace top around name (Some place) =
    (place.below ≡ around ++ name ∷ []) × (place.path ≡ top ++ (around ++ name ∷ []))
    × (short_path (top ++ (around ++ name ∷ [])) ≡ Some place.path)

-- it can go there, which is where a reply leads, and what is written on the way was added
pub record Goes (s : Export) (next : Next) (had has : List ℕ) (m : Move) : Type 0 where
  pub can : CanGo s.top next
  pub state : gone s next ≡ m.0
  pub written : has ≡ had ++ m.1

-- ---- a reply

-- why nothing more is asked, where the stream isn't complete
abbrev pub why_not : Stage → Option ExportFault
why_not Look = None
why_not (Piece off left) = None
why_not Inside = None
why_not Beside = None
why_not Whole = None
why_not Absent = Some (Refused NotFound)
why_not Overlong = Some LongPath

-- a reply was taken, and what it leads to was written
pub record Answers (old new : Export) (had has : List ℕ) (reply : Reply) (why : Option ExportFault) : Type 0 where
  pub state : new ≡ (answered old reply).0
  pub written : has ≡ had ++ (answered old reply).1
  pub fault : why_not new.stage ≡ why

-- nothing was taken, and nothing was written
pub record AnswersNothing (old new : Export) (had has : List ℕ) : Type 0 where
  pub state : new ≡ old
  pub written : has ≡ had

-- what a fault leaves: the reply was taken, but where memory was missing
abbrev pub Refuses : ExportFault → Export → Export → List ℕ → List ℕ → Reply → Type 0
Refuses (Refused r) old new had has reply = Answers old new had has reply (Some (Refused r))
Refuses LongPath old new had has reply = Answers old new had has reply (Some LongPath)
Refuses NoMemory old new had has reply = AnswersNothing old new had has
