-- What a source gave of a script.
use Rattle.std.specs.Prelude.{◌≡◌, ◌⊎◌, ℕ, ◌+◌, ◌<◌, ◌≤◌, List, [], length, take, ⊤}
use Rattle.std.specs.Io.KnownBytes.{prepend_known, IsAtEnd}
use Rattle.std.specs.declared.option.Option.{Option}
use Rattle.std.specs.declared.option.Option.TheVariants.{None, Some}
use Rattle.std.specs.declared.result.Result.{Result}
use Rattle.std.specs.declared.result.Result.TheVariants.{Ok, Err}
use Rattle.bd_limits.specs.Limits.{script_limit, piece_limit}
use Rattle.bd_io.specs.Cause.{next_count}
use Rattle.bd_io.specs.Takes.{Takes}
use Rattle.bd_io.specs.declared.failed.Failed.{Failed}
use Rattle.bd_shell.specs.declared.session.Taken.{Taken}
use Rattle.bd_shell.specs.declared.session.Taken.TheVariants.{Piece, End, TooLong}
use Rattle.bd_shell.specs.Transcript.{Known}

-- a piece within the limit, the end, or a byte past the limit, of what was left
abbrev pub IsTaken : Taken → ℕ → List ℕ → Known → Known → Type 0
IsTaken (Piece size) taken piece old new =
    (0 < size) × (size ≤ piece_limit) × (taken + size ≤ script_limit)
    × (old ≡ prepend_known (take size piece) new)
IsTaken End taken piece old new = IsAtEnd old × (new ≡ old)
IsTaken TooLong taken piece old new =
    (taken ≡ script_limit) × (old ≡ prepend_known (take 1 piece) new)

-- the bytes that a take gave
abbrev pub taken_by : Result Taken Failed → List ℕ → List ℕ
taken_by (Ok (Piece size)) piece = take size piece
taken_by (Ok End) piece = []
taken_by (Ok TooLong) piece = take 1 piece
taken_by (Err e) piece = []

-- the last take gave these bytes, at most a piece, and no other gave nothing
pub record TookLast (given : List ℕ) (before now : Takes) : Type 0 where
  pub last_is : now.last ≡ given
  pub short : length given ≤ piece_limit
  pub idle : (now.idle ≡ before.idle) ⊎ ((given ≡ []) × (now.idle ≡ next_count before.idle))

-- nothing was asked for, or the last take gave `final` after `front`, where the source tells its
-- takes
abbrev pub Took : List ℕ → List ℕ → Option Takes → Option Takes → Type 0
Took front final None now = ⊤
Took front final (Some before) None = ⊥
Took front final (Some before) (Some now) =
    ((front ≡ []) × (final ≡ []) × (now ≡ before)) ⊎ TookLast final before now
