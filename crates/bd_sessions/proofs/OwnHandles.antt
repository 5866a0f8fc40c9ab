-- What concerns a client's handles, one after the other.
use Rattle.std.proofs.Common.{◌≡◌, List, [], ◌∷◌, ◌++◌, refl}
use Rattle.bd_sessions.specs.Handles.{Row}
use Rattle.bd_sessions.specs.Laws.{Heard, own_row, own_after}

pub own_after-append : (first more : List Heard) (row : Row) → own_after (first ++ more) row ≡ own_after more (own_after first row)
own_after-append [] more row = refl
own_after-append (h ∷ first) more row = own_after-append first more (own_row h row)
