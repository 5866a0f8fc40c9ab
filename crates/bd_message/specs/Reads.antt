-- What reads of a key map leave.
use Rattle.bd_message.specs.declared.map.KeyMap.{Ghosts}
use Rattle.bd_message.specs.KeyMaps.{IsLeftBy}

-- what a read of a key map leaves
abbrev pub IsLeft : {M : Type 0} → Ghosts M → M → M → Type 0
IsLeft g old new = IsLeftBy g.is_known g.has g.room_of g.worn g.reads g.loans old new
