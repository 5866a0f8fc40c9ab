-- The counters' names.
use Rattle.std.specs.Prelude.{ℕ, List, codes}
use Rattle.bd_message.specs.declared.fault.Counter.{Counter}
use Rattle.bd_message.specs.declared.fault.Counter.TheVariants.{Count, NextId, Level, Refs, Epoch, Flushes}

-- the name that a counter prints
abbrev pub counter_name : Counter → List ℕ
counter_name Count = codes "count"
counter_name NextId = codes "id"
counter_name Level = codes "level"
counter_name Refs = codes "refs"
counter_name Epoch = codes "epoch"
counter_name Flushes = codes "flushes"
