-- The printed texts of faults.
use Rattle.std.specs.Prelude.{ℕ, List, codes}
use Rattle.bd_names.specs.declared.fault.PathFault.{PathFault}
use Rattle.bd_names.specs.declared.fault.PathFault.TheVariants.{BadPath, NoMemory}

-- what a fault prints
abbrev pub fault_text : PathFault → List ℕ
fault_text BadPath = codes "bad path"
fault_text NoMemory = codes "out of memory"
