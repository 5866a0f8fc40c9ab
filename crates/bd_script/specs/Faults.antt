-- The printed texts of faults.
use Rattle.std.specs.Prelude.{ℕ, List, codes}
use Rattle.bd_script.specs.declared.line.LineFault.{LineFault}
use Rattle.bd_script.specs.declared.line.LineFault.TheVariants.{BadLine, BadPath, NoMemory}

-- what a fault prints
abbrev pub fault_text : LineFault → List ℕ
fault_text BadLine = codes "bad line"
fault_text BadPath = codes "bad path"
fault_text NoMemory = codes "out of memory"
