-- Nodes and a table that are written to be the next checkpoint.
use Rattle.std.specs.Prelude.{◌≡◌, ℕ, List, length, Option, Some, Ok, Err, IfSome, Result}
use Rattle.bd_io.specs.Cause.{next_count}
use Rattle.bd_slots.specs.Layout.{IsTablePlace}
use Rattle.bd_device.specs.Blocks.{Image}
use Rattle.bd_device.specs.declared.fault.ImageFault.{ImageFault}
use Rattle.bd_device.specs.declared.fault.ImageFault.TheVariants.{DeviceFault, Damaged, NoMemory}
use Rattle.bd_table.specs.Image.{HoldsTable}
use Rattle.bd_pager.specs.Pagers.{Paged, spots_of, IsReady}
use Rattle.bd_pager.specs.declared.written.Written.{Written}

-- each kept node is in its slot, and the table of them is ready: it stands in the slots `at`, which
-- no node and no part of the last checkpoint has
pub record IsWrittenOut {D : Type 0} (contents : Option Image) (at : List ℕ) (p : Paged D)
    : Type 0 where
  pub written : Written
  pub written_is : p.written ≡ Some written
  pub at_is : written.at ≡ at
  pub ready : IsReady p.spare (spots_of p) p.root p.next written
  pub place : IsTablePlace (length p.spare) at
  pub held : IfSome contents (λ image. HoldsTable image (length p.spare) at written.table)

-- a count of failed writes after calls of which the last one was a write if the device failed
abbrev pub write_faults_after : {T : Type 0} → ℕ → Result T ImageFault → ℕ
write_faults_after before (Ok value) = before
write_faults_after before (Err DeviceFault) = next_count before
write_faults_after before (Err (Damaged block)) = before
write_faults_after before (Err NoMemory) = before
