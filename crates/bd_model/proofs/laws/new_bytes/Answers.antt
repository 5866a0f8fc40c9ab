use Rattle.std.proofs.Common.{refl}
use Rattle.std.specs.FinMap.{get}
use Rattle.bd_command.specs.declared.Command.TheVariants.{Write, Truncate}
use Rattle.bd_keys.specs.Edits.{resized, overwritten}
use Rattle.bd_model.specs.Step.{file_bytes, with_bytes}
use Rattle.bd_model.proofs.TreeLaws.{after-others, after-written, after-truncated}
use Rattle.bd_model.proofs.laws.new_bytes.Goals as goal

pub returns : goal.returns
returns c = record {
  written = after-written;
  truncated = after-truncated;
  beside_written = λ t p off bytes q differ. after-others t (Write p off bytes) p (with_bytes (overwritten (file_bytes (get t p)) off bytes) (get t p)) q refl differ;
  beside_truncated = λ t p len q differ. after-others t (Truncate p len) p (with_bytes (resized (file_bytes (get t p)) len) (get t p)) q refl differ;
}
