use Rattle.std.proofs.Common.{refl, ap}
use Rattle.std.specs.FinMap.{get}
use Rattle.bd_command.specs.declared.Command.TheVariants.{Chmod}
use Rattle.bd_model.specs.Tree.{Directory, FileWith}
use Rattle.bd_model.specs.Step.{absent_refusal, with_mode}
use Rattle.bd_model.proofs.TreeLaws.{after-others, after-chmod}
use Rattle.bd_model.proofs.laws.new_mode.Goals as goal

pub returns : goal.returns
returns c = record {
  directory = λ t p old new there. after-chmod t p new (Directory old) there;
  file = λ t p old new bytes there. after-chmod t p new (FileWith old bytes) there;
  absent = λ t p new none. ap absent_refusal none;
  beside = λ t p new q differ. after-others t (Chmod p new) p (with_mode new (get t p)) q refl differ;
}
