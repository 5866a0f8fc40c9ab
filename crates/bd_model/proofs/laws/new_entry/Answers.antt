use Rattle.std.proofs.Common.{[], refl}
use Rattle.bd_command.specs.declared.Command.TheVariants.{Mkdir, Create}
use Rattle.bd_model.specs.Tree.{Directory, FileWith}
use Rattle.bd_model.proofs.TreeLaws.{after-made, after-others}
use Rattle.bd_model.proofs.laws.new_entry.Goals as goal

pub returns : goal.returns
returns c = record {
  directory = λ t p ok. after-made t (Mkdir p) p (Directory 0) ok refl;
  file = λ t p ok. after-made t (Create p) p (FileWith 0 []) ok refl;
  beside_directory = λ t p q differ. after-others t (Mkdir p) p (Directory 0) q refl differ;
  beside_file = λ t p q differ. after-others t (Create p) p (FileWith 0 []) q refl differ;
}
