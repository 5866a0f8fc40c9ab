-- The plan of a new entry, and that of a file, as that of its command.
use Rattle.std.proofs.Common.{◌≡◌, ℕ, Bool, List, [], refl, sym, ap, ◌∙◌}
use Rattle.bd_command.specs.declared.Command.{Command}
use Rattle.bd_command.specs.declared.Command.TheVariants.{Mkdir, Create}
use Rattle.bd_model.specs.Tree.{Directory, FileWith, Tree}
use Rattle.bd_records.specs.declared.Record.TheVariants.{Dir, File}
use Rattle.bd_message.specs.declared.message.Message.{Message}
use Rattle.bd_message.specs.KeyMaps.{At}
use Rattle.bd_files.specs.FilePlans.{IsFilePlan}
use Rattle.bd_files.specs.declared.plan.FilePlan.TheVariants as file
use Rattle.bd_dirs.specs.Sendings.{Batch, Move, sending}
use Rattle.bd_dirs.specs.declared.plan.Plan.{Plan}
use Rattle.bd_dirs.specs.declared.plan.Plan.TheVariants.{Refused, Apply, Graft}
use Rattle.bd_dirs.specs.Plans.{IsPlan, IsNewPlan}

pub mkdir_plan : (at : At) (t : Tree) (path : List (List ℕ)) (plan : Plan) → IsNewPlan at t path (Dir 0) plan → IsPlan at t (Mkdir path) plan
mkdir_plan at t path (Refused refusal) h = h
mkdir_plan at t path (Apply list) h = (h.0, h.1 (Directory 0) refl refl, ap Batch (sym h.2))
mkdir_plan at t path (Graft s d keep) h = absurd h

pub create_plan : (at : At) (t : Tree) (path : List (List ℕ)) (plan : Plan) → IsNewPlan at t path (File 0 0) plan → IsPlan at t (Create path) plan
create_plan at t path (Refused refusal) h = h
create_plan at t path (Apply list) h = (h.0, h.1 (FileWith 0 []) refl refl, ap Batch (sym h.2))
create_plan at t path (Graft s d keep) h = absurd h

-- what is planned for a file, which is what its command sends
pub file_plan : (sent list : List Message) (at : At) (t : Tree) (c : Command) → sending at t c ≡ Batch sent → IsFilePlan sent at t c (file.Apply list) → IsPlan at t c (Apply list)
file_plan sent list at t c is h = (h.0, h.1, is ∙ ap Batch (sym h.2))

-- a graft between the keys of two paths
pub moved : (s d a b : List ℕ) (keep : Bool) → s ≡ a → d ≡ b → Move a b keep ≡ Move s d keep
moved s d a b keep es ed = ap (λ (x : List ℕ). Move x b keep) (sym es) ∙ ap (λ (x : List ℕ). Move s x keep) (sym ed)
