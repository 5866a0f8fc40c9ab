use Rattle.std.proofs.Common.{◌≡◌, [], ◌∷◌, sym, ap, ◌∙◌, rules}
use Rattle.std.specs.FinMap.{get}
use Rattle.bd_names.specs.Names.{key_of}
use Rattle.bd_model.specs.Step.{root_refusal, absent_refusal}
use Rattle.bd_message.specs.declared.message.Message.TheVariants.{Cut}
use Rattle.bd_dirs.specs.Sendings.{Batch}
use Rattle.bd_dirs.proofs.Makes.{both_free, root_free, makes_without}
use Rattle.bd_dirs.proofs.changes.remove.Goals as goal

pub returns-clause-plan : goal.returns-clause-plan
returns-clause-plan g c = λ known t tree r.
    let path = c.args.path.now in
    let is : c.from_vec-3.result ≡ Cut (key_of path) [] ∷ [] = search rules in (
      both_free (root_refusal path) (absent_refusal (get t path)) (root_free path c.is_root.result c.if-is_root.false c.is_root.ensures.1)
          (sym (c.in_ok-refusal.ensures.refusal known t tree r) ∙ c.in_default.is),
      makes_without (g.M.KeyMap.has c.args.m.now) t path c.from_vec-3.result c.in_ok-refusal.ensures.names r is,
      ap Batch (sym is),
    )
