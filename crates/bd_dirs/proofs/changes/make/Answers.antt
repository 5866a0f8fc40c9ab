use Rattle.std.proofs.Common.{◌≡◌, [], ◌∷◌, sym, ◌∙◌, rules}
use Rattle.std.specs.Prelude.{None}
use Rattle.bd_model.specs.Step.{new_refusal}
use Rattle.bd_records.specs.Records.{record_bytes}
use Rattle.bd_message.specs.declared.message.Message.TheVariants.{Put}
use Rattle.bd_represent.specs.EntryKeys.{record_key}
use Rattle.bd_dirs.proofs.Makes.{makes_entry}
use Rattle.bd_dirs.proofs.changes.make.Goals as goal

pub returns-clause-plan : goal.returns-clause-plan
returns-clause-plan g c = λ known t tree r.
    let path = c.args.path.now in
    let free : new_refusal t path ≡ None = sym (c.in_ok-refusal.ensures.refusal known t tree r) ∙ c.in_default.is in
    let is : c.from_vec.result ≡ Put (record_key path) (record_bytes c.args.entry) ∷ [] = search rules in
    (free, makes_entry (g.M.KeyMap.has c.args.m.now) t path c.args.entry c.from_vec.result c.in_ok-refusal.ensures.names r free is, is)
