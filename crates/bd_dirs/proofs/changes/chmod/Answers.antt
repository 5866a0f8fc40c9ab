use Rattle.std.proofs.Common.{◌≡◌, [], ◌∷◌, sym, ap, ◌∙◌, rules}
use Rattle.std.specs.Prelude.{Option, Some}
use Rattle.std.specs.FinMap.{get}
use Rattle.bd_model.specs.Tree.{Entry}
use Rattle.bd_model.specs.Step.{absent_refusal, with_mode}
use Rattle.bd_records.specs.Records.{record_bytes}
use Rattle.bd_message.specs.declared.message.Message.TheVariants.{Put}
use Rattle.bd_represent.specs.EntryKeys.{record_key}
use Rattle.bd_represent.specs.Represents.{record_of}
use Rattle.bd_dirs.specs.Sendings.{Batch, made}
use Rattle.bd_dirs.proofs.Makes.{makes_chmod}
use Rattle.bd_dirs.proofs.News.{found_some}
use Rattle.bd_dirs.proofs.changes.chmod.Goals as goal

pub returns-clause-plan : goal.returns-clause-plan
returns-clause-plan g c = λ known t tree r.
    let path = c.args.path.now in
    let mode = c.args.mode in
    let found = found_some (get t path) c.in_ok-found.field-0 c.in-Some.found (c.in_ok-found.ensures.record known t tree r) c.in-Some.is in
    let new : record_of (with_mode mode (Some found.0)) ≡ c.with_mode.result = c.with_mode.ensures found.0 found.2 in
    let is : c.from_vec.result ≡ Put (record_key path) (record_bytes c.with_mode.result) ∷ [] = search rules in (
      ap absent_refusal found.1,
      makes_chmod (g.M.KeyMap.has c.args.m.now) t path mode c.with_mode.result c.from_vec.result found.0 c.in_ok-found.ensures.names r found.1 new is,
      ap Batch (ap (λ (o : Option Entry). made path (record_of (with_mode mode o))) found.1 ∙ ap (made path) new ∙ sym is),
    )
