use Rattle.std.proofs.Common.{List, ℕ, sym, ap, ◌∙◌, subst}
use Rattle.std.specs.Option.{option_map}
use Rattle.bd_records.specs.Records.{IsReadAs}
use Rattle.bd_files.proofs.Records.{record-found}
use Rattle.bd_files.proofs.lookup.record.Goals as goal

pub returns-in-Some-clause-record : goal.returns-in-Some-clause-record
returns-in-Some-clause-record g c = λ known t tree r.
    record-found (g.M.KeyMap.has c.args.m.now) t c.args.path.now c.in-Some.value.items c.read_record.result c.in_ok-key.ensures.names tree r
    (ap (option_map (λ v. v.items)) (sym c.in-Some.is) ∙ c.in_ok-value.ensures.value known ∙ ap (g.M.KeyMap.has c.args.m.now) (c.deref.ensures.value ∙ c.in_ok-key.ensures.key))
    (subst (λ (bytes : List ℕ). IsReadAs bytes c.read_record.result) c.deref-in-Some.ensures.value c.read_record.ensures)
