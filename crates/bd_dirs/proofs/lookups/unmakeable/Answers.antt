use Rattle.std.proofs.Common.{◌≡◌, sym, ◌∙◌, false}
use Rattle.std.specs.Prelude.{is_some}
use Rattle.std.specs.Prelude.{Option}
use Rattle.std.specs.Option.{option_and_then}
use Rattle.std.specs.FinMap.{get}
use Rattle.bd_names.specs.Names.{parent_of}
use Rattle.bd_command.specs.declared.refusal.Refusal.{Refusal}
use Rattle.bd_model.specs.Step.{new_refusal, parent_refusal}
use Rattle.bd_represent.proofs.TreeLemmas.{Represents-along}
use Rattle.bd_dirs.proofs.News.{free_where, of_ok}
use Rattle.bd_dirs.proofs.lookups.unmakeable.Goals as goal

pub returns-clause-refusal : goal.returns-clause-refusal
returns-clause-refusal g c = λ known t tree r.
    let path = c.args.path.now in
    let left = c.in_ok-record.ensures.left in
    let later = Represents-along (g.M.KeyMap.has c.args.m.now) (g.M.KeyMap.has c.record.new.m) t (λ k key. left.kept known k) r in
    let none : false ≡ is_some c.in_ok-record.field-0 = sym c.if-is_some.false ∙ c.is_some.ensures in
    of_ok c.above.result (λ (x : Option Refusal). x ≡ parent_refusal (option_and_then (get t) (parent_of path))) (λ (x : Option Refusal). x ≡ new_refusal t path) (c.above.ensures.refusal (left.known known) t tree later)
    (λ refusal why. free_where t path c.in_ok-record.field-0 refusal (c.in_ok-record.ensures.record known t tree r) none why)
