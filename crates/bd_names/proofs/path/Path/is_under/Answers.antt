use Rattle.std.proofs.Common.{◌++◌, sym, ◌∙◌, ap, arith}
use Rattle.std.proofs.lemmas.Bool.{iff_false}
use Rattle.std.proofs.lemmas.List.{append-nil, nil_from_length}
use Rattle.bd_names.specs.Names.{path_text}
use Rattle.bd_names.proofs.CutsLemmas.{IsCut-text, IsCut-names, text_front, text_no_front, under_same, under_rest}
use Rattle.bd_names.proofs.path.Path.is_under.Goals as goal

pub returns-in-Some-empty : goal.returns-in-Some-empty
returns-in-Some-empty c =
    let own = c.deref.ensures.value ∙ IsCut-text _ _ _ c.self.invariant c.self.view_is in
    let front = text_front c.args.of.now c.args.self.now _ _ c.in-Some-empty.field-0.now own c.as_bytes-text.ensures.text c.in-Some-empty.ensures.cases.0 c.in-Some-empty.ensures.cases.1 in
    let none = nil_from_length c.in-Some-empty.field-0.now (omega arith) in
    sym (under_same c.args.of.now c.args.self.now c.as_bytes-text.ensures.names (IsCut-names _ _ _ c.self.invariant c.self.view_is) (front ∙ ap (λ x. path_text c.args.of.now ++ x) none ∙ append-nil (path_text c.args.of.now)))

pub returns-else-is_root : goal.returns-else-is_root
returns-else-is_root c =
    let own = c.deref.ensures.value ∙ IsCut-text _ _ _ c.self.invariant c.self.view_is in
    let front = text_front c.args.of.now c.args.self.now _ _ c.in-Some-len1-up.field-0.now own c.as_bytes-text.ensures.text c.in-Some-len1-up.ensures.cases.0 c.in-Some-len1-up.ensures.cases.1 in
    under_rest c.args.of.now c.args.self.now c.in-Some-len1-up.field-0.now c.as_bytes-text.ensures.names (IsCut-names _ _ _ c.self.invariant c.self.view_is) (iff_false c.is_root.ensures c.if-is_root.false) c.in-Some-len1-up.len_at_least front

pub returns-in-None : goal.returns-in-None
returns-in-None c =
    sym (text_no_front c.args.of.now c.args.self.now _ _ (c.deref.ensures.value ∙ IsCut-text _ _ _ c.self.invariant c.self.view_is) c.as_bytes-text.ensures.text c.in-None.ensures.cases)
