use Rattle.std.proofs.Common.{sym, subst, List, ℕ, Some, None, true, ◌≡◌, cond}
use Rattle.bd_keys.specs.Keys.{Begins}
use Rattle.bd_message.specs.declared.message.Message.{Message}
use Rattle.bd_message.specs.Effect.{act, same_key}
use Rattle.bd_node.specs.Touching.{touches}
use Rattle.bd_query.specs.Stretches.{IsEmpty, IsEnd, IsWithin, end_limit}
use Rattle.bd_query.proofs.StretchLemmas.{del_empty, del_short, alone_end, alone_within, cut_empty}
use Rattle.bd_query.proofs.stretch.of_message.Goals as goal

pub returns-in_ok-successor-in-Del-clause-stretch : goal.returns-in_ok-successor-in-Del-clause-stretch
returns-in_ok-successor-in-Del-clause-stretch c below old =
    subst (λ (m : Message). IsEmpty (λ k. act below m k old) c.args.key.now (Some c.in_ok-successor-in-Del.field-0)) (sym c.in-Del.is)
    (subst (λ (e : List ℕ). IsEmpty (λ k. cond (same_key k c.in-Del.key) None old) c.args.key.now (Some e)) (sym c.in_ok-successor-in-Del.ensures)
    (del_empty c.args.key.now c.in-Del.key old (subst (λ (m : Message). touches m c.args.key.now ≡ true) c.in-Del.is c.requires.touches)))

pub returns-in_ok-successor-in-Del-clause-end : goal.returns-in_ok-successor-in-Del-clause-end
returns-in_ok-successor-in-Del-clause-end c =
    subst (λ (e : List ℕ). IsEnd c.args.key.now end_limit (Some e)) (sym c.in_ok-successor-in-Del.ensures)
    (alone_end c.args.key.now (del_short c.args.message.now c.args.key.now c.in-Del.key c.in-Del.is c.requires.message c.requires.touches))

pub returns-in_ok-successor-in-Del-clause-within : goal.returns-in_ok-successor-in-Del-clause-within
returns-in_ok-successor-in-Del-clause-within c =
    subst (λ (e : List ℕ). IsWithin (Some e) c.args.end) (sym c.in_ok-successor-in-Del.ensures) (alone_within c.args.key.now c.args.end c.requires.end.above)

pub returns-in_ok-end-in-Cut-clause-stretch : goal.returns-in_ok-end-in-Cut-clause-stretch
returns-in_ok-end-in-Cut-clause-stretch c below old =
    subst (λ (m : Message). IsEmpty (λ k. act below m k old) c.args.key.now c.in_ok-end-in-Cut.end) (sym c.in-Cut.is)
    (cut_empty c.args.key.now c.in-Cut.prefix c.in-Cut.from c.in_ok-end-in-Cut.end old (subst (λ (m : Message). touches m c.args.key.now ≡ true) c.in-Cut.is c.requires.touches)
    (λ k is_k within. subst (λ (p : List ℕ). Begins k p) c.as_slice.ensures (c.in_ok-end-in-Cut.ensures.begins k is_k within)))
