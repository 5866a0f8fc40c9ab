use Rattle.std.proofs.Common.{ap, sym, ◌∙◌, ◌≡◌, Some, true, List, get_or, subst}
use Rattle.std.specs.Prelude.{slice_get}
use Rattle.std.proofs.lemmas.Option.{get_or_from_slice_get}
use Rattle.bd_message.specs.declared.message.Message.{Message}
use Rattle.bd_node.specs.Touching.{touches}
use Rattle.bd_query.proofs.Parts.{through_more, acts_rest, asked_rest}
use Rattle.bd_query.proofs.part.through.Goals as goal

pub loop-next-preserved : goal.loop-next-preserved
loop-next-preserved c =
    let found = c.in-Some.ensures in
    let same : found.2.0 ≡ c.index-as_slice-next.result =
    sym (get_or_from_slice_get c.args.buffer.now c.in-Some.next found.2.0 c.index-as_slice-next.result found.2.1)
    ∙ ap (λ (ms : List Message). get_or ms c.in-Some.next c.index-as_slice-next.result) (sym c.as_slice.ensures) ∙ sym c.index-as_slice-next.is in
    let there : slice_get c.args.buffer.now c.in-Some.next ≡ Some c.index-as_slice-next.result = found.2.1 ∙ ap (λ (m : Message). Some m) same in
    let changes : touches c.index-as_slice-next.result c.args.key.now ≡ true = subst (λ (m : Message). touches m c.args.key.now ≡ true) same found.2.2 in
    through_more c.args.buffer.now c.args.key.now c.args.seen c.loop-next.place c.in-Some.next c.index-as_slice-next.result c.args.first c.loop-next.part c.in_ok-part.part c.loop-next.invariant found.0 found.1 there changes
    (record { part = c.in_ok-part.ensures.part; named = c.in_ok-part.ensures.named; asks = c.in_ok-part.ensures.asks })

pub returns-clause-part : goal.returns-clause-part
returns-clause-part c = λ below.
    sym (acts_rest below c.args.buffer.now c.args.key.now c.loop-next.place _ c.loop-next.invariant.within c.in_default.ensures) ∙ c.loop-next.invariant.rest below

pub returns-clause-asks : goal.returns-clause-asks
returns-clause-asks c =
    sym (asked_rest c.args.buffer.now c.args.key.now c.loop-next.place _ c.loop-next.invariant.within c.in_default.ensures) ∙ c.loop-next.invariant.asks
