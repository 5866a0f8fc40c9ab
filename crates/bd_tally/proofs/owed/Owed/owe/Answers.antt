use Rattle.std.proofs.Common.{◌≡◌, ◌∙◌, ap, sym, subst}
use Rattle.std.specs.Vec.{with_items}
use Rattle.std.proofs.lemmas.List.{with_items_is}
use Rattle.bd_node.specs.Nodes.{names}
use Rattle.bd_tally.specs.Counts.{AreRising, counts_after}
use Rattle.bd_tally.proofs.CountLemmas.{rising_now}
use Rattle.bd_tally.proofs.Seeing.{seen_more}
use Rattle.bd_tally.proofs.owed.Owed.owe.Goals as goal

pub take_names-requires : goal.take_names-requires
take_names-requires c = subst AreRising (sym c.as_mut_slice.ensures.value) c.self.invariant

pub invariant_of-self : goal.invariant_of-self
invariant_of-self c =
    let o = c.self.inside in
    let now = c.take_names.new.counts in
    let made : (with_items o.counts now).items ≡ now = with_items_is o.counts now (c.take_names.auto.counts ∙ c.as_mut_slice.ensures.len) in
    let is : now ≡ counts_after (names c.args.node.now) o.counts.items = c.take_names.ensures ∙ ap (counts_after (names c.args.node.now)) c.as_mut_slice.ensures.value in
    subst AreRising (sym made) (rising_now (names c.args.node.now) o.counts.items now c.self.invariant is)

pub returns : goal.returns
returns c nodes t seen id before there =
    let o = c.self.inside in
    let now = c.take_names.new.counts in
    let made : (with_items o.counts now).items ≡ now = with_items_is o.counts now (c.take_names.auto.counts ∙ c.as_mut_slice.ensures.len) in
    let is : now ≡ counts_after (names c.args.node.now) c.args.self.now = c.take_names.ensures ∙ ap (counts_after (names c.args.node.now)) (c.as_mut_slice.ensures.value ∙ c.self.view_is) in
    seen_more nodes t seen id c.args.node.now c.args.self.now _ before there (made ∙ is)
