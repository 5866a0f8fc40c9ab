use Rattle.std.proofs.Common.{◌≡◌, [], ◌∷◌, ◌∙◌, ap, map, sym, subst}
use Rattle.std.specs.Vec.{with_items}
use Rattle.std.proofs.lemmas.List.{with_items_is}
use Rattle.bd_tally.specs.Counts.{AreRising, first_count, counts_after}
use Rattle.bd_tally.proofs.CountLemmas.{rising_now}
use Rattle.bd_tally.proofs.Wrongs.{counts_rise}
use Rattle.bd_tally.proofs.Seeing.{seen_none}
use Rattle.bd_tally.proofs.owed.Owed.new.Goals as goal

pub take-requires : goal.take-requires
take-requires c =
    let first : c.as_mut_slice.result.now ≡ map first_count c.args.table.now.entries = c.as_mut_slice.ensures.value ∙ c.in_ok-counts.ensures ∙ ap (map first_count) c.as_slice.ensures in
    subst AreRising (sym first) (counts_rise c.args.table.now.entries c.requires)

pub invariant_of-result : goal.invariant_of-result
invariant_of-result c =
    let now = c.take.new.counts in
    let made : (with_items c.in_ok-counts.counts now).items ≡ now = with_items_is c.in_ok-counts.counts now (c.take.auto.counts ∙ c.as_mut_slice.ensures.len) in
    let first : c.as_mut_slice.result.now ≡ map first_count c.args.table.now.entries = c.as_mut_slice.ensures.value ∙ c.in_ok-counts.ensures ∙ ap (map first_count) c.as_slice.ensures in
    let is : now ≡ counts_after (c.args.table.now.root ∷ []) (map first_count c.args.table.now.entries) = c.take.ensures ∙ ap (counts_after (c.args.table.now.root ∷ [])) first in
    subst AreRising (sym made) (rising_now (c.args.table.now.root ∷ []) (map first_count c.args.table.now.entries) now (counts_rise c.args.table.now.entries c.requires) is)

pub returns : goal.returns
returns c nodes =
    let now = c.take.new.counts in
    let made : (with_items c.in_ok-counts.counts now).items ≡ now = with_items_is c.in_ok-counts.counts now (c.take.auto.counts ∙ c.as_mut_slice.ensures.len) in
    let first : c.as_mut_slice.result.now ≡ map first_count c.args.table.now.entries = c.as_mut_slice.ensures.value ∙ c.in_ok-counts.ensures ∙ ap (map first_count) c.as_slice.ensures in
    let is : now ≡ counts_after (c.args.table.now.root ∷ []) (map first_count c.args.table.now.entries) = c.take.ensures ∙ ap (counts_after (c.args.table.now.root ∷ [])) first in
    made ∙ is ∙ seen_none nodes c.args.table.now
