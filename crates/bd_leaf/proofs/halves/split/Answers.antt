use Rattle.std.proofs.Common.{◌∙◌, ap, drop, take}
use Rattle.bd_leaf.proofs.Splitting.{AreParts, parts_are}
use Rattle.bd_leaf.proofs.halves.split.Goals as goal

pub returns-clause-first : goal.returns-clause-first
returns-clause-first c =
    let parts : AreParts c.args.entries c.from_vec.result c.from_vec-2.result = parts_are c.args.entries c.as_slice.result.now c.from_vec.result c.from_vec-2.result c.middle-place.result c.as_slice.ensures c.requires.entries c.middle-place.ensures (c.from_vec.ensures ∙ c.shrink_to_fit.ensures.items ∙ c.in_ok-second.ensures.items ∙ ap (take c.middle-place.result) c.into_vec-first.ensures) (c.from_vec-2.ensures ∙ c.in_ok-second.ensures.tail ∙ ap (drop c.middle-place.result) c.into_vec-first.ensures) in parts.first

pub returns-clause-second : goal.returns-clause-second
returns-clause-second c =
    let parts : AreParts c.args.entries c.from_vec.result c.from_vec-2.result = parts_are c.args.entries c.as_slice.result.now c.from_vec.result c.from_vec-2.result c.middle-place.result c.as_slice.ensures c.requires.entries c.middle-place.ensures (c.from_vec.ensures ∙ c.shrink_to_fit.ensures.items ∙ c.in_ok-second.ensures.items ∙ ap (take c.middle-place.result) c.into_vec-first.ensures) (c.from_vec-2.ensures ∙ c.in_ok-second.ensures.tail ∙ ap (drop c.middle-place.result) c.into_vec-first.ensures) in parts.second

pub returns-clause-leaves : goal.returns-clause-leaves
returns-clause-leaves c =
    let parts : AreParts c.args.entries c.from_vec.result c.from_vec-2.result = parts_are c.args.entries c.as_slice.result.now c.from_vec.result c.from_vec-2.result c.middle-place.result c.as_slice.ensures c.requires.entries c.middle-place.ensures (c.from_vec.ensures ∙ c.shrink_to_fit.ensures.items ∙ c.in_ok-second.ensures.items ∙ ap (take c.middle-place.result) c.into_vec-first.ensures) (c.from_vec-2.ensures ∙ c.in_ok-second.ensures.tail ∙ ap (drop c.middle-place.result) c.into_vec-first.ensures) in parts.leaves

pub returns-clause-apart : goal.returns-clause-apart
returns-clause-apart c =
    let parts : AreParts c.args.entries c.from_vec.result c.from_vec-2.result = parts_are c.args.entries c.as_slice.result.now c.from_vec.result c.from_vec-2.result c.middle-place.result c.as_slice.ensures c.requires.entries c.middle-place.ensures (c.from_vec.ensures ∙ c.shrink_to_fit.ensures.items ∙ c.in_ok-second.ensures.items ∙ ap (take c.middle-place.result) c.into_vec-first.ensures) (c.from_vec-2.ensures ∙ c.in_ok-second.ensures.tail ∙ ap (drop c.middle-place.result) c.into_vec-first.ensures) in parts.apart
