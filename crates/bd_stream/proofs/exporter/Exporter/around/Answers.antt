use Rattle.std.proofs.Common.{◌≡◌, None, Some, sym, ◌∙◌}
use Rattle.bd_names.specs.Names.{parent_of}
use Rattle.bd_stream.proofs.PlaceLemmas.{parent_below}
use Rattle.bd_stream.proofs.exporter.Exporter.around.Goals as goal

pub returns-in_default-2 : goal.returns-in_default-2
returns-in_default-2 c =
    let e = c.args.self.now in
    let above : parent_of e.place.below ≡ Some c.in-Some.below = sym c.in_ok-below.ensures ∙ c.in-Some.is in
    let there = parent_below e.top e.place.below c.in-Some.below e.place.path e.placed above in
    absurd (let none : parent_of e.place.path ≡ None = sym c.in_ok-path.ensures ∙ c.in_default-2.is in cc)

pub returns : goal.returns
returns c =
    let e = c.args.self.now in
    let above : parent_of e.place.below ≡ Some c.in-Some.below = sym c.in_ok-below.ensures ∙ c.in-Some.is in
    let there = parent_below e.top e.place.below c.in-Some.below e.place.path e.placed above in
    let found : parent_of e.place.path ≡ Some c.in-Some-2.path = sym c.in_ok-path.ensures ∙ c.in-Some-2.is in
    (above, (cc))
