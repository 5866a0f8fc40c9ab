use Rattle.std.proofs.Common.{◌≡◌, Option, None, Some, sym, ap, subst, ◌∙◌}
use Rattle.bd_names.specs.Names.{parent_of}
use Rattle.bd_stream.specs.declared.stage.Place.{Place}
use Rattle.bd_stream.specs.Answering.{IsAround}
use Rattle.bd_stream.proofs.PlaceLemmas.{no_last_name}
use Rattle.bd_stream.proofs.exporter.Exporter.beside.Goals as goal

pub returns-in_default-2 : goal.returns-in_default-2
returns-in_default-2 c =
    let e = c.args.self.now in
    let around = subst (λ (o : Option Place). IsAround e.top e.place.below o) c.in-Some.is c.in_ok-around.ensures in
    let root = no_last_name e.place.below (sym c.in_ok-last.ensures.found ∙ c.in_default-2.is) in
    absurd (let none : parent_of e.place.below ≡ None = ap parent_of root in let some : parent_of e.place.below ≡ Some c.in-Some.around.below = around.0 in cc)
