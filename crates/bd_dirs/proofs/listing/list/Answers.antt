use Rattle.std.proofs.Common.{ap, ◌∙◌}
use Rattle.std.specs.Prelude.{Some}
use Rattle.std.specs.Option.{option_copied}
use Rattle.bd_represent.proofs.TreeLemmas.{Represents-along}
use Rattle.bd_dirs.proofs.Listings.{list_reply}
use Rattle.bd_dirs.proofs.listing.list.Goals as goal

pub returns-in_ok-listing-in-Some-Dir-clause-reply : goal.returns-in_ok-listing-in-Some-Dir-clause-reply
returns-in_ok-listing-in-Some-Dir-clause-reply g c = λ known t tree r.
    let left = c.in_ok-record.ensures.left in
    let later = Represents-along (g.M.KeyMap.has c.args.m.now) (g.M.KeyMap.has c.record.new.m) t (λ k key. left.kept known k) r in
    list_reply t c.args.path.now (option_copied c.args.after) _ c.in_ok-record.field-0 c.in_ok-listing-in-Some-Dir.field-0 (c.in_ok-record.ensures.record known t tree r)
    (c.in-Some-Dir.is ∙ ap Some c.in-Some-Dir.field-0-is) (c.in_ok-listing-in-Some-Dir.ensures.listing (left.known known) t tree later)
