use Rattle.std.proofs.Common.{◌≡◌, sym, subst, ◌∙◌}
use Rattle.bd_pager.specs.Counting.{changed_of}
use Rattle.bd_pager.specs.Pagers.{Paged, seen}
use Rattle.bd_pager.proofs.AskedLemmas.{changed_is}
use Rattle.bd_pager.proofs.pager.Pager.changed.Goals as goal

pub returns : goal.returns
returns g c =
    let i = c.self.inside in
    let p : Paged g.row.D.Denot = seen i.reader i.saved i.at.items i.usage.spare i.root i.size i.next i.visits i.written in
    subst (λ (x : Paged g.row.D.Denot). i.usage.changed ≡ changed_of x) c.self.view_is
    (c.self.invariant.1.counted.changed ∙ sym (changed_is (g.D.Device.contents i.reader.dev) p c.self.invariant.0))
