use Rattle.std.proofs.Common.{List, ℕ, Option, None, IfSome, refl, sym, subst}
use Rattle.bd_pager.specs.declared.written.Written.{Written}
use Rattle.bd_pager.specs.Places.{spots_in}
use Rattle.bd_pager.specs.Pagers.{Paged, IsPaged, IsReady, seen}
use Rattle.bd_pager.proofs.SavedLemmas.{saved_paged, saved_tallied}
use Rattle.bd_pager.proofs.pager.Pager.mark_saved.Goals as goal

pub invariant_of-self : goal.invariant_of-self
invariant_of-self g c =
    let i = c.self.inside in
    let w = c.in-Some.written in
    let spots = spots_in i.reader.spots in
    let contents = g.D.Device.contents i.reader.dev in
    let p : Paged g.row.D.Denot = seen i.reader i.saved i.at.items i.usage.spare i.root i.size i.next i.visits i.written in
    let ready : IsReady i.usage.spare spots i.root i.next w =
    subst (λ (o : Option Written). IfSome o (IsReady i.usage.spare spots i.root i.next)) (sym c.in-Some.ensures.value) c.self.invariant.0.ready in
    let r : List ℕ → Option Written → Paged g.row.D.Denot = λ at o. record p { saved = w.table; at = at; spare = w.spare; written = o } in (
      subst (λ (o : Option Written). IsPaged contents (r c.into_vec.result.items o)) (sym c.in-Some.ensures.after)
          (subst (λ (l : List ℕ). IsPaged contents (r l None)) (sym c.into_vec.ensures) (saved_paged contents p w c.self.invariant.0 ready)),
      saved_tallied i.usage.spare spots i.root i.next w ready i.usage refl c.self.invariant.1,
      c.self.invariant.2,
    )
