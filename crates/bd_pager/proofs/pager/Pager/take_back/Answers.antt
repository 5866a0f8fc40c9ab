use Rattle.std.proofs.Common.{false, sym, subst}
use Rattle.bd_tails.specs.Tails.{AreTails}
use Rattle.bd_pager.specs.Places.{AreCached}
use Rattle.bd_pager.specs.Pagers.{Paged, spots_of}
use Rattle.bd_pager.proofs.pager.Pager.take_back.Goals as goal

pub invariant_of-self : goal.invariant_of-self
invariant_of-self g c =
    let was = c.self.invariant.0 in (
      record {
        table = was.table;
        used = was.used;
        placed = was.placed;
        root = was.root;
        cached = subst (λ (p : Paged g.row.D.Denot). AreCached (g.D.Device.contents p.dev) false (spots_of p) p.cache) (sym c.self.view_is) c.requires.copies;
        levels = was.levels;
        held = was.held;
        spare = was.spare;
        slots = was.slots;
        stored = was.stored;
        saved = was.saved;
        entries = was.entries;
        tails = λ _. subst (λ (p : Paged g.row.D.Denot). AreTails (g.D.Device.contents p.dev) p.tails) (sym c.self.view_is) c.requires.tails;
        ready = was.ready;
      },
      c.self.invariant.1,
      c.self.invariant.2,
    )
