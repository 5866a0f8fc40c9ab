use Rattle.std.proofs.Common.{◌≡◌, true, false, refl, ap, subst}
use Rattle.bd_tails.specs.Tails.{AreTails}
use Rattle.bd_pager.specs.Places.{spots_in, AreCached}
use Rattle.bd_pager.specs.Pagers.{Paged, spots_of}
use Rattle.bd_pager.proofs.PagerLemmas.{lent_cached}
use Rattle.bd_pager.proofs.pager.Pager.device.Goals as goal

pub invariant_of-self-lent : goal.invariant_of-self-lent
invariant_of-self-lent g c = λ w.
    let was = c.self.invariant.0 in
    let reader = c.self.inside.reader in (
      record {
        table = was.table;
        used = was.used;
        placed = was.placed;
        root = was.root;
        cached = lent_cached (g.D.Device.contents reader.dev) (g.D.Device.contents w) reader.is_lent (spots_in reader.spots) reader.cache was.cached;
        levels = was.levels;
        held = was.held;
        spare = was.spare;
        slots = was.slots;
        stored = was.stored;
        saved = was.saved;
        entries = was.entries;
        tails = λ not_lent. absurd (let e : true ≡ false = not_lent in cc);
        ready = was.ready;
      },
      c.self.invariant.1,
      c.self.invariant.2,
    )

pub returns : goal.returns
returns g c = (
  (refl, λ w. ap (λ (p : Paged g.row.D.Denot). record p { dev = w; is_lent = true }) c.self.view_is),
  record {
    lends = tt;
    value = ap (λ (p : Paged g.row.D.Denot). p.dev) c.self.view_is;
    copies = subst (λ (p : Paged g.row.D.Denot). AreCached (g.D.Device.contents p.dev) p.is_lent (spots_of p) p.cache) c.self.view_is c.self.invariant.0.cached;
    tails = subst (λ (p : Paged g.row.D.Denot). p.is_lent ≡ false → AreTails (g.D.Device.contents p.dev) p.tails) c.self.view_is c.self.invariant.0.tails;
  },
)
