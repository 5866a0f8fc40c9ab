-- What reads and other calls of a pager leave, one after the other.
use Rattle.std.proofs.Common.{◌≡◌, ◌<◌, IsTrue, Option, refl, sym, ap, subst, ◌∙◌, arith, inl}
use Rattle.bd_device.specs.Blocks.{Image}
use Rattle.bd_device.specs.Device.{OnlyReads}
use Rattle.bd_device.specs.declared.device.Device.{Ghosts}
use Rattle.bd_device.proofs.Calls.{reads_then}
use Rattle.bd_node.specs.Tables.{Table, IsKept}
use Rattle.bd_pager.specs.Places.{Spots, IsBadSpot}
use Rattle.bd_pager.specs.Pagers.{Paged, spots_of, table_at, touched_at, table_of, IsKnownOver, is_known, IsReadOf}
use Rattle.bd_pager.specs.Keeping.{KeepsSaved}

module _ {D : Type 0} (g : Ghosts D) where
  -- a device that isn't called
  pub no_reads : (d : D) → OnlyReads g d d
  no_reads d = record {
    kept = refl;
    count = refl;
    write_faults = refl;
    time = record { later = omega arith; keeps = λ t c le h. h; adds = λ t c le h. inl h };
    same_name = λ name was. was;
    same_loans = refl;
  }

  -- no read changes nothing
  pub read_none : (p : Paged D) → IsReadOf g p p
  read_none p = record {
    device = no_reads p.dev;
    lent = λ so. so;
    spots = refl;
    room = refl;
    rest = refl;
  }

  -- nor do two
  pub read_both : (a b c : Paged D) → IsReadOf g a b → IsReadOf g b c → IsReadOf g a c
  read_both a b c p q = record {
    device = reads_then p.device q.device;
    lent = λ so. q.lent (p.lent so);
    spots = q.spots ∙ p.spots;
    room = q.room ∙ p.room;
    rest = q.rest ∙ ap (λ (x : Paged D). let r : Paged D = record x { dev = c.dev; spots = c.spots; visits = c.visits; cache = c.cache; is_lent = c.is_lent; tails = c.tails } in r) p.rest;
  }

  -- what is known after them was known before
  pub read_known : (a b : Paged D) → IsReadOf g a b → is_known g b → is_known g a
  read_known a b r known =
      subst (λ (s : Spots). IsKnownOver (g.contents a.dev) s) r.spots
      (subst (λ (o : Option Image). IsKnownOver o (spots_of b)) r.device.kept known)

  -- the table stays
  pub read_table : (a b : Paged D) → IsReadOf g a b → table_of b ≡ table_of a
  read_table a b r =
      ap (λ (x : Paged D). table_of x) r.rest
      ∙ ap (λ (s : Spots). table_at s a.root a.size a.next (touched_at a.saved.entries a.spare s)) r.spots

  -- and they change no more than any call may
  pub read_keeps : (a b : Paged D) → IsReadOf g a b → KeepsSaved g a b
  read_keeps a b r = record {
    device = r.device;
    lent = r.lent;
    saved = ap (λ (x : Paged D). x.saved) r.rest;
    at = ap (λ (x : Paged D). x.at) r.rest;
    spare = ap (λ (x : Paged D). x.spare) r.rest;
    touched = λ id low was kept. subst (λ (t : Table). IsTrue (t.touched id)) (sym (read_table a b r)) was;
    next = omega (arith, ap (λ (x : Paged D). x.next) r.rest);
    kept = λ id low kept. subst (λ (t : Table). IsKept t id) (read_table a b r) kept;
    room = r.room;
    known = λ known.
        subst (λ (s : Spots). IsKnownOver (g.contents b.dev) s) (sym r.spots)
        (subst (λ (o : Option Image). IsKnownOver o (spots_of a)) (sym r.device.kept) known);
    bad = λ known id block bad.
        subst (λ (o : Option Image). IsBadSpot o (spots_of a id) block) r.device.kept
        (subst (λ (s : Spots). IsBadSpot (g.contents b.dev) (s id) block) r.spots bad);
  }

  -- nor do two calls change more
  pub keeps_both : (a b c : Paged D) → KeepsSaved g a b → KeepsSaved g b c → KeepsSaved g a c
  keeps_both a b c p q = record {
    device = reads_then p.device q.device;
    lent = λ so. q.lent (p.lent so);
    saved = q.saved ∙ p.saved;
    at = q.at ∙ p.at;
    spare = q.spare ∙ p.spare;
    touched = λ id low was kept.
        let later : id < b.next = omega (arith, low, p.next) in
        q.touched id later (p.touched id low was (q.kept id later kept)) kept;
    next = omega (arith, p.next, q.next);
    kept = λ id low kept. p.kept id low (q.kept id (omega (arith, low, p.next)) kept);
    room = q.room ∙ p.room;
    known = λ known. q.known (p.known known);
    bad = λ known id block bad. p.bad known id block (q.bad (p.known known) id block bad);
  }
