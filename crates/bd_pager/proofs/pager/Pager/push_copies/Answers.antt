use Rattle.std.proofs.Common.{◌≡◌, ℕ, Bool, List, nat_eq, sym, ap, subst, ◌∙◌}
use Rattle.std.specs.Map.{lookup}
use Rattle.std.proofs.lemmas.Bool.{true≢false}
use Rattle.bd_cache.specs.declared.cache.NodeCache.{NodeCache}
use Rattle.bd_pager.specs.declared.place.Spot.{Spot}
use Rattle.bd_pager.specs.Pagers.{Paged, IsPaged, seen}
use Rattle.bd_pager.specs.Testing.{AreTested}
use Rattle.bd_pager.proofs.PushedLemmas.{read_low, read_root, read_made, read_tested}
use Rattle.bd_pager.proofs.StepsLemmas.{OnlyReadsOf, reads_stay}
use Rattle.bd_pager.proofs.pager.Pager.push_copies.Goals as goal

pub returns-in-Err-clause-stays : goal.returns-in-Err-clause-stays
returns-in-Err-clause-stays g c = reads_stay g.D.Device c.args.self.now c.push_plan.new.self c.in-Err.ensures.left

pub invariant_of-self : goal.invariant_of-self
invariant_of-self g c =
    let i = c.self.inside in
    let p : Paged g.row.D.Denot = seen i.reader i.saved i.at.items i.usage.spare i.root i.size i.next i.visits i.written in
    let e = c.in-Err-put_kept.ensures in
    let new = c.put_kept.new in
    let q : List (ℕ × Spot) → List Bool → NodeCache → Paged g.row.D.Denot = λ entries spare cache. record p { spots = entries; spare = spare; cache = cache } in (
      subst (λ (m : NodeCache). IsPaged (g.D.Device.contents p.dev) (q new.spots.entries new.usage.spare m)) (sym e.err_cache)
          (subst (λ (s : List Bool). IsPaged (g.D.Device.contents p.dev) (q new.spots.entries s i.reader.cache)) (sym e.spare)
          (subst (λ (es : List (ℕ × Spot)). IsPaged (g.D.Device.contents p.dev) (q es i.usage.spare i.reader.cache)) (sym e.err) c.self.invariant.0)),
      e.err_tallied i.next c.self.invariant.1,
      subst (λ (m : NodeCache). AreTested (λ id. lookup (nat_eq id) new.spots.entries) m i.reader.tested) (sym e.err_cache)
          (subst (λ (es : List (ℕ × Spot)). AreTested (λ id. lookup (nat_eq id) es) i.reader.cache i.reader.tested) (sym e.err) c.self.invariant.2),
    )

pub returns-in-Err-put_kept-clause-stays : goal.returns-in-Err-put_kept-clause-stays
returns-in-Err-put_kept-clause-stays g c =
    let i = c.self.inside in
    let p : Paged g.row.D.Denot = seen i.reader i.saved i.at.items i.usage.spare i.root i.size i.next i.visits i.written in
    let e = c.in-Err-put_kept.ensures in
    let new = c.put_kept.new in
    let q : Paged g.row.D.Denot = record p { spots = new.spots.entries; spare = new.usage.spare; cache = new.cache } in
    let same : p ≡ q =
    ap (λ (es : List (ℕ × Spot)). let x : Paged g.row.D.Denot = record p { spots = es } in x) (sym e.err)
    ∙ ap (λ (s : List Bool). let x : Paged g.row.D.Denot = record q { spare = s; cache = p.cache } in x) (sym e.spare)
    ∙ ap (λ (m : NodeCache). let x : Paged g.row.D.Denot = record q { cache = m } in x) (sym e.err_cache) in
    reads_stay g.D.Device c.args.self.now q
    (subst (λ (x : Paged g.row.D.Denot). OnlyReadsOf g.D.Device c.args.self.now x) (sym c.self.view_is ∙ same) c.in-Ok.ensures.left)

pub waiting_in-self-inside-requires : goal.waiting_in-self-inside-requires
waiting_in-self-inside-requires g c =
    let D = g.D.Device in
    let i = c.self.inside in
    let old : Paged g.row.D.Denot = c.args.self.now in
    let p : Paged g.row.D.Denot = seen i.reader i.saved i.at.items i.usage.spare i.root i.size i.next i.visits i.written in
    let left : OnlyReadsOf D old p = subst (λ (x : Paged g.row.D.Denot). OnlyReadsOf D old x) (sym c.self.view_is) c.in-Ok.ensures.left in
    let new = c.put_kept.new in
    let e = c.in-Ok-put_kept.ensures in
    read_root D old p c.args.push c.in-Ok.puts.items new.spots.entries c.self.invariant.0 c.requires.push left c.in-Ok.ensures.plan e.spots

pub invariant_of-self-2 : goal.invariant_of-self-2
invariant_of-self-2 g c =
    let D = g.D.Device in
    let i = c.self.inside in
    let old : Paged g.row.D.Denot = c.args.self.now in
    let p : Paged g.row.D.Denot = seen i.reader i.saved i.at.items i.usage.spare i.root i.size i.next i.visits i.written in
    let left : OnlyReadsOf D old p = subst (λ (x : Paged g.row.D.Denot). OnlyReadsOf D old x) (sym c.self.view_is) c.in-Ok.ensures.left in
    let new = c.put_kept.new in
    let e = c.in-Ok-put_kept.ensures in
    let made = read_made D old p c.args.push c.in-Ok.puts.items new.spots.entries c.self.invariant.0 c.requires.push left c.in-Ok.ensures.plan e.spots c.waiting_in-self-inside.result new.cache c.waiting_in-self-inside.ensures e.cache c.put_kept.ensures.room new.usage.spare e.spare in
    let push = c.args.push in (
      made.0,
      e.tallied i.next (read_low D old p push c.in-Ok.puts.items new.spots.entries c.self.invariant.0 c.requires.push left c.in-Ok.ensures.plan) c.self.invariant.1,
      read_tested D old p push c.in-Ok.puts.items new.spots.entries c.self.invariant.0 c.requires.push left c.in-Ok.ensures.plan e.spots c.waiting_in-self-inside.result new.cache c.waiting_in-self-inside.ensures e.cache c.put_kept.ensures.room
          i.reader.tested c.forget-2.new.self (λ id on. c.forget.ensures.others id (c.forget-2.ensures.others id on))
          (λ on. true≢false (sym (c.forget-2.ensures.others push.parent on) ∙ c.forget.ensures.gone)) (λ on. true≢false (sym on ∙ c.forget-2.ensures.gone)) c.self.invariant.2,
    )

pub returns-clause-table : goal.returns-clause-table
returns-clause-table g c =
    let D = g.D.Device in
    let i = c.self.inside in
    let old : Paged g.row.D.Denot = c.args.self.now in
    let p : Paged g.row.D.Denot = seen i.reader i.saved i.at.items i.usage.spare i.root i.size i.next i.visits i.written in
    let left : OnlyReadsOf D old p = subst (λ (x : Paged g.row.D.Denot). OnlyReadsOf D old x) (sym c.self.view_is) c.in-Ok.ensures.left in
    let new = c.put_kept.new in
    let e = c.in-Ok-put_kept.ensures in
    let made = read_made D old p c.args.push c.in-Ok.puts.items new.spots.entries c.self.invariant.0 c.requires.push left c.in-Ok.ensures.plan e.spots c.waiting_in-self-inside.result new.cache c.waiting_in-self-inside.ensures e.cache c.put_kept.ensures.room new.usage.spare e.spare in
    made.1.table

pub returns-clause-committed : goal.returns-clause-committed
returns-clause-committed g c =
    let D = g.D.Device in
    let i = c.self.inside in
    let old : Paged g.row.D.Denot = c.args.self.now in
    let p : Paged g.row.D.Denot = seen i.reader i.saved i.at.items i.usage.spare i.root i.size i.next i.visits i.written in
    let left : OnlyReadsOf D old p = subst (λ (x : Paged g.row.D.Denot). OnlyReadsOf D old x) (sym c.self.view_is) c.in-Ok.ensures.left in
    let new = c.put_kept.new in
    let e = c.in-Ok-put_kept.ensures in
    let made = read_made D old p c.args.push c.in-Ok.puts.items new.spots.entries c.self.invariant.0 c.requires.push left c.in-Ok.ensures.plan e.spots c.waiting_in-self-inside.result new.cache c.waiting_in-self-inside.ensures e.cache c.put_kept.ensures.room new.usage.spare e.spare in
    made.1.committed

pub returns-clause-stays : goal.returns-clause-stays
returns-clause-stays g c =
    let D = g.D.Device in
    let i = c.self.inside in
    let old : Paged g.row.D.Denot = c.args.self.now in
    let p : Paged g.row.D.Denot = seen i.reader i.saved i.at.items i.usage.spare i.root i.size i.next i.visits i.written in
    let left : OnlyReadsOf D old p = subst (λ (x : Paged g.row.D.Denot). OnlyReadsOf D old x) (sym c.self.view_is) c.in-Ok.ensures.left in
    let new = c.put_kept.new in
    let e = c.in-Ok-put_kept.ensures in
    let made = read_made D old p c.args.push c.in-Ok.puts.items new.spots.entries c.self.invariant.0 c.requires.push left c.in-Ok.ensures.plan e.spots c.waiting_in-self-inside.result new.cache c.waiting_in-self-inside.ensures e.cache c.put_kept.ensures.room new.usage.spare e.spare in
    made.1.stays
