use Rattle.std.proofs.Common.{◌≡◌, ℕ, ◌+◌, Bool, List, length, nat_eq, sym, ap, subst, ◌∙◌}
use Rattle.std.specs.Map.{lookup}
use Rattle.bd_cache.specs.declared.cache.NodeCache.{NodeCache}
use Rattle.bd_pager.specs.declared.place.Spot.{Spot}
use Rattle.bd_pager.specs.Counting.{IsTallied}
use Rattle.bd_pager.specs.Pagers.{Paged, IsPaged, seen}
use Rattle.bd_pager.specs.Places.{spots_in}
use Rattle.bd_pager.specs.Testing.{AreTested}
use Rattle.bd_pager.proofs.StepsLemmas.{OnlyReadsOf, reads_stay, tallied_more, plan_fits, plan_below, gone_below, plan_made, plan_tested}
use Rattle.bd_pager.proofs.pager.Pager.commit.Goals as goal

pub returns-in-Err-clause-stays : goal.returns-in-Err-clause-stays
returns-in-Err-clause-stays g c = reads_stay g.D.Device c.args.self.now c.planned.new.self c.in-Err.ensures.left

pub returns-in-Err-carry_out-clause-stays : goal.returns-in-Err-carry_out-clause-stays
returns-in-Err-carry_out-clause-stays g c =
    let i = c.self.inside in
    let p : Paged g.row.D.Denot = seen i.reader i.saved i.at.items i.usage.spare i.root i.size i.next i.visits i.written in
    let e = c.in-Err-carry_out.ensures in
    let q : Paged g.row.D.Denot = record p { spots = c.carry_out.new.spots.entries; spare = c.carry_out.new.usage.spare; cache = c.carry_out.new.cache } in
    let same : p ≡ q =
    ap (λ (es : List (ℕ × Spot)). let x : Paged g.row.D.Denot = record p { spots = es } in x) (sym e.err)
    ∙ ap (λ (s : List Bool). let x : Paged g.row.D.Denot = record q { spare = s; cache = p.cache } in x) (sym e.spare)
    ∙ ap (λ (m : NodeCache). let x : Paged g.row.D.Denot = record q { cache = m } in x) (sym e.err_cache) in
    reads_stay g.D.Device c.args.self.now q
    (subst (λ (x : Paged g.row.D.Denot). OnlyReadsOf g.D.Device c.args.self.now x) (sym c.self.view_is ∙ same) c.in-Ok.ensures.left)

pub returns-clause-table : goal.returns-clause-table
returns-clause-table g c =
    let i = c.self.inside in
    let old : Paged g.row.D.Denot = c.args.self.now in
    let p : Paged g.row.D.Denot = seen i.reader i.saved i.at.items i.usage.spare i.root i.size i.next i.visits i.written in
    let plan = c.in-Ok.plan in
    let left : OnlyReadsOf g.D.Device old p = subst (λ (x : Paged g.row.D.Denot). OnlyReadsOf g.D.Device old x) (sym c.self.view_is) c.in-Ok.ensures.left in
    let new = c.carry_out.new in
    let e = c.in-Ok-carry_out.ensures in
    let made = plan_made g.D.Device old p c.args.step plan c.self.invariant.0 c.requires.step left c.in-Ok.ensures.plan new.spots.entries new.cache new.usage.spare (i.next + c.len-made.result) c.saturating_add-self-inside.result
    e.spare (ap (λ (n : ℕ). i.next + n) c.len-made.ensures) e.spots e.cache in
    made.1.table

pub returns-clause-committed : goal.returns-clause-committed
returns-clause-committed g c =
    let i = c.self.inside in
    let old : Paged g.row.D.Denot = c.args.self.now in
    let p : Paged g.row.D.Denot = seen i.reader i.saved i.at.items i.usage.spare i.root i.size i.next i.visits i.written in
    let plan = c.in-Ok.plan in
    let left : OnlyReadsOf g.D.Device old p = subst (λ (x : Paged g.row.D.Denot). OnlyReadsOf g.D.Device old x) (sym c.self.view_is) c.in-Ok.ensures.left in
    let new = c.carry_out.new in
    let e = c.in-Ok-carry_out.ensures in
    let made = plan_made g.D.Device old p c.args.step plan c.self.invariant.0 c.requires.step left c.in-Ok.ensures.plan new.spots.entries new.cache new.usage.spare (i.next + c.len-made.result) c.saturating_add-self-inside.result
    e.spare (ap (λ (n : ℕ). i.next + n) c.len-made.ensures) e.spots e.cache in
    made.1.committed

pub returns-clause-stays : goal.returns-clause-stays
returns-clause-stays g c =
    let i = c.self.inside in
    let old : Paged g.row.D.Denot = c.args.self.now in
    let p : Paged g.row.D.Denot = seen i.reader i.saved i.at.items i.usage.spare i.root i.size i.next i.visits i.written in
    let plan = c.in-Ok.plan in
    let left : OnlyReadsOf g.D.Device old p = subst (λ (x : Paged g.row.D.Denot). OnlyReadsOf g.D.Device old x) (sym c.self.view_is) c.in-Ok.ensures.left in
    let new = c.carry_out.new in
    let e = c.in-Ok-carry_out.ensures in
    let made = plan_made g.D.Device old p c.args.step plan c.self.invariant.0 c.requires.step left c.in-Ok.ensures.plan new.spots.entries new.cache new.usage.spare (i.next + c.len-made.result) c.saturating_add-self-inside.result
    e.spare (ap (λ (n : ℕ). i.next + n) c.len-made.ensures) e.spots e.cache in
    made.1.stays

pub invariant_of-self-2 : goal.invariant_of-self-2
invariant_of-self-2 g c =
    let i = c.self.inside in
    let old : Paged g.row.D.Denot = c.args.self.now in
    let p : Paged g.row.D.Denot = seen i.reader i.saved i.at.items i.usage.spare i.root i.size i.next i.visits i.written in
    let plan = c.in-Ok.plan in
    let left : OnlyReadsOf g.D.Device old p = subst (λ (x : Paged g.row.D.Denot). OnlyReadsOf g.D.Device old x) (sym c.self.view_is) c.in-Ok.ensures.left in
    let new = c.carry_out.new in
    let e = c.in-Ok-carry_out.ensures in
    let made = plan_made g.D.Device old p c.args.step plan c.self.invariant.0 c.requires.step left c.in-Ok.ensures.plan new.spots.entries new.cache new.usage.spare (i.next + c.len-made.result) c.saturating_add-self-inside.result
    e.spare (ap (λ (n : ℕ). i.next + n) c.len-made.ensures) e.spots e.cache in
    let more = tallied_more (g.D.Device.contents i.reader.dev) p (length c.args.step.made) i.usage c.self.invariant.0 (plan_fits g.D.Device old p c.args.step plan c.self.invariant.0 c.requires.step left c.in-Ok.ensures.plan) c.self.invariant.1 in (
      made.0,
      subst (λ (n : ℕ). IsTallied (i.next + n) (spots_in new.spots) new.usage) (sym c.len-made.ensures)
          (e.tallied (i.next + length c.args.step.made) (plan_below g.D.Device old p c.args.step plan c.self.invariant.0 c.requires.step left c.in-Ok.ensures.plan)
          (gone_below g.D.Device old p c.args.step plan c.self.invariant.0 c.requires.step left c.in-Ok.ensures.plan) more),
      plan_tested g.D.Device old p c.args.step plan c.self.invariant.0 c.requires.step left c.in-Ok.ensures.plan new.spots.entries new.cache new.usage.spare (i.next + c.len-made.result) c.saturating_add-self-inside.result
          (ap (λ (n : ℕ). i.next + n) c.len-made.ensures) e.spots e.cache i.reader.tested c.outdate.new.tested c.outdate.ensures c.self.invariant.2,
    )

pub invariant_of-self : goal.invariant_of-self
invariant_of-self g c =
    let i = c.self.inside in
    let p : Paged g.row.D.Denot = seen i.reader i.saved i.at.items i.usage.spare i.root i.size i.next i.visits i.written in
    let e = c.in-Err-carry_out.ensures in
    let new = c.carry_out.new in
    let q : List (ℕ × Spot) → List Bool → NodeCache → Paged g.row.D.Denot = λ entries spare cache. record p { spots = entries; spare = spare; cache = cache } in (
      subst (λ (m : NodeCache). IsPaged (g.D.Device.contents p.dev) (q new.spots.entries new.usage.spare m)) (sym e.err_cache)
          (subst (λ (s : List Bool). IsPaged (g.D.Device.contents p.dev) (q new.spots.entries s i.reader.cache)) (sym e.spare)
          (subst (λ (es : List (ℕ × Spot)). IsPaged (g.D.Device.contents p.dev) (q es i.usage.spare i.reader.cache)) (sym e.err) c.self.invariant.0)),
      e.err_tallied i.next c.self.invariant.1,
      subst (λ (m : NodeCache). AreTested (spots_in new.spots) m c.outdate.new.tested) (sym e.err_cache)
          (subst (λ (es : List (ℕ × Spot)). AreTested (λ id. lookup (nat_eq id) es) i.reader.cache c.outdate.new.tested) (sym e.err)
          (λ id on. c.self.invariant.2 id (c.outdate.ensures.tested id on))),
    )
