use Rattle.std.proofs.Common.{◌+◌, ◌*◌, length, take, drop, arith, sym, ap, subst, ◌∙◌, refl}
use Rattle.bd_device.proofs.Moments.{within}
use Rattle.bd_log.specs.Batches.{records_in}
use Rattle.bd_device.specs.Changes.{StaysBut, IsInRange}
use Rattle.bd_log.specs.Commits.{IsNoneOrWhole}
use Rattle.bd_log.specs.Logs.{LogState, IsSyncing, IsSynced, after_sync}
use Rattle.bd_device.proofs.Changes.{stays_wider}
use Rattle.bd_log.proofs.Chains.{waiting_is, syncing, synced, after_some, none_counted}
use Rattle.bd_log.proofs.Buffers.{fits_half}
use Rattle.bd_log.proofs.log.Log.sync.Goals as goal

pub write_committed-requires-clause-room : goal.write_committed-requires-clause-room
write_committed-requires-clause-room g c =
    let l = c.self.inside in
    omega (arith, fits_half l.place l.size l.count c.blocks_for-blocks.result l.body.items c.self.invariant.2 c.if-self-eq0.false c.blocks_for-blocks.ensures, c.self.invariant.0, c.requires)

pub returns-in_err-write_committed-clause-time : goal.returns-in_err-write_committed-clause-time
returns-in_err-write_committed-clause-time g c =
    let l = c.self.inside in
    let body = c.self.inside.body.items in
    let blocks = c.blocks_for-blocks.result in
    let before = g.D.Device.left_since c.args.dev.now (g.D.Device.call_count c.args.dev.now) in
    let waits = waiting_is l.first l.place l.size l.count l.epoch blocks l.body.len l.batches.items body c.deref_mut.result.now c.seal.new.body c.deref.result.now
    c.self.invariant.2 c.if-self-eq0.false c.blocks_for-blocks.ensures c.deref_mut.ensures.value c.deref_mut.ensures.len c.seal.ensures.body c.deref.ensures.value in
    let log : LogState = record { first = l.first; epoch = l.epoch; place = l.place; waiting = records_in l.count (take l.size (drop 24 body)); batches = l.batches.items } in
    let bytes = take (blocks * 4096) c.deref.result.now in
    within (IsNoneOrWhole (l.first + l.place) blocks bytes before) (IsSyncing c.args.self.now before) c.write_committed.ensures.time
    (λ image h. subst (λ (s : LogState). IsSyncing s before image) c.self.view_is (syncing log blocks bytes before image waits h))

pub returns-in_err-write_committed-clause-others : goal.returns-in_err-write_committed-clause-others
returns-in_err-write_committed-clause-others g c =
    let l = c.self.inside in
    let blocks = c.blocks_for-blocks.result in
    let room = fits_half l.place l.size l.count blocks l.body.items c.self.invariant.2 c.if-self-eq0.false c.blocks_for-blocks.ensures in
    let old = g.D.Device.contents c.args.dev.now in
    let new = g.D.Device.contents c.write_committed.new.dev in
    subst (λ (s : LogState). StaysBut (IsInRange s.first (s.first + 64)) old new) c.self.view_is
    (stays_wider (IsInRange (l.first + l.place) (l.first + l.place + blocks + 2)) (IsInRange l.first (l.first + 64)) old new
    (λ i is. (omega (arith, is.0), omega (arith, is.1, room))) c.write_committed.ensures.others)

pub returns-in_err-write_committed-clause-idle : goal.returns-in_err-write_committed-clause-idle
returns-in_err-write_committed-clause-idle g c =
    λ none. none_counted c.self.inside.count (take c.self.inside.size (drop 24 c.self.inside.body.items)) c.if-self-eq0.false (ap (λ (s : LogState). s.waiting) c.self.view_is ∙ none)

pub returns-in_err-write_committed-clause-idle_ok : goal.returns-in_err-write_committed-clause-idle_ok
returns-in_err-write_committed-clause-idle_ok g c =
    λ none. none_counted c.self.inside.count (take c.self.inside.size (drop 24 c.self.inside.body.items)) c.if-self-eq0.false (ap (λ (s : LogState). s.waiting) c.self.view_is ∙ none)

pub invariant_of-self-2 : goal.invariant_of-self-2
invariant_of-self-2 g c =
    let l = c.self.inside in
    let blocks = c.blocks_for-blocks.result in
    let room = fits_half l.place l.size l.count blocks l.body.items c.self.invariant.2 c.if-self-eq0.false c.blocks_for-blocks.ensures in (
      c.self.invariant.0,
      omega (arith, room),
      record {
        total = sym (ap length c.deref.ensures.value) ∙ c.deref.ensures.len ∙ sym c.deref_mut.ensures.len ∙ ap length c.deref_mut.ensures.value ∙ c.self.invariant.2.total;
        room = omega arith;
        whole = refl;
        each = tt;
      },
    )

pub returns-clause-ok : goal.returns-clause-ok
returns-clause-ok g c =
    let l = c.self.inside in
    let body = c.self.inside.body.items in
    let blocks = c.blocks_for-blocks.result in
    let waits = waiting_is l.first l.place l.size l.count l.epoch blocks l.body.len l.batches.items body c.deref_mut.result.now c.seal.new.body c.deref.result.now
    c.self.invariant.2 c.if-self-eq0.false c.blocks_for-blocks.ensures c.deref_mut.ensures.value c.deref_mut.ensures.len c.seal.ensures.body c.deref.ensures.value in
    let log : LogState = record { first = l.first; epoch = l.epoch; place = l.place; waiting = records_in l.count (take l.size (drop 24 body)); batches = l.batches.items } in
    after_some log blocks (take (blocks * 4096) c.deref.result.now) waits ∙ ap after_sync c.self.view_is

pub returns-clause-time : goal.returns-clause-time
returns-clause-time g c =
    let l = c.self.inside in
    let body = c.self.inside.body.items in
    let blocks = c.blocks_for-blocks.result in
    let before = g.D.Device.left_since c.args.dev.now (g.D.Device.call_count c.args.dev.now) in
    let waits = waiting_is l.first l.place l.size l.count l.epoch blocks l.body.len l.batches.items body c.deref_mut.result.now c.seal.new.body c.deref.result.now
    c.self.invariant.2 c.if-self-eq0.false c.blocks_for-blocks.ensures c.deref_mut.ensures.value c.deref_mut.ensures.len c.seal.ensures.body c.deref.ensures.value in
    let log : LogState = record { first = l.first; epoch = l.epoch; place = l.place; waiting = records_in l.count (take l.size (drop 24 body)); batches = l.batches.items } in
    let bytes = take (blocks * 4096) c.deref.result.now in
    within (IsNoneOrWhole (l.first + l.place) blocks bytes before) (IsSyncing c.args.self.now before) c.write_committed.ensures.time
    (λ image h. subst (λ (s : LogState). IsSyncing s before image) c.self.view_is (syncing log blocks bytes before image waits h))

pub returns-clause-synced : goal.returns-clause-synced
returns-clause-synced g c =
    let l = c.self.inside in
    let body = c.self.inside.body.items in
    let blocks = c.blocks_for-blocks.result in
    let before = g.D.Device.left_since c.args.dev.now (g.D.Device.call_count c.args.dev.now) in
    let waits = waiting_is l.first l.place l.size l.count l.epoch blocks l.body.len l.batches.items body c.deref_mut.result.now c.seal.new.body c.deref.result.now
    c.self.invariant.2 c.if-self-eq0.false c.blocks_for-blocks.ensures c.deref_mut.ensures.value c.deref_mut.ensures.len c.seal.ensures.body c.deref.ensures.value in
    let log : LogState = record { first = l.first; epoch = l.epoch; place = l.place; waiting = records_in l.count (take l.size (drop 24 body)); batches = l.batches.items } in
    let bytes = take (blocks * 4096) c.deref.result.now in
    λ image left. subst (λ (s : LogState). IsSynced s before image) c.self.view_is (synced log blocks bytes before image waits (c.in_ok-write_committed.ensures.whole image left))

pub returns-clause-others : goal.returns-clause-others
returns-clause-others g c =
    let l = c.self.inside in
    let blocks = c.blocks_for-blocks.result in
    let room = fits_half l.place l.size l.count blocks l.body.items c.self.invariant.2 c.if-self-eq0.false c.blocks_for-blocks.ensures in
    let old = g.D.Device.contents c.args.dev.now in
    let new = g.D.Device.contents c.write_committed.new.dev in
    subst (λ (s : LogState). StaysBut (IsInRange s.first (s.first + 64)) old new) c.self.view_is
    (stays_wider (IsInRange (l.first + l.place) (l.first + l.place + blocks + 2)) (IsInRange l.first (l.first + 64)) old new
    (λ i is. (omega (arith, is.0), omega (arith, is.1, room))) c.write_committed.ensures.others)

pub returns-clause-idle : goal.returns-clause-idle
returns-clause-idle g c =
    λ none. none_counted c.self.inside.count (take c.self.inside.size (drop 24 c.self.inside.body.items)) c.if-self-eq0.false (ap (λ (s : LogState). s.waiting) c.self.view_is ∙ none)
