use Rattle.std.proofs.Common.{◌≡◌, rules, refl, ap, arith, subst, sym, ◌∙◌, List, length, ◌+◌, ◌≤◌, ◌<◌, ◌^◌}
use Rattle.bd_limits.specs.Limits.{level_limit}
use Rattle.bd_node.specs.Meaning.{Nodes}
use Rattle.bd_node.specs.Tables.{Table}
use Rattle.bd_graft.specs.declared.layers.Layer.{Layer}
use Rattle.std.specs.List.{AllByRecursion}
use Rattle.bd_graft.specs.Walking.{messages_in}
use Rattle.bd_graft.specs.Packing.{Fits, packs, overlaid}
use Rattle.bd_graft.proofs.Grafts.{layers_raise}
use Rattle.bd_graft.proofs.Grouping.{layers_fit, packed_length}
use Rattle.bd_graft.proofs.Counters.{count_few, count_is, worn_ids, worn_top, worn_level, worn_under, worn_over}
use Rattle.bd_node.specs.Steps.{extend_step}
use Rattle.bd_graft.specs.Grafting.{graft_messages, step_over, IsReady}
use Rattle.bd_graft.proofs.Laying.{level_high}
use Rattle.bd_graft.proofs.Wearing.{layers_few, sum_past, sum_within, over_few, cause_of, extend_cause, under_ok, over_ok, packed_low}
use Rattle.bd_node.proofs.Extending.{root_inner}
use Rattle.bd_graft.proofs.Made.{room_is, not_called}
use Rattle.bd_graft.proofs.Looks.{found_has, found_sent, way_ready, is_found, not_found}
use Rattle.bd_graft.proofs.grafting.finish.Goals as goal

pub pack-requires-clause-layers : goal.pack-requires-clause-layers
pack-requires-clause-layers g c =
    let t : Table = g.S.NodeStore.table c.args.store.now in
    layers_raise t (t.level t.root + 1) (level_limit + 1) c.args.way.layers.items c.args.way.end (omega (arith, level_high c.requires.root.node c.requires.root.is.of_table.shape, c.requires.root.is.of_table.level_is)) c.requires.layers

pub returns-then-is_none-clause-cause : goal.returns-then-is_none-clause-cause
returns-then-is_none-clause-cause g c =
    let t : Table = g.S.NodeStore.table c.args.store.now in
    record {
      later = omega arith;
      kept = tt;
      stays = refl;
      failed = omega (arith, sum_past _ _ _ _ c.checked_add.ensures c.is_none.ensures c.if-is_none.true, c.next_id.ensures.value, count_is c.args.way.end c.args.way.layers.items c.as_slice.result.now c.overlay_count-count.result c.as_slice.ensures.value c.overlay_count-count.ensures, count_few c.args.way.end c.args.way.layers.items, layers_few t (t.level t.root) c.args.way.layers.items c.args.way.end c.requires.layers);
    }

pub returns-then-packed-level-clause-cause : goal.returns-then-packed-level-clause-cause
returns-then-packed-level-clause-cause g c =
    let t : Table = g.S.NodeStore.table c.args.store.now in
    let made : length c.in_ok-packed.packed.made.items ≤ t.level t.root + 1 = omega (arith, c.in_ok-packed.ensures.few, layers_few t (t.level t.root) c.args.way.layers.items c.args.way.end c.requires.layers) in
    let high : t.level t.root ≤ level_limit = omega (arith, level_high c.requires.root.node c.requires.root.is.of_table.shape, c.requires.root.is.of_table.level_is) in
    let room : t.next + length c.in_ok-packed.packed.made.items < 2 ^ 64 = omega (arith, sum_within _ _ _ _ c.checked_add.ensures c.is_none.ensures c.if-is_none.false, c.next_id.ensures.value, count_is c.args.way.end c.args.way.layers.items c.as_slice.result.now c.overlay_count-count.result c.as_slice.ensures.value c.overlay_count-count.ensures, packed_length t c.args.way.end (overlaid c.args.way.end (packs (messages_in c.args.way.layers.items))) c.in_ok-packed.packed c.in_ok-packed.ensures.groups) in
    let ready : IsReady (g.S.NodeStore.is_known c.args.store.now) (g.S.NodeStore.nodes c.args.store.now) t c.args.s.now c.in_ok-packed.packed = way_ready (g.S.NodeStore.is_known c.args.store.now) (g.S.NodeStore.nodes c.args.store.now) t c.args.s.now c.args.way.layers.items c.args.way.end c.in_ok-packed.packed
    c.in_ok-packed.ensures.packed c.in_ok-packed.ensures.groups c.in_ok-packed.ensures.few c.requires.layers c.requires.value c.requires.way (not_found (g.S.NodeStore.is_known c.args.store.now) (g.S.NodeStore.nodes c.args.store.now) t c.args.way.end c.args.way.layers.items c.args.found c.in_default.is c.requires.found) in
    cause_of (g.S.NodeStore.fault_count c.args.store.now) (g.S.NodeStore.fault_count c.put_under.new.store) (g.S.NodeStore.last_failed c.put_under.new.store) (g.S.NodeStore.bad c.put_under.new.store) t
    (extend_step t c.requires.root.node c.in_ok-packed.packed.made.items (graft_messages c.args.s.now c.args.d.now c.args.keep c.in_ok-packed.packed.target)) c.put_under.result
    (under_ok (g.S.NodeStore.is_known c.args.store.now) (g.S.NodeStore.nodes c.args.store.now) t c.requires.root.node c.in_ok-packed.packed c.args.s.now c.args.d.now c.args.keep ready c.next_id.ensures.table c.requires.root.is.of_table
    (omega (arith, c.if-packed-level.true, c.level-level.ensures ∙ ap t.level c.root.ensures.value)) c.requires.can.source c.requires.can.target (omega (arith, c.requires.root.is.size, room_is t.size c.requires.can.fits)) room)
    (omega (arith, made)) high (omega arith)
    (extend_cause (g.S.NodeStore.fault_count c.args.store.now) (g.S.NodeStore.fault_count c.put_under.new.store) (g.S.NodeStore.last_failed c.put_under.new.store) (g.S.NodeStore.bad c.put_under.new.store) t c.requires.root.node c.in_ok-packed.packed.made.items (graft_messages c.args.s.now c.args.d.now c.args.keep c.in_ok-packed.packed.target) c.put_under.result (root_inner t c.requires.root.node c.next_id.ensures.table c.requires.root.is) c.put_under.ensures.cause)

pub returns-clause-cause : goal.returns-clause-cause
returns-clause-cause g c =
    let t : Table = g.S.NodeStore.table c.args.store.now in
    let made : length c.in_ok-packed.packed.made.items ≤ t.level t.root + 1 = omega (arith, c.in_ok-packed.ensures.few, layers_few t (t.level t.root) c.args.way.layers.items c.args.way.end c.requires.layers) in
    let high : t.level t.root < level_limit = omega (arith, c.if-level-ge-MAX_LEVEL.false, c.level-level.ensures ∙ ap t.level c.root.ensures.value) in
    let room : t.next + length c.in_ok-packed.packed.made.items < 2 ^ 64 = omega (arith, sum_within _ _ _ _ c.checked_add.ensures c.is_none.ensures c.if-is_none.false, c.next_id.ensures.value, count_is c.args.way.end c.args.way.layers.items c.as_slice.result.now c.overlay_count-count.result c.as_slice.ensures.value c.overlay_count-count.ensures, packed_length t c.args.way.end (overlaid c.args.way.end (packs (messages_in c.args.way.layers.items))) c.in_ok-packed.packed c.in_ok-packed.ensures.groups) in
    let ready : IsReady (g.S.NodeStore.is_known c.args.store.now) (g.S.NodeStore.nodes c.args.store.now) t c.args.s.now c.in_ok-packed.packed = way_ready (g.S.NodeStore.is_known c.args.store.now) (g.S.NodeStore.nodes c.args.store.now) t c.args.s.now c.args.way.layers.items c.args.way.end c.in_ok-packed.packed
    c.in_ok-packed.ensures.packed c.in_ok-packed.ensures.groups c.in_ok-packed.ensures.few c.requires.layers c.requires.value c.requires.way (not_found (g.S.NodeStore.is_known c.args.store.now) (g.S.NodeStore.nodes c.args.store.now) t c.args.way.end c.args.way.layers.items c.args.found c.in_default.is c.requires.found) in
    cause_of (g.S.NodeStore.fault_count c.args.store.now) (g.S.NodeStore.fault_count c.put_over.new.store) (g.S.NodeStore.last_failed c.put_over.new.store) (g.S.NodeStore.bad c.put_over.new.store) t
    (step_over t c.in_ok-packed.packed.made.items (graft_messages c.args.s.now c.args.d.now c.args.keep c.in_ok-packed.packed.target)) c.put_over.result
    (over_ok (g.S.NodeStore.is_known c.args.store.now) (g.S.NodeStore.nodes c.args.store.now) t c.in_ok-packed.packed c.args.s.now c.args.d.now c.args.keep ready c.next_id.ensures.table high
    (packed_low t c.args.way.layers.items c.args.way.end c.in_ok-packed.packed.level c.next_id.ensures.table c.requires.layers c.in_ok-packed.ensures.low)
    c.requires.can.source c.requires.can.target room)
    (over_few t c.in_ok-packed.packed.made.items (graft_messages c.args.s.now c.args.d.now c.args.keep c.in_ok-packed.packed.target) (t.level t.root + 2) (omega (arith, made))) (omega (arith, high)) (omega arith) c.put_over.ensures.cause

pub overlay_count-count-requires-clause-fits : goal.overlay_count-count-requires-clause-fits
overlay_count-count-requires-clause-fits g c =
    let t : Table = g.S.NodeStore.table c.args.store.now in
    subst (λ (ls : List Layer). AllByRecursion Fits ls) (sym c.as_slice.ensures.value) (layers_fit t (t.level t.root + 1) c.args.way.layers.items c.args.way.end c.requires.layers)

pub pack-requires-clause-room : goal.pack-requires-clause-room
pack-requires-clause-room g c =
    let t : Table = g.S.NodeStore.table c.args.store.now in
    omega (arith, sum_within _ _ _ _ c.checked_add.ensures c.is_none.ensures c.if-is_none.false, c.next_id.ensures.value, count_is c.args.way.end c.args.way.layers.items c.as_slice.result.now c.overlay_count-count.result c.as_slice.ensures.value c.overlay_count-count.ensures)

pub put_under-requires-clause-room : goal.put_under-requires-clause-room
put_under-requires-clause-room g c =
    let t : Table = g.S.NodeStore.table c.args.store.now in
    omega (arith, sum_within _ _ _ _ c.checked_add.ensures c.is_none.ensures c.if-is_none.false, c.next_id.ensures.value, count_is c.args.way.end c.args.way.layers.items c.as_slice.result.now c.overlay_count-count.result c.as_slice.ensures.value c.overlay_count-count.ensures, packed_length t c.args.way.end (overlaid c.args.way.end (packs (messages_in c.args.way.layers.items))) c.in_ok-packed.packed c.in_ok-packed.ensures.groups)

pub put_over-requires-clause-room : goal.put_over-requires-clause-room
put_over-requires-clause-room g c =
    let t : Table = g.S.NodeStore.table c.args.store.now in
    omega (arith, sum_within _ _ _ _ c.checked_add-2.ensures c.is_none-2.ensures c.if-is_none-2.false, c.next_id-2.ensures.value, count_is c.args.way.end c.args.way.layers.items c.as_slice.result.now c.overlay_count-count.result c.as_slice.ensures.value c.overlay_count-count.ensures, packed_length t c.args.way.end (overlaid c.args.way.end (packs (messages_in c.args.way.layers.items))) c.in_ok-packed.packed c.in_ok-packed.ensures.groups)

pub returns-then-is_none-clause-worn : goal.returns-then-is_none-clause-worn
returns-then-is_none-clause-worn g c = λ known sound.
    let t : Table = g.S.NodeStore.table c.args.store.now in
    worn_ids (g.S.NodeStore.nodes c.args.store.now) t c.requires.root.node c.args.s.now c.args.d.now c.args.keep (messages_in c.args.way.layers.items) c.args.way.end (c.requires.root.there known) (c.requires.way known sound)
    (not_found (g.S.NodeStore.is_known c.args.store.now) (g.S.NodeStore.nodes c.args.store.now) t c.args.way.end c.args.way.layers.items c.args.found c.in_default.is c.requires.found known sound)
    (omega (arith, sum_past _ _ _ _ c.checked_add.ensures c.is_none.ensures c.if-is_none.true, c.next_id.ensures.value, count_is c.args.way.end c.args.way.layers.items c.as_slice.result.now c.overlay_count-count.result c.as_slice.ensures.value c.overlay_count-count.ensures))

pub returns-then-packed-level-clause-worn : goal.returns-then-packed-level-clause-worn
returns-then-packed-level-clause-worn g c = λ known sound.
    let t : Table = g.S.NodeStore.table c.args.store.now in
    let ready : IsReady (g.S.NodeStore.is_known c.args.store.now) (g.S.NodeStore.nodes c.args.store.now) t c.args.s.now c.in_ok-packed.packed = way_ready (g.S.NodeStore.is_known c.args.store.now) (g.S.NodeStore.nodes c.args.store.now) t c.args.s.now c.args.way.layers.items c.args.way.end c.in_ok-packed.packed
    c.in_ok-packed.ensures.packed c.in_ok-packed.ensures.groups c.in_ok-packed.ensures.few c.requires.layers c.requires.value c.requires.way (not_found (g.S.NodeStore.is_known c.args.store.now) (g.S.NodeStore.nodes c.args.store.now) t c.args.way.end c.args.way.layers.items c.args.found c.in_default.is c.requires.found) in
    worn_under (g.S.NodeStore.fault_count c.args.store.now) (g.S.NodeStore.fault_count c.put_under.new.store) (g.S.NodeStore.last_failed c.put_under.new.store) (g.S.NodeStore.bad c.put_under.new.store) (g.S.NodeStore.is_known c.args.store.now) (g.S.NodeStore.nodes c.args.store.now) t c.requires.root.node c.in_ok-packed.packed c.args.s.now c.args.d.now c.args.keep c.put_under.result
    ready known sound (c.requires.root.there known) (omega (arith, c.if-packed-level.true, c.level-level.ensures ∙ ap t.level c.root.ensures.value))
    (extend_cause (g.S.NodeStore.fault_count c.args.store.now) (g.S.NodeStore.fault_count c.put_under.new.store) (g.S.NodeStore.last_failed c.put_under.new.store) (g.S.NodeStore.bad c.put_under.new.store) t c.requires.root.node c.in_ok-packed.packed.made.items (graft_messages c.args.s.now c.args.d.now c.args.keep c.in_ok-packed.packed.target) c.put_under.result (root_inner t c.requires.root.node sound.table c.requires.root.is) c.put_under.ensures.cause)

pub returns-then-level-ge-MAX_LEVEL-clause-worn : goal.returns-then-level-ge-MAX_LEVEL-clause-worn
returns-then-level-ge-MAX_LEVEL-clause-worn g c = λ known sound.
    let t : Table = g.S.NodeStore.table c.args.store.now in
    let ready : IsReady (g.S.NodeStore.is_known c.args.store.now) (g.S.NodeStore.nodes c.args.store.now) t c.args.s.now c.in_ok-packed.packed = way_ready (g.S.NodeStore.is_known c.args.store.now) (g.S.NodeStore.nodes c.args.store.now) t c.args.s.now c.args.way.layers.items c.args.way.end c.in_ok-packed.packed
    c.in_ok-packed.ensures.packed c.in_ok-packed.ensures.groups c.in_ok-packed.ensures.few c.requires.layers c.requires.value c.requires.way (not_found (g.S.NodeStore.is_known c.args.store.now) (g.S.NodeStore.nodes c.args.store.now) t c.args.way.end c.args.way.layers.items c.args.found c.in_default.is c.requires.found) in
    worn_level (g.S.NodeStore.is_known c.args.store.now) (g.S.NodeStore.nodes c.args.store.now) t c.requires.root.node c.in_ok-packed.packed c.args.s.now c.args.d.now c.args.keep
    ready known sound (c.requires.root.there known) (omega (arith, c.if-packed-level.false, c.level-level.ensures ∙ ap t.level c.root.ensures.value)) (omega (arith, c.if-level-ge-MAX_LEVEL.true, c.level-level.ensures ∙ ap t.level c.root.ensures.value, level_high c.requires.root.node c.requires.root.is.of_table.shape))

pub returns-then-is_none-2-clause-worn : goal.returns-then-is_none-2-clause-worn
returns-then-is_none-2-clause-worn g c = λ known sound.
    let t : Table = g.S.NodeStore.table c.args.store.now in
    let ready : IsReady (g.S.NodeStore.is_known c.args.store.now) (g.S.NodeStore.nodes c.args.store.now) t c.args.s.now c.in_ok-packed.packed = way_ready (g.S.NodeStore.is_known c.args.store.now) (g.S.NodeStore.nodes c.args.store.now) t c.args.s.now c.args.way.layers.items c.args.way.end c.in_ok-packed.packed
    c.in_ok-packed.ensures.packed c.in_ok-packed.ensures.groups c.in_ok-packed.ensures.few c.requires.layers c.requires.value c.requires.way (not_found (g.S.NodeStore.is_known c.args.store.now) (g.S.NodeStore.nodes c.args.store.now) t c.args.way.end c.args.way.layers.items c.args.found c.in_default.is c.requires.found) in
    worn_top (g.S.NodeStore.is_known c.args.store.now) (g.S.NodeStore.nodes c.args.store.now) t c.requires.root.node c.in_ok-packed.packed c.args.s.now c.args.d.now c.args.keep
    ready known sound (c.requires.root.there known) (omega (arith, c.if-packed-level.false, c.level-level.ensures ∙ ap t.level c.root.ensures.value))
    (omega (arith, sum_past _ _ _ _ c.checked_add-2.ensures c.is_none-2.ensures c.if-is_none-2.true, c.next_id-2.ensures.value, count_is c.args.way.end c.args.way.layers.items c.as_slice.result.now c.overlay_count-count.result c.as_slice.ensures.value c.overlay_count-count.ensures, packed_length t c.args.way.end (overlaid c.args.way.end (packs (messages_in c.args.way.layers.items))) c.in_ok-packed.packed c.in_ok-packed.ensures.groups))

pub returns-clause-worn : goal.returns-clause-worn
returns-clause-worn g c = λ known sound.
    let t : Table = g.S.NodeStore.table c.args.store.now in
    let ready : IsReady (g.S.NodeStore.is_known c.args.store.now) (g.S.NodeStore.nodes c.args.store.now) t c.args.s.now c.in_ok-packed.packed = way_ready (g.S.NodeStore.is_known c.args.store.now) (g.S.NodeStore.nodes c.args.store.now) t c.args.s.now c.args.way.layers.items c.args.way.end c.in_ok-packed.packed
    c.in_ok-packed.ensures.packed c.in_ok-packed.ensures.groups c.in_ok-packed.ensures.few c.requires.layers c.requires.value c.requires.way (not_found (g.S.NodeStore.is_known c.args.store.now) (g.S.NodeStore.nodes c.args.store.now) t c.args.way.end c.args.way.layers.items c.args.found c.in_default.is c.requires.found) in
    worn_over (g.S.NodeStore.fault_count c.args.store.now) (g.S.NodeStore.fault_count c.put_over.new.store) (g.S.NodeStore.last_failed c.put_over.new.store) (g.S.NodeStore.bad c.put_over.new.store) (g.S.NodeStore.is_known c.args.store.now) (g.S.NodeStore.nodes c.args.store.now) t c.requires.root.node c.in_ok-packed.packed c.args.s.now c.args.d.now c.args.keep c.put_over.result
    ready known sound (c.requires.root.there known) (omega (arith, c.if-packed-level.false, c.level-level.ensures ∙ ap t.level c.root.ensures.value)) c.put_over.ensures.cause

pub returns-then-is_none-2-clause-cause : goal.returns-then-is_none-2-clause-cause
returns-then-is_none-2-clause-cause g c =
    let t : Table = g.S.NodeStore.table c.args.store.now in
    let same : c.match-packed-2.store ≡ c.args.store.now = search rules in
    record {
      later = omega (arith, ap g.S.NodeStore.fault_count same);
      kept = tt;
      stays = ap g.S.NodeStore.fault_count same;
      failed = omega (arith, sum_past _ _ _ _ c.checked_add-2.ensures c.is_none-2.ensures c.if-is_none-2.true, c.next_id-2.ensures.value, count_is c.args.way.end c.args.way.layers.items c.as_slice.result.now c.overlay_count-count.result c.as_slice.ensures.value c.overlay_count-count.ensures, count_few c.args.way.end c.args.way.layers.items, layers_few t (t.level t.root) c.args.way.layers.items c.args.way.end c.requires.layers);
    }

pub returns-then-is_none-clause-call : goal.returns-then-is_none-clause-call
returns-then-is_none-clause-call g c = not_called g.S.NodeStore c.args.s.now c.args.d.now c.args.keep c.args.store.now c.args.store.now _ refl (g.met.S.NodeStore.reads_none c.args.store.now) (g.met.S.NodeStore.reads_keep _ _ (g.met.S.NodeStore.reads_none c.args.store.now))

pub returns-then-level-ge-MAX_LEVEL-clause-call : goal.returns-then-level-ge-MAX_LEVEL-clause-call
returns-then-level-ge-MAX_LEVEL-clause-call g c =
    not_called g.S.NodeStore c.args.s.now c.args.d.now c.args.keep c.args.store.now c.match-packed.store _ (search rules)
    (g.met.S.NodeStore.reads_none c.args.store.now) (g.met.S.NodeStore.reads_keep _ _ (g.met.S.NodeStore.reads_none c.args.store.now))

pub returns-then-is_none-2-clause-call : goal.returns-then-is_none-2-clause-call
returns-then-is_none-2-clause-call g c =
    not_called g.S.NodeStore c.args.s.now c.args.d.now c.args.keep c.args.store.now c.match-packed-2.store _ (search rules)
    (g.met.S.NodeStore.reads_none c.args.store.now) (g.met.S.NodeStore.reads_keep _ _ (g.met.S.NodeStore.reads_none c.args.store.now))

pub returns-then-packed-level-clause-call : goal.returns-then-packed-level-clause-call
returns-then-packed-level-clause-call g c = c.put_under.ensures.call

pub returns-clause-call : goal.returns-clause-call
returns-clause-call g c = c.put_over.ensures.call

pub put_under-requires-clause-ready : goal.put_under-requires-clause-ready
put_under-requires-clause-ready g c =
    let t : Table = g.S.NodeStore.table c.args.store.now in
    let ready : IsReady (g.S.NodeStore.is_known c.args.store.now) (g.S.NodeStore.nodes c.args.store.now) t c.args.s.now c.in_ok-packed.packed = way_ready (g.S.NodeStore.is_known c.args.store.now) (g.S.NodeStore.nodes c.args.store.now) t c.args.s.now c.args.way.layers.items c.args.way.end c.in_ok-packed.packed
    c.in_ok-packed.ensures.packed c.in_ok-packed.ensures.groups c.in_ok-packed.ensures.few c.requires.layers c.requires.value c.requires.way (not_found (g.S.NodeStore.is_known c.args.store.now) (g.S.NodeStore.nodes c.args.store.now) t c.args.way.end c.args.way.layers.items c.args.found c.in_default.is c.requires.found) in
    ready

pub put_over-requires-clause-ready : goal.put_over-requires-clause-ready
put_over-requires-clause-ready g c =
    let t : Table = g.S.NodeStore.table c.args.store.now in
    let ready : IsReady (g.S.NodeStore.is_known c.args.store.now) (g.S.NodeStore.nodes c.args.store.now) t c.args.s.now c.in_ok-packed.packed = way_ready (g.S.NodeStore.is_known c.args.store.now) (g.S.NodeStore.nodes c.args.store.now) t c.args.s.now c.args.way.layers.items c.args.way.end c.in_ok-packed.packed
    c.in_ok-packed.ensures.packed c.in_ok-packed.ensures.groups c.in_ok-packed.ensures.few c.requires.layers c.requires.value c.requires.way (not_found (g.S.NodeStore.is_known c.args.store.now) (g.S.NodeStore.nodes c.args.store.now) t c.args.way.end c.args.way.layers.items c.args.found c.in_default.is c.requires.found) in
    ready

pub put_again-requires-clause-value : goal.put_again-requires-clause-value
put_again-requires-clause-value g c = λ known sound k key.
    let nodes : Nodes = g.S.NodeStore.nodes c.args.store.now in
    let t : Table = g.S.NodeStore.table c.args.store.now in
    found_has nodes t c.args.way.end c.args.way.layers.items c.in-Some.child sound (is_found nodes t c.args.way.end c.args.way.layers.items c.args.found c.in-Some.child c.in-Some.is (c.requires.found known sound)) k key
    ∙ c.requires.value known sound k key

pub put_again-requires-clause-sent : goal.put_again-requires-clause-sent
put_again-requires-clause-sent g c = λ known sound.
    let nodes : Nodes = g.S.NodeStore.nodes c.args.store.now in
    let t : Table = g.S.NodeStore.table c.args.store.now in
    found_sent nodes t c.args.s.now c.args.way.end c.args.way.layers.items c.in-Some.child sound (c.requires.way known sound) (is_found nodes t c.args.way.end c.args.way.layers.items c.args.found c.in-Some.child c.in-Some.is (c.requires.found known sound))
