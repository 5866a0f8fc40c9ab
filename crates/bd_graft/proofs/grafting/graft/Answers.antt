use Rattle.std.proofs.Common.{◌≡◌, ℕ, ◌+◌, ◌-◌, ◌≤◌, ◌++◌, List, ap, subst, ◌∙◌, arith}
use Rattle.std.proofs.lemmas.Result.{err_from_is_err_and}
use Rattle.bd_keys.specs.Keys.{IsKey}
use Rattle.bd_message.specs.Effect.{acts}
use Rattle.bd_node.specs.Frames.{OfSound}
use Rattle.bd_node.specs.Meaning.{Nodes, at}
use Rattle.bd_node.specs.Tables.{Table, root_at}
use Rattle.bd_resolve.specs.Following.{target_at}
use Rattle.bd_graft.specs.declared.layers.Layer.{Layer}
use Rattle.bd_graft.specs.Layers.{laid}
use Rattle.bd_graft.specs.Walking.{IsWay, messages_in}
use Rattle.bd_graft.specs.Packing.{packs, overlaid}
use Rattle.bd_graft.specs.Looking.{IsFound}
use Rattle.bd_graft.specs.Grafting.{IsGrown, IsWornByGraft, OnWorn}
use Rattle.bd_graft.proofs.Visits.{few_fetched, risen}
use Rattle.bd_graft.proofs.Made.{made_after, of_reads, on_reads, reads_both, stays_after, root_on, err_cause}
use Rattle.bd_graft.proofs.Looks.{looked_known}
use Rattle.bd_graft.proofs.grafting.graft.Goals as goal

pub returns-clause-few : goal.returns-clause-few
returns-clause-few g c =
    let t : Table = g.S.NodeStore.table c.args.store.now in
    let mid : Table = g.S.NodeStore.table c.walk.new.store in
    let new : Table = g.S.NodeStore.table c.finish.new.store in
    let same : mid ≡ t = c.in_ok-way.ensures.left.table in
    let height : c.level-height.result ≡ t.level t.root = c.level-height.ensures ∙ ap mid.level c.root-root.ensures.value ∙ ap (λ (u : Table). u.level t.root) same in
    let grown : IsGrown t new = subst (λ (u : Table). IsGrown u new) (c.in_ok-found.ensures.left.table ∙ same) c.in_ok-finish.ensures.call.made.table in
    let few : new.next ≤ t.next + (t.level t.root + 2) = grown.few in
    let fetched : c.in_ok-way.way.fetched ≤ t.level t.root + 1 = few_fetched t c.in_ok-way.way.layers.items c.in_ok-way.way.end c.in_ok-way.way.fetched c.in_ok-way.ensures.layers c.in_ok-way.ensures.fetched in
    omega (arith, fetched, few, c.in_ok-found.ensures.few, height, c.next_id-next.ensures.value, c.next_id.ensures.value)

pub returns-clause-grafted : goal.returns-clause-grafted
returns-clause-grafted g c = (made_after g.S.NodeStore c.args.s.now c.args.d.now c.args.keep c.args.store.now c.walk.new.store c.finish.new.store c.in_ok-way.ensures.left (made_after g.S.NodeStore c.args.s.now c.args.d.now c.args.keep c.walk.new.store c.find_overlay.new.store c.finish.new.store c.in_ok-found.ensures.left c.in_ok-finish.ensures.call.made)).grafted

pub returns-clause-sound : goal.returns-clause-sound
returns-clause-sound g c = (made_after g.S.NodeStore c.args.s.now c.args.d.now c.args.keep c.args.store.now c.walk.new.store c.finish.new.store c.in_ok-way.ensures.left (made_after g.S.NodeStore c.args.s.now c.args.d.now c.args.keep c.walk.new.store c.find_overlay.new.store c.finish.new.store c.in_ok-found.ensures.left c.in_ok-finish.ensures.call.made)).sound

pub returns-clause-step : goal.returns-clause-step
returns-clause-step g c = (made_after g.S.NodeStore c.args.s.now c.args.d.now c.args.keep c.args.store.now c.walk.new.store c.finish.new.store c.in_ok-way.ensures.left (made_after g.S.NodeStore c.args.s.now c.args.d.now c.args.keep c.walk.new.store c.find_overlay.new.store c.finish.new.store c.in_ok-found.ensures.left c.in_ok-finish.ensures.call.made)).step

pub returns-clause-others : goal.returns-clause-others
returns-clause-others g c = (made_after g.S.NodeStore c.args.s.now c.args.d.now c.args.keep c.args.store.now c.walk.new.store c.finish.new.store c.in_ok-way.ensures.left (made_after g.S.NodeStore c.args.s.now c.args.d.now c.args.keep c.walk.new.store c.find_overlay.new.store c.finish.new.store c.in_ok-found.ensures.left c.in_ok-finish.ensures.call.made)).others

pub returns-clause-table : goal.returns-clause-table
returns-clause-table g c = (made_after g.S.NodeStore c.args.s.now c.args.d.now c.args.keep c.args.store.now c.walk.new.store c.finish.new.store c.in_ok-way.ensures.left (made_after g.S.NodeStore c.args.s.now c.args.d.now c.args.keep c.walk.new.store c.find_overlay.new.store c.finish.new.store c.in_ok-found.ensures.left c.in_ok-finish.ensures.call.made)).table

pub returns-clause-rise : goal.returns-clause-rise
returns-clause-rise g c =
    risen (g.S.NodeStore.visit_count c.args.store.now) (g.S.NodeStore.visit_count c.find_overlay.new.store) (g.S.NodeStore.visit_count c.finish.new.store) (c.in_ok-way.way.fetched + c.in_ok-found.field-0.fetched) ((g.S.NodeStore.table c.finish.new.store).next - (g.S.NodeStore.table c.find_overlay.new.store).next) _
    (c.in_ok-found.ensures.visits (g.S.NodeStore.visit_count c.args.store.now) c.in_ok-way.way.fetched c.in_ok-way.ensures.visits) c.in_ok-finish.ensures.call.visits
    (omega (arith, c.next_id.ensures.value, c.next_id-next.ensures.value, ap (λ (t : Table). t.next) (c.in_ok-found.ensures.left.table ∙ c.in_ok-way.ensures.left.table)))

pub finish-requires-clause-root : goal.finish-requires-clause-root
finish-requires-clause-root g c = root_on g.S.NodeStore c.args.store.now c.find_overlay.new.store g.met.S.NodeStore.reads_known (reads_both g.S.NodeStore c.args.store.now c.walk.new.store c.find_overlay.new.store g.met.S.NodeStore.reads_both c.in_ok-way.ensures.left c.in_ok-found.ensures.left) c.in_ok-way.ensures.root

pub finish-requires-clause-value : goal.finish-requires-clause-value
finish-requires-clause-value g c =
    on_reads g.S.NodeStore c.args.store.now c.find_overlay.new.store (λ f u. (k : List ℕ) → IsKey k → acts (at f) (laid c.in_ok-way.way.layers.items) k (target_at (at f) c.in_ok-way.way.end k) ≡ root_at f u (c.args.s.now ++ k)) g.met.S.NodeStore.reads_known (reads_both g.S.NodeStore c.args.store.now c.walk.new.store c.find_overlay.new.store g.met.S.NodeStore.reads_both c.in_ok-way.ensures.left c.in_ok-found.ensures.left) c.in_ok-way.ensures.value

pub finish-requires-clause-way : goal.finish-requires-clause-way
finish-requires-clause-way g c =
    on_reads g.S.NodeStore c.args.store.now c.find_overlay.new.store (λ f u. IsWay f u.root c.args.s.now (messages_in c.in_ok-way.way.layers.items) c.in_ok-way.way.end) g.met.S.NodeStore.reads_known (reads_both g.S.NodeStore c.args.store.now c.walk.new.store c.find_overlay.new.store g.met.S.NodeStore.reads_both c.in_ok-way.ensures.left c.in_ok-found.ensures.left) c.in_ok-way.ensures.way

pub finish-requires-clause-found : goal.finish-requires-clause-found
finish-requires-clause-found g c =
    on_reads g.S.NodeStore c.walk.new.store c.find_overlay.new.store (λ f u. IsFound f u c.in_ok-way.way.end (overlaid c.in_ok-way.way.end (packs (messages_in c.in_ok-way.way.layers.items))) c.in_ok-found.field-0.found) g.met.S.NodeStore.reads_known c.in_ok-found.ensures.left
    (subst (λ (x : List Layer). OfSound g.S.NodeStore c.walk.new.store (IsFound (g.S.NodeStore.nodes c.walk.new.store) (g.S.NodeStore.table c.walk.new.store) c.in_ok-way.way.end (overlaid c.in_ok-way.way.end (packs (messages_in x))) c.in_ok-found.field-0.found)) c.as_slice.ensures.value c.in_ok-found.ensures.found)

pub returns-in_err-finish-clause-stays : goal.returns-in_err-finish-clause-stays
returns-in_err-finish-clause-stays g c = stays_after g.S.NodeStore c.args.store.now c.find_overlay.new.store c.finish.new.store g.met.S.NodeStore.reads_keep g.met.S.NodeStore.keeps_both (reads_both g.S.NodeStore c.args.store.now c.walk.new.store c.find_overlay.new.store g.met.S.NodeStore.reads_both c.in_ok-way.ensures.left c.in_ok-found.ensures.left) c.in_err-finish.ensures.call.stays

pub returns-in_err-finish-clause-err : goal.returns-in_err-finish-clause-err
returns-in_err-finish-clause-err g c =
    let p = err_from_is_err_and c.from_residual-in_err-finish.result c.from_residual-in_err-finish.ensures.1 in
    rw p.1 (reads_both g.S.NodeStore c.args.store.now c.find_overlay.new.store c.finish.new.store g.met.S.NodeStore.reads_both (reads_both g.S.NodeStore c.args.store.now c.walk.new.store c.find_overlay.new.store g.met.S.NodeStore.reads_both c.in_ok-way.ensures.left c.in_ok-found.ensures.left) c.in_err-finish.ensures.call.err)

pub returns-in_err-finish-clause-cause : goal.returns-in_err-finish-clause-cause
returns-in_err-finish-clause-cause g c =
    let p = err_from_is_err_and c.from_residual-in_err-finish.result c.from_residual-in_err-finish.ensures.1 in
    rw (p.1, p.2) (err_cause (g.S.NodeStore.fault_count c.args.store.now) (g.S.NodeStore.fault_count c.find_overlay.new.store) (g.S.NodeStore.fault_count c.finish.new.store) (g.S.NodeStore.last_failed c.finish.new.store) (g.S.NodeStore.bad c.finish.new.store) (g.S.NodeStore.table c.args.store.now) (g.S.NodeStore.table c.find_overlay.new.store) c.in_err-finish.field-0.0
    (c.in_ok-found.ensures.cause.kept ∙ c.in_ok-way.ensures.cause.kept) (c.in_ok-found.ensures.left.table ∙ c.in_ok-way.ensures.left.table) c.in_err-finish.ensures.cause)

pub returns-in_err-finish-clause-worn : goal.returns-in_err-finish-clause-worn
returns-in_err-finish-clause-worn g c =
    let p = err_from_is_err_and c.from_residual-in_err-finish.result c.from_residual-in_err-finish.ensures.1 in
    rw (p.1, p.2) (of_reads g.S.NodeStore c.args.store.now c.find_overlay.new.store (λ f u. OnWorn (IsWornByGraft f u c.args.s.now c.args.d.now c.args.keep) c.in_err-finish.field-0.0) (reads_both g.S.NodeStore c.args.store.now c.walk.new.store c.find_overlay.new.store g.met.S.NodeStore.reads_both c.in_ok-way.ensures.left c.in_ok-found.ensures.left) c.in_err-finish.ensures.worn)

pub returns-clause-stays : goal.returns-clause-stays
returns-clause-stays g c = stays_after g.S.NodeStore c.args.store.now c.find_overlay.new.store c.finish.new.store g.met.S.NodeStore.reads_keep g.met.S.NodeStore.keeps_both (reads_both g.S.NodeStore c.args.store.now c.walk.new.store c.find_overlay.new.store g.met.S.NodeStore.reads_both c.in_ok-way.ensures.left c.in_ok-found.ensures.left) c.in_ok-finish.ensures.call.stays

pub returns-clause-walk : goal.returns-clause-walk
returns-clause-walk g c = λ known sound.
    let nodes : Nodes = g.S.NodeStore.nodes c.args.store.now in
    let t : Table = g.S.NodeStore.table c.args.store.now in
    record {
      travel = messages_in c.in_ok-way.way.layers.items;
      end = c.in_ok-way.way.end;
      way = c.in_ok-way.ensures.way known sound;
      visits_are =
          omega (
            arith,
            c.in_ok-way.ensures.fetched,
            looked_known g.S.NodeStore c.args.store.now c.walk.new.store c.in_ok-way.way.layers.items c.as_slice.result.now c.in_ok-way.way.end c.in_ok-found.field-0.fetched c.as_slice.ensures.value c.in_ok-way.ensures.left c.in_ok-found.ensures.fetched known sound,
            c.next_id.ensures.value,
            c.next_id-next.ensures.value,
          );
    }
