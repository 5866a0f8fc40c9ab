use Rattle.std.proofs.Common.{◌≡◌, ◌∙◌, ◌≤◌, ◌+◌, ap, sym, subst, arith, length, ℕ, Option, Some}
use Rattle.std.specs.Prelude.{IfSome}
use Rattle.std.specs.List.{AllByRecursion}
use Rattle.bd_limits.specs.Limits.{level_limit}
use Rattle.bd_node.specs.declared.node.Node.{Node}
use Rattle.bd_node.specs.Meaning.{Nodes}
use Rattle.bd_node.specs.Nodes.{names}
use Rattle.bd_node.specs.Tables.{Table, IsKept, IsLower}
use Rattle.bd_resolve.specs.Following.{IsLowerTarget}
use Rattle.bd_graft.specs.Walking.{messages_in}
use Rattle.bd_graft.specs.Packing.{packs, overlaid}
use Rattle.bd_graft.specs.Looking.{waiting_in}
use Rattle.bd_graft.proofs.Grafts.{raised_target, end_lower}
use Rattle.bd_graft.proofs.Grouping.{layers_fit}
use Rattle.bd_graft.proofs.Laying.{lower_limit, level_high}
use Rattle.bd_graft.proofs.Looks.{none_alone, looked_none, root_names, newest_is, told_both, found_then, found_else}
use Rattle.bd_graft.proofs.looking.find_overlay.Goals.{then-is_found, else-is_found}
use Rattle.bd_graft.proofs.looking.find_overlay.Goals as goal

pub overlay_count-requires-clause-fits : goal.overlay_count-requires-clause-fits
overlay_count-requires-clause-fits g c =
    let t : Table = g.S.NodeStore.table c.args.store.now in
    layers_fit t (t.level t.root + 1) c.args.layers.now c.args.end.now c.requires

pub returns-then-overlay_count-ne1-clause-found : goal.returns-then-overlay_count-ne1-clause-found
returns-then-overlay_count-ne1-clause-found g c = λ known sound.
    none_alone (g.S.NodeStore.nodes c.args.store.now) (g.S.NodeStore.table c.args.store.now) c.args.end.now (overlaid c.args.end.now (packs (messages_in c.args.layers.now)))
    (λ one. omega (arith, one, c.overlay_count.ensures, c.if-overlay_count-ne1.true))

pub returns-then-overlay_count-ne1-clause-fetched : goal.returns-then-overlay_count-ne1-clause-fetched
returns-then-overlay_count-ne1-clause-fetched g c = λ known sound.
    looked_none (waiting_in (g.S.NodeStore.nodes c.args.store.now) (g.S.NodeStore.table c.args.store.now)) (overlaid c.args.end.now (packs (messages_in c.args.layers.now)))
    (λ one. omega (arith, one, c.overlay_count.ensures, c.if-overlay_count-ne1.true))

pub fetch-requires-2 : goal.fetch-requires-2
fetch-requires-2 g c =
    subst (λ (u : Table). IsKept u c.in-Some.child) (sym c.in_ok-root.ensures.left.table)
    (root_names (g.S.NodeStore.table c.args.store.now) c.root-id.result c.in_ok-root.root.value c.deref.result.now c.named_by.result c.in-Some.child c.root-id.ensures.value c.in_ok-root.ensures.shape c.deref.ensures c.named_by.ensures c.in-Some.is).kept

pub is_overlay_of-is_found-requires-clause-node : goal.is_overlay_of-is_found-requires-clause-node
is_overlay_of-is_found-requires-clause-node g c =
    let t : Table = g.S.NodeStore.table c.fetch.new.self in
    subst (λ (u : Table). AllByRecursion (IsLower u level_limit) (names c.deref-2.result.now)) (sym c.in_ok-node.ensures.left.table)
    (subst (λ (n : Node). AllByRecursion (IsLower t level_limit) (names n)) (sym c.deref-2.ensures) (lower_limit t (t.level c.in-Some.child) c.in_ok-node.node.value c.in_ok-node.ensures.shape))

pub is_overlay_of-is_found-requires-clause-end : goal.is_overlay_of-is_found-requires-clause-end
is_overlay_of-is_found-requires-clause-end g c =
    let t : Table = g.S.NodeStore.table c.args.store.now in
    let high : t.level t.root ≤ level_limit = omega (arith, level_high c.in_ok-root.root.value c.in_ok-root.ensures.shape.shape, c.in_ok-root.ensures.shape.level_is, ap t.level c.root-id.ensures.value) in
    subst (λ (u : Table). IsLowerTarget u (level_limit + 1) c.args.end.now) (sym (c.in_ok-node.ensures.left.table ∙ c.in_ok-root.ensures.left.table))
    (raised_target t (t.level t.root + 1) (level_limit + 1) c.args.end.now (omega arith) (end_lower t (t.level t.root + 1) c.args.layers.now c.args.end.now c.requires))

pub returns-clause-found : goal.returns-clause-found
returns-clause-found g c = λ known sound.
    let nodes : Nodes = g.S.NodeStore.nodes c.args.store.now in
    let t : Table = g.S.NodeStore.table c.args.store.now in
    let u : Table = g.S.NodeStore.table c.fetch-2.new.self in
    let same : u ≡ t = c.in_ok-node.ensures.left.table ∙ c.in_ok-root.ensures.left.table in
    let newest = newest_is nodes t c.root-id.result c.in_ok-root.root.value c.deref.result.now c.named_by.result c.root-id.ensures.value (c.in_ok-root.ensures.contents known) c.deref.ensures c.named_by.ensures ∙ c.in-Some.is in
    let there : nodes c.in-Some.child ≡ Some c.in_ok-node.node.value = ap (λ (f : Nodes). f c.in-Some.child) (sym (c.in_ok-root.ensures.left.kept known)) ∙ c.in_ok-node.ensures.contents (c.in_ok-root.ensures.left.known known) in
    let one : length (overlaid c.args.end.now (packs (messages_in c.args.layers.now))) ≡ 1 = omega (arith, c.overlay_count.ensures, c.if-overlay_count-ne1.false) in
    elim c.if-is_found.branch [
      | then-is_found w ↦ found_then nodes t u c.args.end.now c.args.layers.now c.in-Some.child c.in_ok-node.node.value c.deref-2.result.now c.if-is_found.result one newest there c.deref-2.ensures same (c.is_overlay_of-is_found.ensures.0 w.if-is_found.true) w.result-is
      | else-is_found w ↦ found_else nodes t u c.args.end.now c.args.layers.now c.in-Some.child c.in_ok-node.node.value c.deref-2.result.now c.if-is_found.result newest there c.deref-2.ensures same (λ is. told_both c.is_overlay_of-is_found.result (c.is_overlay_of-is_found.ensures.1 is) w.if-is_found.false) w.result-is
    ]

pub returns-clause-lower : goal.returns-clause-lower
returns-clause-lower g c =
    let t : Table = g.S.NodeStore.table c.args.store.now in
    elim c.if-is_found.branch [
      | then-is_found w ↦ subst (λ (o : Option ℕ). IfSome o (IsLower t (t.level t.root))) (sym w.result-is)
          (root_names t c.root-id.result c.in_ok-root.root.value c.deref.result.now c.named_by.result c.in-Some.child c.root-id.ensures.value c.in_ok-root.ensures.shape c.deref.ensures c.named_by.ensures c.in-Some.is)
      | else-is_found w ↦ subst (λ (o : Option ℕ). IfSome o (IsLower t (t.level t.root))) (sym w.result-is) tt
    ]
