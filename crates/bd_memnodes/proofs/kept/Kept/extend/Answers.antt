use Rattle.std.proofs.Common.{◌≡◌, ℕ, false, ◌+◌, ◌≤◌, refl, sym, ap, subst, ◌∙◌, arith, inl, inr, List, length, Some, Err}
use Rattle.std.proofs.lemmas.Result.{err_from_is_err_and}
use Rattle.std.proofs.lemmas.List.{length-map}
use Rattle.bd_message.specs.declared.message.Message.{Message}
use Rattle.bd_message.specs.KeyMaps.{HasMapCause}
use Rattle.bd_node.specs.declared.node.Node.{Node}
use Rattle.bd_node.specs.Nodes.{level_of, appended}
use Rattle.bd_node.specs.Shape.{IsShape}
use Rattle.bd_node.specs.Tables.{IsStored}
use Rattle.bd_node.specs.Steps.{IsRootOf, IsStep, IsWornByAdding, extend_step}
use Rattle.bd_node.proofs.Extending.{root_of_sound, root_inner, extended_as, added_fit}
use Rattle.bd_memnodes.specs.declared.kept.Kept.{Kept}
use Rattle.bd_memnodes.specs.declared.plan.Addition.{Addition}
use Rattle.bd_counts.specs.Naming.{times_among, added_names}
use Rattle.bd_memnodes.specs.Maps.{nodes_in, count_in}
use Rattle.bd_memnodes.specs.Stored.{table_of, table_in, IsWhole}
use Rattle.bd_memnodes.specs.Carried.{SameKept}
use Rattle.bd_memnodes.proofs.Same.{same_whole}
use Rattle.bd_memnodes.proofs.Settling.{IsDone}
use Rattle.bd_memnodes.proofs.Extended.{extended, added_there}
use Rattle.bd_memnodes.proofs.kept.Kept.extend.Goals as goal

pub returns-in_err-make_room-clause-whole : goal.returns-in_err-make_room-clause-whole
returns-in_err-make_room-clause-whole c = same_whole c.args.self.now c.make_room.new.self c.make_room.ensures.same c.requires.whole

root_of : (old : Kept) → IsWhole old → IsStored (nodes_in old.nodes) (table_in old) old.root
root_of old whole = whole.sound.each old.root whole.sound.table.root

is_root : (old : Kept) (whole : IsWhole old) → IsRootOf (table_in old) (root_of old whole).node
is_root old whole = root_of_sound (nodes_in old.nodes) (table_in old) (root_of old whole).node whole.sound (root_of old whole).there

inner : (old : Kept) (whole : IsWhole old) → 1 ≤ level_of (root_of old whole).node
inner old whole = root_inner (table_in old) (root_of old whole).node whole.sound.table (is_root old whole)

shape : (old : Kept) (whole : IsWhole old) (made : List Node) (list : List Message) → ((root : Node) → IsRootOf (table_in old) root → IsStep (table_in old) (extend_step (table_in old) root made list)) → IsShape (appended (root_of old whole).node list)
shape old whole made list step = (step (root_of old whole).node (is_root old whole)).changes.0.put.shape

pub size-added-requires-clause-each : goal.size-added-requires-clause-each
size-added-requires-clause-each c = (added_fit (root_of c.args.self.now c.requires.whole).node c.args.list (inner c.args.self.now c.requires.whole) (shape c.args.self.now c.requires.whole c.args.made c.args.list c.requires.step)).0

pub size-added-requires-clause-fits : goal.size-added-requires-clause-fits
size-added-requires-clause-fits c = omega (arith, (added_fit (root_of c.args.self.now c.requires.whole).node c.args.list (inner c.args.self.now c.requires.whole) (shape c.args.self.now c.requires.whole c.args.made c.args.list c.requires.step)).1)

pub returns-in_err-append_at-clause-whole : goal.returns-in_err-append_at-clause-whole
returns-in_err-append_at-clause-whole c =
    let same : SameKept c.args.self.now c.make_room.new.self = c.make_room.ensures.same in
    same_whole c.args.self.now (record c.make_room.new.self { nodes = c.append_at.new.nodes })
    (record { nodes = λ id. c.in_err-append_at.ensures.err id ∙ same.nodes id; counts = same.counts; dead = same.dead; head = record { root = same.head.root; size = same.head.size; next = same.head.next } }) c.requires.whole

pub add_counted-requires-clause-there : goal.add_counted-requires-clause-there
add_counted-requires-clause-there c = λ k one.
    let same : SameKept c.args.self.now c.make_room.new.self = c.make_room.ensures.same in
    let is = c.in_ok-addition.ensures.addition in
    let long : length c.in_ok-addition.addition.made.items ≡ length c.args.made = sym (length-map c.in_ok-addition.addition.made.items (λ shared. shared.value)) ∙ ap length is.made_is in
    let next : c.make_room.new.self.next ≡ c.args.self.now.next = same.head.next in
    elim (added_there (nodes_in c.args.self.now.nodes) (table_in c.args.self.now) (root_of c.args.self.now c.requires.whole).node c.args.made c.args.list c.requires.whole.sound (root_of c.args.self.now c.requires.whole).there (c.requires.step (root_of c.args.self.now c.requires.whole).node (is_root c.args.self.now c.requires.whole)) k
    (subst (λ (xs : List ℕ). 1 ≤ times_among xs k) (is.names_are ∙ ap (added_names c.args.made) c.as_slice.ensures) one)) [
      | inl kept ↦ inl (let e : count_in c.make_room.new.self.counts k ≡ count_in c.args.self.now.counts k = same.counts k in let some : 1 ≤ count_in c.args.self.now.counts k = kept in omega arith)
      | inr made ↦ inr (omega (arith, made.0), omega (arith, made.1))
    ]

pub overflow_add-self : goal.overflow_add-self
overflow_add-self c =
    omega (arith, c.add_counted.ensures.size, c.make_room.ensures.same.head.size, c.size-added.ensures, (added_fit (root_of c.args.self.now c.requires.whole).node c.args.list (inner c.args.self.now c.requires.whole) (shape c.args.self.now c.requires.whole c.args.made c.args.list c.requires.step)).1, (is_root c.args.self.now c.requires.whole).size)

done : (c : goal.After-self-1) (root : Node) → nodes_in c.args.self.now.nodes c.args.self.now.root ≡ Some root → IsDone (nodes_in c.args.self.now.nodes) (table_in c.args.self.now) (extend_step (table_in c.args.self.now) root c.args.made c.args.list) (nodes_in c.add_counted.new.self.nodes)
    (table_of (nodes_in c.add_counted.new.self.nodes) (count_in c.add_counted.new.self.counts) c.add_counted.new.self.root (c.add_counted.new.self.size + c.size-added.result) c.add_counted.new.self.next)
done c root there =
    let mid = c.make_room.new.self in
    let same : SameKept c.args.self.now mid = c.make_room.ensures.same in
    let is = c.in_ok-addition.ensures.addition in
    extended c.args.self.now mid (record mid { nodes = c.append_at.new.nodes }) c.add_counted.new.self c.in_ok-addition.addition root c.args.made c.args.list c.size-added.result c.requires.whole there
    (c.requires.step root (root_of_sound (nodes_in c.args.self.now.nodes) (table_in c.args.self.now) root c.requires.whole.sound there)) same
    (c.in_ok-append_at.ensures.ok root (same.nodes mid.root ∙ ap (nodes_in c.args.self.now.nodes) same.head.root ∙ there)) refl (record { root = refl; size = refl; next = refl }) c.add_counted.ensures
    is.made_is (is.names_are ∙ ap (added_names c.args.made) c.as_slice.ensures) c.size-added.ensures

pub returns-clause-committed : goal.returns-clause-committed
returns-clause-committed c = λ root there. (done c root there).committed

pub returns-clause-table : goal.returns-clause-table
returns-clause-table c = λ other is.
    extended_as (table_in c.args.self.now) (root_of c.args.self.now c.requires.whole).node other c.args.made c.args.list _ c.requires.whole.sound.table (is_root c.args.self.now c.requires.whole) is (done c (root_of c.args.self.now c.requires.whole).node (root_of c.args.self.now c.requires.whole).there).table

pub returns-clause-whole : goal.returns-clause-whole
returns-clause-whole c = record {
  sound = (done c (root_of c.args.self.now c.requires.whole).node (root_of c.args.self.now c.requires.whole).there).committed.sound;
  idle = ap (λ d. d.items) c.add_counted.ensures.dead ∙ c.make_room.ensures.same.dead ∙ c.requires.whole.idle;
}

pub returns-in_err-addition-clause-cause : goal.returns-in_err-addition-clause-cause
returns-in_err-addition-clause-cause c =
    let p = err_from_is_err_and c.from_residual.result c.from_residual.ensures.1 in
    let cause = subst (λ (l : List Message). HasMapCause {T = Addition} 0 0 false (λ b. ⊥) (IsWornByAdding (table_in c.args.self.now) c.args.made l) (Err c.in_err-addition.field-0.0)) c.as_slice.ensures c.in_err-addition.ensures.cause in
    rw (p.1, p.2) (record { later = cause.later; kept = tt; stays = cause.stays; failed = cause.failed })
