-- How much may be left to change in sound nodes.
use Rattle.std.proofs.Common.{◌≡◌, ℕ, zero, suc, ◌*◌, ◌≤◌, Bool, true, false, cond, List, [], ◌∷◌, length, drop, Option, None, Some, refl, ap, arith, inl, inr, length-drop}
use Rattle.std.specs.Prelude.{nat_le}
use Rattle.std.specs.List.{sum_by}
use Rattle.std.specs.Option.{option_to_list}
use Rattle.std.proofs.lemmas.Bool.{cases_lt, leb-false}
use Rattle.std.proofs.lemmas.List.Sums.{sum_by-cons}
use Rattle.bd_message.specs.declared.message.Message.{Message}
use Rattle.bd_message.specs.declared.message.Message.TheVariants.{Put, Del, Patch, Cut, Goto}
use Rattle.bd_message.specs.Messages.{size}
use Rattle.bd_node.specs.declared.node.Edge.{Edge}
use Rattle.bd_node.specs.declared.node.Node.{Node}
use Rattle.bd_node.specs.declared.node.Node.TheVariants.{Leaf, Inner}
use Rattle.bd_node.specs.Meaning.{Nodes}
use Rattle.bd_node.specs.Nodes.{edge_names, level_of}
use Rattle.bd_node.specs.Shape.{IsShape}
use Rattle.bd_node.specs.Tables.{Table, IsStored, IsSound, kept_count, sum_below}
use Rattle.bd_cover.specs.Reclaimed.{unseen_count, child_count, left_at, left_in, left_over}
use Rattle.bd_engine.specs.Reclaiming.{most_left}

message_some : (m : Message) → 1 ≤ size m
message_some (Put key value) = omega arith
message_some (Del key) = omega arith
message_some (Patch key off bytes) = omega arith
message_some (Cut prefix from) = omega arith
message_some (Goto prefix source child) = omega arith

messages_few : (ms : List Message) → length ms ≤ sum_by size ms
messages_few [] = omega arith
messages_few (m ∷ ms) = omega (arith, messages_few ms, message_some m, sum_by-cons size m ms)

edges_few : (buffer : List Message) (es : List Edge) → length buffer ≤ 32768 → sum_by (λ (e : Edge). length (drop e.seen buffer)) es ≤ length es * 32768
edges_few buffer [] few = omega arith
edges_few buffer (e ∷ es) few =
    omega (arith, few, edges_few buffer es few, length-drop e.seen buffer, sum_by-cons (λ (f : Edge). length (drop f.seen buffer)) e es)

-- 16 edges over 32,768 messages
unseen_few : (n : Node) → IsShape n → unseen_count n ≤ 524288
unseen_few (Leaf entries) h = omega arith
unseen_few (Inner level edges buffer) h =
    let few : length buffer ≤ 32768 = omega (arith, messages_few buffer, h.size) in
    omega (arith, h.few, edges_few buffer edges few)

child_few : (e : Edge) → length (edge_names e) ≤ 1
child_few e = elim e.child as (λ (o : Option ℕ). length (option_to_list o) ≤ 1) [ None ↦ omega arith | Some c ↦ omega arith ]

children_few : (es : List Edge) → sum_by (λ (e : Edge). length (edge_names e)) es ≤ length es
children_few [] = omega arith
children_few (e ∷ es) = omega (arith, child_few e, children_few es, sum_by-cons (λ (f : Edge). length (edge_names f)) e es)

-- and 16 children
count_few : (n : Node) → IsShape n → child_count n ≤ 16
count_few (Leaf entries) h = omega arith
count_few (Inner level edges buffer) h = omega (arith, h.few, children_few edges)

left_few : (n : Node) → IsShape n → left_at n ≤ 1048592
left_few n h = omega (arith, unseen_few n h, count_few n h)

stored_few : (nodes : Nodes) (t : Table) (id : ℕ) → IsSound nodes t → left_in (nodes id) ≤ 1048592
stored_few nodes t id h =
    elim (cases_lt 0 (t.count id)) [
      | inl kept ↦
          let s : IsStored nodes t id = h.each id kept in
          let is : left_in (nodes id) ≡ left_at s.node = ap left_in s.there in
          omega (arith, is, left_few s.node s.of_table.shape)
      | inr gone ↦
          let is : left_in (nodes id) ≡ 0 = ap left_in (h.others id (omega arith)) in
          omega (arith, is)
    ]

-- no more than so much for each kept node
kept_few : (nodes : Nodes) (t : Table) (id : ℕ) → IsSound nodes t → (b : Bool) → nat_le 1 (t.count id) ≡ b → left_in (nodes id) ≤ cond b 1 0 * 1048592
kept_few nodes t id h true is = omega (arith, stored_few nodes t id h)
kept_few nodes t id h false is =
    let none : left_in (nodes id) ≡ 0 = ap left_in (h.others id (omega (arith, leb-false 1 (t.count id) is))) in
    omega (arith, none)

sum_few : (n : ℕ) (f k : ℕ → ℕ) → ((i : ℕ) → f i ≤ k i * 1048592) → sum_below n f ≤ sum_below n k * 1048592
unfolding sum_below
sum_few zero f k each = omega arith
sum_few (suc n) f k each = omega (arith, each n, sum_few n f k each)

level_low : (n : Node) → IsShape n → level_of n ≤ 1000
level_low (Leaf entries) h = omega arith
level_low (Inner level edges buffer) h = h.high

root_low : (nodes : Nodes) (t : Table) → IsSound nodes t → t.level t.root ≤ 1000
root_low nodes t h =
    let s : IsStored nodes t t.root = h.each t.root h.table.root in
    omega (arith, s.of_table.level_is, level_low s.node s.of_table.shape)

-- no more than the kept nodes allow
pub left_low : (nodes : Nodes) (t : Table) → IsSound nodes t → left_over nodes t ≤ most_left t
unfolding kept_count
left_low nodes t h =
    omega (arith, root_low nodes t h, sum_few t.next (λ id. left_in (nodes id)) (λ id. cond (nat_le 1 (t.count id)) 1 0) (λ id. kept_few nodes t id h (nat_le 1 (t.count id)) refl))
