-- Why a graft does nothing, and what it adds.
use Rattle.std.proofs.Common.{◌≡◌, ℕ, zero, suc, ◌+◌, ◌*◌, ◌-◌, ◌<◌, ◌≤◌, ◌^◌, max, List, [], ◌∷◌, ◌++◌, length, sym, ap, subst, ◌∙◌, Option, None, Some, inl, inr, arith, length-append, Bool, true, false, Result}
use Rattle.std.specs.Prelude.{◌==◌, not}
use Rattle.std.specs.Option.{option_to_list, SomeIff, is_some}
use Rattle.bd_message.proofs.Finds.{not_both}
use Rattle.std.specs.List.{AllByRecursion, flat_map, sum_by}
use Rattle.std.proofs.lemmas.Bool.{cases_eq}
use Rattle.std.proofs.lemmas.List.Sums.{sum_by-cons, count_by-le-length}
use Rattle.std.proofs.Math.Nat.{max-le}
use Rattle.bd_limits.specs.Limits.{key_limit, buffer_limit, edge_limit, level_limit}
use Rattle.bd_message.specs.declared.message.Message.{Message}
use Rattle.bd_message.specs.declared.message.Message.TheVariants.{Put, Del, Patch, Cut, Goto}
use Rattle.bd_message.specs.declared.fault.Counter.{Counter}
use Rattle.bd_message.specs.declared.fault.Counter.TheVariants.{Count, NextId, Level, Refs, Epoch, Flushes}
use Rattle.bd_node.specs.declared.node.Edge.{Edge}
use Rattle.bd_node.specs.declared.node.Node.{Node}
use Rattle.bd_node.specs.declared.node.Node.TheVariants.{Leaf, Inner}
use Rattle.bd_node.specs.declared.node.Change.{Change}
use Rattle.bd_node.specs.declared.node.Step.{Step}
use Rattle.bd_node.specs.Nodes.{level_of, buffer_size, appended, message_names, edge_names, times}
use Rattle.bd_node.specs.Shape.{IsShape}
use Rattle.bd_node.specs.Meaning.{Nodes}
use Rattle.bd_node.proofs.Appending.{shape_appended}
use Rattle.bd_message.specs.Messages.{size}
use Rattle.bd_message.proofs.Causes.{cause_weaker}
use Rattle.bd_message.specs.KeyMaps.{HasMapCause}
use Rattle.bd_message.specs.declared.fault.MapFault.{MapFault}
use Rattle.bd_node.specs.Tables.{Table, IsTable, IsNodeOf, one_if}
use Rattle.bd_node.specs.Steps.{given_times, added_times, IsWornBy, IsWornByAdding, IsPut, IsChange, IsStep, extend_step}
use Rattle.bd_node.proofs.Lookup.{each_weaker}
use Rattle.bd_node.proofs.Sound.{one_if-same, one_if-other}
use Rattle.bd_node.proofs.Extending.{times_extended}
use Rattle.bd_node.proofs.Compacting.{few_wait}
use Rattle.bd_resolve.specs.declared.following.Target.{Target}
use Rattle.bd_graft.specs.declared.layers.Layer.{Layer}
use Rattle.bd_graft.specs.Layers.{AreLayers}
use Rattle.bd_graft.specs.Packing.{highest}
use Rattle.bd_graft.specs.declared.packing.Packed.{Packed}
use Rattle.bd_graft.specs.Layers.{laid}
use Rattle.bd_graft.specs.Grafting.{graft_messages, step_over, IsReady, IsWornForGraft}
use Rattle.bd_graft.proofs.Grafts.{messages_are, the_top, id_some, overlaying_step, under_overlaying, over_overlaying}

-- ---- layers

pub layers_few : (t : Table) (high : ℕ) (ls : List Layer) (end : Option Target) → AreLayers t (high + 1) ls end → length ls ≤ high
layers_few t high [] end h = omega arith
layers_few t high (l ∷ ls) end h =
    let some : 1 ≤ l.level = h.0 in
    let low : l.level < high + 1 = h.1 in
    let few : length ls ≤ l.level - 1 = layers_few t (l.level - 1) ls end (subst (λ (n : ℕ). AreLayers t n ls end) (omega arith) h.3) in
    omega arith

pub highest_low : (t : Table) (high : ℕ) (ls : List Layer) (end : Option Target) → AreLayers t (high + 1) ls end → highest t ls end ≤ high
highest_low t high [] None h = omega arith
highest_low t high [] (Some target) h = (let low : t.level target.child < high + 1 = h.lower in omega arith)
highest_low t high (l ∷ ls) end h = (let low : l.level < high + 1 = h.1 in omega arith)

-- ---- how often a node names another

edge_named : (e : Edge) → length (edge_names e) ≤ 1
edge_named e = elim e.child as (λ o. length (option_to_list o) ≤ 1) [ None ↦ omega arith | Some c ↦ omega arith ]

edges_named : (es : List Edge) → length (flat_map edge_names es) ≤ length es
edges_named [] = omega arith
edges_named (e ∷ es) = omega (arith, edge_named e, edges_named es, length-append (edge_names e) (flat_map edge_names es))

message_named : (m : Message) → length (message_names m) ≤ 1
message_named (Put key value) = omega arith
message_named (Del key) = omega arith
message_named (Patch key off bytes) = omega arith
message_named (Cut prefix from) = omega arith
message_named (Goto prefix source child) = omega arith

messages_named : (ms : List Message) → length (flat_map message_names ms) ≤ length ms
messages_named [] = omega arith
messages_named (m ∷ ms) = omega (arith, message_named m, messages_named ms, length-append (message_names m) (flat_map message_names ms))

times_few : (n : Node) (c : ℕ) → IsShape n → times n c ≤ 2064
times_few (Leaf entries) c h = omega arith
times_few (Inner level es buffer) c h =
    let few : length es ≤ edge_limit = h.few in
    omega (arith, count_by-le-length (λ name. name == c) (flat_map edge_names es ++ flat_map message_names buffer), length-append (flat_map edge_names es) (flat_map message_names buffer), edges_named es, messages_named buffer, few_wait level es buffer h)

one_if_few : (root c : ℕ) → one_if root c ≤ 1
one_if_few root c = elim (cases_eq root c) [
  | inl same ↦ (let e : one_if root c ≡ 1 = ap (λ d. one_if root d) (sym same) ∙ one_if-same root in omega arith)
  | inr other ↦ (let e : one_if root c ≡ 0 = one_if-other root c other in omega arith)
]

sum_few : (t : Table) (step : Step) (made : List Node) (c most : ℕ) → length made ≤ most → AllByRecursion (λ n. IsShape n) made → sum_by (λ n. times n c) made ≤ 2064 * most
sum_few t step [] c most le h = omega arith
sum_few t step (n ∷ ns) c zero le h = absurd (omega arith)
sum_few t step (n ∷ ns) c (suc most) le h = omega (arith, sum_by-cons (λ m. times m c) n ns, times_few n c h.0, sum_few t step ns c most (omega arith) h.1)

puts_shape : (t : Table) (step : Step) (made : List Node) → AllByRecursion (IsPut t step) made → AllByRecursion (λ n. IsShape n) made
puts_shape t step made h = each_weaker (IsPut t step) (λ n. IsShape n) (λ n put. put.shape) made h

changes_few : (t : Table) (step : Step) (changes : List Change) (c : ℕ) → length changes ≤ 1 → AllByRecursion (IsChange t step) changes → sum_by (λ (d : Change). times d.node c) changes ≤ 2064
changes_few t step [] c le h = omega arith
changes_few t step (d ∷ []) c le h = omega (arith, sum_by-cons (λ (e : Change). times e.node c) d [], times_few d.node c h.0.put.shape)
changes_few t step (d ∷ e ∷ rest) c le h = absurd (omega arith)

-- a step that may be made, of few nodes and at most one change, is worn only where a graft is
pub graft_worn : (t : Table) (step : Step) → IsStep t step → length step.made ≤ t.level t.root + 2 → t.level t.root ≤ level_limit → length step.changes ≤ 1 → (counter : Counter) → IsWornBy t step counter → IsWornForGraft t counter
graft_worn t step h few high one NextId worn = (let w : 2 ^ 64 ≤ t.next + length step.made = worn in omega arith)
graft_worn t step h few high one Refs worn =
    let id : ℕ = worn.0 in
    let most : 2 ^ 64 ≤ t.count id + given_times step id + one_if step.root id = worn.1 in
    let made : sum_by (λ n. times n id) step.made ≤ 2064 * 1002 = sum_few t step step.made id 1002 (omega arith) (puts_shape t step step.made h.made) in
    (id, omega (arith, most, made, changes_few t step step.changes id one h.changes, one_if_few step.root id))
graft_worn t step h few high one Count worn = worn
graft_worn t step h few high one Level worn = absurd worn
graft_worn t step h few high one Epoch worn = worn
graft_worn t step h few high one Flushes worn = worn

-- the step that puts messages into the root is worn by what it adds
adding_worn : (t : Table) (n : Node) (made : List Node) (list : List Message) → 1 ≤ level_of n → (counter : Counter) → IsWornByAdding t made list counter → IsWornBy t (extend_step t n made list) counter
adding_worn t n made list inner NextId worn = worn
adding_worn t n made list inner Refs worn =
    let id : ℕ = worn.0 in
    let most : 2 ^ 64 ≤ t.count id + added_times made list id = worn.1 in
    (id, omega (arith, most, times_extended n list id inner, sum_by-cons (λ (d : Change). times d.node id) (record { id = t.root; node = appended n list }) []))
adding_worn t n made list inner Count worn = worn
adding_worn t n made list inner Level worn = worn
adding_worn t n made list inner Epoch worn = worn
adding_worn t n made list inner Flushes worn = worn

-- ---- what is returned

pub extend_cause : {T : Type 0} (before now : ℕ) (last : Bool) (bad : ℕ → Type 0) (t : Table) (n : Node) (made : List Node) (list : List Message) (r : Result T MapFault) → 1 ≤ level_of n → HasMapCause before now last bad (IsWornByAdding t made list) r → HasMapCause before now last bad (IsWornBy t (extend_step t n made list)) r
extend_cause before now last bad t n made list r inner h =
    cause_weaker before now last bad (IsWornByAdding t made list) (IsWornBy t (extend_step t n made list)) (adding_worn t n made list inner) r h

pub cause_of : {T : Type 0} (before now : ℕ) (last : Bool) (bad : ℕ → Type 0) (t : Table) (step : Step) (r : Result T MapFault) → IsStep t step → length step.made ≤ t.level t.root + 2 → t.level t.root ≤ level_limit → length step.changes ≤ 1 → HasMapCause before now last bad (IsWornBy t step) r → HasMapCause before now last bad (IsWornForGraft t) r
cause_of before now last bad t step r ok few high one h =
    cause_weaker before now last bad (IsWornBy t step) (IsWornForGraft t) (graft_worn t step ok few high one) r h

pub under_ok : (known : Type 0) (nodes : Nodes) (t : Table) (n : Node) (packed : Packed) (s d : List ℕ) (keep : Bool) → IsReady known nodes t s packed → IsTable t → IsNodeOf t (t.level t.root) n → packed.level < t.level t.root → length s ≤ key_limit → length d ≤ key_limit → buffer_size n + 1600 ≤ buffer_limit → t.next + length packed.made.items < 2 ^ 64
    → IsStep t (extend_step t n packed.made.items (graft_messages s d keep packed.target))
under_ok known nodes t n packed s d keep ready table own low hs hd fits room =
    let list : List Message = graft_messages s d keep packed.target in
    let messages = messages_are s d keep packed.target hs hd ready.packed_is.over.short (id_some t packed.made.items (packed.level + 1) packed.target table room ready.packed_is.over) in
    let shape : IsShape (appended n list) = shape_appended n list own.shape messages.0 (let m : sum_by size list ≤ 1600 = messages.1 in omega arith) in
    overlaying_step t (extend_step t n packed.made.items list) (under_overlaying t n ready.end (laid ready.layers) packed s d keep ready.packed_is (record { table = table; own = own; shape = shape; low = low }))

pub over_ok : (known : Type 0) (nodes : Nodes) (t : Table) (packed : Packed) (s d : List ℕ) (keep : Bool) → IsReady known nodes t s packed → IsTable t → t.level t.root < level_limit → packed.level ≤ t.level t.root → length s ≤ key_limit → length d ≤ key_limit → t.next + length packed.made.items < 2 ^ 64
    → IsStep t (step_over t packed.made.items (graft_messages s d keep packed.target))
over_ok known nodes t packed s d keep ready table high low hs hd room =
    let list : List Message = graft_messages s d keep packed.target in
    let messages = messages_are s d keep packed.target hs hd ready.packed_is.over.short (id_some t packed.made.items (packed.level + 1) packed.target table room ready.packed_is.over) in
    overlaying_step t (step_over t packed.made.items list) (over_overlaying t ready.end (laid ready.layers) packed s d keep ready.packed_is
    (record { table = table; next = (omega arith); level = high; low = low; messages = messages.0; fits = (let m : sum_by size list ≤ 1600 = messages.1 in omega arith) }))

-- a sum that is there is below the bound, and one that isn't there isn't
pub sum_past : (o : Option ℕ) (P : Type 0) (v : ℕ) (b : Bool) → SomeIff o P v → is_some o ≡ not b → b ≡ true → ¬ P
sum_past None P v b h is none = h
sum_past (Some x) P v b h is none = absurd (not_both (sym is) (ap (λ (c : Bool). not c) none))

pub sum_within : (o : Option ℕ) (P : Type 0) (v : ℕ) (b : Bool) → SomeIff o P v → is_some o ≡ not b → b ≡ false → P
sum_within None P v b h is some = absurd (not_both (ap (λ (c : Bool). not c) some) (sym is))
sum_within (Some x) P v b h is some = h.0

-- the root over made nodes is one more
pub over_few : (t : Table) (made : List Node) (list : List Message) (most : ℕ) → length made + 1 ≤ most → length (step_over t made list).made ≤ most
over_few t made list most few = omega (arith, few, length-append made (the_top t list ∷ []))

-- what is packed isn't higher than the root
pub packed_low : (t : Table) (ls : List Layer) (end : Option Target) (level : ℕ) → IsTable t → AreLayers t (t.level t.root + 1) ls end → level ≤ max (highest t ls end) 1 → level ≤ t.level t.root
packed_low t ls end level table h low =
    let most : max (highest t ls end) 1 ≤ t.level t.root = max-le (highest_low t (t.level t.root) ls end h) table.inner in
    omega arith
