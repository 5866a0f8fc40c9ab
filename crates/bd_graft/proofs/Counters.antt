-- Which counter a graft wears, by all that it adds.
use Rattle.std.proofs.Common.{◌≡◌, ℕ, ◌+◌, ◌<◌, ◌≤◌, ◌^◌, Bool, List, [], ◌∷◌, ◌++◌, length, refl, ap, ◌∙◌, Option, None, Some, inl, inr, arith, length-append, Result, Ok, Err}
use Rattle.std.specs.Prelude.{IfErr}
use Rattle.std.specs.List.{sum_by}
use Rattle.std.proofs.lemmas.Bool.{cases_lt}
use Rattle.bd_limits.specs.Limits.{buffer_limit, level_limit}
use Rattle.bd_message.specs.declared.message.Message.{Message}
use Rattle.bd_message.specs.Messages.{size}
use Rattle.bd_message.specs.KeyMaps.{HasMapCause}
use Rattle.bd_message.specs.declared.fault.Counter.{Counter}
use Rattle.bd_message.specs.declared.fault.Counter.TheVariants.{NextId, Level}
use Rattle.bd_message.specs.declared.fault.MapFault.{MapFault}
use Rattle.bd_message.specs.declared.fault.MapFault.TheVariants.{DeviceFault, Damaged, Worn, NoMemory}
use Rattle.bd_node.specs.declared.node.Node.{Node}
use Rattle.bd_node.specs.Meaning.{Nodes}
use Rattle.bd_node.specs.Tables.{Table, IsSound}
use Rattle.bd_node.specs.Steps.{IsWornBy, extend_step}
use Rattle.bd_resolve.specs.declared.following.Target.{Target}
use Rattle.bd_graft.specs.declared.layers.Layer.{Layer}
use Rattle.bd_graft.specs.declared.packing.Packed.{Packed}
use Rattle.bd_graft.specs.Walking.{IsWay, messages_in}
use Rattle.bd_graft.specs.Packing.{gathered, packs, overlaid, over_all, top_over, overlays_over}
use Rattle.bd_graft.specs.Looking.{IsFound}
use Rattle.bd_graft.specs.Looking.IsMadeOver.{all_made}
use Rattle.bd_graft.specs.Grafting.{graft_messages, step_over, IsReady, IsSentTo, IsWornOver, IsWornByGraft, OnWorn}
use Rattle.bd_graft.specs.Grafting.IsWornOver.{root_kept, root_raised, level_raised}
use Rattle.bd_graft.proofs.Grafts.{the_top}
use Rattle.bd_graft.proofs.Grouping.{by_case, overlays_length}

-- ---- how many overlay nodes there are

gathered_few : (ms : List Message) (groups : List (List Message)) → length (gathered ms groups) ≤ length groups + 1
gathered_few [] groups = omega arith
gathered_few (m ∷ ms) [] = omega arith
gathered_few (m ∷ ms) (g ∷ groups) =
    by_case (λ x. length x ≤ length (g ∷ groups) + 1) buffer_limit (sum_by size g + sum_by size (m ∷ ms)) ((m ∷ ms) ∷ g ∷ groups) ((g ++ m ∷ ms) ∷ groups) (λ l. omega arith) (λ l. omega arith)

packs_few : (ls : List Layer) → length (packs (messages_in ls)) ≤ length ls
packs_few [] = omega arith
packs_few (l ∷ ls) = omega (arith, gathered_few l.messages (packs (messages_in ls)), packs_few ls)

overlaid_few : (end : Option Target) (groups : List (List Message)) → length (overlaid end groups) ≤ length groups + 1
overlaid_few None [] = omega arith
overlaid_few None (g ∷ groups) = omega arith
overlaid_few (Some target) groups = omega arith

-- as many as layers, and one
pub count_few : (end : Option Target) (ls : List Layer) → length (overlaid end (packs (messages_in ls))) ≤ length ls + 1
count_few end ls = omega (arith, overlaid_few end (packs (messages_in ls)), packs_few ls)

pub count_is : (end : Option Target) (ls used : List Layer) (count : ℕ) → used ≡ ls → count ≡ length (overlaid end (packs (messages_in used))) → count ≡ length (overlaid end (packs (messages_in ls)))
count_is end ls used count same is = is ∙ ap (λ (x : List Layer). length (overlaid end (packs (messages_in x)))) same

-- ---- what stands over all

over_some : (next : ℕ) (end : Option Target) (groups : List (List Message)) → (target : Target) × (over_all next end (overlaid end groups) ≡ Some target)
over_some next None [] = (record { child = next + 0; source = [] }, refl)
over_some next None (g ∷ groups) = (record { child = next + length groups; source = [] }, refl)
over_some next (Some target) [] = (target, refl)
over_some next (Some target) (g ∷ groups) = (record { child = next + length groups; source = [] }, refl)

top_length : (t : Table) (end : Option Target) (groups : List (List Message)) (list : List Message) → length (step_over t (overlays_over t end groups) list).made ≡ length groups + 1
top_length t end groups list = omega (arith, length-append (overlays_over t end groups) (the_top t list ∷ []), overlays_length t end groups)

-- ---- the counters

-- what is made where the overlay nodes aren't there already
pub sent_new : (nodes : Nodes) (t : Table) (s : List ℕ) (travel : List (List Message)) (end : Option Target) (made : List Node) (target : Target) (top : ℕ) → IsWay nodes t.root s travel end → IsFound nodes t end (overlaid end (packs travel)) None
    → made ≡ overlays_over t end (overlaid end (packs travel)) → over_all t.next end (overlaid end (packs travel)) ≡ Some target → top ≡ top_over t end (overlaid end (packs travel)) → IsSentTo nodes t s made target top
sent_new nodes t s travel end made target top way none made_is target_is top_is = record { travel = travel; end = end; way = way; over = all_made none made_is target_is; top_is = top_is }

-- no room for the ids of the overlay nodes
pub worn_ids : (nodes : Nodes) (t : Table) (root : Node) (s d : List ℕ) (keep : Bool) (travel : List (List Message)) (end : Option Target) → nodes t.root ≡ Some root → IsWay nodes t.root s travel end → IsFound nodes t end (overlaid end (packs travel)) None
    → 2 ^ 64 ≤ t.next + length (overlaid end (packs travel)) → IsWornByGraft nodes t s d keep NextId
worn_ids nodes t root s d keep travel end there way none past =
    let groups : List (List Message) = overlaid end (packs travel) in
    let found = over_some t.next end (packs travel) in
    record {
      root = root;
      root_is = there;
      made = overlays_over t end groups;
      target = found.0;
      top = top_over t end groups;
      sent = sent_new nodes t s travel end (overlays_over t end groups) found.0 (top_over t end groups) way none refl found.1 refl;
      worn = elim (cases_lt (t.level t.root) (top_over t end groups)) [
        | inl high ↦ root_raised high (omega (arith, past, top_length t end groups (graft_messages s d keep found.0)))
        | inr low ↦ root_kept low (omega (arith, past, overlays_length t end groups))
      ];
    }

worn_of : (known : Type 0) (nodes : Nodes) (t : Table) (n : Node) (packed : Packed) (s d : List ℕ) (keep : Bool) (counter : Counter) → (ready : IsReady known nodes t s packed) → known → IsSound nodes t → nodes t.root ≡ Some n
    → IsWornOver t n s d keep packed.made.items packed.target (packed.level + 1) counter → IsWornByGraft nodes t s d keep counter
worn_of known nodes t n packed s d keep counter ready k sound there worn = record {
  root = n;
  root_is = there;
  made = packed.made.items;
  target = packed.target;
  top = packed.level + 1;
  sent = ready.sent k sound;
  worn = worn;
}

-- or for that of a new root over them
pub worn_top : (known : Type 0) (nodes : Nodes) (t : Table) (n : Node) (packed : Packed) (s d : List ℕ) (keep : Bool) → IsReady known nodes t s packed → known → IsSound nodes t → nodes t.root ≡ Some n → t.level t.root ≤ packed.level → 2 ^ 64 ≤ t.next + (length packed.made.items + 1) → IsWornByGraft nodes t s d keep NextId
worn_top known nodes t n packed s d keep ready k sound there high past =
    worn_of known nodes t n packed s d keep NextId ready k sound there
    (root_raised (omega arith) (omega (arith, past, length-append packed.made.items (the_top t (graft_messages s d keep packed.target) ∷ []))))

-- no level for a new root
pub worn_level : (known : Type 0) (nodes : Nodes) (t : Table) (n : Node) (packed : Packed) (s d : List ℕ) (keep : Bool) → IsReady known nodes t s packed → known → IsSound nodes t → nodes t.root ≡ Some n → t.level t.root ≤ packed.level → t.level t.root ≡ level_limit → IsWornByGraft nodes t s d keep Level
worn_level known nodes t n packed s d keep ready k sound there high last =
    worn_of known nodes t n packed s d keep Level ready k sound there (level_raised (omega arith) refl last)

-- what the store says of the step
pub worn_under : {T : Type 0} (before now : ℕ) (last : Bool) (bad : ℕ → Type 0) (known : Type 0) (nodes : Nodes) (t : Table) (n : Node) (packed : Packed) (s d : List ℕ) (keep : Bool) (r : Result T MapFault) → IsReady known nodes t s packed → known → IsSound nodes t → nodes t.root ≡ Some n → packed.level < t.level t.root
    → HasMapCause before now last bad (IsWornBy t (extend_step t n packed.made.items (graft_messages s d keep packed.target))) r → IfErr r (OnWorn (IsWornByGraft nodes t s d keep))
worn_under before now last bad known nodes t n packed s d keep (Ok x) ready k sound there low h = tt
worn_under before now last bad known nodes t n packed s d keep (Err DeviceFault) ready k sound there low h = tt
worn_under before now last bad known nodes t n packed s d keep (Err (Damaged block)) ready k sound there low h = tt
worn_under before now last bad known nodes t n packed s d keep (Err (Worn counter)) ready k sound there low h = worn_of known nodes t n packed s d keep counter ready k sound there (root_kept (omega arith) h.failed)
worn_under before now last bad known nodes t n packed s d keep (Err NoMemory) ready k sound there low h = tt

pub worn_over : {T : Type 0} (before now : ℕ) (last : Bool) (bad : ℕ → Type 0) (known : Type 0) (nodes : Nodes) (t : Table) (n : Node) (packed : Packed) (s d : List ℕ) (keep : Bool) (r : Result T MapFault) → IsReady known nodes t s packed → known → IsSound nodes t → nodes t.root ≡ Some n → t.level t.root ≤ packed.level
    → HasMapCause before now last bad (IsWornBy t (step_over t packed.made.items (graft_messages s d keep packed.target))) r → IfErr r (OnWorn (IsWornByGraft nodes t s d keep))
worn_over before now last bad known nodes t n packed s d keep (Ok x) ready k sound there high h = tt
worn_over before now last bad known nodes t n packed s d keep (Err DeviceFault) ready k sound there high h = tt
worn_over before now last bad known nodes t n packed s d keep (Err (Damaged block)) ready k sound there high h = tt
worn_over before now last bad known nodes t n packed s d keep (Err (Worn counter)) ready k sound there high h = worn_of known nodes t n packed s d keep counter ready k sound there (root_raised (omega arith) h.failed)
worn_over before now last bad known nodes t n packed s d keep (Err NoMemory) ready k sound there high h = tt
