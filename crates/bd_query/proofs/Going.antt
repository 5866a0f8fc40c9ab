-- What is asked on the way down.
use Rattle.std.proofs.Common.{◌≡◌, ℕ, List, ◌++◌, sym, ap, subst, ◌∙◌, Option, Some}
use Rattle.bd_keys.specs.Keys.{IsKey}
use Rattle.bd_message.specs.Effect.{NodesAt}
use Rattle.bd_node.specs.declared.node.Node.{Node}
use Rattle.bd_node.specs.Nodes.{names, node_at}
use Rattle.bd_node.specs.Meaning.{Nodes, at}
use Rattle.bd_node.specs.Tables.{Table, IsKept, IsLower, IsNodeOf, IsStored, IsSound}
use Rattle.bd_node.proofs.Lookup.{named_has}
use Rattle.bd_node.proofs.Sound.{sound-levelled}
use Rattle.bd_node.proofs.LawLemmas.{keys_meet}
use Rattle.bd_query.specs.declared.patch.Patch.{Patch}
use Rattle.bd_query.specs.declared.part.Base.{Base}
use Rattle.bd_query.specs.declared.part.Base.TheVariants.{Value, Ask}
use Rattle.bd_query.specs.declared.part.Part.{Part}
use Rattle.bd_query.specs.Looks.{patched, base_at, part_at, IsNamedIn, IsLowerBase}
use Rattle.bd_query.specs.Asks.{asked_at, asked_of}
use Rattle.bd_query.proofs.Parts.{patched-append}

-- what a node asks is kept and of a lower level
pub lower_base : (t : Table) (level : ℕ) (n : Node) (base : Base) → IsNodeOf t level n → IsNamedIn (names n) base → IsLowerBase t level base
lower_base t level n (Value found) own h = tt
lower_base t level n (Ask child key) own h = named_has (IsLower t level) child (names n) own.lower h

pub lower_ask : (t : Table) (level : ℕ) (base : Base) (child : ℕ) (key : List ℕ) → base ≡ Ask child key → IsLowerBase t level base → IsLower t level child
lower_ask t level base child key e h = subst (λ (b : Base). IsLowerBase t level b) e h

-- what a part says
abbrev pub IsSaid : Nodes → ℕ → List ℕ → Part → Type 0
IsSaid nodes id k part = (n : Node) → nodes id ≡ Some n → (below : NodesAt) → node_at below n k ≡ part_at below part

-- whom it asks
abbrev pub IsAsking : Nodes → ℕ → List ℕ → Base → Type 0
IsAsking nodes id k base = (n : Node) → nodes id ≡ Some n → asked_at n k ≡ asked_of base

-- it asks the same where the nodes, the key and the base are the same
pub asking_same : (now nodes : Nodes) (id : ℕ) (slice k : List ℕ) (old new : Base) → now ≡ nodes → slice ≡ k → old ≡ new → IsAsking now id slice old → IsAsking nodes id k new
asking_same now nodes id slice k old new same_nodes same_key same_base asking n there =
    ap (λ (l : List ℕ). asked_at n l) (sym same_key)
    ∙ asking n (ap (λ (f : Nodes). f id) same_nodes ∙ there)
    ∙ ap (λ (b : Base). asked_of b) same_base

-- one node further down
pub going_on : (nodes : Nodes) (t : Table) (id : ℕ) (k : List ℕ) (part : Part) (base : Base) (own old : List Patch) (all : Option (List ℕ)) → IsSound nodes t → IsKept t id → IsKey k → IsSaid nodes id k part → own ≡ part.patches.items → part.base ≡ base
    → patched old (at nodes id k) ≡ all → patched (own ++ old) (base_at (at nodes) base) ≡ all
going_on nodes t id k part base own old all s kept key said is_own is_base h =
    let stored : IsStored nodes t id = s.each id kept in
    patched-append own old (base_at (at nodes) base)
    ∙ ap (λ v. patched old v)
    (ap (λ (b : Base). patched own (base_at (at nodes) b)) (sym is_base) ∙ ap (λ (ps : List Patch). patched ps (base_at (at nodes) part.base)) is_own
    ∙ sym (said stored.node stored.there (at nodes)) ∙ sym (keys_meet nodes (sound-levelled nodes t s) id stored.node stored.there k key))
    ∙ h
