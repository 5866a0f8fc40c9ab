-- How many nodes a graft fetches and makes.
use Rattle.std.proofs.Common.{◌≡◌, ℕ, ◌+◌, ◌-◌, ◌≤◌, min, Bool, true, false, ltb, List, length, refl, sym, ap, subst, ◌∙◌, Option, None, Some, inl, inr, arith, Result, Ok, Err, OnOk}
use Rattle.std.specs.Prelude.{◌⊎◌, nat_lt, if◌then◌else◌, IfNone}
use Rattle.std.proofs.lemmas.Bool.{le-ltb, cond-false}
use Rattle.std.proofs.lemmas.List.{length-map}
use Rattle.bd_limits.specs.Limits.{key_limit}
use Rattle.bd_node.specs.declared.node.Node.{Node}
use Rattle.bd_node.specs.declared.node.Step.{Step}
use Rattle.bd_node.specs.Nodes.{buffer_size}
use Rattle.bd_node.specs.Meaning.{Nodes}
use Rattle.bd_node.specs.Tables.{Table, IsTable, IsNodeOf}
use Rattle.bd_node.specs.Steps.{IsTableAfter}
use Rattle.bd_node.specs.Stores.{visited}
use Rattle.bd_node.proofs.Visited.{visited_more}
use Rattle.bd_resolve.specs.declared.following.Target.{Target}
use Rattle.bd_resolve.specs.Following.{target_level}
use Rattle.bd_graft.specs.declared.layers.Layer.{Layer}
use Rattle.bd_graft.specs.Layers.{AreLayers}
use Rattle.bd_graft.specs.Walking.{end_at, fetched_on, HasRoot, messages_in}
use Rattle.bd_graft.proofs.Wearing.{layers_few}

-- ---- the root

pub root_of : (known : Type 0) (nodes : Nodes) (t : Table) (id : ℕ) (n : Node) → IsNodeOf t (t.level id) n → (id ≡ t.root → buffer_size n ≡ t.size) → (known → nodes id ≡ Some n) → id ≡ t.root → HasRoot known nodes t
root_of known nodes t id n own size there same = record {
  node = n;
  is = record { of_table = subst (λ (i : ℕ). IsNodeOf t (t.level i) n) same own; size = size same };
  there = λ k. ap nodes (sym same) ∙ there k;
}

-- the root is the same where the nodes are
pub root_again : (known now : Type 0) (nodes mid : Nodes) (t m : Table) → (known → now) → (known → mid ≡ nodes) → m ≡ t → HasRoot now mid m → HasRoot known nodes t
root_again known now nodes mid t m knows same is h = subst (λ (u : Table). HasRoot known nodes u) is (record {
  node = h.node;
  is = h.is;
  there = λ k. ap (λ (f : Nodes). f m.root) (sym (same k)) ∙ h.there (knows k);
})

-- a way that has gone on from the root: the root was met, and there were so many visits
pub record IsGone (known : Type 0) (nodes : Nodes) (t : Table) (before now count : ℕ) : Type 0 where
  pub root : HasRoot known nodes t
  pub rise : now ≡ visited before count

-- it is met first
pub root_met : (P : Type 0) (known : Type 0) (nodes : Nodes) (t : Table) (before now count : ℕ) → P ⊎ IsGone known nodes t before now count → (P → HasRoot known nodes t) → HasRoot known nodes t
root_met P known nodes t before now count (inl p) f = f p
root_met P known nodes t before now count (inr h) f = h.root

-- a way at a leaf has gone on
pub leaf_gone : (known : Type 0) (nodes : Nodes) (t : Table) (id before now count : ℕ) → IsTable t → t.level id ≡ 0 → (id ≡ t.root) ⊎ IsGone known nodes t before now count → IsGone known nodes t before now count
leaf_gone known nodes t id before now count table low (inl same) = absurd (let inner : 1 ≤ t.level t.root = table.inner in let e : t.level id ≡ t.level t.root = ap t.level same in omega arith)
leaf_gone known nodes t id before now count table low (inr h) = h

-- ---- what is fetched

-- what holds where there is none
pub none_is : {A : Type 0} (P : Type 0) (o : Option A) → o ≡ None → IfNone o P → P
none_is {A} P o is h = subst (λ (p : Option A). IfNone p P) is h

layers_length : (ls : List Layer) → length (messages_in ls) ≡ length ls
layers_length ls = length-map ls (λ (l : Layer). l.messages)

end_low : (t : Table) (b : Bool) (child : ℕ) (source : List ℕ) → t.level child ≡ 0 → target_level t (if b then None else Some (record { child = child; source = source })) ≡ 0
end_low t true child source low = refl
end_low t false child source low = low

-- a way that ends at a leaf
pub leaf_fetches : (t : Table) (ls new : List Layer) (child count : ℕ) (source : List ℕ) (end : Option Target) → new ≡ ls → end ≡ end_at child source → count ≡ length ls + 0 → t.level child ≡ 0 → count ≡ fetched_on t (messages_in new) end
leaf_fetches t ls new child count source end same is counted low =
    let none : target_level t end ≡ 0 = ap (λ (o : Option Target). target_level t o) is ∙ end_low t (nat_lt key_limit (length source)) child source low in
    omega (arith, counted, layers_length new, ap (λ (l : List Layer). length l) same, ap (λ (n : ℕ). min n 1) none)

-- at an inner node
pub node_fetches : (t : Table) (ls new : List Layer) (child count : ℕ) (source : List ℕ) (end : Option Target) → new ≡ ls → end ≡ end_at child source → count ≡ length ls + 1 → length source ≤ key_limit → 1 ≤ t.level child → count ≡ fetched_on t (messages_in new) end
node_fetches t ls new child count source end same is counted short inner =
    let some : end ≡ Some (record { child = child; source = source }) = is ∙ cond-false (ltb key_limit (length source)) None (Some (record { child = child; source = source })) (le-ltb key_limit (length source) short) in
    let one : min (t.level child) 1 ≡ 1 = omega arith in
    omega (arith, counted, layers_length new, ap (λ (l : List Layer). length l) same, ap (λ (o : Option Target). min (target_level t o) 1) some ∙ one)

-- at nothing
pub nothing_fetches : (t : Table) (new : List Layer) (count : ℕ) → count ≡ length new → count ≡ fetched_on t (messages_in new) None
nothing_fetches t new count counted = omega (arith, counted, layers_length new)

-- one visit more
pub next_more : (before number now after : ℕ) → visited now 1 ≡ visited before (number + 1) → after ≡ visited now 1 → visited after 1 ≡ visited before (number + 1 + 1)
next_more before number now after next is =
    ap (λ (n : ℕ). visited n 1) (is ∙ next) ∙ visited_more before (number + 1) 1 ∙ ap (λ (n : ℕ). visited before n) (omega arith)

-- ---- what is made

pub step_visits : {T E : Type 0} (before now : ℕ) (t u : Table) (step : Step) (r : Result T E) → OnOk r (IsTableAfter t step u) → OnOk r (now ≡ visited before (length step.made)) → OnOk r (now ≡ visited before (u.next - t.next))
step_visits before now t u step (Ok x) after is = is ∙ ap (λ (n : ℕ). visited before n) (let next : u.next ≡ t.next + length step.made = after.next in omega arith)
step_visits before now t u step (Err e) after is = tt

-- ---- both

-- a way from the root fetches at most as many nodes as the tree is high
pub few_fetched : (t : Table) (ls : List Layer) (end : Option Target) (fetched : ℕ) → AreLayers t (t.level t.root + 1) ls end → fetched ≡ fetched_on t (messages_in ls) end → fetched ≤ t.level t.root + 1
few_fetched t ls end fetched layers is =
    let few : length ls ≤ t.level t.root = layers_few t (t.level t.root) ls end layers in
    let one : min (target_level t end) 1 ≤ 1 = omega arith in
    omega (arith, few, one, is, layers_length ls)

pub risen : (before mid now fetched made visits : ℕ) → mid ≡ visited before fetched → now ≡ visited mid made → visits ≡ fetched + made → now ≡ visited before visits
risen before mid now fetched made visits first second is =
    second ∙ ap (λ (n : ℕ). visited n made) first ∙ visited_more before fetched made ∙ ap (λ (n : ℕ). visited before n) (omega (arith, is))
