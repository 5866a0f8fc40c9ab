-- The way of a prefix, node by node.
use Rattle.std.proofs.Common.{◌≡◌, ℕ, ◌≤◌, List, [], ◌∷◌, ◌++◌, drop, refl, sym, ap, subst, ◌∙◌, Option, None, Some, arith}
use Rattle.std.proofs.lemmas.List.{append-nil}
use Rattle.std.proofs.lemmas.Option.{same_Some}
use Rattle.bd_message.specs.declared.message.Message.{Message}
use Rattle.bd_node.specs.declared.node.Node.{Node}
use Rattle.bd_node.specs.declared.node.Node.TheVariants.{Leaf, Inner}
use Rattle.bd_node.specs.Nodes.{level_of}
use Rattle.bd_node.specs.Meaning.{Nodes}
use Rattle.bd_node.specs.Shape.{IsShape}
use Rattle.bd_node.specs.Tables.{Table, IsKept, IsSound, IsStored}
use Rattle.bd_node.specs.Parts.{buffer_of}
use Rattle.bd_resolve.specs.declared.following.Target.{Target}
use Rattle.bd_resolve.specs.declared.following.Followed.{Followed}
use Rattle.bd_resolve.specs.declared.following.Followed.TheVariants.{Here, Past}
use Rattle.bd_resolve.specs.Following.{LeadsTo}
use Rattle.bd_graft.specs.declared.layers.Layer.{Layer}
use Rattle.bd_graft.specs.declared.walking.Passed.{Passed}
use Rattle.bd_graft.specs.Layers.{all_freed}
use Rattle.bd_graft.specs.Walking.{travelling, end_at, IsWay, messages_in, LeadsOn, IsPassed}
use Rattle.bd_graft.specs.Walking.IsWay.{ends, to_nothing, leads_on}

-- a way from where these layers end makes a way from the first node
abbrev pub IsWayOn : Nodes → ℕ → List ℕ → List Layer → ℕ → List ℕ → Type 0
IsWayOn nodes root s ls id q = (more : List (List Message)) (end : Option Target) → IsWay nodes id q more end → IsWay nodes root s (messages_in ls ++ more) end

messages_more : (ls : List Layer) (l : Layer) (more : List (List Message)) → messages_in (ls ++ l ∷ []) ++ more ≡ messages_in ls ++ l.messages ∷ more
messages_more [] l more = refl
messages_more (h ∷ ls) l more = ap (λ (x : List (List Message)). h.messages ∷ x) (messages_more ls l more)

leaf_leads : (n : Node) (q : List ℕ) → IsShape n → level_of n ≡ 0 → LeadsTo n q Here
leaf_leads (Leaf entries) q shape low = refl
leaf_leads (Inner level es buffer) q shape low = absurd (let one : 1 ≤ level = shape.low in omega arith)

-- at a leaf it ends
pub way_at_leaf : (nodes : Nodes) (t : Table) (root id : ℕ) (s q : List ℕ) (ls new : List Layer) (end : Option Target) → IsSound nodes t → IsKept t id → t.level id ≡ 0 → new ≡ ls → end ≡ end_at id q → IsWayOn nodes root s ls id q → IsWay nodes root s (messages_in new) end
way_at_leaf nodes t root id s q ls new end sound kept low same is on =
    let stored : IsStored nodes t id = sound.each id kept in
    let leads : LeadsTo stored.node q Here = leaf_leads stored.node q stored.of_table.shape (stored.of_table.level_is ∙ low) in
    subst (λ (x : List (List Message)). IsWay nodes root s x end) (append-nil (messages_in ls) ∙ ap messages_in (sym same))
    (subst (λ (e : Option Target). IsWay nodes root s (messages_in ls ++ []) e) (sym is) (on [] (end_at id q) (ends id q stored.node stored.there leads)))

-- at an inner node that it doesn't lead on from
pub way_at_node : (nodes : Nodes) (t : Table) (root id : ℕ) (s q : List ℕ) (ls new : List Layer) (end : Option Target) → IsSound nodes t → IsKept t id → ((n : Node) → nodes id ≡ Some n → IsPassed n q None) → new ≡ ls → end ≡ end_at id q → IsWayOn nodes root s ls id q → IsWay nodes root s (messages_in new) end
way_at_node nodes t root id s q ls new end sound kept led same is on =
    let stored : IsStored nodes t id = sound.each id kept in
    subst (λ (x : List (List Message)). IsWay nodes root s x end) (append-nil (messages_in ls) ∙ ap messages_in (sym same))
    (subst (λ (e : Option Target). IsWay nodes root s (messages_in ls ++ []) e) (sym is) (on [] (end_at id q) (ends id q stored.node stored.there (led stored.node stored.there))))

-- to nothing
pub way_to_nothing : (nodes : Nodes) (t : Table) (root id : ℕ) (s q : List ℕ) (ls new : List Layer) (p : Passed) → IsSound nodes t → IsKept t id → ((n : Node) → nodes id ≡ Some n → IsPassed n q (Some p)) → p.target ≡ None → new ≡ ls ++ p.layer ∷ [] → IsWayOn nodes root s ls id q → IsWay nodes root s (messages_in new) None
way_to_nothing nodes t root id s q ls new p sound kept led none same on =
    let stored : IsStored nodes t id = sound.each id kept in
    let leads : LeadsOn stored.node q p = led stored.node stored.there in
    subst (λ (x : List (List Message)). IsWay nodes root s x None)
    (ap (λ (ms : List Message). messages_in ls ++ ms ∷ []) (sym leads.travel) ∙ sym (messages_more ls p.layer []) ∙ append-nil (messages_in (ls ++ p.layer ∷ [])) ∙ ap messages_in (sym same))
    (on (travelling stored.node leads.newer q ∷ []) None
    (to_nothing id q stored.node leads.newer stored.there (subst (λ (o : Option Target). LeadsTo stored.node q (Past leads.newer o)) none leads.leads)))

-- on to a target
pub way_on : (nodes : Nodes) (t : Table) (root id : ℕ) (s q : List ℕ) (ls new : List Layer) (p : Passed) (target : Target) → IsSound nodes t → IsKept t id → ((n : Node) → nodes id ≡ Some n → IsPassed n q (Some p)) → p.target ≡ Some target → new ≡ ls ++ p.layer ∷ [] → IsWayOn nodes root s ls id q → IsWayOn nodes root s new target.child target.source
way_on nodes t root id s q ls new p target sound kept led is same on more end way =
    let stored : IsStored nodes t id = sound.each id kept in
    let leads : LeadsOn stored.node q p = led stored.node stored.there in
    subst (λ (x : List (List Message)). IsWay nodes root s x end)
    (ap (λ (ms : List Message). messages_in ls ++ ms ∷ more) (sym leads.travel) ∙ sym (messages_more ls p.layer more) ∙ ap (λ (x : List Layer). messages_in x ++ more) (sym same))
    (on (travelling stored.node leads.newer q ∷ more) end
    (leads_on id q stored.node leads.newer target more end stored.there (subst (λ (o : Option Target). LeadsTo stored.node q (Past leads.newer o)) is leads.leads) way))

-- ---- one node

pub passed_led : (nodes : Nodes) (id : ℕ) (n own again : Node) (q : List ℕ) (f : Followed) (newer : ℕ) (p : Passed) → own ≡ n → again ≡ n → LeadsTo own q f → f ≡ Past newer p.target → p.layer.messages ≡ all_freed q (drop newer (buffer_of again))
    → nodes id ≡ Some n → (m : Node) → nodes id ≡ Some m → IsPassed m q (Some p)
passed_led nodes id n own again q f newer p is is_too led leads travel there m there_too =
    subst (λ (x : Node). IsPassed x q (Some p)) (same_Some n m (sym there ∙ there_too))
    (record {
      newer = newer;
      leads = subst (λ (g : Followed). LeadsTo n q g) leads (subst (λ (x : Node). LeadsTo x q f) is led);
      travel = travel ∙ ap (λ (x : Node). all_freed q (drop newer (buffer_of x))) is_too;
    })

pub ended_led : (nodes : Nodes) (id : ℕ) (n own : Node) (q : List ℕ) (f : Followed) → own ≡ n → LeadsTo own q f → f ≡ Here → nodes id ≡ Some n → (m : Node) → nodes id ≡ Some m → IsPassed m q None
ended_led nodes id n own q f is led leads there m there_too =
    subst (λ (x : Node). LeadsTo x q Here) (same_Some n m (sym there ∙ there_too)) (subst (λ (g : Followed). LeadsTo n q g) leads (subst (λ (x : Node). LeadsTo x q f) is led))

pub led_as : (nodes now : Nodes) (id : ℕ) (q own : List ℕ) (found f : Option Passed) → now ≡ nodes → own ≡ q → found ≡ f → ((n : Node) → now id ≡ Some n → IsPassed n own found) → (n : Node) → nodes id ≡ Some n → IsPassed n q f
led_as nodes now id q own found f at same is led n there =
    subst (λ (o : Option Passed). IsPassed n q o) is (subst (λ (l : List ℕ). IsPassed n l found) same (led n (ap (λ (m : Nodes). m id) at ∙ there)))
