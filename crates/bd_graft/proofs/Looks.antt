-- The overlay node that is there already, and what is made where there is none.
use Rattle.std.proofs.Common.{◌≡◌, ℕ, suc, ◌+◌, ◌<◌, ◌≤◌, Bool, true, false, List, [], ◌∷◌, ◌++◌, length, append_assoc, refl, sym, ap, subst, ◌∙◌, Option, None, Some, inl, arith}
use Rattle.std.specs.Prelude.{slice_get}
use Rattle.std.specs.List.{AllByRecursion, flat_map, sum_by}
use Rattle.std.specs.Option.{option_or}
use Rattle.std.proofs.lemmas.List.{append-nil}
use Rattle.std.proofs.lemmas.Option.{same_Some, none-some}
use Rattle.bd_limits.specs.Limits.{buffer_limit}
use Rattle.bd_keys.specs.Keys.{IsKey}
use Rattle.bd_message.specs.declared.message.Message.{Message}
use Rattle.bd_message.specs.declared.message.Message.TheVariants.{Put, Del, Patch, Cut, Goto}
use Rattle.bd_message.specs.Messages.{size}
use Rattle.bd_message.specs.Effect.{acts}
use Rattle.bd_node.specs.declared.node.Node.{Node}
use Rattle.bd_node.specs.declared.node.Node.TheVariants.{Leaf, Inner}
use Rattle.bd_node.specs.Nodes.{level_of, edge_names, message_names}
use Rattle.bd_node.specs.Parts.{buffer_of}
use Rattle.bd_node.specs.declared.store.NodeStore.{Ghosts}
use Rattle.bd_node.specs.Frames.{OfSound, OnlyReads}
use Rattle.bd_node.specs.Meaning.{Nodes, at}
use Rattle.bd_node.specs.Tables.{Table, IsTable, IsLower, IsNodeOf, IsStored, IsSound, root_at}
use Rattle.bd_node.proofs.LawLemmas.{keys_meet}
use Rattle.bd_node.proofs.Lookup.{each_first, each_second}
use Rattle.bd_node.proofs.Sound.{sound-levelled, kept_there}
use Rattle.bd_resolve.specs.declared.following.Target.{Target}
use Rattle.bd_resolve.specs.Following.{target_at}
use Rattle.bd_graft.specs.declared.layers.Layer.{Layer}
use Rattle.bd_graft.specs.declared.packing.Packed.{Packed}
use Rattle.bd_graft.specs.Layers.{above, laid, AreLayers}
use Rattle.bd_graft.specs.Walking.{IsWay, messages_in}
use Rattle.bd_graft.specs.Packing.{target_names, packs, gathered, overlaid, overlay_level, overlay_of, top_over, overlays_over, IsPacked, IsPackedWith}
use Rattle.bd_graft.specs.Looking.{named_whole, newest_named, looked_at, waiting_of, waiting_in, IsAlreadyMade, IsFound}
use Rattle.bd_graft.specs.Looking.IsMadeOver.{none_made}
use Rattle.bd_graft.specs.Grafting.{IsReady, IsSentTo}
use Rattle.bd_graft.proofs.Packs.{level_kept, overlay_has}
use Rattle.bd_graft.proofs.Grouping.{by_case, overlays_length}
use Rattle.bd_graft.proofs.Counters.{sent_new}
use Rattle.bd_graft.proofs.Wearing.{layers_few}
use Rattle.bd_graft.proofs.Made.{of_reads}

-- ---- one group has all messages

-- the messages of groups, the last group's the oldest
flattened : List (List Message) → List Message
flattened [] = []
flattened (g ∷ groups) = flattened groups ++ g

gathered_all : (ms : List Message) (groups : List (List Message)) → flattened (gathered ms groups) ≡ flattened groups ++ ms
unfolding flattened
gathered_all [] groups = sym (append-nil (flattened groups))
gathered_all (m ∷ ms) [] = refl
gathered_all (m ∷ ms) (g ∷ groups) =
    by_case (λ x. flattened x ≡ flattened (g ∷ groups) ++ m ∷ ms) buffer_limit (sum_by size g + sum_by size (m ∷ ms)) ((m ∷ ms) ∷ g ∷ groups) ((g ++ m ∷ ms) ∷ groups)
    (λ more. refl) (λ less. sym (append_assoc (flattened groups) g (m ∷ ms)))

packs_all : (ls : List Layer) → flattened (packs (messages_in ls)) ≡ laid ls
unfolding flattened
packs_all [] = refl
packs_all (l ∷ ls) = gathered_all l.messages (packs (messages_in ls)) ∙ ap (λ (ms : List Message). ms ++ l.messages) (packs_all ls)

overlaid_all : (end : Option Target) (groups : List (List Message)) → flattened (overlaid end groups) ≡ flattened groups
unfolding flattened
overlaid_all None [] = refl
overlaid_all None (g ∷ groups) = refl
overlaid_all (Some target) groups = refl

lone : (groups : List (List Message)) → length groups ≡ 1 → groups ≡ flattened groups ∷ []
unfolding flattened
lone [] one = absurd (omega arith)
lone (g ∷ []) one = refl
lone (g ∷ h ∷ groups) one = absurd (omega (arith, one))

pub lone_groups : (end : Option Target) (ls : List Layer) → length (overlaid end (packs (messages_in ls))) ≡ 1 → overlaid end (packs (messages_in ls)) ≡ laid ls ∷ []
lone_groups end ls one =
    lone (overlaid end (packs (messages_in ls))) one
    ∙ ap (λ (ms : List Message). ms ∷ []) (overlaid_all end (packs (messages_in ls)) ∙ packs_all ls)

-- ---- what is found

first_same : (a b : Node) → a ∷ [] ≡ b ∷ [] → a ≡ b
first_same a b e = same_Some a b (ap (λ (ns : List Node). slice_get ns 0) e)

alone_length : (nodes : Nodes) (t : Table) (end : Option Target) (groups : List (List Message)) (c : ℕ) → IsAlreadyMade nodes t end groups c → length groups ≡ 1
alone_length nodes t end groups c h = sym (overlays_length t end groups) ∙ ap (λ (ns : List Node). length ns) h.alone

-- it is the overlay node of all messages
pub found_is : (nodes : Nodes) (t : Table) (end : Option Target) (ls : List Layer) (c : ℕ) → (h : IsAlreadyMade nodes t end (overlaid end (packs (messages_in ls))) c) → h.node ≡ overlay_of t end (laid ls)
found_is nodes t end ls c h =
    first_same h.node (overlay_of t end (laid ls)) (sym h.alone
    ∙ ap (λ (x : List (List Message)). overlays_over t end x) (lone_groups end ls (alone_length nodes t end (overlaid end (packs (messages_in ls))) c h)))

-- it has what the messages leave over the end
pub found_has : (nodes : Nodes) (t : Table) (end : Option Target) (ls : List Layer) (c : ℕ) → IsSound nodes t → IsAlreadyMade nodes t end (overlaid end (packs (messages_in ls))) c → (k : List ℕ) → IsKey k → at nodes c k ≡ acts (at nodes) (laid ls) k (target_at (at nodes) end k)
found_has nodes t end ls c sound h k key =
    keys_meet nodes (sound-levelled nodes t sound) c (overlay_of t end (laid ls)) (h.there ∙ ap (λ (n : Node). Some n) (found_is nodes t end ls c h)) k key
    ∙ overlay_has (at nodes) (overlay_level t (above t.level (target_names end)) (laid ls)) end (laid ls) k

-- what is sent to it
pub found_sent : (nodes : Nodes) (t : Table) (s : List ℕ) (end : Option Target) (ls : List Layer) (c : ℕ) → IsSound nodes t → IsWay nodes t.root s (messages_in ls) end → IsAlreadyMade nodes t end (overlaid end (packs (messages_in ls))) c → IsSentTo nodes t s [] (record { child = c; source = [] }) (t.level c + 1)
found_sent nodes t s end ls c sound way h =
    let stored : IsStored nodes t c = sound.each c (kept_there nodes t sound c h.node h.there) in
    let level : t.level c ≡ overlay_level t (above t.level (target_names end)) (laid ls) =
    sym stored.of_table.level_is ∙ ap level_of (same_Some stored.node h.node (sym stored.there ∙ h.there) ∙ found_is nodes t end ls c h) in
    record {
      travel = messages_in ls;
      end = end;
      way = way;
      over = none_made h refl refl;
      top_is = ap (λ (n : ℕ). n + 1) level
          ∙ sym (ap (λ (x : List (List Message)). top_over t end x) (lone_groups end ls (alone_length nodes t end (overlaid end (packs (messages_in ls))) c h)));
    }

-- ---- what is ready to be put

-- what is packed where nothing is found
pub way_ready : (known : Type 0) (nodes : Nodes) (t : Table) (s : List ℕ) (ls : List Layer) (end : Option Target) (packed : Packed) → IsPacked t end (laid ls) packed → IsPackedWith t end (overlaid end (packs (messages_in ls))) packed → length packed.made.items ≤ length ls + 1 → AreLayers t (t.level t.root + 1) ls end
    → (known → IsSound nodes t → (k : List ℕ) → IsKey k → acts (at nodes) (laid ls) k (target_at (at nodes) end k) ≡ root_at nodes t (s ++ k)) → (known → IsSound nodes t → IsWay nodes t.root s (messages_in ls) end) → (known → IsSound nodes t → IsFound nodes t end (overlaid end (packs (messages_in ls))) None) → IsReady known nodes t s packed
way_ready known nodes t s ls end packed packed_is with few layers value way none = record {
  layers = ls;
  end = end;
  packed_is = packed_is;
  layers_are = layers;
  value = value;
  sent = λ k sound. sent_new nodes t s (messages_in ls) end packed.made.items packed.target (packed.level + 1) (way k sound) (none k sound) with.made with.target with.top;
  few = omega (arith, few, layers_few t (t.level t.root) ls end layers);
}

pub not_found : (known : Type 0) (nodes : Nodes) (t : Table) (end : Option Target) (ls : List Layer) (found : Option ℕ) → found ≡ None → (known → IsSound nodes t → IsFound nodes t end (overlaid end (packs (messages_in ls))) found) → known → IsSound nodes t → IsFound nodes t end (overlaid end (packs (messages_in ls))) None
not_found known nodes t end ls found none h k sound = subst (λ (o : Option ℕ). IsFound nodes t end (overlaid end (packs (messages_in ls))) o) none (h k sound)

pub is_found : (nodes : Nodes) (t : Table) (end : Option Target) (ls : List Layer) (found : Option ℕ) (c : ℕ) → found ≡ Some c → IsFound nodes t end (overlaid end (packs (messages_in ls))) found → IsAlreadyMade nodes t end (overlaid end (packs (messages_in ls))) c
is_found nodes t end ls found c some h = subst (λ (o : Option ℕ). IsFound nodes t end (overlaid end (packs (messages_in ls))) o) some h

-- a node that is there already
pub again_ready : (known : Type 0) (nodes : Nodes) (t : Table) (s : List ℕ) (c : ℕ) (packed : Packed) → IsTable t → IsLower t (t.level t.root) c → packed.made.items ≡ [] → packed.target ≡ record { child = c; source = [] } → packed.level ≡ t.level c
    → (known → IsSound nodes t → (k : List ℕ) → IsKey k → at nodes c k ≡ root_at nodes t (s ++ k)) → (known → IsSound nodes t → IsSentTo nodes t s [] (record { child = c; source = [] }) (t.level c + 1)) → IsReady known nodes t s packed
again_ready known nodes t s c packed table low none target level value sent =
    let child : packed.target.child ≡ c = ap (λ (x : Target). x.child) target in
    let source : packed.target.source ≡ [] = ap (λ (x : Target). x.source) target in
    let below : t.level c < t.level t.root = low.lower in
    let no : (place : ℕ) (n : Node) → slice_get packed.made.items place ≡ Some n → ⊥ = λ place n there. none-some n (sym (ap (λ (ns : List Node). slice_get ns place) none) ∙ there) in
    let kept : IsLower t (packed.level + 1) packed.target.child = subst (λ (i : ℕ). IsLower t (packed.level + 1) i) (sym child) (record { kept = low.kept; lower = omega (arith, level) }) in
    record {
      layers = [];
      end = Some packed.target;
      packed_is = record {
        overlays = record { shape = λ place n there. absurd (no place n there); lower = λ place n there. absurd (no place n there); used = λ place n there. absurd (no (suc place) n there) };
        over = record { lower = (inl kept, tt); short = omega (arith, ap (λ (q : List ℕ). length q) source); last = λ place long. absurd (omega (arith, long, ap (λ (ns : List Node). length ns) none)) };
        over_end = omega (arith, level, ap t.level child);
        exact = λ place n there. absurd (no place n there);
        level_is = level ∙ ap t.level (sym child) ∙ sym (level_kept t packed.made.items packed.target.child table kept.kept);
        meaning = λ has made k key. refl;
      };
      layers_are = subst (λ (i : ℕ). IsLower t (t.level t.root + 1) i) (sym child) (record { kept = low.kept; lower = omega arith });
      value = λ known sound k key. ap (λ (x : Target). at nodes x.child (x.source ++ k)) target ∙ value known sound k key;
      sent = λ known sound.
          subst (λ (x : Target). IsSentTo nodes t s packed.made.items x (packed.level + 1)) (sym target)
          (subst (λ (ms : List Node). IsSentTo nodes t s ms (record { child = c; source = [] }) (packed.level + 1)) (sym none)
          (subst (λ (l : ℕ). IsSentTo nodes t s [] (record { child = c; source = [] }) (l + 1)) (sym level) (sent known sound)));
      few = omega (arith, ap (λ (ns : List Node). length ns) none);
    }

-- ---- the newest that is named

or_none : (o : Option ℕ) → option_or o None ≡ o
or_none None = refl
or_none (Some c) = refl

or_assoc : (a b d : Option ℕ) → option_or (option_or a b) d ≡ option_or a (option_or b d)
or_assoc None b d = refl
or_assoc (Some c) b d = refl

-- the last message is the newest
pub newest_last : (older : List Message) (m : Message) → newest_named (older ++ m ∷ []) ≡ option_or (named_whole m) (newest_named older)
newest_last [] m = sym (or_none (named_whole m))
newest_last (x ∷ older) m = ap (λ (o : Option ℕ). option_or o (named_whole x)) (newest_last older m) ∙ or_assoc (named_whole m) (newest_named older) (named_whole x)

pub last_some : (list older : List Message) (m : Message) (named : Option ℕ) (c : ℕ) → list ≡ older ++ m ∷ [] → named ≡ named_whole m → named ≡ Some c → Some c ≡ newest_named list
last_some list older m named c is whole found = sym (ap newest_named is ∙ newest_last older m ∙ ap (λ (o : Option ℕ). option_or o (newest_named older)) (sym whole ∙ found))

pub last_none : (list older : List Message) (m : Message) (named : Option ℕ) → list ≡ older ++ m ∷ [] → named ≡ named_whole m → named ≡ None → newest_named older ≡ newest_named list
last_none list older m named is whole none = sym (ap newest_named is ∙ newest_last older m ∙ ap (λ (o : Option ℕ). option_or o (newest_named older)) (sym whole ∙ none))

whole_has : (P : ℕ → Type 0) (m : Message) (c : ℕ) → named_whole m ≡ Some c → AllByRecursion P (message_names m) → P c
whole_has P (Put key value) c is h = absurd (none-some c is)
whole_has P (Del key) c is h = absurd (none-some c is)
whole_has P (Patch key off bytes) c is h = absurd (none-some c is)
whole_has P (Cut prefix from) c is h = absurd (none-some c is)
whole_has P (Goto prefix [] child) c is h = subst P (same_Some child c is) h.0
whole_has P (Goto prefix (b ∷ source) child) c is h = absurd (none-some c is)

newest_or : (P : ℕ → Type 0) (o : Option ℕ) (m : Message) (c : ℕ) → option_or o (named_whole m) ≡ Some c → ((d : ℕ) → o ≡ Some d → P d) → AllByRecursion P (message_names m) → P c
newest_or P None m c is more h = whole_has P m c is h
newest_or P (Some d) m c is more h = subst P (same_Some d c is) (more d refl)

-- it is one of the nodes that the messages name
newest_has : (P : ℕ → Type 0) (ms : List Message) (c : ℕ) → newest_named ms ≡ Some c → AllByRecursion P (flat_map message_names ms) → P c
newest_has P [] c is h = absurd (none-some c is)
newest_has P (m ∷ ms) c is h =
    newest_or P (newest_named ms) m c is (λ d found. newest_has P ms d found (each_second P (message_names m) (flat_map message_names ms) h)) (each_first P (message_names m) (flat_map message_names ms) h)

pub named_lower : (t : Table) (level : ℕ) (n : Node) (c : ℕ) → IsNodeOf t level n → newest_named (buffer_of n) ≡ Some c → IsLower t level c
named_lower t level (Leaf entries) c of is = absurd (none-some c is)
named_lower t level (Inner l es buffer) c of is = newest_has (IsLower t level) buffer c is (each_second (IsLower t level) (flat_map edge_names es) (flat_map message_names buffer) of.lower)

-- ---- a look

-- there would be no overlay node, or several
pub none_alone : (nodes : Nodes) (t : Table) (end : Option Target) (groups : List (List Message)) → (length groups ≡ 1 → ⊥) → IsFound nodes t end groups None
none_alone nodes t end groups other c h = other (alone_length nodes t end groups c h)

pub looked_none : (waiting : List Message) (groups : List (List Message)) → (length groups ≡ 1 → ⊥) → 0 ≡ looked_at waiting groups
looked_none waiting [] other = refl
looked_none waiting (g ∷ []) other = absurd (other refl)
looked_none waiting (g ∷ h ∷ groups) other = refl

-- no node is named
pub none_named : (nodes : Nodes) (t : Table) (end : Option Target) (groups : List (List Message)) → newest_named (waiting_in nodes t) ≡ None → IsFound nodes t end groups None
none_named nodes t end groups none c h = none-some c (sym none ∙ h.newest)

pub waiting_is : (nodes : Nodes) (t : Table) (n : Node) (named : Option ℕ) → nodes t.root ≡ Some n → named ≡ newest_named (buffer_of n) → newest_named (waiting_in nodes t) ≡ named
waiting_is nodes t n named there is = ap (λ (o : Option Node). newest_named (waiting_of o)) there ∙ sym is

-- the named node is the overlay node, or isn't
pub found_some : (nodes : Nodes) (t : Table) (end : Option Target) (ls : List Layer) (c : ℕ) (node : Node) → length (overlaid end (packs (messages_in ls))) ≡ 1 → newest_named (waiting_in nodes t) ≡ Some c → nodes c ≡ Some node → node ≡ overlay_of t end (laid ls) → IsAlreadyMade nodes t end (overlaid end (packs (messages_in ls))) c
found_some nodes t end ls c node one newest there is = record {
  newest = newest;
  node = node;
  there = there;
  alone = ap (λ (x : List (List Message)). overlays_over t end x) (lone_groups end ls one) ∙ ap (λ (n : Node). n ∷ []) (sym is);
}

pub found_none : (nodes : Nodes) (t : Table) (end : Option Target) (ls : List Layer) (c : ℕ) (node : Node) → newest_named (waiting_in nodes t) ≡ Some c → nodes c ≡ Some node → (node ≡ overlay_of t end (laid ls) → ⊥) → IsFound nodes t end (overlaid end (packs (messages_in ls))) None
found_none nodes t end ls c node newest there other d h =
    other (same_Some node h.node (sym there ∙ ap nodes (same_Some c d (sym newest ∙ h.newest)) ∙ h.there) ∙ found_is nodes t end ls d h)

-- ---- as the code looks

pub root_names : (t : Table) (id : ℕ) (n own : Node) (named : Option ℕ) (c : ℕ) → id ≡ t.root → IsNodeOf t (t.level id) n → own ≡ n → named ≡ newest_named (buffer_of own) → named ≡ Some c → IsLower t (t.level t.root) c
root_names t id n own named c is of same newest found =
    subst (λ (i : ℕ). IsLower t (t.level i) c) is (named_lower t (t.level id) n c of (sym (newest ∙ ap (λ (m : Node). newest_named (buffer_of m)) same) ∙ found))

-- what is named, of the root as it was fetched
pub newest_is : (nodes : Nodes) (t : Table) (id : ℕ) (n own : Node) (named : Option ℕ) → id ≡ t.root → nodes id ≡ Some n → own ≡ n → named ≡ newest_named (buffer_of own) → newest_named (waiting_in nodes t) ≡ named
newest_is nodes t id n own named is there same newest =
    waiting_is nodes t n named (ap nodes (sym is) ∙ there) (newest ∙ ap (λ (m : Node). newest_named (buffer_of m)) same)

own_is : (t u : Table) (end : Option Target) (ls : List Layer) (m its : Node) → its ≡ m → u ≡ t → its ≡ overlay_of u end (laid ls) → m ≡ overlay_of t end (laid ls)
own_is t u end ls m its same table is = sym same ∙ is ∙ ap (λ (x : Table). overlay_of x end (laid ls)) table

own_back : (t u : Table) (end : Option Target) (ls : List Layer) (m its : Node) → its ≡ m → u ≡ t → m ≡ overlay_of t end (laid ls) → its ≡ overlay_of u end (laid ls)
own_back t u end ls m its same table is = same ∙ is ∙ ap (λ (x : Table). overlay_of x end (laid ls)) (sym table)

pub told_both : (b : Bool) → b ≡ true → b ≡ false → ⊥
told_both b first second = cc

pub found_then : (nodes : Nodes) (t u : Table) (end : Option Target) (ls : List Layer) (c : ℕ) (m its : Node) (result : Option ℕ) → length (overlaid end (packs (messages_in ls))) ≡ 1 → newest_named (waiting_in nodes t) ≡ Some c → nodes c ≡ Some m → its ≡ m → u ≡ t
    → its ≡ overlay_of u end (laid ls) → result ≡ Some c → IsFound nodes t end (overlaid end (packs (messages_in ls))) result
found_then nodes t u end ls c m its result one newest there same table is found =
    subst (λ (o : Option ℕ). IsFound nodes t end (overlaid end (packs (messages_in ls))) o) (sym found) (found_some nodes t end ls c m one newest there (own_is t u end ls m its same table is))

pub found_else : (nodes : Nodes) (t u : Table) (end : Option Target) (ls : List Layer) (c : ℕ) (m its : Node) (result : Option ℕ) → newest_named (waiting_in nodes t) ≡ Some c → nodes c ≡ Some m → its ≡ m → u ≡ t → (its ≡ overlay_of u end (laid ls) → ⊥) → result ≡ None
    → IsFound nodes t end (overlaid end (packs (messages_in ls))) result
found_else nodes t u end ls c m its result newest there same table other found =
    subst (λ (o : Option ℕ). IsFound nodes t end (overlaid end (packs (messages_in ls))) o) (sym found) (found_none nodes t end ls c m newest there (λ is. other (own_back t u end ls m its same table is)))

-- what was looked at after reads, of the layers as a slice
pub looked_known : {S : Type 0} (g : Ghosts S) (old mid : S) (ls used : List Layer) (end : Option Target) (fetched : ℕ) → used ≡ ls → OnlyReads g old mid
    → OfSound g mid (fetched ≡ looked_at (waiting_in (g.nodes mid) (g.table mid)) (overlaid end (packs (messages_in used)))) → OfSound g old (fetched ≡ looked_at (waiting_in (g.nodes old) (g.table old)) (overlaid end (packs (messages_in ls))))
looked_known g old mid ls used end fetched same left h =
    of_reads g old mid (λ f u. fetched ≡ looked_at (waiting_in f u) (overlaid end (packs (messages_in ls)))) left
    (subst (λ (x : List Layer). OfSound g mid (fetched ≡ looked_at (waiting_in (g.nodes mid) (g.table mid)) (overlaid end (packs (messages_in x))))) same h)
