-- What is found where the slots of a table's entries are read, one after the other.
use Rattle.std.proofs.Common.{◌≡◌, ℕ, ◌+◌, ◌<◌, Bool, true, false, IsTrue, List, [], ◌∷◌, ◌++◌, length, take, get_or, Option, None, Some, IfSome, refl, sym, ap, subst, ◌∙◌}
use Rattle.std.specs.Prelude.{◌↔◌, All, Contains, IfNone, MatchOption}
use Rattle.std.specs.Bool.{then_some}
use Rattle.std.specs.List.{AllByRecursion}
use Rattle.std.proofs.lemmas.Bool.{false≢true}
use Rattle.std.proofs.lemmas.List.{take_more, map-append}
use Rattle.std.proofs.lemmas.List.Elements.{All-from_recursion, Contains-get_or}
use Rattle.std.proofs.lemmas.Option.{IfSome_then}
use Rattle.bd_slots.specs.Layout.{slot_block}
use Rattle.bd_device.specs.Blocks.{Image}
use Rattle.bd_tails.specs.Tails.{slot_bytes}
use Rattle.bd_format.specs.Decoding.{node_in}
use Rattle.bd_format.specs.Images.{IsImage}
use Rattle.bd_format.specs.Slots.{HasNode, IsLowerLevel, IsGoodNode, HasNoGoodNode}
use Rattle.bd_node.specs.declared.node.Node.{Node}
use Rattle.bd_node.specs.Nodes.{names}
use Rattle.bd_node.specs.Meaning.{Nodes}
use Rattle.bd_node.specs.Shape.{IsShape}
use Rattle.bd_table.specs.Entries.{level_at}
use Rattle.bd_table.specs.Tables.{AreTableEntries}
use Rattle.bd_table.specs.declared.table.Table.{Table as StoredTable}
use Rattle.bd_table.specs.declared.table.TableEntry.{TableEntry}
use Rattle.bd_table.proofs.EntryLemmas.{AreRising, entry_found, entry_stands}
use Rattle.bd_pager.specs.Damage.{HasGoodNode, IsFirstBad}
use Rattle.bd_tally.specs.Seen.{HasSeen, AreRight, IsLeastWrong, named_so_far}
use Rattle.bd_tally.specs.declared.count.Count.{Count}
use Rattle.bd_check.specs.Slots.{HaveGoodNodes, ids_of, node_of_entry, nodes_in}
use Rattle.bd_check.specs.Reading.{Sees, IsFirstBadBlock, HasSoundNodes, IsWrongIn}
use Rattle.bd_check.specs.declared.verdict.Verdict.TheVariants.{BadNode}
use Rattle.bd_check.proofs.EntryNodes.{sound, miscounted}

-- ---- one slot

-- the node that it has names nodes of lower levels alone, or not
pub good_or_none : (contents : Option Image) (entries : List TableEntry) (e : TableEntry) (node : Node) (b : Bool) (found : Option Node) → found ≡ then_some b node
    → ((m n : Node) (bytes : List ℕ) → IsShape m → IsShape n → IsImage m bytes → IsImage n bytes → m ≡ n)
    → IfSome contents (λ image. HasNode image e.slot e.level node) → IsTrue b ↔ AllByRecursion (λ c. IsLowerLevel e.level (level_at entries c)) (names node)
    → IfSome contents (λ image. MatchOption found (HasNoGoodNode image (level_at entries) e.slot e.level) (IsGoodNode image (level_at entries) e.slot e.level))
good_or_none None entries e node b found is one held lower = tt
good_or_none (Some image) entries e node b found is one held lower =
    subst (λ (o : Option Node). MatchOption o (HasNoGoodNode image (level_at entries) e.slot e.level) (IsGoodNode image (level_at entries) e.slot e.level)) (sym is) (by b lower)
  where
    by : (b : Bool) → IsTrue b ↔ AllByRecursion (λ c. IsLowerLevel e.level (level_at entries c)) (names node) → MatchOption (then_some b node) (HasNoGoodNode image (level_at entries) e.slot e.level) (IsGoodNode image (level_at entries) e.slot e.level)
    by true lower = record { held = held; lower = lower.0 refl }
    by false lower = λ n good.
        let same : n ≡ node = one n node (slot_bytes image e.slot) good.held.shape held.shape good.held.image_is held.image_is in
        false≢true (lower.1 (subst (λ (m : Node). AllByRecursion (λ c. IsLowerLevel e.level (level_at entries c)) (names m)) same good.lower))

-- ---- one slot after the other

module _ (contents : Option Image) (entries : List TableEntry) (e : TableEntry) where
  abbrev IsFoundAs : Option Node → Type 0
  IsFoundAs found = IfSome contents (λ image. MatchOption found (HasNoGoodNode image (level_at entries) e.slot e.level) (IsGoodNode image (level_at entries) e.slot e.level))

  pub some_good : (found : Option Node) (n : Node) → found ≡ Some n → IsFoundAs found → IfSome contents (λ image. IsGoodNode image (level_at entries) e.slot e.level n)
  some_good found n is h = subst IsFoundAs is h

  pub none_good : (found : Option Node) → found ≡ None → IsFoundAs found → IfSome contents (λ image. HasNoGoodNode image (level_at entries) e.slot e.level)
  none_good found is h = subst IsFoundAs is h

pub has_good : (contents : Option Image) (entries : List TableEntry) (e : TableEntry) (n : Node) → IfSome contents (λ image. IsGoodNode image (level_at entries) e.slot e.level n) → IfSome contents (λ image. HasGoodNode image entries e)
has_good contents entries e n h = IfSome_then contents h (λ image good. (n, good))

ids_more : (entries : List TableEntry) (i : ℕ) (d : TableEntry) → i < length entries → ids_of (take (i + 1) entries) ≡ ids_of (take i entries) ++ (get_or entries i d).id ∷ []
ids_more entries i d lt = ap ids_of (take_more entries i d lt) ∙ map-append (λ (e : TableEntry). e.id) (take i entries) (get_or entries i d ∷ [])

-- what is owed has seen one node more
pub sees_more : (contents : Option Image) (t : StoredTable) (entries : List TableEntry) (i : ℕ) (d : TableEntry) (n : Node) (old new : List Count) → entries ≡ t.entries
    → ((m : Node) (bytes : List ℕ) → IsShape m → IsImage m bytes → node_in bytes ≡ Some m) → AreRising t.entries → i < length entries
    → IfSome contents (λ image. IsGoodNode image (level_at entries) (get_or entries i d).slot (get_or entries i d).level n)
    → ((nodes : Nodes) (u : StoredTable) (seen : List ℕ) (id : ℕ) → HasSeen nodes u seen old → nodes id ≡ Some n → HasSeen nodes u (seen ++ id ∷ []) new)
    → Sees contents t (ids_of (take i entries)) old → Sees contents t (ids_of (take (i + 1) entries)) new
sees_more None t entries i d n old new same decodes rising lt good owes was = tt
sees_more (Some image) t entries i d n old new same decodes rising lt good owes was =
    let e : TableEntry = get_or entries i d in
    let among : Contains t.entries e = subst (λ (es : List TableEntry). Contains es e) same (Contains-get_or entries i d lt) in
    let there : nodes_in image t e.id ≡ Some n = ap (node_of_entry image) (entry_found t.entries e rising among) ∙ decodes n (slot_bytes image e.slot) good.held.shape good.held.image_is in
    subst (λ (ids : List ℕ). HasSeen (nodes_in image t) t ids new) (sym (ids_more entries i d lt)) (owes (nodes_in image t) t (ids_of (take i entries)) e.id was there)

-- each slot has a good node
pub all_good : (contents : Option Image) (t : StoredTable) → IfSome contents (λ image. AllByRecursion (HasGoodNode image t.entries) t.entries) → IfSome contents (λ image. HaveGoodNodes image t)
all_good contents t h =
    IfSome_then contents h (λ image good e found.
    let at = entry_stands t.entries e.id e found in
    let each : All (HasGoodNode image t.entries) t.entries = All-from_recursion (HasGoodNode image t.entries) t.entries good in
    subst (HasGoodNode image t.entries) at.2 (each at.0 e at.1))

-- the first slot that has none
pub first_block : (contents : Option Image) (t : StoredTable) (e : TableEntry) (b : ℕ) → b ≡ slot_block e.slot → IsFirstBad contents t.entries e → IfSome contents (λ image. IsFirstBadBlock image t b)
first_block None t e b is first = tt
first_block (Some image) t e b is first = (e, is, first)

-- ---- all slots

abbrev pub IsReadAs : Option Image → StoredTable → Option ℕ → Type 0
IsReadAs contents t found = IfSome contents (λ image. MatchOption found (HaveGoodNodes image t) (IsFirstBadBlock image t))

-- an entry counts wrongly
pub wrong_node : (contents : Option Image) (t : StoredTable) (found wrong : Option ℕ) (id : ℕ) (owed : List Count) → AreTableEntries t.next_id t.root t.entries → found ≡ None → IsReadAs contents t found → Sees contents t (ids_of t.entries) owed
    → ((nodes : Nodes) (u : StoredTable) (seen : List ℕ) → HasSeen nodes u seen owed → IfSome wrong (IsLeastWrong (named_so_far nodes u seen) u.entries)) → wrong ≡ Some id → IfSome contents (λ image. IsWrongIn image t (BadNode id))
wrong_node None t found wrong id owed are none h seen least is = tt
wrong_node (Some image) t found wrong id owed are none h seen least is =
    let good : HaveGoodNodes image t = subst (λ (o : Option ℕ). MatchOption o (HaveGoodNodes image t) (IsFirstBadBlock image t)) none h in
    let here : IsLeastWrong (named_so_far (nodes_in image t) t (ids_of t.entries)) t.entries id =
    subst (λ (o : Option ℕ). IfSome o (IsLeastWrong (named_so_far (nodes_in image t) t (ids_of t.entries)) t.entries)) is (least (nodes_in image t) t (ids_of t.entries) seen) in
    (good, miscounted t are image id here)

-- none does
pub sound_nodes : (contents : Option Image) (t : StoredTable) (found wrong : Option ℕ) (owed : List Count) → ((m : Node) (bytes : List ℕ) → IsShape m → IsImage m bytes → node_in bytes ≡ Some m) → AreTableEntries t.next_id t.root t.entries
    → found ≡ None → IsReadAs contents t found → Sees contents t (ids_of t.entries) owed
    → ((nodes : Nodes) (u : StoredTable) (seen : List ℕ) → HasSeen nodes u seen owed → IfNone wrong (AreRight (named_so_far nodes u seen) u.entries)) → wrong ≡ None → IfSome contents (λ image. HasSoundNodes image t)
sound_nodes None t found wrong owed decodes are none h seen right is = tt
sound_nodes (Some image) t found wrong owed decodes are none h seen right is =
    let good : HaveGoodNodes image t = subst (λ (o : Option ℕ). MatchOption o (HaveGoodNodes image t) (IsFirstBadBlock image t)) none h in
    let here : AreRight (named_so_far (nodes_in image t) t (ids_of t.entries)) t.entries =
    subst (λ (o : Option ℕ). IfNone o (AreRight (named_so_far (nodes_in image t) t (ids_of t.entries)) t.entries)) is (right (nodes_in image t) t (ids_of t.entries) seen) in
    record { good = good; sound = sound decodes image t good are here }
