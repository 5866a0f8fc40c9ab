-- What a pager knows of its nodes.
use Rattle.std.proofs.Common.{◌≡◌, ℕ, ◌≤◌, Bool, true, false, List, Option, None, Some, nat_eq, refl, sym, ap, subst, ◌∙◌, arith}
use Rattle.std.specs.Prelude.{IsSome}
use Rattle.std.specs.HashMap.{HashMap}
use Rattle.std.specs.Map.{lookup}
use Rattle.std.specs.List.{AllByRecursion}
use Rattle.std.proofs.lemmas.Option.{same_Some}
use Rattle.bd_device.specs.Blocks.{Image}
use Rattle.bd_node.specs.Nodes.{level_of, names}
use Rattle.bd_node.specs.Meaning.{Nodes}
use Rattle.bd_node.specs.Tables.{IsKept, IsLower, IsNodeOf, IsStored, IsSound}
use Rattle.bd_node.proofs.Lookup.{each_weaker}
use Rattle.bd_tails.specs.Tails.{AreTails}
use Rattle.bd_tails.specs.declared.tails.Tails.{Tails}
use Rattle.bd_pager.specs.Slots.{IsOfLevel}
use Rattle.bd_cache.specs.declared.cache.NodeCache.{NodeCache}
use Rattle.bd_node.specs.declared.node.Node.{Node}
use Rattle.bd_pager.specs.declared.place.Place.{Place}
use Rattle.bd_pager.specs.declared.place.Place.TheVariants.{Memory, Slot}
use Rattle.bd_pager.specs.declared.place.Spot.{Spot}
use Rattle.bd_pager.specs.declared.reader.NodeReader.{NodeReader}
use Rattle.bd_pager.specs.declared.usage.Usage.{Usage}
use Rattle.bd_pager.specs.declared.written.Written.{Written}
use Rattle.bd_table.specs.declared.table.Table.{Table as Checkpoint}
use Rattle.bd_pager.specs.Counting.{IsTallied}
use Rattle.bd_pager.specs.Readers.{IsReading}
use Rattle.bd_pager.specs.Testing.{AreTested}
use Rattle.bd_pager.specs.Places.{Spots, spots_in, refs_in, IsLowerIn, IsReadAt, IsRead, AreCached}
use Rattle.bd_pager.specs.Pagers.{Paged, spots_of, table_of, IsPaged, seen}

-- a node that is named is kept
pub kept_there : (spots : Spots) (id : ℕ) → 1 ≤ refs_in (spots id) → IsSome (spots id)
kept_there spots id kept =
    (let each : (o : Option Spot) → 1 ≤ refs_in o → IsSome o = λ o. elim o as (λ v. 1 ≤ refs_in v → IsSome v) [
      | None ↦ λ h. absurd (omega (arith, h))
      | Some s ↦ λ h. refl
    ] in each (spots id) kept)

-- ---- a device that was lent

lent_at : (contents left : Option Image) (is_lent : Bool) (level : ℕ) (p : Place) (n : Node) → IsReadAt contents is_lent level p n → IsReadAt left true level p n
lent_at contents left is_lent level (Memory node slot) n read = absurd read
lent_at contents left is_lent level (Slot slot (Some node)) n read = absurd read
lent_at contents left is_lent level (Slot slot None) n read = (read.0, λ not_lent. absurd (let e : true ≡ false = not_lent in cc))

lent_read : (contents left : Option Image) (is_lent : Bool) (spot : Option Spot) (n : Node) → IsRead contents is_lent spot n → IsRead left true spot n
lent_read contents left is_lent None n read = absurd read
lent_read contents left is_lent (Some s) n read = lent_at contents left is_lent s.level s.place n read

-- whatever it has then, what was read before may stay in the cache
pub lent_cached : (contents left : Option Image) (is_lent : Bool) (spots : Spots) (cache : NodeCache) → AreCached contents is_lent spots cache → AreCached left true spots cache
lent_cached contents left is_lent spots cache was = λ id n kept. lent_read contents left is_lent (spots id) n (was id n kept)

-- ---- reads

-- what holds of it holds after reads
pub read_paged : {D : Type 0} (p : Paged D) (before after : Option Image) (dev : D) (entries : List (ℕ × Spot)) (visits : ℕ) (cache : NodeCache) (is_lent : Bool) (tails : Tails) → entries ≡ p.spots
    → AreCached after is_lent (λ id. lookup (nat_eq id) entries) cache → (is_lent ≡ false → AreTails after tails) → IsPaged before p → IsPaged after (record p { dev = dev; spots = entries; visits = visits; cache = cache; is_lent = is_lent; tails = tails })
read_paged {D} p before after dev entries visits cache is_lent tails same cached known was =
    let at : List (ℕ × Spot) → Paged D = λ es. record p { dev = dev; spots = es; visits = visits; cache = cache; is_lent = is_lent; tails = tails } in
    subst (λ (es : List (ℕ × Spot)). IsPaged after (at es)) (sym same) (record {
      table = was.table;
      used = was.used;
      placed = was.placed;
      root = was.root;
      cached = subst (λ (es : List (ℕ × Spot)). AreCached after is_lent (λ id. lookup (nat_eq id) es) cache) same cached;
      levels = was.levels;
      held = was.held;
      spare = was.spare;
      slots = was.slots;
      stored = was.stored;
      saved = was.saved;
      entries = was.entries;
      tails = known;
      ready = was.ready;
    })

pub same_entries : {S : Type 0} (m n : HashMap ℕ Spot S) → m ≡ n → m.entries ≡ n.entries
same_entries {S} m n same = ap (λ (x : HashMap ℕ Spot S). x.entries) same

-- so it is with all that holds of its fields
pub reader_paged : {D : Type 0} (was now : Option Image) (old new : NodeReader D) (saved : Checkpoint) (at : List ℕ) (u : Usage) (root size next before visits : ℕ) (written : Option Written) → new.spots ≡ old.spots → IsReading now new
    → IsPaged was (seen old saved at u.spare root size next before written) × IsTallied next (spots_in old.spots) u × AreTested (spots_in old.spots) old.cache old.tested
    → IsPaged now (seen new saved at u.spare root size next visits written) × IsTallied next (spots_in new.spots) u × AreTested (spots_in new.spots) new.cache new.tested
reader_paged {D} was now old new saved at u root size next before visits written same reading held =
    let entries : new.spots.entries ≡ old.spots.entries = same_entries new.spots old.spots same in (
      read_paged (seen old saved at u.spare root size next before written) was now new.dev new.spots.entries visits new.cache new.is_lent new.tails entries reading.cached reading.tails held.0,
      subst (λ (es : List (ℕ × Spot)). IsTallied next (λ id. lookup (nat_eq id) es) u) (sym entries) held.1,
      reading.tested,
    )

-- ---- names

-- names that are lower are those of a node of the table
pub named_lower : {D : Type 0} (p : Paged D) (level : ℕ) (n : Node) → IsOfLevel level n → AllByRecursion (IsLowerIn (spots_of p) (level_of n)) (names n) → IsNodeOf (table_of p) level n
named_lower p level n own low = record {
  shape = own.shape;
  level_is = own.level_is;
  lower = each_weaker (IsLowerIn (spots_of p) (level_of n)) (IsLower (table_of p) level) (λ id h. record { kept = h.0; lower = omega (arith, h.1, own.level_is) }) (names n) low;
}

-- sound nodes have no other names
pub sound_lower : (nodes : Nodes) {D : Type 0} (p : Paged D) (id : ℕ) (n : Node) → IsKept (table_of p) id → nodes id ≡ Some n → IsSound nodes (table_of p) → AllByRecursion (IsLowerIn (spots_of p) (level_of n)) (names n)
sound_lower nodes p id n kept there sound =
    let stored : IsStored nodes (table_of p) id = sound.each id kept in
    let own : IsNodeOf (table_of p) ((table_of p).level id) n =
    subst (λ (m : Node). IsNodeOf (table_of p) ((table_of p).level id) m) (same_Some stored.node n (sym stored.there ∙ there)) stored.of_table in
    each_weaker (IsLower (table_of p) ((table_of p).level id)) (IsLowerIn (spots_of p) (level_of n)) (λ c h. (h.kept, omega (arith, h.lower, own.level_is))) (names n) own.lower
