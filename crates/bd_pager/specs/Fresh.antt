-- New pagers.
use Rattle.std.specs.Prelude.{◌≡◌, ◌≢◌, ℕ, true, false, [], replicate, None, Some}
use Rattle.std.specs.Global.{Global}
use Rattle.std.specs.declared.rc.Rc.{Rc}
use Rattle.bd_limits.specs.Limits.{slot_blocks}
use Rattle.bd_cache.specs.Cache.{kept_at}
use Rattle.bd_node.specs.New.{new_root}
use Rattle.bd_node.specs.declared.node.Node.{Node}
use Rattle.bd_pager.specs.declared.place.Place.TheVariants.{Memory}
use Rattle.bd_pager.specs.declared.place.Spot.{Spot}
use Rattle.bd_pager.specs.declared.parts.Parts.{Parts}
use Rattle.bd_pager.specs.declared.usage.Usage.{Usage}
use Rattle.bd_pager.specs.Counting.{IsListed}
use Rattle.bd_pager.specs.Places.{Spots, spots_in}
use Rattle.bd_pager.specs.Pagers.{Paged}

-- a root without a child is kept alone, in memory, under the id 1
pub record AreFreshSpots (spots : Spots) : Type 0 where
  pub root : Spot
  pub there : spots 1 ≡ Some root
  pub others : (id : ℕ) → id ≢ 1 → spots id ≡ None
  pub refs : root.refs ≡ 1
  pub level : root.level ≡ 1
  pub node : Rc Node Global
  pub place : root.place ≡ Memory node None
  pub new : node.value ≡ new_root

-- a pager of these parts over a device
abbrev pub assembled : {D : Type 0} → D → Parts → Paged D
assembled dev parts = record {
  dev = dev;
  spots = parts.spots.entries;
  saved = parts.saved;
  at = parts.at.items;
  spare = parts.usage.spare;
  root = parts.root;
  size = parts.size;
  next = parts.next;
  visits = 0;
  cache = parts.cache;
  is_lent = false;
  tails = parts.tails;
  written = None;
}

-- so many slots, all spare and free, and the root alone is changed, and in memory
pub record IsFreshUsage (slots : ℕ) (u : Usage) : Type 0 where
  pub spare : u.spare ≡ replicate slots true
  pub free : u.free ≡ replicate slots true
  pub changed : u.changed ≡ 1
  pub in_memory : u.in_memory ≡ 1
  pub listed : IsListed u.listed 1

-- such a root, nothing saved, so many slots, all spare, and nothing read or known of slots
pub record AreFreshParts (slots : ℕ) (parts : Parts) : Type 0 where
  pub spots : AreFreshSpots (spots_in parts.spots)
  pub root : parts.root ≡ 1
  pub size : parts.size ≡ 0
  pub next : parts.next ≡ 2
  pub saved : parts.saved.entries ≡ []
  pub at : parts.at.items ≡ []
  pub usage : IsFreshUsage slots parts.usage
  pub cached : (id : ℕ) → kept_at parts.cache id ≡ None
  pub tails : parts.tails.used.items ≡ replicate slots slot_blocks

-- nothing is saved, and nothing was visited or lent
pub record IsUnsaved {D : Type 0} (slots : ℕ) (dev : D) (p : Paged D) : Type 0 where
  pub device : p.dev ≡ dev
  pub saved : p.saved.entries ≡ []
  pub at : p.at ≡ []
  pub spare : p.spare ≡ replicate slots true
  pub visits : p.visits ≡ 0
  pub lent : p.is_lent ≡ false
  pub written : p.written ≡ None
