-- Where nodes are known and sound, no block is bad.
use Rattle.std.proofs.Common.{◌≡◌, ℕ, ◌≤◌, List, Option, None, Some, inl, inr, refl, sym, subst, ap, ◌∙◌}
use Rattle.std.specs.Prelude.{IsSome}
use Rattle.std.proofs.lemmas.Bool.{false≢true}
use Rattle.bd_device.specs.Blocks.{Image}
use Rattle.bd_device.specs.declared.device.Device.{Ghosts}
use Rattle.bd_format.specs.Decoding.{node_in}
use Rattle.bd_format.specs.Images.{IsImage}
use Rattle.bd_node.specs.declared.node.Node.{Node}
use Rattle.bd_node.specs.Tables.{Table, IsNodeOf, IsSound}
use Rattle.bd_pager.specs.declared.place.Place.{Place}
use Rattle.bd_pager.specs.declared.place.Place.TheVariants.{Memory, Slot}
use Rattle.bd_pager.specs.declared.place.Spot.{Spot}
use Rattle.bd_pager.specs.Places.{refs_in, level_in, nodes_at, node_at, node_of, IsBadPlace, IsBadSpot}
use Rattle.bd_pager.specs.Pagers.{Paged, spots_of, table_of, IsPaged, is_bad}
use Rattle.bd_tails.specs.Tails.{slot_bytes}
use Rattle.bd_engine.specs.Engines.{HasSoundNodes}

-- the node that bytes decode to is that of their image
abbrev pub Decodes : Type 0
Decodes = (n : Node) (bytes : List ℕ) → node_in bytes ≡ Some n → IsImage n bytes

-- where a place has a node of its level
good_place : Decodes → (image : Image) (t : Table) (level b : ℕ) (p : Place) (n : Node) → node_at image p ≡ Some n → IsNodeOf t level n → IsBadPlace (Some image) level p b → ⊥
good_place law image t level b (Memory node slot) n there own bad = bad
good_place law image t level b (Slot slot (Some node)) n there own bad = bad
good_place law image t level b (Slot slot None) n there own bad = bad.1 n (record { shape = own.shape; level_is = own.level_is; image_is = law n (slot_bytes image slot) there })

good_spot : {D : Type 0} (law : Decodes) (p : Paged D) (contents : Option Image) (id b : ℕ) (o : Option Spot) → spots_of p id ≡ o → IsSome contents → IsSound (nodes_at contents (spots_of p)) (table_of p)
    → ((s : Spot) → spots_of p id ≡ Some s → 1 ≤ s.refs) → IsBadSpot contents o b → ⊥
good_spot law p contents id b None is there sound used bad = bad
good_spot law p None id b (Some s) is there sound used bad = absurd (false≢true there)
good_spot law p (Some image) id b (Some s) is there sound used bad =
    let kept : 1 ≤ refs_in (spots_of p id) = subst (λ (o : Option Spot). 1 ≤ refs_in o) (sym is) (used s is) in
    let stored = sound.each id kept in
    good_place law image (table_of p) s.level b s.place stored.node (ap (node_of image) (sym is) ∙ stored.there)
    (subst (λ (o : Option Spot). IsNodeOf (table_of p) (level_in o) stored.node) is stored.of_table) bad

pub none_bad : {D : Type 0} (g : Ghosts D) (p : Paged D) → Decodes → IsPaged (g.contents p.dev) p → HasSoundNodes g p → (block : ℕ) → is_bad g p block → ⊥
none_bad g p law h s block bad =
    elim (bad s.known) [
      | inl spot ↦ good_spot law p (g.contents p.dev) spot.0 block (spots_of p spot.0) refl s.known.contents_told s.sound (h.used spot.0) spot.1
      | inr table ↦ table.1 s.sound
    ]
