-- Copies in memory of nodes that are in slots.
use Rattle.std.proofs.Common.{◌≡◌, ℕ, Bool, cond, eqb, List, Option, None, Some, IfSome, refl, sym, ap, subst, ◌∙◌, inl, inr}
use Rattle.std.specs.Prelude.{IsSome}
use Rattle.std.specs.Global.{Global}
use Rattle.std.specs.declared.rc.Rc.{Rc}
use Rattle.std.proofs.lemmas.Bool.{cases_eq, cond-true, cond-false, eq-eqb, ne_eqb}
use Rattle.std.proofs.lemmas.Option.{none-some, same_Some}
use Rattle.bd_device.specs.Blocks.{Image}
use Rattle.bd_node.specs.declared.node.Node.{Node}
use Rattle.bd_pager.specs.declared.place.Place.{Place}
use Rattle.bd_pager.specs.declared.place.Place.TheVariants.{Memory, Slot}
use Rattle.bd_pager.specs.declared.place.Spot.{Spot}
use Rattle.bd_pager.specs.Slots.{IsOfLevel}
use Rattle.bd_pager.specs.Places.{Spots, copy_at, node_at, told, IsReadAt, IsRead, ArePlaced, IsBadPlace, IsBadSpot, NoneTurnsBad}
use Rattle.bd_pager.specs.Pagers.{is_changed_place, IsRightPlace, IsKnownOver, IsPlaceIn}
use Rattle.bd_pager.specs.Stepping.{copied, bare, with_copy, without_copy, moved_copy}
use Rattle.bd_pager.proofs.SlotLemmas.{not_bad}

-- ---- places

pub bare_changed : (spare : List Bool) (p : Place) → is_changed_place spare (bare p) ≡ is_changed_place spare p
bare_changed spare (Memory node slot) = refl
bare_changed spare (Slot slot copy) = refl

pub copied_changed : (spare : List Bool) (node : Rc Node Global) (p : Place) → is_changed_place spare (copied node p) ≡ is_changed_place spare p
copied_changed spare node (Memory own slot) = refl
copied_changed spare node (Slot slot None) = refl
copied_changed spare node (Slot slot (Some own)) = refl

pub bare_in : (spare : List Bool) (p : Place) → IsPlaceIn spare p → IsPlaceIn spare (bare p)
bare_in spare (Memory node slot) within = within
bare_in spare (Slot slot copy) within = within

pub copied_in : (spare : List Bool) (node : Rc Node Global) (p : Place) → IsPlaceIn spare p → IsPlaceIn spare (copied node p)
copied_in spare node (Memory own slot) within = within
copied_in spare node (Slot slot None) within = within
copied_in spare node (Slot slot (Some own)) within = within

pub bare_placed : (level : ℕ) (p : Place) → IfSome (copy_at p) (IsOfLevel level) → IfSome (copy_at (bare p)) (IsOfLevel level)
bare_placed level (Memory node slot) placed = placed
bare_placed level (Slot slot copy) placed = tt

pub copied_placed : (level : ℕ) (node : Rc Node Global) (p : Place) → IsOfLevel level node.value → IfSome (copy_at p) (IsOfLevel level) → IfSome (copy_at (copied node p)) (IsOfLevel level)
copied_placed level node (Memory own slot) of_level placed = placed
copied_placed level node (Slot slot None) of_level placed = of_level
copied_placed level node (Slot slot (Some own)) of_level placed = placed

pub bare_right : (image : Image) (p : Place) → IsRightPlace image p → IsRightPlace image (bare p)
bare_right image (Memory node slot) right = tt
bare_right image (Slot slot copy) right = tt

pub copied_right : (image : Image) (node : Rc Node Global) (p : Place) → node_at image p ≡ Some node.value → IsRightPlace image p → IsRightPlace image (copied node p)
copied_right image node (Memory own slot) there right = tt
copied_right image node (Slot slot None) there right = there
copied_right image node (Slot slot (Some own)) there right = right

pub bare_node : (image : Image) (p : Place) → IsRightPlace image p → node_at image (bare p) ≡ node_at image p
bare_node image (Memory node slot) right = refl
bare_node image (Slot slot None) right = refl
bare_node image (Slot slot (Some own)) right = right

pub copied_node : (image : Image) (node : Rc Node Global) (p : Place) → node_at image p ≡ Some node.value → node_at image (copied node p) ≡ node_at image p
copied_node image node (Memory own slot) there = refl
copied_node image node (Slot slot None) there = sym there
copied_node image node (Slot slot (Some own)) there = refl

-- the copy that is then there
pub copied_copy : (node : Rc Node Global) (p : Place) → IfSome (copy_at p) (λ n. node.value ≡ n) → copy_at (copied node p) ≡ Some node.value
copied_copy node (Memory own slot) same = ap Some (sym same)
copied_copy node (Slot slot None) same = refl
copied_copy node (Slot slot (Some own)) same = ap Some (sym same)

-- a node that is read was in a slot alone
bare_read : (contents : Option Image) (is_lent : Bool) (level : ℕ) (p : Place) (n : Node) → IsReadAt contents is_lent level p n → IsReadAt contents is_lent level (bare p) n
bare_read contents is_lent level (Memory node slot) n read = read
bare_read contents is_lent level (Slot slot None) n read = read
bare_read contents is_lent level (Slot slot (Some own)) n read = absurd read

pub without_read : (contents : Option Image) (is_lent : Bool) (o : Option Spot) (n : Node) → IsRead contents is_lent o n → IsRead contents is_lent (without_copy o) n
without_read contents is_lent None n read = read
without_read contents is_lent (Some s) n read = bare_read contents is_lent s.level s.place n read

-- a copy makes no block bad
copied_bad : (contents : Option Image) (level : ℕ) (node : Rc Node Global) (p : Place) (b : ℕ) → IsBadPlace contents level (copied node p) b → IsBadPlace contents level p b
copied_bad contents level node (Memory own slot) b bad = bad
copied_bad contents level node (Slot slot None) b bad = absurd bad
copied_bad contents level node (Slot slot (Some own)) b bad = bad

with_bad : (contents : Option Image) (copy : Option (Rc Node Global)) (o : Option Spot) (b : ℕ) → IsBadSpot contents (with_copy copy o) b → IsBadSpot contents o b
with_bad contents None o b bad = bad
with_bad contents (Some node) None b bad = bad
with_bad contents (Some node) (Some s) b bad = copied_bad contents s.level node s.place b bad

-- nor does it where it goes, and the slot has it
bare_bad : (contents : Option Image) (level : ℕ) (p : Place) (b : ℕ) → IsSome contents → IsRightPlace (told contents) p → IfSome (copy_at p) (IsOfLevel level) → IsBadPlace contents level (bare p) b → IsBadPlace contents level p b
bare_bad contents level (Memory node slot) b some right placed bad = bad
bare_bad contents level (Slot slot None) b some right placed bad = bad
bare_bad contents level (Slot slot (Some node)) b some right placed bad = not_bad contents slot level b node.value some right placed bad

without_bad : (contents : Option Image) (o : Option Spot) (b : ℕ) → IsSome contents → ((s : Spot) → o ≡ Some s → IsRightPlace (told contents) s.place) → ((s : Spot) → o ≡ Some s → IfSome (copy_at s.place) (IsOfLevel s.level)) → IsBadSpot contents (without_copy o) b → IsBadSpot contents o b
without_bad contents None b some right placed bad = bad
without_bad contents (Some s) b some right placed bad = bare_bad contents s.level s.place b some (right s refl) (placed s refl) bad

-- ---- spots

-- what a spot is when the root moves
pub data Moved (spots : Spots) (old root : ℕ) (copy : Option (Rc Node Global)) (id : ℕ) : Type 0 where
  to_root : id ≡ root → moved_copy old root copy id (spots id) ≡ with_copy copy (spots id) → Moved spots old root copy id
  from_root : moved_copy old root copy id (spots id) ≡ without_copy (spots id) → Moved spots old root copy id
  beside : moved_copy old root copy id (spots id) ≡ spots id → Moved spots old root copy id

module _ (spots : Spots) (old root : ℕ) (copy : Option (Rc Node Global)) where
  abbrev moved : Spots
  moved id = moved_copy old root copy id (spots id)

  pub moved_at : (id : ℕ) → Moved spots old root copy id
  moved_at id =
      let here : Option Spot = with_copy copy (spots id) in
      let other : Option Spot = cond (eqb id old) (without_copy (spots id)) (spots id) in
      elim (cases_eq id root) [
        | inl same ↦ to_root same (cond-true (eqb id root) here other (eq-eqb id root same))
        | inr apart ↦ elim (cases_eq id old) [
          | inl was ↦ from_root (cond-false (eqb id root) here other (ne_eqb id root apart) ∙ cond-true (eqb id old) (without_copy (spots id)) (spots id) (eq-eqb id old was))
          | inr never ↦ beside (cond-false (eqb id root) here other (ne_eqb id root apart) ∙ cond-false (eqb id old) (without_copy (spots id)) (spots id) (ne_eqb id old never))
        ]
      ]

  copy_same : {X : Type 0} (F : Option Spot → X) (c : Option (Rc Node Global)) (o : Option Spot) → ((node : Rc Node Global) (s : Spot) → c ≡ Some node → o ≡ Some s → F (Some (record s { place = copied node s.place })) ≡ F (Some s))
      → F (with_copy c o) ≡ F o
  copy_same F None o same = refl
  copy_same F (Some node) None same = refl
  copy_same F (Some node) (Some s) same = same node s refl refl

  bare_same : {X : Type 0} (F : Option Spot → X) (o : Option Spot) → ((s : Spot) → o ≡ Some s → F (Some (record s { place = bare s.place })) ≡ F (Some s)) → F (without_copy o) ≡ F o
  bare_same F None same = refl
  bare_same F (Some s) same = same s refl

  -- what is the same without a copy, and of the new root with one, is the same of all
  pub same_moved : {X : Type 0} (F : Option Spot → X) → ((id : ℕ) (s : Spot) → spots id ≡ Some s → F (Some (record s { place = bare s.place })) ≡ F (Some s))
      → ((node : Rc Node Global) (s : Spot) → copy ≡ Some node → spots root ≡ Some s → F (Some (record s { place = copied node s.place })) ≡ F (Some s))
      → (id : ℕ) → F (moved id) ≡ F (spots id)
  same_moved {X} F without within id = elim (moved_at id) [
    | to_root same is ↦ ap F is ∙ copy_same F copy (spots id) (λ node s is_copy there. within node s is_copy (ap spots (sym same) ∙ there))
    | from_root is ↦ ap F is ∙ bare_same F (spots id) (λ s there. without id s there)
    | beside is ↦ ap F is
  ]

  copy_kept : (P : Spot → Type 0) (c : Option (Rc Node Global)) (o : Option Spot) → ((node : Rc Node Global) (s : Spot) → c ≡ Some node → o ≡ Some s → P s → P (record s { place = copied node s.place }))
      → ((s : Spot) → o ≡ Some s → P s) → (s : Spot) → with_copy c o ≡ Some s → P s
  copy_kept P None o within all s is = all s is
  copy_kept P (Some node) None within all s is = absurd (none-some s is)
  copy_kept P (Some node) (Some was) within all s is = subst P (same_Some _ s is) (within node was refl refl (all was refl))

  bare_kept : (P : Spot → Type 0) (o : Option Spot) → ((s : Spot) → P s → P (record s { place = bare s.place })) → ((s : Spot) → o ≡ Some s → P s) → (s : Spot) → without_copy o ≡ Some s → P s
  bare_kept P None without all s is = absurd (none-some s is)
  bare_kept P (Some was) without all s is = subst P (same_Some _ s is) (without was (all was refl))

  -- what holds of each spot, also without a copy, and of the new root with one, holds of all
  pub each_moved : (P : ℕ → Spot → Type 0) → ((id : ℕ) (s : Spot) → P id s → P id (record s { place = bare s.place }))
      → ((node : Rc Node Global) (s : Spot) → copy ≡ Some node → spots root ≡ Some s → P root s → P root (record s { place = copied node s.place }))
      → ((id : ℕ) (s : Spot) → spots id ≡ Some s → P id s) → (id : ℕ) (s : Spot) → moved id ≡ Some s → P id s
  each_moved P without within all id s there = elim (moved_at id) [
    | to_root same is ↦
        subst (λ (k : ℕ). P k s) (sym same)
        (copy_kept (P root) copy (spots root) within (all root) s (sym (ap (λ (k : ℕ). with_copy copy (spots k)) same) ∙ sym is ∙ there))
    | from_root is ↦ bare_kept (P id) (spots id) (without id) (all id) s (sym is ∙ there)
    | beside is ↦ all id s (sym is ∙ there)
  ]

  -- no block becomes bad by that
  pub moved_bad : (contents : Option Image) → IsKnownOver contents spots → ArePlaced spots → NoneTurnsBad contents spots contents (λ id. moved_copy old root copy id (spots id))
  moved_bad contents known placed id b bad = elim (moved_at id) [
    | to_root same is ↦ with_bad contents copy (spots id) b (subst (λ (o : Option Spot). IsBadSpot contents o b) is bad)
    | from_root is ↦ without_bad contents (spots id) b known.contents_told (known.right id) (placed id) (subst (λ (o : Option Spot). IsBadSpot contents o b) is bad)
    | beside is ↦ subst (λ (o : Option Spot). IsBadSpot contents o b) is bad
  ]
