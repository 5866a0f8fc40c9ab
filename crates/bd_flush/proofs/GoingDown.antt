-- Messages that may go down an edge.
use Rattle.std.proofs.Common.{◌≡◌, ◌↔◌, ℕ, ◌<◌, Bool, true, false, not, cond, List, [], ◌∷◌, ◌++◌, refl, sym, ap, subst, ◌∙◌, Option, None, Some, IsTrue, arith, inl, inr}
use Rattle.std.specs.List.{AllByRecursion, flat_map}
use Rattle.std.specs.Option.{option_map, option_to_list}
use Rattle.std.specs.Prelude.{IfSome}
use Rattle.std.proofs.lemmas.Bool.{cases_Bool}
use Rattle.std.proofs.lemmas.List.Concat.{flat_map-append}
use Rattle.bd_keys.specs.Keys.{IsKey, IsBelow, IsAtLeast}
use Rattle.bd_keys.proofs.Order.{not_below_itself, below_from}
use Rattle.bd_message.specs.declared.message.Message.{Message}
use Rattle.bd_message.specs.declared.message.Message.TheVariants.{Put, Del, Patch, Cut, Goto}
use Rattle.bd_message.specs.Effect.{begins, rest}
use Rattle.bd_message.specs.Freeing.{stripped, narrowed, freed}
use Rattle.bd_message.specs.Messages.{IsPlain}
use Rattle.bd_message.proofs.Finds.{begins-is, not_both}
use Rattle.bd_message.proofs.Prefixes.{joined_other, begins_itself}
use Rattle.bd_node.specs.declared.node.Edge.{Edge}
use Rattle.bd_node.specs.declared.node.Node.{Node}
use Rattle.bd_node.specs.Nodes.{message_names}
use Rattle.bd_node.specs.Shape.{IsShape}
use Rattle.bd_node.proofs.Lookup.{each_weaker, each_first, each_second, each_both}
use Rattle.bd_inner.specs.Batches.{lifted, IsLifted, CanMove, IsPart, AreParts}
use Rattle.bd_node.specs.Pushes.{IsPlainFor}
use Rattle.bd_node.specs.Parts.{end_at, IsEdgeAt}
use Rattle.bd_inner.proofs.CarvingOwned.{front_begins, least_begins}
use Rattle.bd_inner.proofs.Fitting.{edge_lifted}
use Rattle.bd_inner.proofs.Moved.{freed_names}
use Rattle.bd_flush.specs.GoingDown.{IsBelowAll, LiesWithin, MayGoDown, GoesDown}
use Rattle.bd_flush.specs.Pushing.{unseen, AllGoDown, CanMoveSome, IsWaitedFor}

-- ---- all keys that begin with a prefix

not_true : (b : Bool) → not b ≡ true → b ≡ false
not_true true h = cc
not_true false h = refl

below_all : (p h : List ℕ) → IsBelow p h → begins h p ≡ false → IsBelowAll p h
below_all p h below other k inside = subst (λ (l : List ℕ). IsBelow l h) (sym (begins-is k p inside)) (joined_other p (rest p k) h other ∙ below)

all_below : (p h : List ℕ) → IsBelowAll p h → IsBelow p h × (begins h p ≡ false)
all_below p h all = (
  all p (begins_itself p),
  elim (cases_Bool (begins h p)) [
    | inl inside ↦ absurd (not_below_itself h (all h inside))
    | inr other ↦ other
  ],
)

-- as it is tested
pub ends_below : (p h : List ℕ) (r : Bool) → IsBelow p h → r ≡ begins h p → IsTrue (not r) ↔ IsBelowAll p h
ends_below p h r below is = ((λ holds. below_all p h below (sym is ∙ not_true r holds)), (λ all. ap not (is ∙ (all_below p h all).1)))

pub ends_above : (p h : List ℕ) (r : Bool) → r ≡ false → IsAtLeast p h → IsTrue r ↔ IsBelowAll p h
ends_above p h r other least = ((λ holds. absurd (not_both holds other)), (λ all. absurd (least (all_below p h all).0)))

pub lies_not : (p lo : List ℕ) (hi : Option (List ℕ)) (r : Bool) → r ≡ false → IsTrue r ↔ IsAtLeast p lo → IsTrue false ↔ LiesWithin p lo hi
lies_not p lo hi r other is = ((λ holds. cc), (λ h. absurd (not_both (is.1 (h.range p (begins_itself p)).0) other)))

at_least_all : (p lo k : List ℕ) → IsAtLeast p lo → begins k p ≡ true → IsAtLeast k lo
at_least_all p lo k least inside below = least_begins p k k inside (not_below_itself k) (below_from k lo p below least)

pub lies_open : (p lo : List ℕ) → IsKey p → IsAtLeast p lo → IsTrue true ↔ LiesWithin p lo None
lies_open p lo bytes least = ((λ holds. record { bytes = bytes; range = λ k inside. (at_least_all p lo k least inside, tt) }), (λ h. refl))

pub lies_below : (p lo hi : List ℕ) (r : Bool) → IsKey p → IsAtLeast p lo → IsTrue r ↔ IsBelowAll p hi → IsTrue r ↔ LiesWithin p lo (Some hi)
lies_below p lo hi r bytes least is = (
  (λ holds. record { bytes = bytes; range = λ k inside. (at_least_all p lo k least inside, is.0 holds k inside) }),
  (λ h. is.1 (λ k inside. (h.range k inside).1)),
)

-- ---- what may go down can be moved

goes_move : (level : ℕ → ℕ) (top : ℕ) (e : Edge) (hi : Option (List ℕ)) → IsLifted e hi → (m : Message) → GoesDown level top e hi m → CanMove e hi m
goes_move level top e hi h (Put key value) down = λ k range touch. tt
goes_move level top e hi h (Del key) down = λ k range touch. tt
goes_move level top e hi h (Patch key off bytes) down = λ k range touch. tt
goes_move level top e hi h (Cut prefix from) down = λ k range touch. tt
goes_move level top e hi h (Goto prefix source child) down = λ k range touch.
    let lies : LiesWithin prefix e.pivot hi = (down (k, range, touch)).1 in
    front_begins (lifted e) prefix (h.common prefix lies.bytes (lies.range prefix (begins_itself prefix)))

plain_move : (e : Edge) (hi : Option (List ℕ)) (m : Message) → IsPlainFor e hi m → CanMove e hi m
plain_move e hi (Put key value) plain = λ k range touch. tt
plain_move e hi (Del key) plain = λ k range touch. tt
plain_move e hi (Patch key off bytes) plain = λ k range touch. tt
plain_move e hi (Cut prefix from) plain = λ k range touch. tt
plain_move e hi (Goto prefix source child) plain = λ k range touch. absurd (plain k range touch)

-- to a leaf, or where there is no child, only what names no node
goes_plain : (level : ℕ → ℕ) (e : Edge) (hi : Option (List ℕ)) (m : Message) → GoesDown level 0 e hi m → IsPlainFor e hi m
goes_plain level e hi (Put key value) down = λ k range touch. tt
goes_plain level e hi (Del key) down = λ k range touch. tt
goes_plain level e hi (Patch key off bytes) down = λ k range touch. tt
goes_plain level e hi (Cut prefix from) down = λ k range touch. tt
goes_plain level e hi (Goto prefix source child) down = λ k range touch.
    let lower : level child < 0 = (down (k, range, touch)).0 in
    absurd (omega arith)

pub all_move : (level : ℕ → ℕ) (top : ℕ) (n : Node) (place : ℕ) (e : Edge) → IsShape n → IsEdgeAt n place e → AllGoDown level top n place e → AllByRecursion (CanMove e (end_at n place)) (unseen n e)
all_move level top n place e shape here h =
    each_weaker (GoesDown level top e (end_at n place)) (CanMove e (end_at n place)) (goes_move level top e (end_at n place) (edge_lifted n place e shape here)) (unseen n e) h

pub all_plain : (level : ℕ → ℕ) (n : Node) (place : ℕ) (e : Edge) → AllGoDown level 0 n place e → AllByRecursion (IsPlainFor e (end_at n place)) (unseen n e)
all_plain level n place e h = each_weaker (GoesDown level 0 e (end_at n place)) (IsPlainFor e (end_at n place)) (goes_plain level e (end_at n place)) (unseen n e) h

pub waits_move : (n : Node) (place : ℕ) (e : Edge) → IsWaitedFor n place e → CanMoveSome n place e
waits_move n place e h = record {
  some = h.some;
  each = each_weaker (IsPlainFor e (end_at n place)) (CanMove e (end_at n place)) (plain_move e (end_at n place)) (unseen n e) h.plain;
}

-- ---- the nodes that it names are lower than the child

message_low : (level : ℕ → ℕ) (top : ℕ) (e : Edge) (hi : Option (List ℕ)) (m : Message) → MayGoDown level top e hi m → AllByRecursion (λ (x : ℕ). level x < top) (message_names m)
message_low level top e hi (Put key value) h = tt
message_low level top e hi (Del key) h = tt
message_low level top e hi (Patch key off bytes) h = tt
message_low level top e hi (Cut prefix from) h = tt
message_low level top e hi (Goto prefix source child) h = (h.0, tt)

some_low : (P : ℕ → Type 0) (o : Option Message) (m : Message) → IfSome o (λ n. message_names n ≡ message_names m) → AllByRecursion P (message_names m) → AllByRecursion P (flat_map message_names (option_to_list o))
some_low P None m is h = tt
some_low P (Some n) m is h = each_both P (message_names n) [] (subst (λ (l : List ℕ). AllByRecursion P l) (sym is) h) tt

pub parts_low : (level : ℕ → ℕ) (top : ℕ) (e : Edge) (hi : Option (List ℕ)) (list moved : List Message) → AllByRecursion (GoesDown level top e hi) list → AreParts e hi list moved → AllByRecursion (λ (x : ℕ). level x < top) (flat_map message_names moved)
parts_low level top e hi [] moved down parts = subst (λ (l : List Message). AllByRecursion (λ (x : ℕ). level x < top) (flat_map message_names l)) (sym parts) tt
parts_low level top e hi (m ∷ list) moved down parts =
    let P : ℕ → Type 0 = λ (x : ℕ). level x < top in
    let later : AllByRecursion P (flat_map message_names parts.1) = parts_low level top e hi list parts.1 down.1 parts.3 in
    let own : AllByRecursion P (flat_map message_names parts.0) = elim parts.2 [
      | inl can ↦
          subst (λ (l : List Message). AllByRecursion P (flat_map message_names l)) (sym can.1)
          (some_low P (freed (lifted e) m) m (freed_names (lifted e) m) (message_low level top e hi m (down.0 can.0)))
      | inr none ↦ subst (λ (l : List Message). AllByRecursion P (flat_map message_names l)) (sym none.1) tt
    ] in
    subst (λ (l : List Message). AllByRecursion P (flat_map message_names l)) (sym parts.4)
    (subst (λ (l : List ℕ). AllByRecursion P l) (sym (flat_map-append message_names parts.0 parts.1))
    (each_both P (flat_map message_names parts.0) (flat_map message_names parts.1) own later))

-- ---- what names no node once it has gone down, named none before

freed_goto : (s prefix source : List ℕ) (child : ℕ) → begins prefix s ≡ true → freed s (Goto prefix source child) ≡ Some (Goto (rest s prefix) source child)
freed_goto s prefix source child h = ap (λ (b : Bool). option_map (stripped s) (cond b (Some (Goto prefix source child)) (narrowed s (Goto prefix source child)))) h

plain_part : (e : Edge) (hi : Option (List ℕ)) (m : Message) (part : List Message) → CanMove e hi m → IsPart e hi m part → AllByRecursion IsPlain part → IsPlainFor e hi m
plain_part e hi (Put key value) part move is plain = λ k range touch. tt
plain_part e hi (Del key) part move is plain = λ k range touch. tt
plain_part e hi (Patch key off bytes) part move is plain = λ k range touch. tt
plain_part e hi (Cut prefix from) part move is plain = λ k range touch. tt
plain_part e hi (Goto prefix source child) part move is plain = λ k range touch.
    elim is [
      | inl can ↦
          (let own : part ≡ Goto (rest (lifted e) prefix) source child ∷ [] = can.1 ∙ ap option_to_list (freed_goto (lifted e) prefix source child (move k range touch)) in
          (subst (λ (l : List Message). AllByRecursion IsPlain l) own plain).0)
      | inr none ↦ absurd (none.0 (k, range, touch))
    ]

pub parts_plain : (e : Edge) (hi : Option (List ℕ)) (list moved : List Message) → AllByRecursion (CanMove e hi) list → AreParts e hi list moved → AllByRecursion IsPlain moved → AllByRecursion (IsPlainFor e hi) list
parts_plain e hi [] moved move parts plain = tt
parts_plain e hi (m ∷ list) moved move parts plain =
    let both : AllByRecursion IsPlain (parts.0 ++ parts.1) = subst (λ (l : List Message). AllByRecursion IsPlain l) parts.4 plain in
    (plain_part e hi m parts.0 move.0 parts.2 (each_first IsPlain parts.0 parts.1 both), parts_plain e hi list parts.1 move.1 parts.3 (each_second IsPlain parts.0 parts.1 both))
