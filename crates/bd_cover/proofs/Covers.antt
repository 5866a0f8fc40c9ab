-- Which messages decide all keys of a range.
use Rattle.std.proofs.Common.{◌≡◌, ◌↔◌, ℕ, ◌+◌, ◌<◌, ◌≤◌, Bool, true, false, not, List, [], ◌++◌, length, take, drop, sym, ap, subst, ◌∙◌, Option, Some, IsTrue, arith, inl, inr}
use Rattle.std.specs.Prelude.{slice_get}
use Rattle.std.proofs.lemmas.Bool.{and_parts, and_from, cases_eq}
use Rattle.std.proofs.lemmas.List.{take-take, length-take-le}
use Rattle.std.proofs.lemmas.Option.{same_Some, slice_get_within}
use Rattle.bd_keys.specs.Keys.{key_cmp, IsKey, IsBelowEnd, IsAtLeast, Begins, IsCommon, IsLift}
use Rattle.bd_keys.proofs.Order.{not_below_itself, below_from, key_cmp-front}
use Rattle.bd_message.specs.declared.message.Message.{Message}
use Rattle.bd_message.specs.declared.message.Message.TheVariants.{Put, Del, Patch, Cut, Goto}
use Rattle.bd_message.specs.Effect.{begins, rest, is_cut}
use Rattle.bd_message.proofs.Finds.{begins-is, not_both}
use Rattle.bd_node.specs.declared.node.Edge.{Edge}
use Rattle.bd_node.specs.declared.node.Node.{Node}
use Rattle.bd_node.specs.Touching.{touches}
use Rattle.bd_node.specs.Shape.{end_before, IsShape}
use Rattle.bd_node.proofs.Edges.{not_less_lt}
use Rattle.bd_node.specs.Parts.{edges_of, buffer_of, end_at, IsEdgeAt}
use Rattle.bd_inner.proofs.Fitting.{own_shape}
use Rattle.bd_node.proofs.Touched.{cut_first}
use Rattle.bd_inner.proofs.CarvingOwned.{begins_front, front_begins}
use Rattle.bd_node.proofs.Parts.{edge_within}
use Rattle.bd_cover.specs.declared.covering.Cover.{Cover}
use Rattle.bd_cover.specs.declared.covering.Cover.TheVariants.{Gone, Elsewhere}
use Rattle.bd_cover.specs.Covering.{Says, TouchesAll, Decides, NoneDecides, IsNewest, IsCovered, HasNoCovered, IsFirstCovered}

-- ---- prefixes of ranges

-- what the first key has in common with all it has also in a shorter part
shorter : (p lo : List ℕ) (hi : Option (List ℕ)) (n : ℕ) → IsLift lo hi n → Begins lo p → length p ≤ n → IsCommon lo hi p
shorter p lo hi n lift begun short k key range =
    let full : take n k ≡ take n lo = ap (λ (i : ℕ). take i k) (sym (length-take-le n lo lift.within)) ∙ lift.common k key range in
    sym (take-take (length p) n k short) ∙ ap (λ (l : List ℕ). take (length p) l) full ∙ take-take (length p) n lo short ∙ begun

pub is_common : (p lo : List ℕ) (hi : Option (List ℕ)) (n : ℕ) (r : Bool) → IsKey lo → IsBelowEnd lo hi → IsLift lo hi n → IsTrue r ↔ Begins lo p → r ≡ true → length p ≤ n → IsCommon lo hi p
is_common p lo hi n r key below lift begun holds short = shorter p lo hi n lift (begun.0 holds) short

pub common_begins : (p lo : List ℕ) (hi : Option (List ℕ)) → IsKey lo → IsBelowEnd lo hi → IsCommon lo hi p → Begins lo p
common_begins p lo hi key below common = common lo key (not_below_itself lo, below)

-- ---- Cuts

at_least_both : (a b c : List ℕ) → IsAtLeast a b → IsAtLeast b c → IsAtLeast a c
at_least_both a b c first second less = first (below_from a c b less second)

cut_holds : (p x k : List ℕ) → begins k p ≡ true → IsAtLeast k (p ++ x) → is_cut p x k ≡ true
cut_holds p x k begun least =
    and_from _ _ begun
    (ap not (not_less_lt (key_cmp (rest p k) x)
    (λ less. least (ap (λ (l : List ℕ). key_cmp l (p ++ x)) (begins-is k p begun) ∙ key_cmp-front p (rest p k) x ∙ less))))

-- ---- all keys of a range

-- each message that says something of all its keys has a prefix
abbrev pub prefix_of : Message → List ℕ
prefix_of (Put key value) = []
prefix_of (Del key) = []
prefix_of (Patch key off bytes) = []
prefix_of (Cut prefix from) = prefix
prefix_of (Goto prefix source child) = prefix

touch_begins : (cover : Cover) (m : Message) (k : List ℕ) → Says cover m → touches m k ≡ true → Begins k (prefix_of m)
touch_begins Gone (Put key value) k says touch = absurd says
touch_begins Gone (Del key) k says touch = absurd says
touch_begins Gone (Patch key off bytes) k says touch = absurd says
touch_begins Gone (Cut prefix from) k says touch = begins_front prefix k (and_parts _ _ touch).0
touch_begins Gone (Goto prefix source child) k says touch = absurd says
touch_begins Elsewhere (Put key value) k says touch = absurd says
touch_begins Elsewhere (Del key) k says touch = absurd says
touch_begins Elsewhere (Patch key off bytes) k says touch = absurd says
touch_begins Elsewhere (Cut prefix from) k says touch = absurd says
touch_begins Elsewhere (Goto prefix source child) k says touch = begins_front prefix k touch

pub all_common : (cover : Cover) (m : Message) (lo : List ℕ) (hi : Option (List ℕ)) → Says cover m → TouchesAll m lo hi → IsCommon lo hi (prefix_of m)
all_common cover m lo hi says all k key range = touch_begins cover m k says (all.each k key range)

pub cut_all : (p x lo : List ℕ) (hi : Option (List ℕ)) → IsCommon lo hi p → is_cut p x lo ≡ true → TouchesAll (Cut p x) lo hi
cut_all p x lo hi common first = record {
  first = first;
  each = λ k key range. cut_holds p x k (front_begins p k (common k key range)) (at_least_both k lo (p ++ x) range.0 (cut_first p x lo first));
}

pub goto_all : (p s : List ℕ) (child : ℕ) (lo : List ℕ) (hi : Option (List ℕ)) → IsKey lo → IsBelowEnd lo hi → IsCommon lo hi p → TouchesAll (Goto p s child) lo hi
goto_all p s child lo hi key below common = record {
  first = front_begins p lo (common_begins p lo hi key below common);
  each = λ k own range. front_begins p k (common k own range);
}

pub common_iff : (p lo : List ℕ) (hi : Option (List ℕ)) (n : ℕ) → IsKey lo → IsBelowEnd lo hi → IsLift lo hi n → IsCommon lo hi p → Begins lo p × (length p ≤ n)
common_iff p lo hi n key below lift common = (common_begins p lo hi key below common, lift.longest p common)

-- ---- the newest message

-- no message from a place on decides all keys of the edge
abbrev pub NoneFrom : Cover → List Message → Edge → Option (List ℕ) → ℕ → Type 0
NoneFrom cover buffer e hi at = (i : ℕ) (m : Message) → at ≤ i → slice_get buffer i ≡ Some m → Decides cover i m e hi → ⊥

pub none_past : (cover : Cover) (buffer : List Message) (e : Edge) (hi : Option (List ℕ)) (at : ℕ) → at ≡ length buffer → NoneFrom cover buffer e hi at
none_past cover buffer e hi at long i m high there decides = (let low : i < length buffer = slice_get_within buffer i m there in absurd (omega arith))

pub none_lower : (cover : Cover) (buffer : List Message) (e : Edge) (hi : Option (List ℕ)) (at : ℕ) (m : Message) → NoneFrom cover buffer e hi (at + 1) → slice_get buffer at ≡ Some m → (Says cover m → TouchesAll m e.pivot hi → ⊥) → NoneFrom cover buffer e hi at
none_lower cover buffer e hi at m after there not i x high at_i decides =
    elim (cases_eq i at) [
      | inl same ↦
          let own : x ≡ m = same_Some x m (sym at_i ∙ ap (λ (n : ℕ). slice_get buffer n) same ∙ there) in
          not (subst (λ (y : Message). Says cover y) own decides.1) (subst (λ (y : Message). TouchesAll y e.pivot hi) own decides.2)
      | inr other ↦ after i x (omega arith) at_i decides
    ]

pub none_seen : (cover : Cover) (buffer : List Message) (e : Edge) (hi : Option (List ℕ)) (at seen : ℕ) → seen ≡ e.seen → at ≤ seen → NoneFrom cover buffer e hi at → NoneDecides cover buffer e hi
none_seen cover buffer e hi at seen is low none i m there decides = (let unseen : e.seen ≤ i = decides.0 in none i m (omega arith) there decides)

pub is_newest : (cover : Cover) (buffer : List Message) (e : Edge) (hi : Option (List ℕ)) (at : ℕ) (m : Message) → NoneFrom cover buffer e hi (at + 1) → slice_get buffer at ≡ Some m → e.seen ≤ at → Says cover m → TouchesAll m e.pivot hi → IsNewest cover buffer e hi at
is_newest cover buffer e hi at m after there unseen says all = record {
  message = m;
  there = there;
  decides = (unseen, says, all);
  newest = λ i x later at_i. after i x (omega arith) at_i;
}

-- ---- the first edge

abbrev pub NoneCoveredBefore : Cover → Node → ℕ → Type 0
NoneCoveredBefore cover n place = (i j : ℕ) → i < place → IsCovered cover n i j → ⊥

decides_at : (cover : Cover) (n : Node) (place at : ℕ) (e : Edge) (buffer : List Message) (hi : Option (List ℕ)) (m : Message) → buffer ≡ buffer_of n → hi ≡ end_at n place → (c : IsCovered cover n place at) → IsEdgeAt n place e → slice_get buffer at ≡ Some m → Decides cover at m e hi
decides_at cover n place at e buffer hi m same end c here there =
    let own : c.edge ≡ e = same_Some c.edge e (sym c.here ∙ here) in
    let that : c.message ≡ m = same_Some c.message m (sym c.there ∙ ap (λ (l : List Message). slice_get l at) (sym same) ∙ there) in
    subst (λ (o : Option (List ℕ)). Decides cover at m e o) (sym end)
    (subst (λ (x : Edge). Decides cover at m x (end_at n place)) own (subst (λ (x : Message). Decides cover at x c.edge (end_at n place)) that c.decides))

message_there : (cover : Cover) (n : Node) (place at : ℕ) (buffer : List Message) → buffer ≡ buffer_of n → (c : IsCovered cover n place at) → slice_get buffer at ≡ Some c.message
message_there cover n place at buffer same c = ap (λ (l : List Message). slice_get l at) same ∙ c.there

pub none_more : (cover : Cover) (n : Node) (place : ℕ) (e : Edge) (buffer : List Message) (hi : Option (List ℕ)) → NoneCoveredBefore cover n place → IsEdgeAt n place e → buffer ≡ buffer_of n → hi ≡ end_at n place → NoneDecides cover buffer e hi → NoneCoveredBefore cover n (place + 1)
none_more cover n place e buffer hi before here same end none i j low c =
    elim (cases_eq i place) [
      | inl is ↦
          let own : IsCovered cover n place j = subst (λ (k : ℕ). IsCovered cover n k j) is c in
          let there : slice_get buffer j ≡ Some own.message = message_there cover n place j buffer same own in
          none j own.message there (decides_at cover n place j e buffer hi own.message same end own here there)
      | inr other ↦ before i j (omega arith) c
    ]

pub first_one : (cover : Cover) (n : Node) (place at : ℕ) (e : Edge) (buffer : List Message) (hi : Option (List ℕ)) → NoneCoveredBefore cover n place → IsEdgeAt n place e → buffer ≡ buffer_of n → hi ≡ end_at n place → IsNewest cover buffer e hi at → IsFirstCovered cover n place at
first_one cover n place at e buffer hi before here same end new = record {
  covered = record {
    edge = e;
    here = here;
    message = new.message;
    there = ap (λ (l : List Message). slice_get l at) (sym same) ∙ new.there;
    decides = subst (λ (o : Option (List ℕ)). Decides cover at new.message e o) end new.decides;
  };
  newest = λ j later c.
      let there : slice_get buffer j ≡ Some c.message = message_there cover n place j buffer same c in
      new.newest j c.message later there (decides_at cover n place j e buffer hi c.message same end c here there);
  first = before;
}

pub none_at_all : (cover : Cover) (n : Node) (place : ℕ) → NoneCoveredBefore cover n place → length (edges_of n) ≤ place → HasNoCovered cover n
none_at_all cover n place before long i j c =
    let low : i < length (edges_of n) = edge_within n i c.edge c.here in
    before i j (omega arith) c

-- ---- tests

pub cut_decides : (m : Message) (prefix from p lo : List ℕ) (hi : Option (List ℕ)) (common touch : Bool) → m ≡ Cut prefix from → p ≡ prefix → IsTrue common ↔ IsCommon lo hi p → common ≡ true → touch ≡ touches m lo → IsTrue touch ↔ TouchesAll m lo hi
cut_decides m prefix from p lo hi common touch is same decides holds tested = (
  (λ t.
      let first : is_cut prefix from lo ≡ true = ap (λ (x : Message). touches x lo) (sym is) ∙ sym tested ∙ t in
      subst (λ (x : Message). TouchesAll x lo hi) (sym is) (cut_all prefix from lo hi (subst (λ (l : List ℕ). IsCommon lo hi l) same (decides.0 holds)) first)),
  (λ all. tested ∙ all.first),
)

pub prefix_decides : (cover : Cover) (m : Message) (p lo : List ℕ) (hi : Option (List ℕ)) → Says cover m → p ≡ prefix_of m → TouchesAll m lo hi → IsCommon lo hi p
prefix_decides cover m p lo hi says same all = subst (λ (l : List ℕ). IsCommon lo hi l) (sym same) (all_common cover m lo hi says all)

pub goto_decides : (cover : Cover) (m : Message) (prefix source : List ℕ) (child : ℕ) (p lo : List ℕ) (hi : Option (List ℕ)) (common : Bool) → m ≡ Goto prefix source child → p ≡ prefix → IsKey lo → IsBelowEnd lo hi → IsTrue common ↔ IsCommon lo hi p → Says cover m → IsTrue common ↔ TouchesAll m lo hi
goto_decides cover m prefix source child p lo hi common is same key below decides says = (
  (λ t. subst (λ (x : Message). TouchesAll x lo hi) (sym is) (goto_all prefix source child lo hi key below (subst (λ (l : List ℕ). IsCommon lo hi l) same (decides.0 t)))),
  (λ all. decides.1 (prefix_decides cover m p lo hi says (same ∙ ap prefix_of (sym is)) all)),
)

pub none_common : (p lo : List ℕ) (hi : Option (List ℕ)) (r : Bool) → IsKey lo → IsBelowEnd lo hi → IsTrue r ↔ Begins lo p → r ≡ false → IsTrue r ↔ IsCommon lo hi p
none_common p lo hi r key below begun not = (
  (λ t. absurd (not_both t not)),
  (λ common. begun.1 (common_begins p lo hi key below common)),
)

-- ---- places

pub place_low : (n : Node) (es : List Edge) (place : ℕ) → es ≡ edges_of n → place < length es → place < length (edges_of n)
place_low n es place same low = subst (λ (l : List Edge). place < length l) same low

-- where the keys of an edge end, as it is read
pub end_read : (n : Node) (es : List Edge) (place : ℕ) (hi : Option (List ℕ)) → es ≡ edges_of n → hi ≡ end_before (drop (place + 1) es) → hi ≡ end_at n place
end_read n es place hi same end = end ∙ ap (λ (l : List Edge). end_before (drop (place + 1) l)) same

pub rising_read : (n : Node) (place : ℕ) (e : Edge) (hi : Option (List ℕ)) → IsShape n → IsEdgeAt n place e → hi ≡ end_at n place → IsBelowEnd e.pivot hi
rising_read n place e hi shape here end = subst (λ (o : Option (List ℕ)). IsBelowEnd e.pivot o) (sym end) (own_shape n place e shape here).rising

pub past_all : (n : Node) (es : List Edge) (place : ℕ) → es ≡ edges_of n → length es ≤ place → length (edges_of n) ≤ place
past_all n es place same high = subst (λ (l : List Edge). length l ≤ place) same high
