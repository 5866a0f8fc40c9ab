-- For which edges a Cut is pending.
use Rattle.std.proofs.Common.{◌≡◌, ℕ, ◌+◌, ◌<◌, ◌≤◌, List, length, sym, ap, subst, ◌∙◌, Option, Some, arith, inl, inr}
use Rattle.std.specs.Prelude.{slice_get}
use Rattle.std.proofs.lemmas.Bool.{cases_eq}
use Rattle.std.proofs.lemmas.Option.{same_Some, slice_get_within}
use Rattle.bd_message.specs.declared.message.Message.{Message}
use Rattle.bd_node.specs.declared.node.Edge.{Edge}
use Rattle.bd_node.specs.declared.node.Node.{Node}
use Rattle.bd_node.specs.Shape.{IsPending}
use Rattle.bd_node.specs.Parts.{edges_of, buffer_of, end_at, IsEdgeAt}
use Rattle.bd_node.specs.Touching.{CanTouch}
use Rattle.bd_node.proofs.Parts.{edge_within}
use Rattle.bd_cover.specs.declared.covering.Cover.TheVariants.{Gone}
use Rattle.bd_cover.specs.Covering.{Says, IsCutFor, HasCut, HasNoCut, IsFirstCut}

-- ---- the messages before a place

-- none of them is a Cut that is pending for the edge
abbrev pub NoCutBelow : List Message → Edge → Option (List ℕ) → ℕ → Type 0
NoCutBelow buffer e hi at = (i : ℕ) (m : Message) → i < at → slice_get buffer i ≡ Some m → Says Gone m → IsPending i m e hi → ⊥

pub no_cut_more : (buffer : List Message) (e : Edge) (hi : Option (List ℕ)) (at : ℕ) (m : Message) → NoCutBelow buffer e hi at → slice_get buffer at ≡ Some m → (e.seen ≤ at → Says Gone m → CanTouch m e.pivot hi → ⊥) → NoCutBelow buffer e hi (at + 1)
no_cut_more buffer e hi at m before there not i x low at_i says pending =
    elim (cases_eq i at) [
      | inl same ↦
          let own : x ≡ m = same_Some x m (sym at_i ∙ ap (λ (n : ℕ). slice_get buffer n) same ∙ there) in
          let unseen : e.seen ≤ i = pending.0 in
          not (omega arith) (subst (λ (y : Message). Says Gone y) own says) (subst (λ (y : Message). CanTouch y e.pivot hi) own pending.1)
      | inr other ↦ before i x (omega arith) at_i says pending
    ]

pub no_cut_at_all : (buffer : List Message) (e : Edge) (hi : Option (List ℕ)) (at : ℕ) → NoCutBelow buffer e hi at → length buffer ≤ at → IsCutFor buffer e hi → ⊥
no_cut_at_all buffer e hi at before long c =
    let low : c.at < length buffer = slice_get_within buffer c.at c.message c.there in
    before c.at c.message (omega arith) c.there c.cut c.pending

-- ---- the edges before a place

-- for none of them a Cut is pending
abbrev pub NoCutBefore : Node → ℕ → Type 0
NoCutBefore n place = (i : ℕ) → i < place → HasCut n i → ⊥

-- what is pending for an edge, in other spelling
cut_read : (n : Node) (place : ℕ) (e : Edge) (buffer : List Message) (hi : Option (List ℕ)) → buffer ≡ buffer_of n → hi ≡ end_at n place → IsCutFor buffer e hi → IsCutFor (buffer_of n) e (end_at n place)
cut_read n place e buffer hi same end c = subst (λ (o : Option (List ℕ)). IsCutFor (buffer_of n) e o) end (subst (λ (l : List Message). IsCutFor l e hi) same c)

cut_back : (n : Node) (place : ℕ) (e : Edge) (buffer : List Message) (hi : Option (List ℕ)) → buffer ≡ buffer_of n → hi ≡ end_at n place → IsCutFor (buffer_of n) e (end_at n place) → IsCutFor buffer e hi
cut_back n place e buffer hi same end c = subst (λ (o : Option (List ℕ)). IsCutFor buffer e o) (sym end) (subst (λ (l : List Message). IsCutFor l e (end_at n place)) (sym same) c)

pub none_cut_more : (n : Node) (place : ℕ) (e : Edge) (buffer : List Message) (hi : Option (List ℕ)) → NoCutBefore n place → IsEdgeAt n place e → buffer ≡ buffer_of n → hi ≡ end_at n place → (IsCutFor buffer e hi → ⊥) → NoCutBefore n (place + 1)
none_cut_more n place e buffer hi before here same end none i low c =
    elim (cases_eq i place) [
      | inl is ↦
          let own : HasCut n place = subst (λ (k : ℕ). HasCut n k) is c in
          none (cut_back n place e buffer hi same end (subst (λ (x : Edge). IsCutFor (buffer_of n) x (end_at n place)) (same_Some own.edge e (sym own.here ∙ here)) own.cut))
      | inr other ↦ before i (omega arith) c
    ]

pub first_cut_here : (n : Node) (place : ℕ) (e : Edge) (buffer : List Message) (hi : Option (List ℕ)) → NoCutBefore n place → IsEdgeAt n place e → buffer ≡ buffer_of n → hi ≡ end_at n place → IsCutFor buffer e hi → IsFirstCut n place
first_cut_here n place e buffer hi before here same end c = record {
  cut = record { edge = e; here = here; cut = cut_read n place e buffer hi same end c };
  first = before;
}

pub no_cut_in : (n : Node) (place : ℕ) → NoCutBefore n place → length (edges_of n) ≤ place → HasNoCut n
no_cut_in n place before long i c =
    let low : i < length (edges_of n) = edge_within n i c.edge c.here in
    before i (omega arith) c
