-- A node's edge at a place.
use Rattle.std.proofs.Common.{◌≡◌, ℕ, zero, suc, ◌+◌, ◌<◌, ◌≤◌, List, [], ◌∷◌, ◌++◌, length, get_or, refl, sym, ap, subst, ◌∙◌, Option, Some, arith, cond}
use Rattle.std.specs.Prelude.{slice_get, count_by, ◌==◌}
use Rattle.std.specs.List.{flat_map}
use Rattle.std.specs.Option.{option_to_list}
use Rattle.std.proofs.lemmas.Option.{same_Some, none-some, slice_get_read, slice_get_within}
use Rattle.std.proofs.lemmas.List.Sums.{sum_by-append}
use Rattle.bd_node.specs.declared.node.Edge.{Edge}
use Rattle.bd_node.specs.declared.node.Node.{Node}
use Rattle.bd_node.specs.declared.node.Node.TheVariants.{Leaf, Inner}
use Rattle.bd_node.specs.Nodes.{level_of, message_names, edge_names, times}
use Rattle.bd_node.specs.Parts.{edges_of, IsEdgeAt}
use Rattle.bd_node.specs.Shape.{IsShape}
use Rattle.bd_node.proofs.Lookup.{count-cons_same}

-- the edge at a place
pub at_of : (es : List Edge) (place : ℕ) → place < length es → (e : Edge) × (slice_get es place ≡ Some e)
at_of [] place low = absurd (omega arith)
at_of (e ∷ es) zero low = (e, refl)
at_of (e ∷ es) (suc place) low = at_of es place (omega arith)

pub edge_within : (n : Node) (place : ℕ) (e : Edge) → IsEdgeAt n place e → place < length (edges_of n)
edge_within n place e here = slice_get_within (edges_of n) place e here

pub some_edge : (n : Node) (place : ℕ) → place < length (edges_of n) → (e : Edge) × IsEdgeAt n place e
some_edge n place low = at_of (edges_of n) place low

pub edge_here : (es : List Edge) (n : Node) (place : ℕ) (e : Edge) → es ≡ edges_of n → place < length (edges_of n) → e ≡ get_or es place e → IsEdgeAt n place e
edge_here es n place e same low read =
    subst (λ (l : List Edge). slice_get l place ≡ Some e) same (slice_get_read es (length es) place e refl (subst (λ (l : List Edge). place < length l) (sym same) low) read)

pub inner_of : (n : Node) (place : ℕ) (e : Edge) → IsShape n → IsEdgeAt n place e → 1 ≤ level_of n
inner_of (Leaf entries) place e h here = absurd (none-some e here)
inner_of (Inner level es buffer) place e h here = h.low

-- ---- the node names the edge's child

abbrev counted : ℕ → List ℕ → ℕ
counted c xs = count_by (λ name. name == c) xs

counted_both : (c : ℕ) (xs ys : List ℕ) → counted c (xs ++ ys) ≡ counted c xs + counted c ys
counted_both c xs ys = sum_by-append (λ (name : ℕ). cond (name == c) 1 0) xs ys

one_alone : (c : ℕ) → counted c (c ∷ []) ≡ 1
one_alone c = omega (arith, count-cons_same c [])

own_name : (c : ℕ) (e : Edge) → e.child ≡ Some c → counted c (edge_names e) ≡ 1
own_name c e is = ap (λ (o : Option ℕ). counted c (option_to_list o)) is ∙ one_alone c

listed : (es : List Edge) (place c : ℕ) (e : Edge) → slice_get es place ≡ Some e → e.child ≡ Some c → 1 ≤ counted c (flat_map edge_names es)
listed [] place c e there is = absurd (none-some e there)
listed (f ∷ es) zero c e there is =
    let one : counted c (edge_names f) ≡ 1 = own_name c f (ap (λ (g : Edge). g.child) (same_Some f e there) ∙ is) in
    omega (arith, counted_both c (edge_names f) (flat_map edge_names es))
listed (f ∷ es) (suc place) c e there is =
    let one : 1 ≤ counted c (flat_map edge_names es) = listed es place c e there is in
    omega (arith, counted_both c (edge_names f) (flat_map edge_names es))

pub names_child : (n : Node) (place c : ℕ) (e : Edge) → IsEdgeAt n place e → e.child ≡ Some c → 1 ≤ times n c
names_child (Leaf entries) place c e here is = absurd (none-some e here)
names_child (Inner level es buffer) place c e here is =
    let one : 1 ≤ counted c (flat_map edge_names es) = listed es place c e here is in
    omega (arith, counted_both c (flat_map edge_names es) (flat_map message_names buffer))
