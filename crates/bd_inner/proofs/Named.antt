-- What nodes with other edges in place of one name, how high they are, and what waits in them.
use Rattle.std.proofs.Common.{◌≡◌, ℕ, ◌+◌, ◌≤◌, List, [], ◌∷◌, ◌++◌, take, drop, map, refl, sym, ap, subst, arith}
use Rattle.std.specs.List.{flat_map}
use Rattle.std.proofs.lemmas.List.Concat.{flat_map-append}
use Rattle.bd_node.specs.declared.node.Edge.{Edge}
use Rattle.bd_node.specs.declared.node.Node.{Node}
use Rattle.bd_node.specs.declared.node.Node.TheVariants.{Leaf, Inner}
use Rattle.bd_node.specs.Nodes.{level_of, buffer_size, message_names, edge_names, times}
use Rattle.bd_node.specs.Parts.{edges_of, IsEdgeAt}
use Rattle.bd_node.specs.Shape.{IsShape}
use Rattle.bd_node.proofs.Lookup.{count-cons_same}
use Rattle.bd_node.proofs.Parts.{inner_of}
use Rattle.bd_node.specs.Keeping.{staying}
use Rattle.bd_node.specs.Compaction.{IsCompacted, lowered}
use Rattle.bd_node.specs.Pushes.{exchanged}
use Rattle.bd_node.proofs.Compacting.{count_names, count_names-append, edge_names-lowered, compacted_size}
use Rattle.bd_inner.proofs.Exchanged.{at_place}

-- without the edge, and then by the edges in its place
pub times_exchanged : (n : Node) (place : ℕ) (list : List Edge) (c : ℕ) → 1 ≤ level_of n → times (exchanged n place list) c ≡ times (exchanged n place []) c + count_names c (flat_map edge_names list)
times_exchanged (Leaf entries) place list c inner = absurd (omega arith)
times_exchanged (Inner level es buffer) place list c inner =
    let xs : List Edge = take place es in
    let ys : List Edge = drop (place + 1) es in
    omega (
      arith,
      count_names-append c (flat_map edge_names (xs ++ (list ++ ys))) (flat_map message_names buffer),
      count_names-append c (flat_map edge_names (xs ++ ys)) (flat_map message_names buffer),
      ap (count_names c) (flat_map-append edge_names xs (list ++ ys)),
      ap (count_names c) (flat_map-append edge_names xs ys),
      ap (count_names c) (flat_map-append edge_names list ys),
      count_names-append c (flat_map edge_names xs) (flat_map edge_names (list ++ ys)),
      count_names-append c (flat_map edge_names xs) (flat_map edge_names ys),
      count_names-append c (flat_map edge_names list) (flat_map edge_names ys),
    )

-- the node with the edge in its own place
pub exchanged_same : (n : Node) (place : ℕ) (e : Edge) → IsEdgeAt n place e → exchanged n place (e ∷ []) ≡ n
exchanged_same (Leaf entries) place e here = refl
exchanged_same (Inner level es buffer) place e here = ap (λ (l : List Edge). Inner level l buffer) (sym (at_place es place e here).whole)

pub count_own : (c : ℕ) → count_names c (c ∷ []) ≡ 1
count_own c = omega (arith, count-cons_same c [])

pub level_exchanged : (n : Node) (place : ℕ) (list : List Edge) → level_of (exchanged n place list) ≡ level_of n
level_exchanged (Leaf entries) place list = refl
level_exchanged (Inner level es buffer) place list = refl

-- a compacted node still names its edges' children
pub compacted_named : (n m : Node) → IsCompacted n m → (x : ℕ) → count_names x (flat_map edge_names (edges_of n)) ≤ times m x
compacted_named (Leaf entries) m h x = omega arith
compacted_named (Inner level es buffer) m h x =
    subst (λ (d : Node). count_names x (flat_map edge_names es) ≤ times d x) (sym h.swept)
    (omega (arith, ap (count_names x) (edge_names-lowered h.mask es), count_names-append x (flat_map edge_names (map (lowered h.mask) es)) (flat_map message_names (staying h.mask buffer))))

pub exchanged_named : (n : Node) (place : ℕ) (list : List Edge) (x : ℕ) → 1 ≤ level_of n → count_names x (flat_map edge_names list) ≤ count_names x (flat_map edge_names (edges_of (exchanged n place list)))
exchanged_named (Leaf entries) place list x inner = absurd (omega arith)
exchanged_named (Inner level es buffer) place list x inner =
    let xs : List Edge = take place es in
    let ys : List Edge = drop (place + 1) es in
    omega (
      arith,
      ap (count_names x) (flat_map-append edge_names xs (list ++ ys)),
      ap (count_names x) (flat_map-append edge_names list ys),
      count_names-append x (flat_map edge_names xs) (flat_map edge_names (list ++ ys)),
      count_names-append x (flat_map edge_names list) (flat_map edge_names ys),
    )

pub size_exchanged : (n : Node) (place : ℕ) (list : List Edge) → buffer_size (exchanged n place list) ≡ buffer_size n
size_exchanged (Leaf entries) place list = refl
size_exchanged (Inner level es buffer) place list = refl

pub compacted_small : (n : Node) (place : ℕ) (list : List Edge) (parent : Node) → IsCompacted (exchanged n place list) parent → buffer_size parent ≤ buffer_size n
compacted_small n place list parent r = omega (arith, compacted_size (exchanged n place list) parent r, size_exchanged n place list)

pub times_without : (n : Node) (place : ℕ) (e : Edge) (x : ℕ) → IsShape n → IsEdgeAt n place e → times (exchanged n place []) x ≤ times n x
times_without n place e x h here =
    let same : times (exchanged n place (e ∷ [])) x ≡ times n x = ap (λ (m : Node). times m x) (exchanged_same n place e here) in
    omega (arith, times_exchanged n place (e ∷ []) x (inner_of n place e h here))
