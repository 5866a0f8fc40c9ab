-- What an edge asks of a child to which the walk goes, and how it is tested.
use Rattle.std.proofs.Common.{◌≡◌, ℕ, suc, ◌+◌, ◌-◌, ◌*◌, ◌<◌, ◌≤◌, Bool, true, false, List, [], ◌∷◌, length, take, drop, map, get_or, refl, sym, ap, subst, ◌∙◌, Option, Some, arith, length-drop, IsTrue, ◌↔◌, Result, Ok, Err}
use Rattle.std.specs.Prelude.{slice_get, nat_lt, IfOk}
use Rattle.std.specs.List.{sum_by}
use Rattle.std.proofs.lemmas.Bool.{lt-ltb, ltb-true}
use Rattle.std.proofs.lemmas.List.Sums.{sum_by_more}
use Rattle.bd_keys.specs.Keys.{IsKey}
use Rattle.bd_message.specs.declared.message.Message.{Message}
use Rattle.bd_message.proofs.Finds.{not_both}
use Rattle.bd_node.specs.declared.node.Edge.{Edge}
use Rattle.bd_node.specs.declared.node.Node.{Node}
use Rattle.bd_node.specs.declared.node.Node.TheVariants.{Leaf, Inner}
use Rattle.bd_node.specs.Compaction.{IsSwept, IsCompacted, lowered}
use Rattle.bd_node.specs.Keeping.{staying}
use Rattle.bd_node.specs.Meaning.{Nodes}
use Rattle.bd_node.specs.Nodes.{edge_names}
use Rattle.bd_node.specs.Parts.{edges_of, buffer_of, end_at, IsEdgeAt}
use Rattle.bd_node.specs.Tables.{Table}
use Rattle.bd_node.proofs.Parts.{edge_here}
use Rattle.bd_inner.proofs.Fitting.{own_shape}
use Rattle.bd_node.specs.Shape.{IsShape}
use Rattle.bd_node.proofs.Compacting.{loose_shape, compacted_shape, few_wait}
use Rattle.bd_path.specs.declared.fetching.Fetched.{Fetched}
use Rattle.bd_path.specs.Fetching.{IsFetched}
use Rattle.bd_copy.specs.Narrowing.{IsSpan, IsAsking, asked_from, asked_end, narrowed_node, IsNarrowed}
use Rattle.bd_copy.proofs.Copied.{is_asking}
use Rattle.bd_copy.proofs.Narrowed.{narrow_loose}
use Rattle.bd_cover.specs.Reclaimed.{left_at}
use Rattle.bd_cover.specs.Trimming.{IsTrimmed, IsTrimWay}

-- ---- there is one such node

same_bit : (a b : Bool) → (◌≡◌ {A = Option Bool} (Some a) (Some true)) ↔ (◌≡◌ {A = Option Bool} (Some b) (Some true)) → a ≡ b
same_bit true true h = refl
same_bit false false h = refl
same_bit true false h = (let bad : ◌≡◌ {A = Option Bool} (Some false) (Some true) = h.0 refl in cc)
same_bit false true h = (let bad : ◌≡◌ {A = Option Bool} (Some false) (Some true) = h.1 refl in cc)

-- two lists say the same of each message
same_masks : (buffer : List Message) (mask other : List Bool) → length mask ≡ length buffer → length other ≡ length buffer → ((i : ℕ) (m : Message) → slice_get buffer i ≡ Some m → (slice_get mask i ≡ Some true) ↔ (slice_get other i ≡ Some true)) → mask ≡ other
same_masks [] [] [] long as_long each = refl
same_masks [] [] (b ∷ other) long as_long each = absurd (omega arith)
same_masks [] (a ∷ mask) other long as_long each = absurd (omega arith)
same_masks (m ∷ buffer) [] other long as_long each = absurd (omega arith)
same_masks (m ∷ buffer) (a ∷ mask) [] long as_long each = absurd (omega arith)
same_masks (m ∷ buffer) (a ∷ mask) (b ∷ other) long as_long each =
    ap (λ (x : Bool). x ∷ mask) (same_bit a b (each 0 m refl))
    ∙ ap (λ (l : List Bool). b ∷ l) (same_masks buffer mask other (omega arith) (omega arith) (λ i n at. each (suc i) n at))

swept_once : (level : ℕ) (es : List Edge) (buffer : List Message) (a b : Node) → IsSwept level es buffer a → IsSwept level es buffer b → a ≡ b
swept_once level es buffer a b h g =
    h.swept
    ∙ ap (λ (mask : List Bool). Inner level (map (lowered mask) es) (staying mask buffer))
    (same_masks buffer h.mask g.mask h.pending.long g.pending.long (λ i m at.
    ((λ yes. (g.pending.each i m at).1 ((h.pending.each i m at).0 yes)), (λ yes. (h.pending.each i m at).1 ((g.pending.each i m at).0 yes)))))
    ∙ sym g.swept

pub compacted_once : (n a b : Node) → IsCompacted n a → IsCompacted n b → a ≡ b
compacted_once (Leaf entries) a b h g = h ∙ sym g
compacted_once (Inner level es buffer) a b h g = swept_once level es buffer a b h g

pub narrowed_once : (e : Edge) (hi : Option (List ℕ)) (n a b : Node) → IsNarrowed (asked_from e) (asked_end e hi) n a → IsNarrowed (asked_from e) (asked_end e hi) n b → a ≡ b
narrowed_once e hi n a b h g = compacted_once (narrowed_node (asked_from e) (asked_end e hi) n) a b h g

-- ---- as it is tested

pub tells_more : (e : Edge) (hi : Option (List ℕ)) (n made : Node) (r : Bool) → IsNarrowed (asked_from e) (asked_end e hi) n made → IsTrue r ↔ (left_at made < left_at n) → IsTrue r ↔ ((m : Node) × IsTrimmed e hi n m)
tells_more e hi n made r narrowed tested = (
  (λ t. (made, record { narrowed = narrowed; less = tested.0 t })),
  (λ some. tested.1 (subst (λ (m : Node). left_at m < left_at n) (narrowed_once e hi n some.0 made some.1.narrowed narrowed) some.1.less)),
)

pub less_tested : (a b x y : ℕ) → a ≡ x → b ≡ y → IsTrue (nat_lt a b) ↔ (x < y)
less_tested a b x y a_is b_is = ((λ t. omega (arith, ltb-true a b t)), (λ less. lt-ltb a b (omega (arith, less))))

-- ---- how much is left at a node, edge by edge

-- how much is left at an edge
abbrev pub left_for : List Message → Edge → ℕ
left_for buffer e = 2 * length (drop e.seen buffer) + length (edge_names e)

-- and at so many of the first edges of a node
abbrev pub left_before : Node → List Edge → ℕ → ℕ
left_before n es count = sum_by (left_for (buffer_of n)) (take count es)

pub few_waiting : (n : Node) → IsShape n → length (buffer_of n) ≤ 2048
few_waiting (Leaf entries) shape = omega arith
few_waiting (Inner level es buffer) shape = few_wait level es buffer shape

pub seen_few : (n : Node) (es : List Edge) (place : ℕ) (e : Edge) → IsShape n → es ≡ edges_of n → place < length es → e ≡ get_or es place e → e.seen ≤ length (buffer_of n)
seen_few n es place e shape same low read =
    (own_shape n place e shape (edge_here es n place e same (subst (λ (l : List Edge). place < length l) same low) read)).seen

pub left_more : (n : Node) (es : List Edge) (place : ℕ) (e : Edge) (count more left now : ℕ) → place < length es → e ≡ get_or es place e → count ≡ length (buffer_of n) → e.seen ≤ count → more ≡ 2 * (count - e.seen) + length (edge_names e) → left ≡ left_before n es place → now ≡ left + more → now ≡ left_before n es (place + 1)
left_more n es place e count more left now low read counted seen is sum then =
    let own : left_for (buffer_of n) (get_or es place e) ≡ left_for (buffer_of n) e = ap (left_for (buffer_of n)) (sym read) in
    omega (arith, own, counted, seen, is, sum, then, length-drop e.seen (buffer_of n), sum_by_more (left_for (buffer_of n)) es place e low)

-- ---- an edge as it is tested

pub not_trim : (nodes same_nodes : Nodes) (t same_t : Table) (e : Edge) (hi end : Option (List ℕ)) (r : Bool) → same_nodes ≡ nodes → same_t ≡ t → hi ≡ end → IsTrue r ↔ IsTrimWay same_nodes same_t e hi → r ≡ false → IsTrimWay nodes t e end → ⊥
not_trim nodes same_nodes t same_t e hi end r e_nodes e_t same tested off b =
    not_both (tested.1 (subst (λ (m : Nodes). IsTrimWay m same_t e hi) (sym e_nodes) (subst (λ (u : Table). IsTrimWay nodes u e hi) (sym e_t) (subst (λ (o : Option (List ℕ)). IsTrimWay nodes t e o) (sym same) b)))) off

pub is_trim : (nodes same_nodes : Nodes) (t same_t : Table) (e : Edge) (hi end : Option (List ℕ)) (r : Bool) → same_nodes ≡ nodes → same_t ≡ t → hi ≡ end → IsTrue r ↔ IsTrimWay same_nodes same_t e hi → r ≡ true → IsTrimWay nodes t e end
is_trim nodes same_nodes t same_t e hi end r e_nodes e_t same tested on =
    subst (λ (o : Option (List ℕ)). IsTrimWay nodes t e o) same (subst (λ (u : Table). IsTrimWay nodes u e hi) e_t (subst (λ (m : Nodes). IsTrimWay m same_t e hi) e_nodes (tested.0 on)))

-- ---- what the edge asks of a node

pub on_shape : {E : Type 0} (n : Node) (lo : List ℕ) (end : Option (List ℕ)) (r : Result Node E) → IsKey lo → IsSpan lo end → IsShape n → IfOk r (IsNarrowed lo end n) → IfOk r IsShape
on_shape n lo end (Ok made) key span shape h = compacted_shape (narrowed_node lo end n) made (narrow_loose lo end n key span (loose_shape n shape)) h
on_shape n lo end (Err e) key span shape h = tt

-- an edge of a fetched node, as it is read, where it has a child
pub asking_at : (t : Table) (f : Fetched) (place : ℕ) (e : Edge) (hi : Option (List ℕ)) → IsFetched t f → IsEdgeAt f.node.value place e → hi ≡ end_at f.node.value place → (child : ℕ) → e.child ≡ Some child → IsAsking e hi
asking_at t f place e hi fetched here same child is = is_asking t f place child e hi (record { parent_is = fetched; here = here; child_is = is }) same
