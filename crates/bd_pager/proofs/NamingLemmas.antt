-- Names in nodes, part by part.
use Rattle.std.proofs.Common.{◌≡◌, ℕ, Bool, true, false, List, [], ◌∷◌, ◌++◌, sym, subst, ◌∙◌, IsTrue}
use Rattle.std.specs.Prelude.{◌↔◌}
use Rattle.std.specs.List.{AllByRecursion, flat_map}
use Rattle.bd_message.specs.declared.message.Message.{Message}
use Rattle.bd_node.specs.declared.node.Edge.{Edge}
use Rattle.bd_node.specs.declared.node.Node.{Node}
use Rattle.bd_node.specs.declared.node.Node.TheVariants.{Inner}
use Rattle.bd_node.specs.Nodes.{level_of, names, edge_names, message_names}
use Rattle.bd_pager.specs.Places.{Spots, IsLowerIn}

module _ {X : Type 0} (P : X → Type 0) where
  pub all_both : (xs ys : List X) → AllByRecursion P xs → AllByRecursion P ys → AllByRecursion P (xs ++ ys)
  all_both [] ys p q = q
  all_both (x ∷ xs) ys p q = (p.0, all_both xs ys p.1 q)

  pub all_first : (xs ys : List X) → AllByRecursion P (xs ++ ys) → AllByRecursion P xs
  all_first [] ys p = tt
  all_first (x ∷ xs) ys p = (p.0, all_first xs ys p.1)

  pub all_second : (xs ys : List X) → AllByRecursion P (xs ++ ys) → AllByRecursion P ys
  all_second [] ys p = p
  all_second (x ∷ xs) ys p = all_second xs ys p.1

  pub all_flat : {Y : Type 0} (f : Y → List X) (ys : List Y) → AllByRecursion (λ y. AllByRecursion P (f y)) ys → AllByRecursion P (flat_map f ys)
  all_flat f [] p = tt
  all_flat f (y ∷ ys) p = all_both (f y) (flat_map f ys) p.0 (all_flat f ys p.1)

  pub flat_all : {Y : Type 0} (f : Y → List X) (ys : List Y) → AllByRecursion P (flat_map f ys) → AllByRecursion (λ y. AllByRecursion P (f y)) ys
  flat_all f [] p = tt
  flat_all f (y ∷ ys) p = (all_first (f y) (flat_map f ys) p, flat_all f ys (all_second (f y) (flat_map f ys) p))

-- ---- a node whose edges and messages were looked at

module _ (spots : Spots) (level : ℕ) (n : Node) (edges es : List Edge) (buffer ms : List Message) (is : n ≡ Inner level edges buffer) (same_edges : es ≡ edges) (same_messages : ms ≡ buffer) where
  abbrev AllLower : List ℕ → Type 0
  AllLower ids = AllByRecursion (IsLowerIn spots level) ids

  names_of_parts : AllByRecursion (λ (e : Edge). AllLower (edge_names e)) es → AllByRecursion (λ (m : Message). AllLower (message_names m)) ms
      → AllByRecursion (IsLowerIn spots (level_of n)) (names n)
  names_of_parts p q = subst (λ (v : Node). AllByRecursion (IsLowerIn spots (level_of v)) (names v)) (sym is)
      (all_both (IsLowerIn spots level) (flat_map edge_names edges) (flat_map message_names buffer)
      (all_flat (IsLowerIn spots level) edge_names edges (subst (λ (xs : List Edge). AllByRecursion (λ (e : Edge). AllLower (edge_names e)) xs) same_edges p))
      (all_flat (IsLowerIn spots level) message_names buffer (subst (λ (xs : List Message). AllByRecursion (λ (m : Message). AllLower (message_names m)) xs) same_messages q)))

  of_names : AllByRecursion (IsLowerIn spots (level_of n)) (names n) → AllLower (flat_map edge_names edges ++ flat_map message_names buffer)
  of_names all = subst (λ (v : Node). AllByRecursion (IsLowerIn spots (level_of v)) (names v)) is all

  edges_of_names : AllByRecursion (IsLowerIn spots (level_of n)) (names n) → AllByRecursion (λ (e : Edge). AllLower (edge_names e)) es
  edges_of_names all = subst (λ (xs : List Edge). AllByRecursion (λ (e : Edge). AllLower (edge_names e)) xs) (sym same_edges)
      (flat_all (IsLowerIn spots level) edge_names edges (all_first (IsLowerIn spots level) (flat_map edge_names edges) (flat_map message_names buffer) (of_names all)))

  messages_of_names : AllByRecursion (IsLowerIn spots (level_of n)) (names n) → AllByRecursion (λ (m : Message). AllLower (message_names m)) ms
  messages_of_names all = subst (λ (xs : List Message). AllByRecursion (λ (m : Message). AllLower (message_names m)) xs) (sym same_messages)
      (flat_all (IsLowerIn spots level) message_names buffer (all_second (IsLowerIn spots level) (flat_map edge_names edges) (flat_map message_names buffer) (of_names all)))

  pub lower_where_edges : (e m : Bool) → IsTrue e ↔ AllByRecursion (λ (x : Edge). AllLower (edge_names x)) es → e ≡ true → IsTrue m ↔ AllByRecursion (λ (x : Message). AllLower (message_names x)) ms
      → IsTrue m ↔ AllByRecursion (IsLowerIn spots (level_of n)) (names n)
  lower_where_edges e m of_edges on of_messages = (λ t. names_of_parts (of_edges.0 on) (of_messages.0 t), λ all. of_messages.1 (messages_of_names all))

  pub lower_without_edges : (e : Bool) → IsTrue e ↔ AllByRecursion (λ (x : Edge). AllLower (edge_names x)) es → e ≡ false → IsTrue e ↔ AllByRecursion (IsLowerIn spots (level_of n)) (names n)
  lower_without_edges e of_edges off = (λ t. absurd (let both : true ≡ false = sym t ∙ off in cc), λ all. of_edges.1 (edges_of_names all))
