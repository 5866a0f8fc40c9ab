-- Carved nodes: well-formed, and they have what they had.
use Rattle.std.proofs.Common.{◌≡◌, ℕ, zero, suc, ◌+◌, ◌*◌, ◌^◌, ◌<◌, ◌≤◌, Bool, true, false, cond, List, [], ◌∷◌, ◌++◌, length, drop, refl, sym, ap, subst, ◌∙◌, Option, None, Some, inl, inr, arith, add-one, get_or}
use Rattle.std.specs.Prelude.{slice_get, Result, Ok, Err, IfOk}
use Rattle.std.specs.List.{flat_map}
use Rattle.std.proofs.lemmas.Bool.{cases_eq, cond-true, eq-eqb, ne_eqb}
use Rattle.std.proofs.lemmas.List.{length-map, append-nil}
use Rattle.std.proofs.lemmas.Option.{same_Some, none-some, slice_get_within, get_or_from_slice_get}
use Rattle.bd_limits.specs.Limits.{key_limit}
use Rattle.bd_keys.specs.Keys.{IsKey, IsAtLeast, InRange, IsPrefixRange}
use Rattle.bd_message.specs.declared.message.Message.{Message}
use Rattle.bd_message.specs.declared.message.Message.TheVariants.{Goto}
use Rattle.bd_message.specs.Messages.{IsMessage}
use Rattle.bd_message.specs.Effect.{NodesAt, begins, rest, act, acts}
use Rattle.bd_message.proofs.Finds.{begins-is, begins-append, not_both}
use Rattle.bd_node.specs.declared.node.Edge.{Edge}
use Rattle.bd_node.specs.declared.node.Node.{Node}
use Rattle.bd_node.specs.declared.node.Node.TheVariants.{Leaf, Inner}
use Rattle.bd_node.specs.Nodes.{level_of, buffer_size, message_names, edge_names, times, edge_of, child_at, edge_at, through, node_at}
use Rattle.bd_node.specs.Shape.{end_before, EachEdge, IsEdge, IsInner, IsShape}
use Rattle.bd_node.proofs.Lookup.{count-cons, each_at}
use Rattle.bd_node.proofs.Edges.{EachEdge-weaker, some_edge}
use Rattle.bd_node.proofs.Appending.{some_has}
use Rattle.bd_node.specs.Compaction.{IsLoose, IsSwept, lowered}
use Rattle.bd_node.specs.Parts.{edges_of, buffer_of}
use Rattle.bd_inner.specs.Carving.{from_key, parted, parted_end, goto_edge, owned, carved, IsGotoAt, IsGotoEdge, IsEnd, IsGotoWay, IsCarved}
use Rattle.bd_node.proofs.Touched.{touched_first, between, not_above_end}
use Rattle.bd_node.proofs.Compacting.{few_wait, count_names, count_names-append, edge_of-lowered, compacted_shape, compacted_level, compacted_meaning, compacted_size, compacted_times}
use Rattle.bd_inner.proofs.Splitting.{rising}
use Rattle.bd_inner.proofs.CarvingParts.{IsOutside, end_before-parted, each_outside, still_outside, each_parted_edge, parted_few, edge_count, parted_names, HasWay, parted_way}
use Rattle.bd_inner.proofs.CarvingOwned.{begins_front, front_begins, least_begins, IsOwn, own_is, own_holds, end_before-owned, owned_few, owned_names, IsInsideEnd, inside_end, each_owned, Replaces, owned_related}

-- ---- edges in two at the prefix and at its end

-- what stays of edges, if they are in two at the prefix and at its end
pub record ArePrepared (n : ℕ) (own : Edge) (end : Option (List ℕ)) (es fs : List Edge) : Type 0 where
  pub each : EachEdge (IsEdge n) fs
  pub first : end_before fs ≡ end_before es
  pub few : length fs ≤ length es + 2
  pub outside : (key : List ℕ) → end ≡ Some key → EachEdge (IsOutside own.seen key) fs
  pub front : EachEdge (IsOutside own.seen own.pivot) fs
  pub way : (k : List ℕ) → HasWay es fs k
  pub names : (c : ℕ) → edge_count c fs ≤ 4 * edge_count c es

way_twice : (es fs gs : List Edge) (k : List ℕ) → HasWay es fs k → HasWay fs gs k → HasWay es gs k
way_twice es fs gs k first second e is =
    let found = first e is in
    let again = second (from_key e found.0) found.1 in
    (again.0, again.1)

prepared : (n : ℕ) (own : Edge) (end : Option (List ℕ)) (es : List Edge) → IsKey own.pivot → length own.pivot ≤ key_limit → IsEnd own.pivot end → EachEdge (IsEdge n) es → ArePrepared n own end es (parted_end own.seen end (parted own.seen own.pivot es))
prepared n own None es bytes short ends h = record {
  each = each_parted_edge n own.seen own.pivot es bytes short h;
  first = end_before-parted own.seen own.pivot es;
  few = (let few : length (parted own.seen own.pivot es) ≤ length es + 1 = parted_few own.seen own.pivot es (rising n es h) in omega arith);
  outside = λ key is. absurd (none-some key is);
  front = each_outside (IsEdge n) own.seen own.pivot es h;
  way = λ k. parted_way own.seen own.pivot es k;
  names = λ c. (let few : edge_count c (parted own.seen own.pivot es) ≤ 2 * edge_count c es = parted_names c own.seen own.pivot es in omega arith);
}
prepared n own (Some key) es bytes short ends h =
    let one : List Edge = parted own.seen own.pivot es in
    let each : EachEdge (IsEdge n) one = each_parted_edge n own.seen own.pivot es bytes short h in
    record {
      each = each_parted_edge n own.seen key one (ends.bytes key refl) (let less : length key ≤ length own.pivot = ends.short key refl in omega arith) each;
      first = end_before-parted own.seen key one ∙ end_before-parted own.seen own.pivot es;
      few = (let few : length one ≤ length es + 1 = parted_few own.seen own.pivot es (rising n es h) in
          let more : length (parted own.seen key one) ≤ length one + 1 = parted_few own.seen key one (rising n one each) in omega arith);
      outside = λ other is. subst (λ (k : List ℕ). EachEdge (IsOutside own.seen k) (parted own.seen key one)) (same_Some key other is) (each_outside (IsEdge n) own.seen key one each);
      front = still_outside own.seen own.pivot key one (each_outside (IsEdge n) own.seen own.pivot es h);
      way = λ k. way_twice es one (parted own.seen key one) k (parted_way own.seen own.pivot es k) (parted_way own.seen key one k);
      names = λ c. (let few : edge_count c one ≤ 2 * edge_count c es = parted_names c own.seen own.pivot es in
          let more : edge_count c (parted own.seen key one) ≤ 2 * edge_count c one = parted_names c own.seen key one in omega arith);
    }

-- ---- the Goto

-- at a key of its prefix a Goto leaves nothing of what was before it
past_goto : (below : NodesAt) (buffer : List Message) (n at : ℕ) (p s : List ℕ) (child : ℕ) (k : List ℕ) (old : Option (List ℕ)) → n ≤ at → slice_get buffer at ≡ Some (Goto p s child) → begins k p ≡ true
    → acts below (drop (suc at) buffer) k (below child (s ++ rest p k)) ≡ acts below (drop n buffer) k old
past_goto below [] n at p s child k old low is own = absurd (none-some (Goto p s child) is)
past_goto below (m ∷ ms) zero zero p s child k old low is own =
    sym (ap (λ (x : Message). acts below ms k (act below x k old)) (same_Some m (Goto p s child) is)
    ∙ ap (λ (v : Option (List ℕ)). acts below ms k v) (cond-true (begins k p) (below child (s ++ rest p k)) old own))
past_goto below (m ∷ ms) zero (suc at) p s child k old low is own = past_goto below ms zero at p s child k (act below m k old) (omega arith) is own
past_goto below (m ∷ ms) (suc n) zero p s child k old low is own = absurd (omega arith)
past_goto below (m ∷ ms) (suc n) (suc at) p s child k old low is own = past_goto below ms n at p s child k old (omega arith) is own

-- the Goto's own edge has what an edge has that hasn't seen it
own_has : (below : NodesAt) (buffer : List Message) (at : ℕ) (p s : List ℕ) (child : ℕ) (e : Edge) (k : List ℕ) → e.seen < at + 1 → slice_get buffer at ≡ Some (Goto p s child) → begins k p ≡ true → edge_at below (goto_edge at p s child) buffer k ≡ edge_at below e buffer k
own_has below buffer at p s child e k low is own =
    ap (λ (n : ℕ). acts below (drop n buffer) k (below child (s ++ rest p k))) (add-one at)
    ∙ past_goto below buffer e.seen at p s child k (child_at below e.child (e.source ++ drop e.lift k)) (omega arith) is own

-- ---- the shape

-- what is known of a Goto to carve out
pub record IsKnown (level : ℕ) (es : List Edge) (buffer : List Message) (at : ℕ) (p s : List ℕ) (child : ℕ) (end : Option (List ℕ)) : Type 0 where
  pub inner : IsInner level es buffer
  pub there : slice_get buffer at ≡ Some (Goto p s child)
  pub bytes : IsKey p
  pub ends : IsEnd p end

goto_message : (level : ℕ) (es : List Edge) (buffer : List Message) (at : ℕ) (p s : List ℕ) (child : ℕ) (end : Option (List ℕ)) → IsKnown level es buffer at p s child end → IsMessage (Goto p s child)
goto_message level es buffer at p s child end h = each_at IsMessage buffer at (Goto p s child) h.inner.messages h.there

prepared_for : (level : ℕ) (es : List Edge) (buffer : List Message) (at : ℕ) (p s : List ℕ) (child : ℕ) (end : Option (List ℕ)) → IsKnown level es buffer at p s child end
    → ArePrepared (length buffer) (goto_edge at p s child) end es (parted_end (at + 1) end (parted (at + 1) p es))
prepared_for level es buffer at p s child end h =
    prepared (length buffer) (goto_edge at p s child) end es h.bytes (goto_message level es buffer at p s child end h).0 h.ends h.inner.each

carved_few : (level : ℕ) (es : List Edge) (buffer : List Message) (at : ℕ) (p s : List ℕ) (child : ℕ) (end : Option (List ℕ)) → IsKnown level es buffer at p s child end → length (carved (goto_edge at p s child) end es) ≤ length es + 2
carved_few level es buffer at p s child end h =
    let fs : List Edge = parted_end (at + 1) end (parted (at + 1) p es) in
    let few : length fs ≤ length es + 2 = (prepared_for level es buffer at p s child end h).few in
    let less : length (owned (goto_edge at p s child) end false fs) ≤ length fs = owned_few (goto_edge at p s child) end false fs in
    omega arith

carved_loose : (level : ℕ) (es : List Edge) (buffer : List Message) (at : ℕ) (p s : List ℕ) (child : ℕ) (end : Option (List ℕ)) → IsKnown level es buffer at p s child end → length es ≤ 14 → IsLoose level (carved (goto_edge at p s child) end es) buffer
carved_loose level es buffer at p s child end h room =
    let own : Edge = goto_edge at p s child in
    let fs : List Edge = parted_end (at + 1) end (parted (at + 1) p es) in
    let ready = prepared_for level es buffer at p s child end h in
    let goto : IsMessage (Goto p s child) = goto_message level es buffer at p s child end h in
    let low : at < length buffer = slice_get_within buffer at (Goto p s child) h.there in
    let few : length (carved own end es) ≤ length es + 2 = carved_few level es buffer at p s child end h in
    record {
      low = h.inner.low;
      high = h.inner.high;
      few = omega arith;
      first = end_before-owned own end fs ∙ ready.first ∙ h.inner.first;
      each = each_owned (length buffer) own end false fs h.ends.range refl goto.1 (goto.2, goto.3) (omega arith) ready.each (rising (length buffer) fs ready.each) (inside_end own end fs ready.outside);
      messages = h.inner.messages;
      size = h.inner.size;
    }

-- ---- what it has

-- the edge has at a key what another has
abbrev Same : NodesAt → List Message → List ℕ → Edge → Edge → Type 0
Same below buffer k f e = edge_at below f buffer k ≡ edge_at below e buffer k

same_replaced : (below : NodesAt) (buffer : List Message) (at : ℕ) (p s : List ℕ) (child : ℕ) (end : Option (List ℕ)) (k : List ℕ) (e : Edge) (hi : Option (List ℕ)) → IsKey k → slice_get buffer at ≡ Some (Goto p s child) → IsPrefixRange p end
    → IsInsideEnd (goto_edge at p s child) end e hi → Replaces (Same below buffer k) (goto_edge at p s child) end k e hi
same_replaced below buffer at p s child end k e hi byte there range inside in_range =
    let own : Edge = goto_edge at p s child in (
      (λ it q.
          let is : IsOwn own end e = own_is own end e it in
          own_has below buffer at p s child e k is.low there (front_begins p k (range.only k byte (least_begins p e.pivot k is.front in_range.0, inside is k in_range.1)))),
      (λ not_it. refl),
    )

carved_has : (below : NodesAt) (level : ℕ) (es : List Edge) (buffer : List Message) (at : ℕ) (p s : List ℕ) (child : ℕ) (end : Option (List ℕ)) (k : List ℕ) (e : Edge) → IsKey k → IsKnown level es buffer at p s child end → edge_of es k ≡ Some e
    → (f : Edge) × (edge_of (carved (goto_edge at p s child) end es) k ≡ Some f) × (edge_at below f buffer k ≡ edge_at below e buffer k)
carved_has below level es buffer at p s child end k e byte h is =
    let own : Edge = goto_edge at p s child in
    let fs : List Edge = parted_end (at + 1) end (parted (at + 1) p es) in
    let ready = prepared_for level es buffer at p s child end h in
    let way = ready.way k e is in
    owned_related (Same below buffer k) own end fs k (ready.first ∙ h.inner.first) (rising (length buffer) fs ready.each)
    (EachEdge-weaker (IsInsideEnd own end) (Replaces (Same below buffer k) own end k) (λ g hi inside. same_replaced below buffer at p s child end k g hi byte h.there h.ends.range inside) fs (inside_end own end fs ready.outside))
    (from_key e way.0) way.1

carved_same : (below : NodesAt) (level : ℕ) (es : List Edge) (buffer : List Message) (at : ℕ) (p s : List ℕ) (child : ℕ) (end : Option (List ℕ)) (k : List ℕ) → IsKey k → IsKnown level es buffer at p s child end
    → node_at below (Inner level (carved (goto_edge at p s child) end es) buffer) k ≡ node_at below (Inner level es buffer) k
carved_same below level es buffer at p s child end k byte h =
    some_has (through below (edge_of (carved (goto_edge at p s child) end es) k) buffer k ≡ through below (edge_of es k) buffer k)
    (λ (e : Edge) hi. (edge_of es k ≡ Some e) × InRange e.pivot hi k × IsEdge (length buffer) e hi)
    (λ e hi found.
    let got = carved_has below level es buffer at p s child end k e byte h found.0 in
    ap (λ o. through below o buffer k) got.1 ∙ got.2 ∙ sym (ap (λ o. through below o buffer k) found.0))
    es (some_edge (IsEdge (length buffer)) es k h.inner.each h.inner.first)

-- ---- the edges of the prefix's keys

-- where the edge hasn't seen the Goto, it is the Goto's own
abbrev Takes : Edge → Edge → Edge → Type 0
Takes own f e = e.seen < own.seen → f ≡ from_key own f.pivot

own_begins : (own : Edge) (end : Option (List ℕ)) (k : List ℕ) (e : Edge) (hi : Option (List ℕ)) → IsKey k → IsPrefixRange own.pivot end → begins k own.pivot ≡ true → InRange e.pivot hi k → IsOutside own.seen own.pivot e hi → e.seen < own.seen → IsOwn own end e
own_begins own end k e hi byte range front in_range out low =
    let p : List ℕ = own.pivot in
    let least : IsAtLeast k p = touched_first (Goto p [] 0) k front in
    let above : IsAtLeast e.pivot p = λ less. out (record { low = low; above = less; below = not_above_end p k hi least in_range.1 }) in
    let found = between p [] (rest p k) e.pivot (subst (λ (l : List ℕ). IsAtLeast e.pivot l) (sym (append-nil p)) above) (subst (λ (l : List ℕ). IsAtLeast l e.pivot) (begins-is k p front) in_range.0) in
    record {
      low = low;
      front = subst (λ (l : List ℕ). begins l p ≡ true) (sym found.1) (begins-append p found.0);
      below = not_above_end e.pivot k end in_range.0 (range.inside k byte (begins_front p k front)).1;
    }

carved_takes : (level : ℕ) (es : List Edge) (buffer : List Message) (at : ℕ) (p s : List ℕ) (child : ℕ) (end : Option (List ℕ)) (k : List ℕ) (e : Edge) → IsKey k → IsKnown level es buffer at p s child end → begins k p ≡ true → edge_of es k ≡ Some e → e.seen ≤ at
    → (f : Edge) × (edge_of (carved (goto_edge at p s child) end es) k ≡ Some f) × (f ≡ from_key (goto_edge at p s child) f.pivot)
carved_takes level es buffer at p s child end k e byte h front is low =
    let own : Edge = goto_edge at p s child in
    let fs : List Edge = parted_end (at + 1) end (parted (at + 1) p es) in
    let ready = prepared_for level es buffer at p s child end h in
    let way = ready.way k e is in
    let got = owned_related (Takes own) own end fs k (ready.first ∙ h.inner.first) (rising (length buffer) fs ready.each)
    (EachEdge-weaker (IsOutside own.seen own.pivot) (Replaces (Takes own) own end k)
    (λ g hi out in_range. (
      (λ it q low'. refl),
      (λ not_it low'. absurd (not_both (own_holds own end g (own_begins own end k g hi byte h.ends.range front in_range out low')) not_it)),
    )) fs ready.front)
    (from_key e way.0) way.1 in
    (got.0, got.1, got.2 (omega arith))

-- ---- the nodes that it names

count_itself : (c : ℕ) → count_names c (c ∷ []) ≡ 1
count_itself c = count-cons c c [] ∙ ap (λ (b : Bool). cond b 1 0 + 0) (eq-eqb c c refl)

count_other : (x c : ℕ) → (x ≡ c → ⊥) → count_names c (x ∷ []) ≡ 0
count_other x c other = count-cons x c [] ∙ ap (λ (b : Bool). cond b 1 0 + 0) (ne_eqb x c other)

goto_named : (buffer : List Message) (at : ℕ) (p s : List ℕ) (child : ℕ) → slice_get buffer at ≡ Some (Goto p s child) → 1 ≤ count_names child (flat_map message_names buffer)
goto_named [] at p s child is = absurd (none-some (Goto p s child) is)
goto_named (m ∷ ms) zero p s child is =
    let own : count_names child (message_names m) ≡ 1 = ap (λ (x : Message). count_names child (message_names x)) (same_Some m (Goto p s child) is) ∙ count_itself child in
    omega (arith, count_names-append child (message_names m) (flat_map message_names ms))
goto_named (m ∷ ms) (suc at) p s child is =
    let more : 1 ≤ count_names child (flat_map message_names ms) = goto_named ms at p s child is in
    omega (arith, count_names-append child (message_names m) (flat_map message_names ms))

carved_names : (level : ℕ) (es : List Edge) (buffer : List Message) (at : ℕ) (p s : List ℕ) (child : ℕ) (end : Option (List ℕ)) (c : ℕ) → IsKnown level es buffer at p s child end
    → 1 ≤ times (Inner level (carved (goto_edge at p s child) end es) buffer) c → 1 ≤ times (Inner level es buffer) c
carved_names level es buffer at p s child end c h some =
    let own : Edge = goto_edge at p s child in
    let fs : List Edge = parted_end (at + 1) end (parted (at + 1) p es) in
    let whole : times (Inner level es buffer) c ≡ edge_count c es + count_names c (flat_map message_names buffer) = count_names-append c (flat_map edge_names es) (flat_map message_names buffer) in
    let after : times (Inner level (carved own end es) buffer) c ≡ edge_count c (carved own end es) + count_names c (flat_map message_names buffer) = count_names-append c (flat_map edge_names (carved own end es)) (flat_map message_names buffer) in
    elim (cases_eq child c) [
      | inl same ↦
          let named : 1 ≤ count_names child (flat_map message_names buffer) = goto_named buffer at p s child h.there in
          let named_c : 1 ≤ count_names c (flat_map message_names buffer) = subst (λ (x : ℕ). 1 ≤ count_names x (flat_map message_names buffer)) same named in
          omega (arith, whole)
      | inr other ↦
          let less : edge_count c (owned own end false fs) ≤ edge_count c fs = owned_names c own end false fs (count_other child c other) in
          let few : edge_count c fs ≤ 4 * edge_count c es = (prepared_for level es buffer at p s child end h).names c in
          omega (arith, whole, after)
    ]

-- ---- the laws

known : (level : ℕ) (es : List Edge) (buffer : List Message) (at : ℕ) (m : Node) (h : IsInner level es buffer) (c : IsCarved (Inner level es buffer) at m) → IsKnown level es buffer at c.prefix c.source c.child c.end
known level es buffer at m h c = record { inner = h; there = c.there; bytes = c.bytes; ends = c.ends }

pub carved_shape : (n : Node) (at : ℕ) (m : Node) → IsShape n → length (edges_of n) ≤ 14 → IsCarved n at m → IsShape m
carved_shape (Leaf entries) at m h room c = absurd (none-some (Goto c.prefix c.source c.child) c.there)
carved_shape (Inner level es buffer) at m h room c =
    compacted_shape (Inner level (carved (goto_edge at c.prefix c.source c.child) c.end es) buffer) m
    (carved_loose level es buffer at c.prefix c.source c.child c.end (known level es buffer at m h c) room) c.carved

pub carved_level : (n : Node) (at : ℕ) (m : Node) → IsCarved n at m → level_of m ≡ level_of n
carved_level (Leaf entries) at m c = absurd (none-some (Goto c.prefix c.source c.child) c.there)
carved_level (Inner level es buffer) at m c =
    compacted_level (Inner level (carved (goto_edge at c.prefix c.source c.child) c.end es) buffer) m c.carved

pub carved_meaning : (below : NodesAt) (n : Node) (at : ℕ) (m : Node) → IsShape n → length (edges_of n) ≤ 14 → IsCarved n at m → (k : List ℕ) → IsKey k → node_at below m k ≡ node_at below n k
carved_meaning below (Leaf entries) at m h room c k byte = absurd (none-some (Goto c.prefix c.source c.child) c.there)
carved_meaning below (Inner level es buffer) at m h room c k byte =
    let is : IsKnown level es buffer at c.prefix c.source c.child c.end = known level es buffer at m h c in
    compacted_meaning below (Inner level (carved (goto_edge at c.prefix c.source c.child) c.end es) buffer) m (carved_loose level es buffer at c.prefix c.source c.child c.end is room) c.carved k
    ∙ carved_same below level es buffer at c.prefix c.source c.child c.end k byte is

pub carved_size : (n : Node) (at : ℕ) (m : Node) → IsCarved n at m → buffer_size m ≤ buffer_size n
carved_size (Leaf entries) at m c = absurd (none-some (Goto c.prefix c.source c.child) c.there)
carved_size (Inner level es buffer) at m c =
    compacted_size (Inner level (carved (goto_edge at c.prefix c.source c.child) c.end es) buffer) m c.carved

pub carved_edges : (n : Node) (at : ℕ) (m : Node) → IsShape n → IsCarved n at m → length (edges_of m) ≤ length (edges_of n) + 2
carved_edges (Leaf entries) at m h c = absurd (none-some (Goto c.prefix c.source c.child) c.there)
carved_edges (Inner level es buffer) at m h c =
    let made : List Edge = carved (goto_edge at c.prefix c.source c.child) c.end es in
    let few : length made ≤ length es + 2 = carved_few level es buffer at c.prefix c.source c.child c.end (known level es buffer at m h c) in
    subst (λ (x : Node). length (edges_of x) ≤ length es + 2) (sym c.carved.swept) (omega (arith, length-map made (lowered c.carved.mask)))

pub carved_times : (n : Node) (at : ℕ) (m : Node) → IsShape n → IsCarved n at m → (c : ℕ) → 1 ≤ times m c → 1 ≤ times n c
carved_times (Leaf entries) at m h c name some = absurd (none-some (Goto c.prefix c.source c.child) c.there)
carved_times (Inner level es buffer) at m h c name some =
    let made : Node = Inner level (carved (goto_edge at c.prefix c.source c.child) c.end es) buffer in
    let less : times m name ≤ times made name = compacted_times made m c.carved name in
    carved_names level es buffer at c.prefix c.source c.child c.end name (known level es buffer at m h c) (omega arith)

asked_of : (level : ℕ) (es : List Edge) (buffer : List Message) (at : ℕ) (m : Node) → IsInner level es buffer → (c : IsCarved (Inner level es buffer) at m) → (k : List ℕ) → IsKey k → begins k c.prefix ≡ true → (e : Edge) → edge_of es k ≡ Some e → e.seen ≤ at
    → (f : Edge) × (edge_of (edges_of m) k ≡ Some f) × IsGotoWay c.prefix c.source c.child f
asked_of level es buffer at m h c k byte front e is low =
    let own : Edge = goto_edge at c.prefix c.source c.child in
    let got = carved_takes level es buffer at c.prefix c.source c.child c.end k e byte (known level es buffer at m h c) front is low in (
      lowered c.carved.mask got.0,
      ap (λ (x : Node). edge_of (edges_of x) k) c.carved.swept ∙ edge_of-lowered c.carved.mask (carved own c.end es) k got.0 got.1,
      record {
        lift = ap (λ (f : Edge). f.lift) got.2;
        source_is = ap (λ (f : Edge). f.source) got.2;
        child_is = ap (λ (f : Edge). f.child) got.2;
      },
    )

same_goto : (p s p' s' : List ℕ) (child child' : ℕ) → Goto p s child ≡ Goto p' s' child' → (p ≡ p') × (s ≡ s') × (child ≡ child')
same_goto p s p' s' child child' h = (cc, cc, cc)

pub carved_asked : (n : Node) (at : ℕ) (m : Node) (p s : List ℕ) (child : ℕ) → IsShape n → IsCarved n at m → slice_get (buffer_of n) at ≡ Some (Goto p s child) → (k : List ℕ) → IsKey k → begins k p ≡ true → (e : Edge) → edge_of (edges_of n) k ≡ Some e → e.seen ≤ at
    → (f : Edge) × (edge_of (edges_of m) k ≡ Some f) × IsGotoWay p s child f
carved_asked (Leaf entries) at m p s child h c there k byte front e is low = absurd (none-some (Goto p s child) there)
carved_asked (Inner level es buffer) at m p s child h c there k byte front e is low =
    let same = same_goto c.prefix c.source p s c.child child (same_Some (Goto c.prefix c.source c.child) (Goto p s child) (sym c.there ∙ there)) in
    let got = asked_of level es buffer at m h c k byte (subst (λ (q : List ℕ). begins k q ≡ true) (sym same.0) front) e is low in (
      got.0,
      got.1,
      subst (λ (q : List ℕ). IsGotoWay q s child got.0) same.0
          (subst (λ (t : List ℕ). IsGotoWay c.prefix t child got.0) same.1 (subst (λ (x : ℕ). IsGotoWay c.prefix c.source x got.0) same.2 got.2)),
    )

-- ---- of a node's parts

-- what the code has read of a node with a Goto at a place
pub record IsReady (n : Node) (at level : ℕ) (es : List Edge) (messages : List Message) (own : Edge) (end : Option (List ℕ)) : Type 0 where
  pub prefix : List ℕ
  pub source : List ℕ
  pub child : ℕ
  pub own_is : own ≡ goto_edge at prefix source child
  pub node : n ≡ Inner level es messages
  pub known : IsKnown level es messages at prefix source child end

pub ready : (n : Node) (level : ℕ) (es : List Edge) (buffer messages : List Message) (at : ℕ) (m : Message) (own : Edge) (pivot : List ℕ) (end : Option (List ℕ)) → n ≡ Inner level es buffer → IsShape n → IsGotoAt n at → messages ≡ buffer
    → m ≡ get_or messages at m → IsGotoEdge at m own → pivot ≡ own.pivot → IsKey pivot → IsEnd pivot end → IsReady n at level es messages own end
ready n level es buffer messages at m own pivot end is shape goto same read edge pivot_is bytes ends =
    let node : n ≡ Inner level es messages = is ∙ ap (λ (l : List Message). Inner level es l) (sym same) in
    let there : slice_get messages at ≡ Some (Goto goto.prefix goto.source goto.child) = subst (λ (x : Node). slice_get (buffer_of x) at ≡ Some (Goto goto.prefix goto.source goto.child)) node goto.there in
    let m_is : m ≡ Goto goto.prefix goto.source goto.child = read ∙ get_or_from_slice_get messages at (Goto goto.prefix goto.source goto.child) m there in
    let own_is : own ≡ goto_edge at goto.prefix goto.source goto.child = subst (λ (x : Message). IsGotoEdge at x own) m_is edge in
    let front : pivot ≡ goto.prefix = pivot_is ∙ ap (λ (e : Edge). e.pivot) own_is in
    record {
      prefix = goto.prefix;
      source = goto.source;
      child = goto.child;
      own_is = own_is;
      node = node;
      known = record {
        inner = subst IsShape node shape;
        there = there;
        bytes = subst IsKey front bytes;
        ends = subst (λ (p : List ℕ). IsEnd p end) front ends;
      };
    }

pub same_carved : (own : Edge) (end found : Option (List ℕ)) (es list : List Edge) → end ≡ found → es ≡ list → carved own end es ≡ carved own found list
same_carved own end found es list same same_list = ap (λ (o : Option (List ℕ)). carved own o es) same ∙ ap (λ (l : List Edge). carved own found l) same_list

pub goto_low : (n : Node) (level : ℕ) (es : List Edge) (buffer : List Message) (at : ℕ) → n ≡ Inner level es buffer → IsShape n → IsGotoAt n at → at + 1 < 2 ^ 32
goto_low n level es buffer at is shape goto =
    let few : length buffer ≤ 2048 = few_wait level es buffer (subst IsShape is shape) in
    let low : at < length buffer = slice_get_within buffer at (Goto goto.prefix goto.source goto.child) (subst (λ (x : Node). slice_get (buffer_of x) at ≡ Some (Goto goto.prefix goto.source goto.child)) is goto.there) in
    omega arith

pub ready_loose : (n : Node) (at level : ℕ) (es made : List Edge) (messages : List Message) (own : Edge) (end : Option (List ℕ)) → IsReady n at level es messages own end → length (edges_of n) ≤ 14 → made ≡ carved own end es → IsLoose level made messages
ready_loose n at level es made messages own end h room is =
    subst (λ (l : List Edge). IsLoose level l messages) (sym (is ∙ ap (λ (e : Edge). carved e end es) h.own_is))
    (carved_loose level es messages at h.prefix h.source h.child end h.known (subst (λ (x : Node). length (edges_of x) ≤ 14) h.node room))

pub ready_carved : {E : Type 0} (n : Node) (at level : ℕ) (es made : List Edge) (messages : List Message) (own : Edge) (end : Option (List ℕ)) (r : Result Node E) → IsReady n at level es messages own end → made ≡ carved own end es
    → IfOk r (λ m. IsSwept level made messages m) → IfOk r (λ m. IsCarved n at m)
ready_carved n at level es made messages own end (Err e) h is swept = tt
ready_carved n at level es made messages own end (Ok m) h is swept =
    subst (λ (x : Node). IsCarved x at m) (sym h.node)
    (record {
      prefix = h.prefix;
      source = h.source;
      child = h.child;
      there = h.known.there;
      bytes = h.known.bytes;
      end = end;
      ends = h.known.ends;
      carved = subst (λ (l : List Edge). IsSwept level l messages m) (is ∙ ap (λ (e : Edge). carved e end es) h.own_is) swept;
    })

pub shape_carved : {E : Type 0} (n : Node) (at : ℕ) (r : Result Node E) → IsShape n → length (edges_of n) ≤ 14 → IfOk r (λ m. IsCarved n at m) → IfOk r IsShape
shape_carved n at (Err e) h room c = tt
shape_carved n at (Ok m) h room c = carved_shape n at m h room c
