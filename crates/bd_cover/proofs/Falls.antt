-- How much is left to change falls.
use Rattle.std.proofs.Common.{◌≡◌, ℕ, zero, suc, ◌+◌, ◌<◌, ◌≤◌, Bool, true, false, List, [], ◌∷◌, ◌++◌, length, take, drop, map, refl, sym, ap, subst, arith, inl, inr, length-drop, Option, None, Some}
use Rattle.std.specs.List.{sum_by}
use Rattle.std.specs.Option.{option_to_list}
use Rattle.std.proofs.lemmas.Bool.{cases_eq}
use Rattle.std.proofs.lemmas.List.Sums.{sum_by-cons, sum_by-append}
use Rattle.std.proofs.lemmas.Option.{none-some, slice_get_within}
use Rattle.bd_message.specs.declared.message.Message.{Message}
use Rattle.bd_message.specs.declared.message.Message.TheVariants.{Put, Del, Patch, Cut, Goto}
use Rattle.bd_node.specs.declared.node.Edge.{Edge}
use Rattle.bd_node.specs.declared.node.Node.{Node}
use Rattle.bd_node.specs.declared.node.Node.TheVariants.{Leaf, Inner}
use Rattle.bd_node.specs.Nodes.{edge_names}
use Rattle.bd_node.specs.Tables.{sum_below}
use Rattle.bd_node.specs.Keeping.{staying, stay_count}
use Rattle.bd_node.proofs.Keeping.{count-yes, count-skip}
use Rattle.bd_node.specs.Compaction.{lowered}
use Rattle.bd_cover.specs.declared.covering.Cover.{Cover}
use Rattle.bd_cover.specs.declared.covering.Cover.TheVariants.{Gone, Elsewhere}
use Rattle.bd_cover.specs.Covering.{Says, decided_edge}
use Rattle.bd_cover.specs.Reclaimed.{unseen_count, child_count, left_at}
use Rattle.bd_cover.proofs.Decided.{IsDeciding, IsInto, whole_of}

-- ---- sums

pub sum_no_more : (n : ℕ) (f g : ℕ → ℕ) → ((i : ℕ) → i < n → g i ≤ f i) → sum_below n g ≤ sum_below n f
unfolding sum_below
sum_no_more zero f g each = omega arith
sum_no_more (suc n) f g each = omega (arith, each n (omega arith), sum_no_more n f g (λ i low. each i (omega arith)))

pub sum_falls : (n : ℕ) (f g : ℕ → ℕ) (p : ℕ) → p < n → g p < f p → ((i : ℕ) → i < n → g i ≤ f i) → sum_below n g < sum_below n f
unfolding sum_below
sum_falls zero f g p low less each = absurd (omega arith)
sum_falls (suc n) f g p low less each =
    elim (cases_eq p n) [
      | inl same ↦
          let here : g n < f n = subst (λ (i : ℕ). g i < f i) same less in
          omega (arith, here, sum_no_more n f g (λ i below. each i (omega arith)))
      | inr other ↦ omega (arith, each n (omega arith), sum_falls n f g p (omega arith) less (λ i below. each i (omega arith)))
    ]

-- ---- messages that stay

-- how many messages there are from a place on
abbrev pub after : ℕ → List Message → ℕ
after seen buffer = length (drop seen buffer)

staying_few : (mask : List Bool) (xs : List Message) → length (staying mask xs) ≤ length xs
staying_few [] xs = omega arith
staying_few (b ∷ mask) [] = omega arith
staying_few (true ∷ mask) (x ∷ xs) = (let few : length (staying mask xs) ≤ length xs = staying_few mask xs in omega arith)
staying_few (false ∷ mask) (x ∷ xs) = (let few : length (staying mask xs) ≤ length xs = staying_few mask xs in omega arith)

stay_after : (mask : List Bool) (xs : List Message) (n : ℕ) → length mask ≡ length xs → after (stay_count mask n) (staying mask xs) ≤ after n xs
stay_after mask xs zero same = staying_few mask xs
stay_after [] xs (suc n) same = omega arith
stay_after (b ∷ mask) [] (suc n) same = absurd (omega arith)
stay_after (true ∷ mask) (x ∷ xs) (suc n) same =
    subst (λ (i : ℕ). after i (x ∷ staying mask xs) ≤ after n xs) (sym (count-yes (take n mask))) (stay_after mask xs n (omega arith))
stay_after (false ∷ mask) (x ∷ xs) (suc n) same =
    subst (λ (i : ℕ). after i (staying mask xs) ≤ after n xs) (sym (count-skip (take n mask))) (stay_after mask xs n (omega arith))

-- how many messages edges haven't seen
abbrev pub count_after : List Message → List Edge → ℕ
count_after buffer es = sum_by (λ (e : Edge). after e.seen buffer) es

pub lowered_after : (mask : List Bool) (buffer : List Message) (es : List Edge) → length mask ≡ length buffer → count_after (staying mask buffer) (map (lowered mask) es) ≤ count_after buffer es
lowered_after mask buffer [] same = omega arith
lowered_after mask buffer (e ∷ es) same =
    omega (arith, sum_by-cons (λ (e : Edge). after e.seen (staying mask buffer)) (lowered mask e) (map (lowered mask) es), sum_by-cons (λ (e : Edge). after e.seen buffer) e es, stay_after mask buffer e.seen same, lowered_after mask buffer es same)

-- ---- children

-- how many children edges have
abbrev pub children : List Edge → ℕ
children es = sum_by (λ (e : Edge). length (edge_names e)) es

pub lowered_children : (mask : List Bool) (es : List Edge) → children (map (lowered mask) es) ≡ children es
lowered_children mask [] = refl
lowered_children mask (e ∷ es) =
    let h = λ (x : Edge). length (edge_names x) in
    let own : h (lowered mask e) ≡ h e = refl in
    omega (arith, own, sum_by-cons h (lowered mask e) (map (lowered mask) es), sum_by-cons h e es, lowered_children mask es)

pub one_name : (o : Option ℕ) → length (option_to_list o) ≤ 1
one_name None = omega arith
one_name (Some child) = omega arith

join_children : (xs rs : List Edge) (e f : Edge) (ys : List Edge) → children (xs ++ f ∷ ys) ≤ children (xs ++ e ∷ (rs ++ ys)) + 1
join_children xs rs e f ys =
    let h = λ (x : Edge). length (edge_names x) in
    let few : h f ≤ 1 = one_name f.child in
    omega (arith, few, sum_by-append h xs (f ∷ ys), sum_by-append h xs (e ∷ (rs ++ ys)), sum_by-cons h f ys, sum_by-cons h e (rs ++ ys), sum_by-append h rs ys)

-- ---- an edge that sees more

sees_more : (cover : Cover) (e : Edge) (at : ℕ) (m : Message) (buffer : List Message) → Says cover m → e.seen ≤ at → at < length buffer → after (decided_edge e at m).seen buffer < after e.seen buffer
sees_more Gone e at (Put key value) buffer says low within = absurd says
sees_more Gone e at (Del key) buffer says low within = absurd says
sees_more Gone e at (Patch key off bytes) buffer says low within = absurd says
sees_more Gone e at (Cut prefix from) buffer says low within = omega (arith, length-drop (at + 1) buffer, length-drop e.seen buffer)
sees_more Gone e at (Goto prefix source child) buffer says low within = absurd says
sees_more Elsewhere e at (Put key value) buffer says low within = absurd says
sees_more Elsewhere e at (Del key) buffer says low within = absurd says
sees_more Elsewhere e at (Patch key off bytes) buffer says low within = absurd says
sees_more Elsewhere e at (Cut prefix from) buffer says low within = absurd says
sees_more Elsewhere e at (Goto prefix source child) buffer says low within = omega (arith, length-drop (at + 1) buffer, length-drop e.seen buffer)

join_less : (buffer : List Message) (xs rs : List Edge) (e f : Edge) (ys : List Edge) → after f.seen buffer < after e.seen buffer → count_after buffer (xs ++ f ∷ ys) < count_after buffer (xs ++ e ∷ (rs ++ ys))
join_less buffer xs rs e f ys less =
    let h = λ (x : Edge). after x.seen buffer in
    omega (arith, sum_by-append h xs (f ∷ ys), sum_by-append h xs (e ∷ (rs ++ ys)), sum_by-cons h f ys, sum_by-cons h e (rs ++ ys), sum_by-append h rs ys)

-- less is left at the node
pub made_less : (cover : Cover) (n : Node) (place at count : ℕ) (e : Edge) (m : Message) (made : Node) → IsDeciding cover n place at count e m → IsInto n place at count e m made → left_at made < left_at n
made_less cover (Leaf entries) place at count e m made h into = absurd (none-some e h.here)
made_less cover (Inner level es buffer) place at count e m made h into =
    let f : Edge = decided_edge e at m in
    let xs : List Edge = take place es in
    let rs : List Edge = take count (drop (place + 1) es) in
    let ys : List Edge = drop count (drop (place + 1) es) in
    let whole : es ≡ xs ++ e ∷ (rs ++ ys) = whole_of es place count e h.here in
    let less : count_after buffer (xs ++ f ∷ ys) < count_after buffer (xs ++ e ∷ (rs ++ ys)) =
    join_less buffer xs rs e f ys (sees_more cover e at m buffer h.decides.1 h.decides.0 (slice_get_within buffer at m h.there)) in
    let after_all : count_after (staying into.mask buffer) (map (lowered into.mask) (xs ++ f ∷ ys)) ≤ count_after buffer (xs ++ f ∷ ys) =
    lowered_after into.mask buffer (xs ++ f ∷ ys) into.pending.long in
    let old : count_after buffer es ≡ count_after buffer (xs ++ e ∷ (rs ++ ys)) = ap (λ (l : List Edge). count_after buffer l) whole in
    let new : unseen_count made ≡ count_after (staying into.mask buffer) (map (lowered into.mask) (xs ++ f ∷ ys)) = ap unseen_count into.swept in
    let counted : child_count made ≡ children (map (lowered into.mask) (xs ++ f ∷ ys)) = ap child_count into.swept in
    let same : children (map (lowered into.mask) (xs ++ f ∷ ys)) ≡ children (xs ++ f ∷ ys) = lowered_children into.mask (xs ++ f ∷ ys) in
    let few : children (xs ++ f ∷ ys) ≤ children (xs ++ e ∷ (rs ++ ys)) + 1 = join_children xs rs e f ys in
    let were : children es ≡ children (xs ++ e ∷ (rs ++ ys)) = ap children whole in
    omega (arith, less, after_all, old, new, counted, same, few, were)
