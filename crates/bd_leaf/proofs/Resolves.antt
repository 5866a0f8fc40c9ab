-- What a batch does to entries, key by key.
use Rattle.std.proofs.Common.{◌≡◌, ℕ, ◌+◌, ◌≤◌, true, false, not, List, [], ◌∷◌, ◌++◌, refl, sym, ap, subst, ◌∙◌, None, Some, arith, inl, inr, cond}
use Rattle.std.specs.Prelude.{Bool, Option}
use Rattle.std.specs.List.{AllByRecursion, sum_by, filter}
use Rattle.std.proofs.lemmas.Bool.{cases_Bool}
use Rattle.std.proofs.lemmas.List.Sums.{sum_by-cons, sum_by-append}
use Rattle.bd_message.specs.declared.message.Message.{Message}
use Rattle.bd_message.specs.declared.message.Message.TheVariants.{Del, Cut}
use Rattle.bd_message.specs.Messages.{size}
use Rattle.bd_message.specs.Effect.{NodesAt, same_key, is_cut, act, acts}
use Rattle.bd_node.specs.declared.node.Entry.{Entry}
use Rattle.bd_node.specs.Index.{own_key}
use Rattle.bd_node.specs.Nodes.{entry_at}
use Rattle.bd_node.specs.Shape.{IsEntry}
use Rattle.bd_node.specs.Touching.{touches}
use Rattle.bd_node.proofs.Lookup.{each_first, each_second, each_both}
use Rattle.bd_leaf.specs.Leaves.{AreEntries, IsCovered, IsReceived, entries_size}
use Rattle.bd_leaf.specs.Points.{IsPoint, IsResolved, IsSorted, dels_of, growth, message_of, messages_of}
use Rattle.bd_leaf.specs.Merging.{IsMerged}
use Rattle.bd_leaf.specs.declared.points.Point.{Point}
use Rattle.bd_leaf.proofs.OnKeys.{IsOther, act-other, acts-append, acts-other, growth-size}
use Rattle.bd_leaf.proofs.Parts.{apart, exchanged, false_true, true_false}

messages-append : (ps qs : List Point) → messages_of (ps ++ qs) ≡ messages_of ps ++ messages_of qs
messages-append [] qs = refl
messages-append (p ∷ ps) qs = ap (λ (ms : List Message). message_of p ∷ ms) (messages-append ps qs)

-- ---- a message on one key

pub with_point : (entries : List Entry) (list : List Message) (ps qs : List Point) (p : Point) → IsResolved entries list (messages_of ps) → IsPoint (message_of p) → qs ≡ ps ++ p ∷ [] → IsResolved entries (list ++ message_of p ∷ []) (messages_of qs)
with_point entries list ps qs p h own is =
    let m : Message = message_of p in
    let now : messages_of qs ≡ messages_of ps ++ m ∷ [] = ap messages_of is ∙ messages-append ps (p ∷ []) in
    subst (λ (ms : List Message). IsResolved entries (list ++ m ∷ []) ms) (sym now)
    (record {
      each = each_both IsPoint (messages_of ps) (m ∷ []) h.each (own, tt);
      acted = λ below k.
          acts-append below (messages_of ps) (m ∷ []) k (entry_at entries k)
          ∙ ap (act below m k) (h.acted below k)
          ∙ sym (acts-append below list (m ∷ []) k (entry_at entries k));
      size = (let new : sum_by growth (messages_of ps ++ m ∷ []) ≡ sum_by growth (messages_of ps) + sum_by growth (m ∷ []) = sum_by-append growth (messages_of ps) (m ∷ []) in
          let one : sum_by growth (m ∷ []) ≡ growth m + 0 = sum_by-cons growth m [] in
          let more : sum_by size (list ++ m ∷ []) ≡ sum_by size list + sum_by size (m ∷ []) = sum_by-append size list (m ∷ []) in
          let two : sum_by size (m ∷ []) ≡ size m + 0 = sum_by-cons size m [] in
          let few : growth m ≤ size m = growth-size m in
          let was : sum_by growth (messages_of ps) ≤ sum_by size list = h.size in
          omega arith);
    })

-- ---- a cut

-- the points at keys that don't pass a test
abbrev left_by : (List ℕ → Bool) → List Point → List Point
left_by test ps = filter (λ (p : Point). not (test (own_key (message_of p)))) ps

left_each : (test : List ℕ → Bool) (ps : List Point) → AllByRecursion IsPoint (messages_of ps) → AllByRecursion IsPoint (messages_of (left_by test ps))
left_each test [] h = tt
left_each test (p ∷ ps) h =
    elim (test (own_key (message_of p))) as (λ (b : Bool). AllByRecursion IsPoint (messages_of (cond (not b) (p ∷ left_by test ps) (left_by test ps)))) [
      | true ↦ left_each test ps h.1
      | false ↦ (h.0, left_each test ps h.1)
    ]

left_other : (test : List ℕ → Bool) (ps : List Point) (k : List ℕ) → test k ≡ true → AllByRecursion IsPoint (messages_of ps) → AllByRecursion (IsOther k) (messages_of (left_by test ps))
left_other test [] k at h = tt
left_other test (p ∷ ps) k at h =
    elim (test (own_key (message_of p))) as (λ (b : Bool). test (own_key (message_of p)) ≡ b → AllByRecursion (IsOther k) (messages_of (cond (not b) (p ∷ left_by test ps) (left_by test ps)))) [
      | true ↦ λ own. left_other test ps k at h.1
      | false ↦ λ own. ((h.0.point, apart test false true k (own_key (message_of p)) own at false_true), left_other test ps k at h.1)
    ] refl

left_same : (below : NodesAt) (test : List ℕ → Bool) (ps : List Point) (k : List ℕ) (o : Option (List ℕ)) → test k ≡ false → AllByRecursion IsPoint (messages_of ps) → acts below (messages_of (left_by test ps)) k o ≡ acts below (messages_of ps) k o
left_same below test [] k o at h = refl
left_same below test (p ∷ ps) k o at h =
    elim (test (own_key (message_of p))) as (λ (b : Bool). test (own_key (message_of p)) ≡ b → acts below (messages_of (cond (not b) (p ∷ left_by test ps) (left_by test ps))) k o ≡ acts below (messages_of (p ∷ ps)) k o) [
      | true ↦ λ own.
          left_same below test ps k o at h.1
          ∙ sym (ap (acts below (messages_of ps) k) (act-other below (message_of p) k o h.0.point (apart test true false k (own_key (message_of p)) own at true_false)))
      | false ↦ λ own. left_same below test ps k (act below (message_of p) k o) at h.1
    ] refl

left_growth : (test : List ℕ → Bool) (ps : List Point) → sum_by growth (messages_of (left_by test ps)) ≤ sum_by growth (messages_of ps)
left_growth test [] = omega arith
left_growth test (p ∷ ps) =
    let more : sum_by growth (messages_of (p ∷ ps)) ≡ growth (message_of p) + sum_by growth (messages_of ps) = sum_by-cons growth (message_of p) (messages_of ps) in
    let few : sum_by growth (messages_of (left_by test ps)) ≤ sum_by growth (messages_of ps) = left_growth test ps in
    elim (test (own_key (message_of p))) as (λ (b : Bool). sum_by growth (messages_of (cond (not b) (p ∷ left_by test ps) (left_by test ps))) ≤ sum_by growth (messages_of (p ∷ ps))) [
      | true ↦ omega arith
      | false ↦ (let kept : sum_by growth (messages_of (p ∷ left_by test ps)) ≡ growth (message_of p) + sum_by growth (messages_of (left_by test ps)) = sum_by-cons growth (message_of p) (messages_of (left_by test ps)) in omega arith)
    ]

dels_each : (es : List Entry) → AllByRecursion IsEntry es → AllByRecursion IsPoint (dels_of es)
dels_each [] h = tt
dels_each (e ∷ es) h = (record { message = h.0.key; point = refl }, dels_each es h.1)

-- Dels of entries whose keys pass a test don't count at a key that doesn't
dels_other : (test : List ℕ → Bool) (es : List Entry) (k : List ℕ) → test k ≡ false → AllByRecursion (λ (e : Entry). test e.key ≡ true) es → AllByRecursion (IsOther k) (dels_of es)
dels_other test [] k at h = tt
dels_other test (e ∷ es) k at h = ((refl, apart test true false k e.key h.0 at true_false), dels_other test es k at h.1)

dels_nothing : (below : NodesAt) (es : List Entry) (k : List ℕ) → acts below (dels_of es) k None ≡ None
dels_nothing below [] k = refl
dels_nothing below (e ∷ es) k =
    elim (same_key k e.key) as (λ (b : Bool). acts below (dels_of es) k (cond b None None) ≡ None) [
      | true ↦ dels_nothing below es k
      | false ↦ dels_nothing below es k
    ]

-- nothing is left of the entries themselves
dels_none : (below : NodesAt) (es : List Entry) (k : List ℕ) → acts below (dels_of es) k (entry_at es k) ≡ None
dels_none below [] k = refl
dels_none below (e ∷ es) k =
    elim (same_key k e.key) as (λ (b : Bool). acts below (dels_of es) k (cond b None (cond b (Some e.value) (entry_at es k))) ≡ None) [
      | true ↦ dels_nothing below es k
      | false ↦ dels_none below es k
    ]

dels_growth : (es : List Entry) → sum_by growth (dels_of es) ≡ 0
dels_growth [] = refl
dels_growth (e ∷ es) = sum_by-cons growth (Del e.key) (dels_of es) ∙ (let h : sum_by growth (dels_of es) ≡ 0 = dels_growth es in let s : 0 + sum_by growth (dels_of es) ≡ 0 = omega arith in s)

with_cut : (entries old : List Entry) (list : List Message) (ps : List Point) (prefix from : List ℕ) → AreEntries entries → IsCovered entries prefix from old → IsResolved entries list (messages_of ps)
    → IsResolved entries (list ++ Cut prefix from ∷ []) (messages_of (left_by (is_cut prefix from) ps) ++ dels_of old)
with_cut entries old list ps prefix from all covers h =
    let test : List ℕ → Bool = is_cut prefix from in
    let left : List Message = messages_of (left_by test ps) in
    let m : Message = Cut prefix from in
    let whole : AllByRecursion IsEntry (covers.before ++ (old ++ covers.after)) = subst (λ (es : List Entry). AllByRecursion IsEntry es) covers.whole all.each in
    record {
      each = each_both IsPoint left (dels_of old) (left_each test ps h.each) (dels_each old (each_first IsEntry old covers.after (each_second IsEntry covers.before (old ++ covers.after) whole)));
      acted = λ below k.
          let o : Option (List ℕ) = entry_at entries k in
          acts-append below left (dels_of old) k o
          ∙ (elim (cases_Bool (test k)) as (λ _. acts below (dels_of old) k (acts below left k o) ≡ cond (test k) None (acts below list k o)) [
            | inl at ↦ (let here : o ≡ entry_at old k =
                ap (λ (es : List Entry). entry_at es k) covers.whole
                ∙ exchanged test covers.before old old covers.after k covers.kept covers.out covers.out covers.later
                ∙ ap (λ (b : Bool). cond b (entry_at old k) (entry_at (covers.before ++ (old ++ covers.after)) k)) at in
                ap (acts below (dels_of old) k) (acts-other below left k o (left_other test ps k at h.each) ∙ here)
                ∙ dels_none below old k
                ∙ sym (ap (λ (b : Bool). cond b None (acts below list k o)) at))
            | inr past ↦
                acts-other below (dels_of old) k (acts below left k o) (dels_other test old k past covers.out)
                ∙ left_same below test ps k o past h.each
                ∙ h.acted below k
                ∙ sym (ap (λ (b : Bool). cond b None (acts below list k o)) past)
          ])
          ∙ sym (acts-append below list (m ∷ []) k o);
      size = (let new : sum_by growth (left ++ dels_of old) ≡ sum_by growth left + sum_by growth (dels_of old) = sum_by-append growth left (dels_of old) in
          let none : sum_by growth (dels_of old) ≡ 0 = dels_growth old in
          let few : sum_by growth left ≤ sum_by growth (messages_of ps) = left_growth test ps in
          let more : sum_by size (list ++ m ∷ []) ≡ sum_by size list + sum_by size (m ∷ []) = sum_by-append size list (m ∷ []) in
          let was : sum_by growth (messages_of ps) ≤ sum_by size list = h.size in
          omega arith);
    }

-- the same, of what the code reads
pub cut_added : (entries old : List Entry) (list : List Message) (ps left new : List Point) (m : Message) (prefix from : List ℕ) → m ≡ Cut prefix from → AreEntries entries → IsCovered entries prefix from old → left ≡ filter (λ (p : Point). not (touches m (own_key (message_of p)))) ps
    → messages_of new ≡ messages_of left ++ dels_of old → IsResolved entries list (messages_of ps) → IsResolved entries (list ++ m ∷ []) (messages_of new)
cut_added entries old list ps left new m prefix from is all covers left_is new_is h =
    subst (λ (n : Message). IsResolved entries (list ++ n ∷ []) (messages_of new)) (sym is)
    (subst (λ (ms : List Message). IsResolved entries (list ++ Cut prefix from ∷ []) ms)
    (sym (new_is ∙ ap (λ (qs : List Point). messages_of qs ++ dels_of old) (left_is ∙ ap (λ (n : Message). filter (λ (p : Point). not (touches n (own_key (message_of p)))) ps) is)))
    (with_cut entries old list ps prefix from all covers h))

-- ---- a batch

pub received : (entries new : List Entry) (list points turned : List Message) → IsResolved entries list points → IsSorted points turned → IsMerged entries turned new → IsReceived entries list new
received entries new list points turned h sorted merged = record {
  entries = merged.entries;
  acted = λ below k. merged.acted below k ∙ sorted.acted below k (entry_at entries k) ∙ h.acted below k;
  size = (let grown : entries_size new ≤ entries_size entries + sum_by growth turned = merged.size in
      let same : sum_by growth turned ≡ sum_by growth points = sorted.growth in
      let few : sum_by growth points ≤ sum_by size list = h.size in
      omega arith);
}
