-- Layers that go onto a stack one by one, the last one first.
use Rattle.std.proofs.Common.{◌≡◌, ℕ, ◌+◌, ◌<◌, ◌≤◌, ◌^◌, List, [], ◌∷◌, ◌++◌, length, append_assoc, sym, ap, subst, ◌∙◌, Option, arith}
use Rattle.std.proofs.lemmas.List.{append-nil}
use Rattle.bd_limits.specs.Limits.{level_limit}
use Rattle.bd_node.specs.Tables.{Table, IsTable}
use Rattle.bd_resolve.specs.declared.following.Target.{Target}
use Rattle.bd_resolve.specs.Following.{IsShort}
use Rattle.bd_graft.specs.declared.layers.Layer.{Layer}
use Rattle.bd_graft.specs.declared.packing.Stack.{Stack}
use Rattle.bd_graft.specs.Layers.{above, AreLayers}
use Rattle.bd_graft.specs.Walking.{messages_in}
use Rattle.bd_graft.specs.Packing.{target_names, packs, newest_of, older_of, IsStackWith, IsLaidOn}
use Rattle.bd_graft.proofs.Packs.{IsBefore, before_any, before_more, over_next}
use Rattle.bd_graft.proofs.Grouping.{fewer, stack_room, begun_with, with_more}
use Rattle.bd_graft.proofs.Grafts.{layers_raise, end_lower}

-- the stack of the layers that are on it, where others are left
pub record IsSoFar (t : Table) (end : Option Target) (all left : List Layer) (s : Stack) : Type 0
  where
    pub done : List Layer
    pub parts : all ≡ left ++ done
    pub before : IsBefore t end done s
    pub groups : IsStackWith t end (older_of (packs (messages_in done)))
        (newest_of (packs (messages_in done))) s

layers_after : (t : Table) (high : ℕ) (xs ys : List Layer) (end : Option Target) → AreLayers t high (xs ++ ys) end → AreLayers t high ys end
layers_after t high [] ys end h = h
layers_after t high (x ∷ xs) ys end h = layers_raise t x.level high ys end (let less : x.level < high = h.1 in omega arith) (layers_after t x.level xs ys end h.3)

-- none is on it yet
pub none_so_far : (t : Table) (end : Option Target) (all : List Layer) (a : Stack) → IsTable t → AreLayers t (level_limit + 1) all end → IsShort end → a.made.items ≡ [] → a.under ≡ end → a.waiting.items ≡ [] → a.size ≡ 0 → a.level ≡ above t.level (target_names end) → IsSoFar t end all all a
none_so_far t end all a table layers short made under waiting bytes level = record {
  done = [];
  parts = sym (append-nil all);
  before = before_any t end a table (end_lower t (level_limit + 1) all end layers) short made under waiting bytes level;
  groups = begun_with t end a made under waiting bytes level;
}

-- its level, and that there is room for one node more
pub so_far_low : (t : Table) (end : Option Target) (all left : List Layer) (a : Stack) → AreLayers t (level_limit + 1) all end → IsSoFar t end all left a → a.level ≤ level_limit + 1
so_far_low t end all left a layers h =
    let done : AreLayers t (level_limit + 1) h.done end = layers_after t (level_limit + 1) left h.done end (subst (λ (x : List Layer). AreLayers t (level_limit + 1) x end) h.parts layers) in
    omega (arith, h.before.low, over_next t (level_limit + 1) h.done end done)

pub so_far_room : (t : Table) (end : Option Target) (all left : List Layer) (a : Stack) → t.next + length (packs (messages_in all)) < 2 ^ 64 → IsSoFar t end all left a → t.next + length a.made.items < 2 ^ 64
so_far_room t end all left a room h =
    stack_room t end (packs (messages_in h.done)) (newest_of (packs (messages_in h.done))) a (length (packs (messages_in all))) h.groups
    (subst (λ (x : List Layer). length (packs (messages_in h.done)) ≤ length (packs (messages_in x))) (sym h.parts) (fewer left h.done)) room

-- the last of those that are left goes onto it
next_parts : (all left rest done : List Layer) (l : Layer) → all ≡ left ++ done → left ≡ rest ++ l ∷ [] → all ≡ rest ++ l ∷ done
next_parts all left rest done l parts last = parts ∙ ap (λ (x : List Layer). x ++ done) last ∙ append_assoc rest (l ∷ []) done

pub next_layers : (t : Table) (end : Option Target) (all left rest : List Layer) (l : Layer) (a : Stack) → AreLayers t (level_limit + 1) all end → left ≡ rest ++ l ∷ [] → (h : IsSoFar t end all left a) → AreLayers t (level_limit + 1) (l ∷ h.done) end
next_layers t end all left rest l a layers last h =
    layers_after t (level_limit + 1) rest (l ∷ h.done) end (subst (λ (x : List Layer). AreLayers t (level_limit + 1) x end) (next_parts all left rest h.done l h.parts last) layers)

pub one_so_far : (t : Table) (end : Option Target) (next : ℕ) (all left rest : List Layer) (l : Layer) (a s : Stack) → IsTable t → next ≡ t.next → t.next + length (packs (messages_in all)) < 2 ^ 64 → AreLayers t (level_limit + 1) all end → left ≡ rest ++ l ∷ [] → IsSoFar t end all left a → IsLaidOn next a l s
    → IsSoFar t end all rest s
one_so_far t end next all left rest l a s table is room layers last h on =
    let own : AreLayers t (level_limit + 1) (l ∷ h.done) end = next_layers t end all left rest l a layers last h in
    record {
      done = l ∷ h.done;
      parts = next_parts all left rest h.done l h.parts last;
      before = before_more t end next l h.done a s table is (so_far_room t end all left a room h) own h.before on;
      groups = with_more t end next l h.done a s is own.2 h.before.stack.waiting.fits h.groups on;
    }

-- all are on it
all_done : (all left done : List Layer) → left ≡ [] → all ≡ left ++ done → done ≡ all
all_done all left done none parts = sym (parts ∙ ap (λ (x : List Layer). x ++ done) none)

pub all_before : (t : Table) (end : Option Target) (all left : List Layer) (s : Stack) → left ≡ [] → IsSoFar t end all left s → IsBefore t end all s
all_before t end all left s none h = subst (λ (x : List Layer). IsBefore t end x s) (all_done all left h.done none h.parts) h.before

pub all_with : (t : Table) (end : Option Target) (all left : List Layer) (s : Stack) → left ≡ [] → IsSoFar t end all left s → IsStackWith t end (older_of (packs (messages_in all))) (newest_of (packs (messages_in all))) s
all_with t end all left s none h =
    subst (λ (x : List Layer). IsStackWith t end (older_of (packs (messages_in x))) (newest_of (packs (messages_in x))) s) (all_done all left h.done none h.parts) h.groups
