-- Steps that change one private node, which keeps what it has, and make nodes below it.
use Rattle.std.proofs.Common.{◌≡◌, ℕ, ◌+◌, ◌-◌, ◌<◌, ◌≤◌, List, [], ◌∷◌, ◌⊎◌, length, refl, sym, ap, ◌∙◌, Option, None, Some, arith, inl, inr}
use Rattle.std.specs.Prelude.{slice_get}
use Rattle.std.specs.List.{AllByRecursion}
use Rattle.std.proofs.lemmas.Bool.{cases_eq}
use Rattle.bd_keys.specs.Keys.{IsKey}
use Rattle.bd_node.specs.declared.node.Node.{Node}
use Rattle.bd_node.specs.declared.node.Step.{Step}
use Rattle.bd_node.specs.Nodes.{level_of, buffer_size, names, times, node_at, node_has}
use Rattle.bd_node.specs.Meaning.{Nodes, at, found_at}
use Rattle.bd_node.specs.Shape.{IsShape}
use Rattle.bd_node.specs.Tables.{Table, IsKept, IsTable, IsLower, IsSound}
use Rattle.bd_node.specs.Private.{IsPrivate}
use Rattle.bd_node.specs.Private.IsPrivate.{root_alone, alone}
use Rattle.bd_node.specs.Steps.{given, level_or, IsStep, IsInPlace, IsTableAfter, IsCommitted}
use Rattle.bd_node.specs.Steps.HasRoom.{no_rise}
use Rattle.bd_node.proofs.Lookup.{Agree, each_named, node_at-same, node_has-key}
use Rattle.bd_node.proofs.Meanings.{at-meets}
use Rattle.bd_node.proofs.Sound.{sound-levelled, named_lower, kept_there}
use Rattle.bd_node.proofs.Stepping.{after-none, given_stays}
use Rattle.bd_path.specs.Flushed.{IsFlushed, IsNoHigher}
use Rattle.bd_path.specs.Paths.{path_step}
use Rattle.bd_path.proofs.PathSteps.{IsMadeUnder, IsPathStep, IsPathStepOf, IsPathDone, given_child, given_upper, has_made, made_old, made_new, path_child, path_may, path_in_place, path_flushed, root_stays, both_ways}

-- a node that may be changed to this one, where these are made
pub record IsOneChange (t : Table) (p : ℕ) (n : Node) (made : List Node) : Type 0 where
  pub table : IsTable t
  pub kept : IsKept t p
  pub shape : IsShape n
  pub level : level_of n ≡ t.level p
  pub named : (x : ℕ) → 1 ≤ times n x → IsLower t (t.level p) x ⊎ ((t.next ≤ x) × (x < t.next + length made))
  pub made_are : AllByRecursion (IsMadeUnder t (level_of n) p) made
  pub used : (x : ℕ) → t.next ≤ x → x < t.next + length made → 1 ≤ times n x

-- where none is made
pub lone : (t : Table) (p : ℕ) (n : Node) → IsTable t → IsKept t p → IsShape n → level_of n ≡ t.level p → ((x : ℕ) → 1 ≤ times n x → IsLower t (t.level p) x) → IsOneChange t p n []
lone t p n table kept shape level named = record {
  table = table;
  kept = kept;
  shape = shape;
  level = level;
  named = λ x one. inl (named x one);
  made_are = tt;
  used = λ x high low. absurd (omega (arith, high, low));
}

path : (t : Table) (p : ℕ) (n : Node) (made : List Node) → IsOneChange t p n made → IsPathStep t p n [] made
path t p n made b =
    let level : level_of n ≡ t.level p = b.level in
    record {
      table = b.table;
      child = b.kept;
      shape = b.shape;
      low = omega arith;
      high = omega arith;
      named = b.named;
      top = level_of n;
      under = λ x high one. omega arith;
      made_are = b.made_are;
      used = λ x high low. inl (b.used x high low);
      uppers_are = tt;
      once = tt;
    }

pub one_step : (t : Table) (p : ℕ) (n : Node) (made : List Node) → IsOneChange t p n made → IsStep t (path_step t.root p n [] made)
one_step t p n made b = path_may t p n [] made (path t p n made b)

old_name : (t : Table) (p : ℕ) (n : Node) → IsOneChange t p n [] → (x : ℕ) → 1 ≤ times n x → x < t.next
old_name t p n b x one =
    elim (b.named x one) [
      | inl lower ↦ b.table.below x lower.kept
      | inr new ↦ absurd (let high : t.next ≤ x = new.0 in let low : x < t.next + 0 = new.1 in omega arith)
    ]

-- ---- of sound nodes

-- what the first made node has
pub first_made : (nodes : Nodes) (next : ℕ) (d : Node) (k : List ℕ) → has_made nodes next (d ∷ []) next k ≡ node_has (at nodes) d k
first_made nodes next d k =
    made_new nodes next (d ∷ []) next (omega arith) k
    ∙ ap (λ (i : ℕ). found_at (at nodes) (slice_get (d ∷ []) i) k) (let z : next - next ≡ 0 = omega arith in z)

-- a private node of sound ones that may be changed to this one, which has what it had
pub record IsOneChangeOf (nodes : Nodes) (t : Table) (p : ℕ) (old n : Node) (made : List Node) : Type 0 where
  pub step : IsOneChange t p n made
  pub sound : IsSound nodes t
  pub there : nodes p ≡ Some old
  pub private : IsPrivate nodes t p
  pub meaning : (k : List ℕ) → IsKey k → node_at (has_made nodes t.next made) n k ≡ node_at (at nodes) old k

-- where none is made
pub lone_of : (nodes : Nodes) (t : Table) (p : ℕ) (old n : Node) → IsOneChange t p n [] → IsSound nodes t → nodes p ≡ Some old → IsPrivate nodes t p → ((k : List ℕ) → IsKey k → node_at (at nodes) n k ≡ node_at (at nodes) old k) → IsOneChangeOf nodes t p old n []
lone_of nodes t p old n b sound there private meaning = record {
  step = b;
  sound = sound;
  there = there;
  private = private;
  meaning = λ k key.
      node_at-same (has_made nodes t.next []) (at nodes) n k (each_named (Agree (has_made nodes t.next []) (at nodes)) (names n) (λ x one l. made_old nodes t.next [] x (old_name t p n b x one) l))
      ∙ meaning k key;
}

path_of : (nodes : Nodes) (t : Table) (p : ℕ) (old n : Node) (made : List Node) → IsOneChangeOf nodes t p old n made → IsPathStepOf nodes t p n [] made
path_of nodes t p old n made b =
    let level : level_of n ≡ t.level p = b.step.level in
    record {
      step = path t p n made b.step;
      sound = b.sound;
      private = b.private;
      room = no_rise (omega arith);
      moves = inl (λ k.
          path_child nodes t.next p n made k
          ∙ sym (both_ways nodes (has_made nodes t.next made) p n
          (λ l key. b.meaning l key ∙ sym (node_has-key (at nodes) old l key) ∙ sym ((at-meets nodes (sound-levelled nodes t b.sound)).each p old b.there l))
          k));
      uppers_of = tt;
    }

pub one_in_place : (nodes : Nodes) (t : Table) (p : ℕ) (old n : Node) (made : List Node) → IsOneChangeOf nodes t p old n made → IsInPlace nodes t (path_step t.root p n [] made)
one_in_place nodes t p old n made b = path_in_place nodes t p n [] made (path_of nodes t p old n made b)

-- ---- the step is made

pub record IsOneChanged (nodes : Nodes) (t : Table) (p : ℕ) (old n : Node) (made : List Node) (new : Nodes) (u : Table) : Type 0 where
  pub of : IsOneChangeOf nodes t p old n made
  pub after : IsTableAfter t (path_step t.root p n [] made) u
  pub committed : IsCommitted nodes t (path_step t.root p n [] made) new u

done : (nodes : Nodes) (t : Table) (p : ℕ) (old n : Node) (made : List Node) (new : Nodes) (u : Table) → IsOneChanged nodes t p old n made new u → IsPathDone nodes t p n [] made new u
done nodes t p old n made new u b = record { of = path_of nodes t p old n made b.of; after = b.after; committed = b.committed }

pub one_flushed : (nodes : Nodes) (t : Table) (p : ℕ) (old n : Node) (made : List Node) (new : Nodes) (u : Table) → IsOneChanged nodes t p old n made new u → length made ≤ 4 → IsFlushed nodes t new u
one_flushed nodes t p old n made new u b few = path_flushed nodes t p n [] made new u (done nodes t p old n made new u b) few

one_stays : (nodes : Nodes) (t : Table) (p : ℕ) (old n : Node) (made : List Node) (new : Nodes) (u : Table) → IsOneChanged nodes t p old n made new u → (q : ℕ) → IsPrivate nodes t q → t.level p ≤ t.level q → IsKept u q
one_stays nodes t p old n made new u b q (root_alone one) high = root_stays t p n [] made u b.after
one_stays nodes t p old n made new u b q (alone id _ m above there one count) high =
    let lower : IsLower t (t.level id) q = named_lower nodes t b.of.sound id m there q one in
    let down : t.level q < t.level id = lower.lower in
    let kept : IsKept u id = one_stays nodes t p old n made new u b id above (omega arith) in
    let other : id ≡ p → ⊥ = λ e. (let l : t.level id ≡ t.level p = ap t.level e in omega arith) in
    let low : id < t.next = b.of.step.table.below id (kept_there nodes t b.of.sound id m there) in
    let still : new id ≡ Some m = b.committed.stays id kept ∙ after-none nodes t (path_step t.root p n [] made) id (given_upper t p n [] made id low other) ∙ there in
    (named_lower new u b.committed.sound id m still q one).kept

pub one_there : (nodes : Nodes) (t : Table) (p : ℕ) (old n : Node) (made : List Node) (new : Nodes) (u : Table) → IsOneChanged nodes t p old n made new u → new p ≡ Some n
one_there nodes t p old n made new u b =
    given_stays nodes t (path_step t.root p n [] made) new u b.committed p n (one_stays nodes t p old n made new u b p b.of.private (omega arith))
    (given_child t p n [] made (b.of.step.table.below p b.of.step.kept))

pub one_no_higher : (t : Table) (p : ℕ) (n : Node) (made : List Node) (u : Table) → IsOneChange t p n made → IsTableAfter t (path_step t.root p n [] made) u → (p ≡ t.root → buffer_size n ≤ t.size) → IsNoHigher t u
one_no_higher t p n made u b after fits =
    let low : t.root < t.next = b.table.below t.root b.table.root in
    let step : Step = path_step t.root p n [] made in
    elim (cases_eq t.root p) [
      | inl same ↦
          let is : given t.next step t.root ≡ Some n = ap (λ (i : ℕ). given t.next step i) same ∙ given_child t p n [] made (b.table.below p b.kept) in
          record {
            root = after.root;
            level = ap u.level after.root ∙ after.level t.root (root_stays t p n [] made u after) ∙ ap (λ (o : Option Node). level_or o (t.level t.root)) is ∙ b.level ∙ ap t.level (sym same);
            size = (let size : u.size ≡ buffer_size n = after.size n is in let few : buffer_size n ≤ t.size = fits (sym same) in omega arith);
          }
      | inr other ↦
          let is : given t.next step t.root ≡ None = given_upper t p n [] made t.root low other in
          record {
            root = after.root;
            level = ap u.level after.root ∙ after.level t.root (root_stays t p n [] made u after) ∙ ap (λ (o : Option Node). level_or o (t.level t.root)) is;
            size = (let size : u.size ≡ t.size = after.same_size is refl in omega arith);
          }
    ]
