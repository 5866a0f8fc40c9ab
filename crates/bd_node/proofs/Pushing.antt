-- The step that moves messages from a node to its child: no level and no name changes.
use Rattle.std.proofs.Common.{◌≡◌, ℕ, ◌+◌, ◌<◌, ◌≤◌, List, [], ◌∷◌, length, refl, sym, ap, subst, ◌∙◌, Option, None, Some, arith, inl, inr}
use Rattle.std.specs.Prelude.{count_by, ◌==◌}
use Rattle.std.specs.List.{AllByRecursion}
use Rattle.std.proofs.lemmas.Bool.{cases_eq, cases_lt}
use Rattle.std.proofs.lemmas.Option.{same_Some, none-some}
use Rattle.bd_node.specs.declared.node.Edge.{Edge}
use Rattle.bd_node.specs.declared.node.Node.{Node}
use Rattle.bd_node.specs.declared.node.Node.TheVariants.{Leaf, Inner}
use Rattle.bd_node.specs.declared.node.Change.{Change}
use Rattle.bd_node.specs.declared.node.Step.{Step}
use Rattle.bd_node.specs.declared.push.Gain.{Gain}
use Rattle.bd_node.specs.declared.push.Gain.TheVariants.{Messages, Entries}
use Rattle.bd_node.specs.declared.push.Push.{Push}
use Rattle.bd_node.specs.Nodes.{level_of, buffer_size, names, times}
use Rattle.bd_node.specs.Meaning.{Nodes}
use Rattle.bd_node.specs.Parts.{IsEdgeAt}
use Rattle.bd_node.specs.Shape.{IsShape}
use Rattle.bd_node.specs.Tables.{Table, IsKept, IsTable, IsLower, IsNodeOf, IsStored, IsSound, times_in, one_if, references}
use Rattle.bd_node.specs.Private.{IsPrivate}
use Rattle.bd_node.specs.Steps.{given, after, level_or, level_after, IsNamable, IsPut, IsStep, IsInPlace, IsTableAfter, IsCommitted}
use Rattle.bd_node.specs.Pushes.{IsRelieved, CanRelieve, CanMake, CanPush, IsPush, IsPushStep, IsGain, HasRoomFor, gained, push_step}
use Rattle.bd_node.proofs.Lookup.{each_weaker, each_named}
use Rattle.bd_node.proofs.Sums.{sum_same}
use Rattle.bd_node.proofs.Sound.{node_of, named_lower}
use Rattle.bd_node.proofs.Stepping.{by_given, given-old, given-new, changed_at-same, changed_at-other, after-none, after-some}
use Rattle.bd_node.proofs.Appending.{shape_appended, level_appended, names_appended}
use Rattle.bd_node.proofs.Closing.{by_node}
use Rattle.bd_node.proofs.Relieving.{relieved_level, relieved_shape, relieved_names}

-- ---- nodes like others

-- a well-formed node with the level and the names of another
pub record IsLike (n m : Node) : Type 0 where
  pub shape : IsShape m
  pub level : level_of m ≡ level_of n
  pub names_are : names m ≡ names n

-- a node like it is there
pub record HasLike (o : Option Node) (n : Node) : Type 0 where
  pub node : Node
  pub there : o ≡ Some node
  pub like : IsLike n node

-- the tables tell the same of counts and levels
pub record AreLevel (t u : Table) : Type 0 where
  pub root : u.root ≡ t.root
  pub next : u.next ≡ t.next
  pub count : (id : ℕ) → u.count id ≡ t.count id
  pub level : (id : ℕ) → IsKept t id → u.level id ≡ t.level id

kept_too : (t u : Table) → AreLevel t u → (id : ℕ) → IsKept t id → IsKept u id
kept_too t u same id kept = subst (λ (k : ℕ). 1 ≤ k) (sym (same.count id)) kept

kept_before : (t u : Table) → AreLevel t u → (id : ℕ) → IsKept u id → IsKept t id
kept_before t u same id kept = subst (λ (k : ℕ). 1 ≤ k) (same.count id) kept

like_of : (t u : Table) (id : ℕ) (n m : Node) → AreLevel t u → IsKept t id → IsNodeOf t (t.level id) n → IsLike n m → IsNodeOf u (u.level id) m
like_of t u id n m same kept own like = record {
  shape = like.shape;
  level_is = like.level ∙ own.level_is ∙ sym (same.level id kept);
  lower = subst (λ (xs : List ℕ). AllByRecursion (IsLower u (u.level id)) xs) (sym like.names_are)
      (each_weaker (IsLower t (t.level id)) (IsLower u (u.level id)) (λ c lower. record {
        kept = kept_too t u same c lower.kept;
        lower = omega (arith, lower.lower, same.level c lower.kept, same.level id kept);
      }) (names n) own.lower);
}

times_like : (c : ℕ) (n : Node) (o : Option Node) → HasLike o n → times_in o c ≡ times n c
times_like c n o h = ap (λ p. times_in p c) h.there ∙ ap (λ (xs : List ℕ). count_by (λ name. name == c) xs) h.like.names_are

-- where each node is like the one before it, the counts stay exact
pub sound_like : (nodes new : Nodes) (t u : Table) → IsSound nodes t → IsTable u → AreLevel t u → ((id : ℕ) (n : Node) → nodes id ≡ Some n → HasLike (new id) n)
    → ((id : ℕ) → nodes id ≡ None → new id ≡ None) → ((n : Node) → new u.root ≡ Some n → buffer_size n ≡ u.size) → IsSound new u
sound_like nodes new t u s table same like none size =
    let term : (c i : ℕ) → times_in (nodes i) c ≡ times_in (new i) c = λ c i.
    by_node (times_in (nodes i) c ≡ times_in (new i) c) (nodes i)
    (λ out. ap (λ o. times_in o c) out ∙ sym (ap (λ o. times_in o c) (none i out)))
    (λ n there. ap (λ o. times_in o c) there ∙ sym (times_like c n (new i) (like i n there))) in
    record {
      table = table;
      each = λ id kept.
          let before : IsKept t id = kept_before t u same id kept in
          let stored : IsStored nodes t id = s.each id before in
          let now : HasLike (new id) stored.node = like id stored.node stored.there in
          record { node = now.node; there = now.there; of_table = like_of t u id stored.node now.node same before stored.of_table now.like };
      others = λ id zero. none id (s.others id (sym (same.count id) ∙ zero));
      counts = λ id.
          same.count id ∙ s.counts id
          ∙ ap (λ a. a + one_if t.root id) (sum_same t.next (λ i. times_in (nodes i) id) (λ i. times_in (new i) id) (λ i low. term id i))
          ∙ ap (λ k. references new k t.root id) (sym same.next)
          ∙ ap (λ r. references new u.next r id) (sym same.root);
      size = size;
    }

-- ---- the two nodes

-- the node above, which has its names still
relieved_like : (n : Node) (place count : ℕ) (can : CanRelieve n place count) (e : Edge) (above : Node) → IsShape n → IsEdgeAt n place e → IsRelieved n place e count above → IsLike n above
relieved_like n place count can e above shape here relieved =
    let same : e ≡ can.edge = same_Some e can.edge (sym here ∙ can.here) in
    let own : IsRelieved n place can.edge count above = subst (λ (d : Edge). IsRelieved n place d count above) same relieved in
    record {
      shape = relieved_shape n place can.edge count above shape can.here can.there own;
      level = relieved_level n place can.edge count above own;
      names_are = relieved_names n place count can above shape own;
    }

-- a leaf has no names
low_names : (m : Node) → IsShape m → level_of m ≡ 0 → names m ≡ []
low_names (Leaf entries) h low = refl
low_names (Inner level edges buffer) h low = absurd (omega (arith, h.low))

gained_level : (m : Node) (gain : Gain) → IsGain (level_of m) gain → level_of (gained m gain) ≡ level_of m
gained_level m (Messages list) h = level_appended m list
gained_level m (Entries entries) h = sym h.0

-- the child, which has none but its own
gained_like : (m : Node) (gain : Gain) → IsShape m → IsGain (level_of m) gain → HasRoomFor m gain → IsLike m (gained m gain)
gained_like m (Messages list) shape h room = record {
  shape = shape_appended m list shape h.1 room;
  level = level_appended m list;
  names_are = names_appended m list h.2;
}
gained_like m (Entries entries) shape h room = record {
  shape = h.1;
  level = sym h.0;
  names_are = sym (low_names m shape h.0);
}

-- ---- what the step gives

given_child : (t : Table) (push : Push) (root : ℕ) (above below : Node) → IsTable t → IsPush t push → given t.next (push_step root push.parent above push.child below) push.child ≡ Some below
given_child t push root above below table is =
    given-old t.next (push_step root push.parent above push.child below) push.child (table.below push.child is.child)
    ∙ changed_at-same (record { id = push.child; node = below }) (record { id = push.parent; node = above } ∷ []) push.child refl

apart : (t : Table) (push : Push) → IsPush t push → push.parent ≡ push.child → ⊥
apart t push is same = omega (arith, is.lower, ap t.level same)

given_parent : (t : Table) (push : Push) (root : ℕ) (above below : Node) → IsTable t → IsPush t push → given t.next (push_step root push.parent above push.child below) push.parent ≡ Some above
given_parent t push root above below table is =
    given-old t.next (push_step root push.parent above push.child below) push.parent (table.below push.parent is.parent)
    ∙ changed_at-other (record { id = push.child; node = below }) (record { id = push.parent; node = above } ∷ []) push.parent (apart t push is)
    ∙ changed_at-same (record { id = push.parent; node = above }) [] push.parent refl

given_neither : (next : ℕ) (root parent child : ℕ) (above below : Node) (id : ℕ) → (id ≡ child → ⊥) → (id ≡ parent → ⊥) → given next (push_step root parent above child below) id ≡ None
given_neither next root parent child above below id a b =
    elim (cases_lt id next) [
      | inl low ↦ given-old next (push_step root parent above child below) id low
          ∙ changed_at-other (record { id = child; node = below }) (record { id = parent; node = above } ∷ []) id a
          ∙ changed_at-other (record { id = parent; node = above }) [] id b
      | inr high ↦ given-new next (push_step root parent above child below) id high
    ]

-- each id is the child's, the parent's or neither's
by_pushed : (P : ℕ → Type 0) (push : Push) → P push.child → P push.parent → ((id : ℕ) → (id ≡ push.child → ⊥) → (id ≡ push.parent → ⊥) → P id) → (id : ℕ) → P id
by_pushed P push child parent neither id =
    elim (cases_eq id push.child) [
      | inl same ↦ subst P (sym same) child
      | inr other ↦ elim (cases_eq id push.parent) [
        | inl same ↦ subst P (sym same) parent
        | inr apart ↦ neither id other apart
      ]
    ]

-- ---- no level changes

levels : (t : Table) (push : Push) (root : ℕ) (above below : Node) → IsTable t → IsPush t push → level_of above ≡ t.level push.parent → level_of below ≡ t.level push.child
    → (id : ℕ) → level_after t (push_step root push.parent above push.child below) id ≡ t.level id
levels t push root above below table is above_is below_is =
    let step : Step = push_step root push.parent above push.child below in
    by_pushed (λ id. level_after t step id ≡ t.level id) push
    (ap (λ o. level_or o (t.level push.child)) (given_child t push root above below table is) ∙ below_is)
    (ap (λ o. level_or o (t.level push.parent)) (given_parent t push root above below table is) ∙ above_is)
    (λ id a b. ap (λ o. level_or o (t.level id)) (given_neither t.next root push.parent push.child above below id a b))

-- the nodes that it gives are of the levels of the old ones
pub push_levels : (t : Table) (push : Push) (n m : Node) (step : Step) → IsTable t → IsPush t push → level_of n ≡ t.level push.parent → level_of m ≡ t.level push.child → IsPushStep t.root push n m step
    → (id : ℕ) → level_after t step id ≡ t.level id
push_levels t push n m step table is n_is m_is makes id =
    let gain : IsGain (level_of m) push.gain = subst (λ (l : ℕ). IsGain l push.gain) (sym m_is) is.gain in
    subst (λ (x : Step). level_after t x id ≡ t.level id) (sym makes.is)
    (levels t push t.root makes.above (gained m push.gain) table is (relieved_level n push.place makes.edge push.count makes.above makes.relieved ∙ n_is) (gained_level m push.gain gain ∙ m_is) id)

-- ---- it is a step

-- a node like one that a table tells of may be put in its place
put_like : (t : Table) (step : Step) (level : ℕ) (n m : Node) → ((id : ℕ) → level_after t step id ≡ t.level id) → IsNodeOf t level n → IsLike n m → IsPut t step m
put_like t step level n m same own like = record {
  shape = like.shape;
  lower = subst (λ (xs : List ℕ). AllByRecursion (IsNamable t step (level_of m)) xs) (sym like.names_are)
      (each_weaker (IsLower t level) (IsNamable t step (level_of m)) (λ c lower. record {
        there = inl lower.kept;
        lower = omega (arith, same c, lower.lower, like.level, own.level_is);
      }) (names n) own.lower);
}

above_like : (t : Table) (push : Push) (n m : Node) (step : Step) → IsShape n → CanMake push n m → (makes : IsPushStep t.root push n m step) → IsLike n makes.above
above_like t push n m step shape can makes = relieved_like n push.place push.count can.relieve makes.edge makes.above shape makes.here makes.relieved

below_like : (t : Table) (push : Push) (n m : Node) → IsPush t push → IsShape m → level_of m ≡ t.level push.child → CanMake push n m → IsLike m (gained m push.gain)
below_like t push n m is shape m_is can = gained_like m push.gain shape (subst (λ (l : ℕ). IsGain l push.gain) (sym m_is) is.gain) can.room

pub push_is_step : (t : Table) (push : Push) (n m : Node) (step : Step) → IsTable t → IsPush t push → IsNodeOf t (t.level push.parent) n → IsNodeOf t (t.level push.child) m → CanMake push n m → IsPushStep t.root push n m step → IsStep t step
push_is_step t push n m step table is n_of m_of can makes =
    let made : Step = push_step t.root push.parent makes.above push.child (gained m push.gain) in
    let same : (id : ℕ) → level_after t made id ≡ t.level id = λ id. subst (λ (x : Step). level_after t x id ≡ t.level id) makes.is (push_levels t push n m step table is n_of.level_is m_of.level_is makes id) in
    subst (λ (x : Step). IsStep t x) (sym makes.is) (record {
      made = tt;
      changes = (
        record { kept = is.child; put = put_like t made (t.level push.child) m (gained m push.gain) same m_of (below_like t push n m is m_of.shape m_of.level_is can) },
        (record { kept = is.parent; put = put_like t made (t.level push.parent) n makes.above same n_of (above_like t push n m step n_of.shape can makes) }, tt),
      );
      once = ((apart t push is, tt), (tt, tt));
      root = inl table.root;
      inner = omega (arith, same t.root, table.inner);
      used = λ id high low. absurd (omega (arith, low));
    })

pub push_in_place : (nodes : Nodes) (t : Table) (push : Push) (n m : Node) (step : Step) → IsSound nodes t → IsPush t push → nodes push.parent ≡ Some n → nodes push.child ≡ Some m → CanPush nodes t push → IsPushStep t.root push n m step → IsInPlace nodes t step
push_in_place nodes t push n m step s is n_there m_there can makes =
    let same : (id : ℕ) → level_after t step id ≡ t.level id =
    push_levels t push n m step s.table is (node_of nodes t s push.parent n n_there).level_is (node_of nodes t s push.child m m_there).level_is makes in
    record {
      private = subst (λ (x : Step). AllByRecursion (λ (c : Change). IsPrivate nodes t c.id) x.changes) (sym makes.is) (can.child_private, (can.parent_private, tt));
      above = λ id x there none.
          each_named (λ c. level_after t step c < level_of x) (names x) (λ c one.
          omega (arith, same c, (named_lower nodes t s id x there c one).lower, (node_of nodes t s id x there).level_is));
    }

-- ---- what it leaves

pushed_like : (nodes : Nodes) (t : Table) (push : Push) (n m above below : Node) → IsTable t → IsPush t push → nodes push.parent ≡ Some n → nodes push.child ≡ Some m → IsLike n above → IsLike m below
    → ((id : ℕ) (x : Node) → nodes id ≡ Some x → IsShape x) → (id : ℕ) (x : Node) → nodes id ≡ Some x → HasLike (after nodes t (push_step t.root push.parent above push.child below) id) x
pushed_like nodes t push n m above below table is n_there m_there n_like m_like shape =
    let step : Step = push_step t.root push.parent above push.child below in
    by_pushed (λ id. (x : Node) → nodes id ≡ Some x → HasLike (after nodes t step id) x) push
    (λ x there. record {
      node = below;
      there = after-some nodes t step push.child below (given_child t push t.root above below table is);
      like = subst (λ (y : Node). IsLike y below) (same_Some m x (sym m_there ∙ there)) m_like;
    })
    (λ x there. record {
      node = above;
      there = after-some nodes t step push.parent above (given_parent t push t.root above below table is);
      like = subst (λ (y : Node). IsLike y above) (same_Some n x (sym n_there ∙ there)) n_like;
    })
    (λ id a b x there. record {
      node = x;
      there = after-none nodes t step id (given_neither t.next t.root push.parent push.child above below id a b) ∙ there;
      like = record { shape = shape id x there; level = refl; names_are = refl };
    })

pushed_none : (nodes : Nodes) (t : Table) (push : Push) (n m above below : Node) → nodes push.parent ≡ Some n → nodes push.child ≡ Some m
    → (id : ℕ) → nodes id ≡ None → after nodes t (push_step t.root push.parent above push.child below) id ≡ None
pushed_none nodes t push n m above below n_there m_there =
    let step : Step = push_step t.root push.parent above push.child below in
    by_pushed (λ id. nodes id ≡ None → after nodes t step id ≡ None) push
    (λ none. absurd (none-some m (sym none ∙ m_there)))
    (λ none. absurd (none-some n (sym none ∙ n_there)))
    (λ id a b none. after-none nodes t step id (given_neither t.next t.root push.parent push.child above below id a b) ∙ none)

-- the size of what waits in the root, which such a step may have changed
root_fits : (nodes : Nodes) (t u : Table) (step : Step) → IsSound nodes t → IsTableAfter t step u → step.root ≡ t.root → (x : Node) → after nodes t step u.root ≡ Some x → buffer_size x ≡ u.size
root_fits nodes t u step s h same x there =
    let at : after nodes t step step.root ≡ Some x = ap (after nodes t step) (sym h.root) ∙ there in
    by_given (buffer_size x ≡ u.size) (given t.next step step.root)
    (λ none. s.size x (ap nodes (sym same) ∙ sym (after-none nodes t step step.root none) ∙ at) ∙ sym (h.same_size none same))
    (λ y some. ap buffer_size (same_Some x y (sym at ∙ after-some nodes t step step.root y some)) ∙ sym (h.size y some))

-- neither node's names change, so the counts stay exact
pub pushed_after : (nodes new : Nodes) (t u : Table) (push : Push) (n m : Node) (step : Step) → IsSound nodes t → IsPush t push → nodes push.parent ≡ Some n → nodes push.child ≡ Some m → CanMake push n m
    → IsPushStep t.root push n m step → ((id : ℕ) → new id ≡ after nodes t step id) → IsTableAfter t step u → ((id : ℕ) → u.count id ≡ t.count id) → IsCommitted nodes t step new u
pushed_after nodes new t u push n m step s is n_there m_there can makes new_is h count =
    let n_of : IsNodeOf t (t.level push.parent) n = node_of nodes t s push.parent n n_there in
    let m_of : IsNodeOf t (t.level push.child) m = node_of nodes t s push.child m m_there in
    let made : Step = push_step t.root push.parent makes.above push.child (gained m push.gain) in
    let made_is : (id : ℕ) → new id ≡ after nodes t made id = λ id. new_is id ∙ ap (λ (x : Step). after nodes t x id) makes.is in
    record {
      stays = λ id kept. new_is id;
      sound = sound_like nodes new t u s h.table
          (record {
            root = h.root ∙ ap (λ (x : Step). x.root) makes.is;
            next = h.next ∙ ap (λ (x : Step). t.next + length x.made) makes.is ∙ omega arith;
            count = count;
            level = λ id kept. h.level id (subst (λ (k : ℕ). 1 ≤ k) (sym (count id)) kept) ∙ push_levels t push n m step s.table is n_of.level_is m_of.level_is makes id;
          })
          (λ id x there.
          subst (λ (o : Option Node). HasLike o x) (sym (made_is id))
          (pushed_like nodes t push n m makes.above (gained m push.gain) s.table is n_there m_there (above_like t push n m step n_of.shape can makes) (below_like t push n m is m_of.shape m_of.level_is can)
          (λ i y at_y. (node_of nodes t s i y at_y).shape) id x there))
          (λ id none. made_is id ∙ pushed_none nodes t push n m makes.above (gained m push.gain) n_there m_there id none)
          (λ x there. root_fits nodes t u step s h (ap (λ (y : Step). y.root) makes.is) x (sym (new_is u.root) ∙ there));
    }
