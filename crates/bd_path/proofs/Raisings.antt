-- Nodes that rise by one level.
use Rattle.std.proofs.Common.{◌≡◌, ℕ, ◌+◌, ◌<◌, ◌≤◌, List, [], ◌∷◌, ◌++◌, length, map, reverse, sym, ap, subst, ◌∙◌, arith, Option, None, Some, Result, Ok, Err, IfOk, MatchOption}
use Rattle.std.specs.List.{AllByRecursion, IsLastAndRest}
use Rattle.std.proofs.lemmas.List.{reverse-append, append-nil, append_assoc}
use Rattle.bd_limits.specs.Limits.{level_limit}
use Rattle.bd_node.specs.declared.node.Node.{Node}
use Rattle.bd_node.specs.declared.node.Change.{Change}
use Rattle.bd_node.specs.declared.node.Node.TheVariants.{Leaf, Inner}
use Rattle.bd_node.specs.Nodes.{level_of}
use Rattle.bd_node.specs.Shape.{IsShape}
use Rattle.bd_path.specs.declared.fetching.Fetched.{Fetched}
use Rattle.bd_path.specs.Raising.{raised, raise, IsRising, CannotRise, AreRaised, AreChangesOver, CannotRiseOver}
use Rattle.bd_path.specs.Raising.IsRaisedOver.{is_above, rises_too}
use Rattle.bd_path.specs.Raising.IsRising.{at_top, high_enough, rises}
use Rattle.bd_path.specs.Raising.CannotRise.{here, further}

-- ---- as the code finds them

-- upwards the last comes first
pub upwards : (above others : List Fetched) (f : Fetched) → IsLastAndRest above f others → reverse above ≡ f ∷ reverse others
upwards above others f parts = ap (λ (l : List Fetched). reverse l) parts.0 ∙ reverse-append others (f ∷ [])

none_more : (level : ℕ) (way : List Fetched) (changes : List Change) → IsRising level way [] → AreRaised level way changes changes
none_more level way changes rise = record { rising = []; rise = rise; are = sym (append-nil changes) }

pub all_raised : (level : ℕ) (above : List Fetched) (changes : List Change) → length above ≡ 0 → AreRaised level (reverse above) changes changes
all_raised level [] changes none = none_more level [] changes (at_top level)
all_raised level (f ∷ above) changes none = absurd (omega arith)

pub raised_high : (level own : ℕ) (way rest : List Fetched) (f : Fetched) (changes : List Change) → way ≡ f ∷ rest → own ≡ level_of f.node.value → level < own → AreRaised level way changes changes
raised_high level own way rest f changes parts is high = subst (λ (l : List Fetched). AreRaised level l changes changes) (sym parts) (none_more level (f ∷ rest) changes (high_enough level f rest (omega arith)))

pub level_high : (n : Node) → IsShape n → level_of n ≤ level_limit
level_high (Leaf entries) h = omega arith
level_high (Inner level edges buffer) h = h.high

pub cannot : (level own : ℕ) (way rest : List Fetched) (f : Fetched) → AllByRecursion (λ (g : Fetched). IsShape g.node.value) way → way ≡ f ∷ rest → own ≡ level_of f.node.value → own ≤ level → level_limit ≤ own → CannotRise level way
cannot level own way rest f shapes parts is low last =
    let shape : IsShape f.node.value = (subst (λ (l : List Fetched). AllByRecursion (λ (g : Fetched). IsShape g.node.value) l) parts shapes).0 in
    subst (λ (l : List Fetched). CannotRise level l) (sym parts) (here level f rest (omega arith) (omega (arith, level_high f.node.value shape)))

pub more_raised : {V E : Type 0} (items : V → List Change) (level own : ℕ) (way rest : List Fetched) (f : Fetched) (changes pushed : List Change) (n : Node) (r : Result (Option V) E) → way ≡ f ∷ rest → own ≡ level_of f.node.value → own ≤ level → own < level_limit
    → pushed ≡ changes ++ (record { id = f.id; node = n } ∷ []) → n ≡ raised f.node.value
    → IfOk r (λ found. MatchOption found (CannotRise (own + 1) rest) (λ all. AreRaised (own + 1) rest pushed (items all)))
    → IfOk r (λ found. MatchOption found (CannotRise level way) (λ all. AreRaised level way changes (items all)))
more_raised items level own way rest f changes pushed n (Ok None) parts is low room more same h =
    subst (λ (l : List Fetched). CannotRise level l) (sym parts) (further level f rest (omega arith) (subst (λ (i : ℕ). CannotRise (i + 1) rest) is h))
more_raised items level own way rest f changes pushed n (Ok (Some all)) parts is low room more same h =
    subst (λ (l : List Fetched). AreRaised level l changes (items all)) (sym parts) (record {
      rising = f ∷ h.rising;
      rise = rises level f rest h.rising (omega arith) (omega arith) (subst (λ (i : ℕ). IsRising (i + 1) rest h.rising) is h.rise);
      are =
          h.are
          ∙ ap (λ (l : List Change). l ++ map raise h.rising) (more ∙ ap (λ (d : Node). changes ++ (record { id = f.id; node = d } ∷ [])) same)
          ∙ append_assoc changes (raise f ∷ []) (map raise h.rising);
    })
more_raised items level own way rest f changes pushed n (Err e) parts is low room more same h = tt

-- of the nodes above, whose last is the nearest
pub as_above : {V E : Type 0} (items : V → List Change) (level : ℕ) (above others : List Fetched) (f : Fetched) (changes : List Change) (r : Result (Option V) E) → reverse above ≡ f ∷ reverse others
    → IfOk r (λ found. MatchOption found (CannotRise level (f ∷ reverse others)) (λ all. AreRaised level (f ∷ reverse others) changes (items all)))
    → IfOk r (λ found. MatchOption found (CannotRise level (reverse above)) (λ all. AreRaised level (reverse above) changes (items all)))
as_above items level above others f changes r parts h =
    subst (λ (l : List Fetched). IfOk r (λ found. MatchOption found (CannotRise level l) (λ all. AreRaised level l changes (items all)))) (sym parts) h

-- and where the nearest is the root
pub last_raised : (level own : ℕ) (above : List Fetched) (f : Fetched) (changes pushed : List Change) (n : Node) → own ≡ level_of f.node.value → own ≤ level → own < level_limit → pushed ≡ changes ++ (record { id = f.id; node = n } ∷ []) → n ≡ raised f.node.value → length above ≡ 0
    → AreRaised level (f ∷ reverse above) changes pushed
last_raised level own [] f changes pushed n is low room more same none = record {
  rising = f ∷ [];
  rise = rises level f [] [] (omega arith) (omega arith) (at_top (level_of f.node.value + 1));
  are = more ∙ ap (λ (d : Node). changes ++ (record { id = f.id; node = d } ∷ [])) same;
}
last_raised level own (g ∷ above) f changes pushed n is low room more same none = absurd (omega arith)

-- ---- over a child

pub none_over : (level own : ℕ) (parent : Change) (above : List Fetched) (changes : List Change) → own ≡ level_of parent.node → level < own → changes ≡ parent ∷ [] → AreChangesOver level parent (reverse above) changes
none_over level own parent above changes own_is more are = record { node = parent.node; rising = []; rise = is_above (omega arith); are = are }

pub on_over : {V E : Type 0} (items : V → List Change) (level own : ℕ) (parent : Change) (above : List Fetched) (pushed : List Change) (n : Node) (r : Result (Option V) E) → own ≡ level_of parent.node → own ≤ level
    → pushed ≡ record { id = parent.id; node = n } ∷ [] → n ≡ raised parent.node
    → IfOk r (λ found. MatchOption found (CannotRise (own + 1) (reverse above)) (λ all. AreRaised (own + 1) (reverse above) pushed (items all)))
    → IfOk r (λ found. MatchOption found (CannotRiseOver level parent.node (reverse above)) (λ all. AreChangesOver level parent (reverse above) (items all)))
on_over items level own parent above pushed n (Err e) own_is low are same h = tt
on_over items level own parent above pushed n (Ok None) own_is low are same h = (omega arith, subst (λ (i : ℕ). CannotRise (i + 1) (reverse above)) own_is h)
on_over items level own parent above pushed n (Ok (Some all)) own_is low are same h = record {
  node = raised parent.node;
  rising = h.rising;
  rise = rises_too h.rising (omega arith) (subst (λ (i : ℕ). IsRising (i + 1) (reverse above) h.rising) own_is h.rise);
  are =
      h.are
      ∙ ap (λ (l : List Change). l ++ map raise h.rising) (are ∙ ap (λ (d : Node). record { id = parent.id; node = d } ∷ []) same);
}
