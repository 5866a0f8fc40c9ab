-- The nodes that wait.
use Rattle.std.proofs.Common.{◌≡◌, ℕ, ◌+◌, sym, ap, ◌∙◌, Option, Some, arith, List, [], ◌∷◌, ◌++◌}
use Rattle.std.specs.Option.{option_map}
use Rattle.std.proofs.lemmas.List.Sums.{sum_by-append, sum_by-cons}
use Rattle.std.specs.declared.rc.Rc.{Rc}
use Rattle.bd_node.specs.declared.node.Node.{Node}
use Rattle.bd_node.specs.Nodes.{times}
use Rattle.bd_node.specs.Tables.{times_in}
use Rattle.bd_memnodes.specs.Maps.{times_of}

pub times_of-none : {Z : Type 0} (new : List (Rc Node Z)) → new ≡ [] → (k : ℕ) → times_of new k ≡ 0
times_of-none {Z} new e k = ap (λ (xs : List (Rc Node Z)). times_of xs k) e

-- one more waits
pub times_of-more : {Z : Type 0} (dead new : List (Rc Node Z)) (shared : Rc Node Z) (found : Option (Rc Node Z)) → new ≡ dead ++ shared ∷ [] → found ≡ Some shared
    → (k : ℕ) → times_of new k ≡ times_of dead k + times_in (option_map (λ s. s.value) found) k
times_of-more {Z} dead new shared found e there k =
    ap (λ (xs : List (Rc Node Z)). times_of xs k) e
    ∙ sum_by-append (λ s. times s.value k) dead (shared ∷ [])
    ∙ ap (λ (n : ℕ). times_of dead k + n) (sum_by-cons (λ s. times s.value k) shared [] ∙ omega arith)
    ∙ sym (ap (λ (o : Option (Rc Node Z)). times_of dead k + times_in (option_map (λ s. s.value) o) k) there)
