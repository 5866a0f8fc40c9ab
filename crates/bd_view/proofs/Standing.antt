-- What flush steps, checkpoints and reclaiming leave.
use Rattle.std.proofs.Common.{◌≡◌, ℕ, refl, ap, ◌∙◌}
use Rattle.bd_command.specs.declared.Command.{Command}
use Rattle.bd_message.specs.KeyMaps.{SameAt}
use Rattle.bd_node.specs.Meaning.{Nodes}
use Rattle.bd_node.specs.Tables.{Table}
use Rattle.bd_path.specs.Flushed.{IsFlushed}
use Rattle.bd_view.specs.Trees.{IsStepIn}
use Rattle.bd_view.specs.Trees.IsStepIn.{from_root, of_source}
use Rattle.bd_view.specs.Views.{View, keys_of}
use Rattle.bd_view.specs.Moves.{Saves, AreSteps}
use Rattle.bd_view.specs.Moves.AreSteps.{none, flush, save}
use Rattle.bd_view.specs.Reclaiming.{AreReclaims, HasReclaimed}
use Rattle.bd_view.specs.Reclaiming.AreReclaims.{none as no_changes, change, save as save_between}

-- ---- what a flush step of a command leaves

pub step_flushed : (c : Command) (nodes : Nodes) (t : Table) (new : Nodes) (u : Table) → IsStepIn c nodes t new u → IsFlushed nodes t new u
step_flushed c nodes t new u (from_root many step) = step.flushed
step_flushed c nodes t new u (of_source s few is step) = step.made.flushed

-- ---- what stands at each key

saved_stands : (old new : View) → Saves old new → SameAt (keys_of old) (keys_of new)
saved_stands old new h k = ap (λ v. keys_of v k) h.after

pub steps_stand : (c : Command) (made : ℕ) (old new : View) → AreSteps c made old new → SameAt (keys_of old) (keys_of new)
steps_stand c made old new (none _) k = refl
steps_stand c made old new (flush n _ w _ h step) k =
    (step_flushed c w.tree.nodes w.tree.table new.tree.nodes new.tree.table step.flushes.step).same k ∙ steps_stand c n old w h k
steps_stand c made old new (save n _ w _ h step) k = saved_stands w new step.saves k ∙ steps_stand c n old w h k

changes_stand : (pushes : ℕ) (old new : View) → AreReclaims pushes old new → SameAt (keys_of old) (keys_of new)
changes_stand pushes old new (no_changes _) k = refl
changes_stand pushes old new (change n step _ w _ h made) k = made.reclaimed.same k ∙ changes_stand n old w h k
changes_stand pushes old new (save_between n step _ w _ h made) k = saved_stands w new made.saves k ∙ changes_stand n old w h k

pub reclaims_stand : (pushes : ℕ) (old new : View) → HasReclaimed pushes old new → SameAt (keys_of old) (keys_of new)
reclaims_stand pushes old new h k = changes_stand pushes h.first new h.changes k ∙ saved_stands old h.first h.begins k

-- ---- the last graft

saved_walk : (old new : View) → Saves old new → new.tree.walk ≡ old.tree.walk
saved_walk old new h = ap (λ (v : View). v.tree.walk) h.after

pub steps_walk : (c : Command) (made : ℕ) (old new : View) → AreSteps c made old new → new.tree.walk ≡ old.tree.walk
steps_walk c made old new (none _) = refl
steps_walk c made old new (flush n _ w _ h step) = step.flushes.walk_is ∙ steps_walk c n old w h
steps_walk c made old new (save n _ w _ h step) = saved_walk w new step.saves ∙ steps_walk c n old w h

changes_walk : (pushes : ℕ) (old new : View) → AreReclaims pushes old new → new.tree.walk ≡ old.tree.walk
changes_walk pushes old new (no_changes _) = refl
changes_walk pushes old new (change n step _ w _ h made) = made.walk_is ∙ changes_walk n old w h
changes_walk pushes old new (save_between n step _ w _ h made) = saved_walk w new made.saves ∙ changes_walk n old w h

pub reclaims_walk : (pushes : ℕ) (old new : View) → HasReclaimed pushes old new → new.tree.walk ≡ old.tree.walk
reclaims_walk pushes old new h = changes_walk pushes h.first new h.changes ∙ saved_walk old h.first h.begins
