-- What faults leave of a state.
use Rattle.std.proofs.Common.{refl, arith, inl}
use Rattle.std.specs.Prelude.{IsSome, IsNone}
use Rattle.std.specs.declared.option.Option.{Option}
use Rattle.std.specs.declared.option.Option.TheVariants.{None, Some}
use Rattle.std.specs.declared.result.Result.TheVariants.{Ok, Err}
use Rattle.bd_command.specs.declared.refusal.Refusal.TheVariants.{BadLine}
use Rattle.bd_message.specs.declared.fault.Counter.{Counter}
use Rattle.bd_script.specs.Lines.{LineMeaning}
use Rattle.bd_script.specs.declared.line.Line.{Line}
use Rattle.bd_script.specs.declared.line.Line.TheVariants.{Run, Walk, Df, Sync, Checkpoint, Reclaim, Stop}
use Rattle.bd_sessions.specs.Spoken.{Spoken}
use Rattle.bd_view.specs.Views.{View}
use Rattle.bd_view.specs.Moves.AreSteps.{none}
use Rattle.bd_shell.specs.Transcript.{State, line_in, with_view}
use Rattle.bd_shell.specs.Session.{IsLeftBy, IsLeftFor, IsLeftIn, LeavesBy, Leaves, Later, WornBy, WornFor, WornIn}
use Rattle.bd_shell.specs.Shell.{Wore}

-- any line may leave the view
left_none : (line : LineMeaning) (s : State) → IsLeftBy line s s.view
left_none (Ok (Run c)) s = record { stepped = record { made = 0; steps = none s.view; few = omega arith }; refused = λ _. refl }
left_none (Ok Walk) s = refl
left_none (Ok Df) s = refl
left_none (Ok Sync) s = refl
left_none (Ok Checkpoint) s = refl
left_none (Ok Reclaim) s = inl refl
left_none (Ok Stop) s = refl
left_none (Err refusal) s = refl

left_none_for : (line : Option Line) (s : State) → IsLeftFor line s s.view
left_none_for None s = refl
left_none_for (Some line) s = left_none (Ok line) s

-- nothing was done
pub leaves_all : (line : LineMeaning) (s : State) (at : State → Type 0) → at s → LeavesBy (IsLeftBy line s) s at
leaves_all line s at h = record { left = s.view; left_by = left_none line s; calls = s.calls; later = omega arith; reached = h }

pub leaves_all_in : (line : Spoken) (s : State) (at : State → Type 0) → at s → LeavesBy (IsLeftIn line s) s at
leaves_all_in line s at h = record { left = s.view; left_by = left_none_for (line_in s line) s; calls = s.calls; later = omega arith; reached = h }

-- a line that asks for nothing
abbrev nothing : Spoken
nothing = record { client = None; turn = Err BadLine }

pub leaves_nothing : (s : State) (at : State → Type 0) → at s → Leaves s at
leaves_nothing s at h = (nothing, leaves_all_in nothing s at h)

-- calls of the device were made, and nothing else
pub leaves_later : (s : State) (at : State → Type 0) → Later (with_view s s.view) at s → Leaves s at
leaves_later s at h = (nothing, record { left = s.view; left_by = refl; calls = h.calls; later = h.later; reached = h.reached })

-- what holds of the state that is left, as what follows from it
pub leaves_as : (s : State) (at to : State → Type 0) → ((t : State) → at t → to t) → Leaves s at → Leaves s to
leaves_as s at to f h =
    (h.0, record { left = h.1.left; left_by = h.1.left_by; calls = h.1.calls; later = h.1.later; reached = f (with_view s h.1.left h.1.calls) h.1.reached })

neither_none : {A : Type 0} (o : Option A) → IsNone o → IsSome o → ⊥
neither_none o h k = cc

-- what a line leaves where it wore a counter
left_worn : (which : Counter) (s : State) (line : LineMeaning) (left : View) → WornBy which s line left → IsLeftBy line s left
left_worn which s (Ok (Run c)) left h = record { stepped = h.wears.stepped; refused = λ some. absurd (neither_none _ h.accepted some) }
left_worn which s (Ok Walk) left h = absurd h
left_worn which s (Ok Df) left h = absurd h
left_worn which s (Ok Sync) left h = absurd h
left_worn which s (Ok Checkpoint) left h = h.left_is
left_worn which s (Ok Reclaim) left h = h.begun
left_worn which s (Ok Stop) left h = absurd h
left_worn which s (Err refusal) left h = absurd h

left_worn_for : (which : Counter) (s : State) (line : Option Line) (left : View) → WornFor which s line left → IsLeftFor line s left
left_worn_for which s None left h = absurd h
left_worn_for which s (Some line) left h = left_worn which s (Ok line) left h

pub leaves_worn : (which : Counter) (s : State) (line : Spoken) (at : State → Type 0) → Wore (WornIn which s line) s at → Leaves s at
leaves_worn which s line at h =
    (line, record { left = h.left; left_by = left_worn_for which s (line_in s line) h.left h.worn; calls = h.calls; later = h.later; reached = h.reached })
