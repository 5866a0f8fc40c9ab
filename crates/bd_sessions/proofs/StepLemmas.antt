-- The step of a command moves handles as the command does.
use Rattle.std.proofs.Common.{◌≡◌, false, List, [], ◌∷◌, map, refl, sym, ap, ◌∙◌}
use Rattle.std.specs.declared.option.Option.{Option}
use Rattle.std.specs.declared.option.Option.TheVariants.{None, Some}
use Rattle.bd_command.specs.Command.{writes}
use Rattle.bd_command.specs.declared.Command.{Command}
use Rattle.bd_command.specs.declared.Command.TheVariants.{Mkdir, Create, Write, Truncate, Remove, Rename, Clone, Chmod, Read, Stat, List as Ls}
use Rattle.bd_sessions.specs.declared.asking.Ask.{Ask}
use Rattle.bd_sessions.specs.declared.asking.Ask.TheVariants.{Do}
use Rattle.bd_sessions.specs.declared.handle.Handle.{Handle}
use Rattle.bd_sessions.specs.declared.handle.Handle.TheVariants.{Free, At, Gone}
use Rattle.bd_sessions.specs.declared.step.Step.{Step}
use Rattle.bd_sessions.specs.Handles.{Tables, followed_handle, followed_tables}
use Rattle.bd_sessions.specs.Sessions.{Runs, runs_for}
use Rattle.bd_sessions.specs.Steps.{step_of, handle_after}

-- what is the same for each element is so for lists
pub same_map : {X Y : Type 0} (f g : X → Y) → ((x : X) → f x ≡ g x) → (xs : List X) → map f xs ≡ map g xs
same_map f g h [] = refl
same_map f g h (x ∷ xs) = ap (λ y. y ∷ map f xs) (h x) ∙ ap (λ ys. g x ∷ ys) (same_map f g h xs)

pub same_all : {X : Type 0} (f : X → X) → ((x : X) → f x ≡ x) → (xs : List X) → map f xs ≡ xs
same_all f h [] = refl
same_all f h (x ∷ xs) = ap (λ y. y ∷ map f xs) (h x) ∙ ap (λ ys. x ∷ ys) (same_all f h xs)

still_path : (c : Command) → step_of c ≡ None → (h : Handle) → followed_handle c h ≡ h
still_path c e Free = refl
still_path c e Gone = refl
still_path (Mkdir p) e (At path) = refl
still_path (Create p) e (At path) = refl
still_path (Write p off bytes) e (At path) = refl
still_path (Truncate p len) e (At path) = refl
still_path (Remove p) e (At path) = cc
still_path (Rename a b) e (At path) = cc
still_path (Clone a b) e (At path) = refl
still_path (Chmod p mode) e (At path) = refl
still_path (Read p off len) e (At path) = refl
still_path (Stat p) e (At path) = refl
still_path (Ls p after) e (At path) = refl

-- a command that moves nothing leaves all handles
pub still_tables : (c : Command) → step_of c ≡ None → (tables : Tables) → followed_tables c tables ≡ tables
still_tables c e tables = same_all (map (followed_handle c)) (same_all (followed_handle c) (still_path c e)) tables

-- one that doesn't write moves nothing
pub reading_still : (c : Command) → writes c ≡ false → step_of c ≡ None
reading_still (Mkdir p) e = cc
reading_still (Create p) e = cc
reading_still (Write p off bytes) e = cc
reading_still (Truncate p len) e = cc
reading_still (Remove p) e = cc
reading_still (Rename a b) e = cc
reading_still (Clone a b) e = cc
reading_still (Chmod p mode) e = cc
reading_still (Read p off len) e = refl
reading_still (Stat p) e = refl
reading_still (Ls p after) e = refl

step_path : (c : Command) (s : Step) → step_of c ≡ Some s → (h : Handle) → handle_after s h ≡ followed_handle c h
step_path c s e Free = refl
step_path c s e Gone = refl
step_path (Mkdir p) s e (At path) = cc
step_path (Create p) s e (At path) = cc
step_path (Write p off bytes) s e (At path) = cc
step_path (Truncate p len) s e (At path) = cc
step_path (Remove p) s e (At path) = sym (ap (λ o. after_option o (At path)) e)
  where
    after_option : Option Step → Handle → Handle
    after_option None h = h
    after_option (Some s) h = handle_after s h
step_path (Rename a b) s e (At path) = sym (ap (λ o. after_option o (At path)) e)
  where
    after_option : Option Step → Handle → Handle
    after_option None h = h
    after_option (Some s) h = handle_after s h
step_path (Clone a b) s e (At path) = cc
step_path (Chmod p mode) s e (At path) = cc
step_path (Read p off len) s e (At path) = cc
step_path (Stat p) s e (At path) = cc
step_path (Ls p after) s e (At path) = cc

-- the step of a command moves all handles as the command does
pub step_tables : (c : Command) (s : Step) → step_of c ≡ Some s → (tables : Tables) → map (map (handle_after s)) tables ≡ followed_tables c tables
step_tables c s e tables = same_map (map (handle_after s)) (map (followed_handle c)) (same_map (handle_after s) (followed_handle c) (step_path c s e)) tables

-- ---- what waits

pub waits_still : (c : Command) (ask : Ask) (next tables : Tables) → ask ≡ Do c → None ≡ step_of c → next ≡ tables → Some (Runs next) ≡ runs_for ask tables
waits_still c ask next tables is still same =
    ap (λ (t : Tables). Some (Runs t)) (same ∙ sym (still_tables c (sym still) tables)) ∙ ap (λ a. runs_for a tables) (sym is)

pub waits_ready : (c : Command) (s : Step) (ask : Ask) (next tables : Tables) → ask ≡ Do c → Some s ≡ step_of c → next ≡ map (map (handle_after s)) tables
    → Some (Runs next) ≡ runs_for ask tables
waits_ready c s ask next tables is step ready =
    ap (λ (t : Tables). Some (Runs t)) (ready ∙ step_tables c s (sym step) tables) ∙ ap (λ a. runs_for a tables) (sym is)
