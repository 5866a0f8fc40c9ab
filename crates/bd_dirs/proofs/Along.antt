-- A plan for a map is one for a map that has the same.
use Rattle.std.proofs.Common.{◌≡◌, ℕ, ◌/◌, List, [], ◌∷◌, Bool, true, false, not, cond, ◌++◌, ◌&&◌, refl, ap, ◌∙◌}
use Rattle.std.specs.Option.{unwrap_or}
use Rattle.std.specs.Prelude.{nat_lt, Option, None}
use Rattle.std.specs.FinMap.{get}
use Rattle.bd_limits.specs.Limits.{block_limit}
use Rattle.bd_names.specs.Names.{key_of}
use Rattle.bd_command.specs.declared.Command.{Command}
use Rattle.bd_command.specs.declared.Command.TheVariants.{Mkdir, Create, Write, Truncate, Remove, Rename, Clone, Chmod, Read, Stat, List as Ls}
use Rattle.bd_model.specs.Tree.{Tree}
use Rattle.bd_model.specs.Step.{mode_at}
use Rattle.bd_message.specs.Effect.{acts, no_nodes, begins, rest}
use Rattle.bd_message.specs.KeyMaps.{At, SameAt, grafted}
use Rattle.bd_represent.specs.EntryKeys.{block_key}
use Rattle.bd_files.specs.FilePlans.{size_at}
use Rattle.bd_files.specs.Sends.{put_length, cut_past, shortened}
use Rattle.bd_files.specs.Smalls.{is_small, has_little, copied, carried}
use Rattle.bd_dirs.specs.Sendings.{Batch, Move, sending}
use Rattle.bd_dirs.specs.Plans.{IsPlan}
use Rattle.bd_dirs.specs.declared.plan.Plan.{Plan}
use Rattle.bd_dirs.specs.declared.plan.Plan.TheVariants.{Refused, Apply, Graft}

pub grafted_along : (old new : At) (s d : List ℕ) (keep : Bool) (k : List ℕ) → SameAt old new → grafted new s d keep k ≡ grafted old s d keep k
grafted_along old new s d keep k same =
    ap (λ (x : Option (List ℕ)). cond (not keep && begins k s) None (cond (begins k d) x (new k))) (same (s ++ rest d k))
    ∙ ap (λ (x : Option (List ℕ)). cond (not keep && begins k s) None (cond (begins k d) (old (s ++ rest d k)) x)) (same k)

-- what a command sends stays where the map has the same
sending_along : (old new : At) (t : Tree) (c : Command) → SameAt old new → sending new t c ≡ sending old t c
sending_along old new t (Mkdir path) same = refl
sending_along old new t (Create path) same = refl
sending_along old new t (Write path off bytes) same = refl
sending_along old new t (Truncate path len) same =
    let test : Bool = nat_lt len (size_at t path) in
    ap (λ (x : Option (List ℕ)). Batch (put_length path (mode_at (get t path)) len ∷ cond test (cut_past path len ∷ shortened path len (unwrap_or x [])) [])) (same (block_key path (len / block_limit)))
sending_along old new t (Remove path) same = refl
sending_along old new t (Rename a b) same =
    let test : Bool = is_small (get t a) && has_little (get t b) in
    ap (λ (x : Option (List ℕ)). cond test (Batch (carried a b (mode_at (get t a)) (size_at t a) x)) (Move (key_of a) (key_of b) false)) (same (block_key a 0))
sending_along old new t (Clone a b) same =
    ap (λ (x : Option (List ℕ)). cond (is_small (get t a)) (Batch (copied b (mode_at (get t a)) (size_at t a) x)) (Move (key_of a) (key_of b) true)) (same (block_key a 0))
sending_along old new t (Chmod path mode) same = refl
sending_along old new t (Read path off len) same = refl
sending_along old new t (Stat path) same = refl
sending_along old new t (Ls path after) same = refl

pub plan_along : (old new : At) (t : Tree) (c : Command) (plan : Plan) → SameAt old new → IsPlan old t c plan → IsPlan new t c plan
plan_along old new t c (Refused refusal) same h = h
plan_along old new t c (Apply list) same h = (h.0, λ at applied. h.1 at (λ k key. applied k key ∙ ap (acts no_nodes list k) (same k)), sending_along old new t c same ∙ h.2)
plan_along old new t c (Graft s d keep) same h = (h.0, λ at moved. h.1 at (λ k key. moved k key ∙ grafted_along old new s d keep k same), sending_along old new t c same ∙ h.2)
