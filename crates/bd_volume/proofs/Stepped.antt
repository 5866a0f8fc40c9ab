-- Steps of a command, one after the other.
use Rattle.std.proofs.Common.{◌≡◌, ℕ, ◌+◌, ◌≤◌, sym, subst, arith, lit≤}
use Rattle.std.specs.Prelude.{◌⊎◌, IsTrue, List, Option, Result, Ok, Err, OnOk, OnErr}
use Rattle.bd_limits.specs.Limits.{flush_limit}
use Rattle.bd_command.specs.Command.{writes}
use Rattle.bd_command.specs.declared.Command.{Command}
use Rattle.bd_message.specs.KeyMaps.{SameAt}
use Rattle.bd_view.specs.Trees.{IsSettledFor}
use Rattle.bd_view.specs.Views.{View, keys_of}
use Rattle.bd_view.specs.Moves.{Saves, FlushesIn, AreSteps, HasStepped, CallsForSave}
use Rattle.bd_view.specs.Moves.AreSteps.{none, flush, save}
use Rattle.bd_view.proofs.Standing.{steps_stand}
use Rattle.bd_volume.specs.Steps.{HasSettled}

pub steps_then : (c : Command) (m n : ℕ) (a b d : View) → AreSteps c m a b → AreSteps c n b d → AreSteps c (m + n) a d
steps_then c m n a b d p (none _) =
    let same : m ≡ m + 0 = omega arith in
    subst (λ (k : ℕ). AreSteps c k a d) same p
steps_then c m n a b d p (flush k _ w _ h step) =
    let same : m + k + 1 ≡ m + (k + 1) = omega arith in
    subst (λ (i : ℕ). AreSteps c i a d) same (flush (m + k) a w d (steps_then c m k a b w p h) step)
steps_then c m n a b d p (save k _ w _ h step) = save (m + k) a w d (steps_then c m k a b w p h) step

-- where the last ones are checkpoints alone
pub steps_saved : (c : Command) (m : ℕ) (a b d : View) → AreSteps c m a b → AreSteps c 0 b d → AreSteps c m a d
steps_saved c m a b d p q =
    let same : m + 0 ≡ m = omega arith in
    subst (λ (k : ℕ). AreSteps c k a d) same (steps_then c m 0 a b d p q)

-- a view that is the same
pub steps_same : (c : Command) (m : ℕ) (a b d : View) → AreSteps c m a b → d ≡ b → AreSteps c m a d
steps_same c m a b d p same = subst (λ (v : View). AreSteps c m a v) (sym same) p

pub no_steps : (c : Command) (a b : View) → b ≡ a → AreSteps c 0 a b
no_steps c a b same = steps_same c 0 a a b (none a) same

pub one_flush : (c : Command) (a b d : View) → AreSteps c 0 a b → FlushesIn c b d → AreSteps c 1 a d
one_flush c a b d p step = flush 0 a b d p step

pub has_stepped : (c : Command) (m : ℕ) (a b : View) → AreSteps c m a b → m ≤ flush_limit → HasStepped c a b
has_stepped c m a b p few = record { made = m; steps = p; few = few }

pub has_settled : (c : Command) (source : Option (List ℕ)) (m : ℕ) (a b : View) → AreSteps c m a b → m ≤ flush_limit → (m ≡ flush_limit) ⊎ IsSettledFor source b.tree → HasSettled c source a b
has_settled c source m a b p few settled = record { stepped = record { made = m; steps = p; few = few }; settled = settled }

pub not_stepped : (c : Command) (a b : View) → b ≡ a → HasStepped c a b
not_stepped c a b same = has_stepped c 0 a b (no_steps c a b same) (lit≤ tt)

-- they leave what stands at the keys
pub stepped_stand : (c : Command) (a b : View) → HasStepped c a b → SameAt (keys_of a) (keys_of b)
stepped_stand c a b h = steps_stand c h.made a b h.steps

-- a checkpoint that a command needs, or none at a fault
pub save_steps : {T E : Type 0} (r : Result T E) (c : Command) (a b : View) → IsTrue (writes c) → CallsForSave c a → OnOk r (Saves a b) → OnErr r (b ≡ a) → AreSteps c 0 a b
save_steps (Ok x) c a b writing calls saves stays = save 0 a a b (none a) (record { writing = writing; calls_for = calls; saves = saves })
save_steps (Err e) c a b writing calls saves stays = no_steps c a b stays
