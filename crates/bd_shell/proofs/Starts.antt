-- Images from which a volume starts.
use Rattle.std.proofs.Common.{◌≡◌, ℕ, ◌+◌, List, [], ◌∷◌, refl, sym, subst, arith}
use Rattle.std.specs.List.{Contains}
use Rattle.std.proofs.lemmas.List.Elements.{Contains-push}
use Rattle.bd_model.specs.Tree.{Tree}
use Rattle.bd_device.specs.Blocks.{Image}
use Rattle.bd_device.specs.declared.device.Device.{Ghosts}
use Rattle.bd_image.specs.ImageTree.{ImageStandsFor}
use Rattle.bd_view.specs.Views.{View}
use Rattle.bd_volume.specs.Starts.{HasStarted}
use Rattle.bd_volume.specs.Volume.{StandsFor, view_of, device_of}
use Rattle.bd_volume.specs.declared.volume.Volume.{Volume}
use Rattle.bd_shell.specs.declared.acknowledged.Acknowledged.{Acknowledged}
use Rattle.bd_shell.specs.Transcript.{Point, state_at, point}
use Rattle.bd_shell.specs.Crashes.{IsAtPoint, IsSafeSince}
use Rattle.bd_shell.specs.Shell.{TurnsAt, device_below}
use Rattle.bd_shell.proofs.Surviving.{safe_first}

-- what stands for the tree of the beginning is at its point, which was passed
pub at_begun : (passed : List Point) (t : Tree) (n : ℕ) (c : Image) → Contains passed (point t n) → ImageStandsFor t n c → IsAtPoint passed 0 c
at_begun passed t n c among stands = record { here = point t n; among = among; enough = omega arith; stands = stands }

-- at the beginning itself
pub begun_at : (t : Tree) (n : ℕ) (c : Image) → ImageStandsFor t n c → IsAtPoint (point t n ∷ []) 0 c
begun_at t n c stands = at_begun (point t n ∷ []) t n c (Contains-push [] (point t n)) stands

-- from the return of the barrier on
pub safe_start : {D : Type 0} (g : Ghosts D) (old new : D) (t : Tree) (n : ℕ) (v : View) → HasStarted g old new t n
    → IsSafeSince g new (g.call_count old + 1) new [] (state_at t n v (g.call_count new))
safe_start g old new t n v started =
    safe_first g new (g.call_count old + 1) (state_at t n v (g.call_count new)) started.called (λ c left. begun_at t n c (started.each c left)) (Contains-push [] (point t n)) refl refl

-- a volume that started, of which nothing is acknowledged yet
pub kept_start : {D : Type 0} (g : Ghosts D) (old : D) (k : Acknowledged D) (v : Volume D) (t : Tree) (n : ℕ) → k.volume ≡ v → k.acks.items ≡ []
    → StandsFor g v t n → HasStarted g old (device_of v) t n
    → TurnsAt g (device_below k) (g.call_count old + 1) k (state_at t n (view_of g k.volume) (g.call_count (device_below k)))
kept_start g old k v t n is none stands started = record {
  volume = record {
    at = record { stands = subst (λ w. StandsFor g w t n) (sym is) stands; view_is = refl };
    safe = subst (λ acks. IsSafeSince g (device_below k) (g.call_count old + 1) (device_below k) acks (state_at t n (view_of g k.volume) (g.call_count (device_below k)))) (sym none)
        (safe_start g old (device_below k) t n (view_of g k.volume) (subst (λ (w : Volume _). HasStarted g old (device_of w) t n) (sym is) started));
  };
  handles = refl;
}
