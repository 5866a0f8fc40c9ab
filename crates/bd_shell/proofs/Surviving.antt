-- What a crash leaves, from call to call.
use Rattle.std.proofs.Common.{◌≡◌, ℕ, ◌≤◌, true, false, List, [], ◌∷◌, ◌++◌, inl, ⊎_elim, refl, sym, ap, ◌∙◌, arith}
use Rattle.std.specs.Prelude.{OnOk, OnErr, is_err}
use Rattle.std.specs.declared.result.Result.{Result}
use Rattle.std.specs.declared.result.Result.TheVariants.{Ok, Err}
use Rattle.std.specs.List.{AllByRecursion, Contains}
use Rattle.bd_device.specs.Blocks.{Image}
use Rattle.bd_device.specs.Device.{left_now, Goes}
use Rattle.bd_device.specs.Moments.{Elapses}
use Rattle.bd_device.specs.declared.device.Device.{Ghosts}
use Rattle.bd_device.proofs.Moments.{goes_on, within, stays}
use Rattle.bd_image.specs.ImageTree.{ImageStandsFor}
use Rattle.bd_image.specs.Standing.{StandsAs, IsOldOrNew}
use Rattle.bd_checkpoint.specs.Kept.{AllStandFor}
use Rattle.bd_node.proofs.Lookup.{each_both}
use Rattle.bd_shell.specs.declared.outcome.Ack.{Ack}
use Rattle.bd_shell.specs.Transcript.{Point, State, ack, point_of, synced_state, with_view}
use Rattle.bd_shell.specs.Crashes.{IsAtPoint, IsAcked, IsSafeSince}

-- what is said of a result that is known to be Ok, or not to be
pub on_ok_of : {T E : Type 0} (r : Result T E) (P : Type 0) → is_err r ≡ false → OnOk r P → P
on_ok_of (Ok x) P is h = h
on_ok_of (Err e) P is h = cc

pub on_err_of : {T E : Type 0} (r : Result T E) (P : Type 0) → is_err r ≡ true → OnErr r P → P
on_err_of (Ok x) P is h = cc
on_err_of (Err e) P is h = h

-- ---- points

-- what stands for all that an image at a point stands for is at that point
at_as : (passed : List Point) (least : ℕ) (a c : Image) → IsAtPoint passed least a → StandsAs a c → IsAtPoint passed least c
at_as passed least a c p alike = record {
  here = p.here;
  among = p.among;
  enough = p.enough;
  stands = alike p.here.tree p.here.count p.stands;
}

-- more points were passed
at_more : (passed more : List Point) (least : ℕ) (c : Image) → ((p : Point) → Contains passed p → Contains more p) → IsAtPoint passed least c
    → IsAtPoint more least c
at_more passed more least c wider p = record { here = p.here; among = wider p.here p.among; enough = p.enough; stands = p.stands }

-- what stands for the state's tree and count is at its point
at_here : (s : State) (least : ℕ) (c : Image) → Contains s.passed (point_of s) → least ≤ s.count → ImageStandsFor s.tree s.count c
    → IsAtPoint s.passed least c
at_here s least c here few stands = record { here = point_of s; among = here; enough = few; stands = stands }

-- ---- acknowledgements

-- time goes on, and inside it what is left is at a point or stands for what was left before
acked_then : (s : State) (before now : ℕ) (old new : ℕ → Image → Type 0) (acks : List Ack)
    → ((t u : ℕ) (c : Image) → t ≤ u → old u c → old t c) → Contains s.passed (point_of s)
    → Elapses before now old new (IsOldOrNew (old before) s.tree s.count) → AllByRecursion (IsAcked s before old) acks
    → AllByRecursion (IsAcked s now new) acks
acked_then s before now old new [] earlier here time h = tt
acked_then s before now old new (a ∷ acks) earlier here time h = (
  record {
    past = omega (arith, h.0.past, time.later);
    few = h.0.few;
    kept = λ c left. ⊎_elim (h.0.kept c)
        (λ inside. ⊎_elim
        (λ was. at_as s.passed a.count was.0 c (h.0.kept was.0 (earlier a.calls before was.0 h.0.past was.1)) was.2)
        (λ stands. at_here s a.count c here h.0.few stands) inside)
        (time.adds a.calls c h.0.past left);
  },
  acked_then s before now old new acks earlier here time h.1,
)

-- the state has passed more points, and no fewer commands
acked_more : (s t : State) (now : ℕ) (left : ℕ → Image → Type 0) (acks : List Ack) → ((p : Point) → Contains s.passed p → Contains t.passed p)
    → s.count ≤ t.count → AllByRecursion (IsAcked s now left) acks → AllByRecursion (IsAcked t now left) acks
acked_more s t now left [] wider more h = tt
acked_more s t now left (a ∷ acks) wider more h = (
  record {
    past = h.0.past;
    few = omega (arith, h.0.few, more);
    kept = λ c was. at_more s.passed t.passed a.count c wider (h.0.kept c was);
  },
  acked_more s t now left acks wider more h.1,
)

-- ---- a device that goes on

module _ {D : Type 0} (g : Ghosts D) where
  -- since the beginning each image is at a point
  pub since_begun : (first : D) (since : ℕ) (now : D) (acks : List Ack) (s : State) → IsSafeSince g first since now acks s
      → (c : Image) → g.left_since now since c → IsAtPoint s.passed 0 c
  since_begun first since now acks s safe =
      stays (IsAtPoint s.passed 0) (IsAtPoint s.passed 0) since safe.time safe.early safe.begun (λ c h. h)

  -- nothing was done yet
  pub safe_first : (first : D) (since : ℕ) (s : State) → since ≤ g.call_count first → ((c : Image) → g.left_since first since c → IsAtPoint s.passed 0 c)
      → Contains s.passed (point_of s) → s.calls ≡ g.call_count first → s.acks ≡ [] → IsSafeSince g first since first [] s
  safe_first first since s early begun here calls none = record {
    time = record { later = omega arith; keeps = λ t c le h. h; adds = λ t c le h. inl h };
    early = early;
    begun = begun;
    here = here;
    acked = tt;
    calls = calls;
    acks_are = sym none;
  }

  -- calls go on, inside which a crash leaves what one of before stands for, or the state's own tree, and nothing but their number changes in the state
  pub safe_then : (first : D) (since : ℕ) (old new : D) (acks : List Ack) (s : State)
      → ((t u : ℕ) (c : Image) → t ≤ u → g.left_since old u c → g.left_since old t c)
      → Goes g old new (IsOldOrNew (left_now g old) s.tree s.count) → IsSafeSince g first since old acks s
      → IsSafeSince g first since new acks (with_view s s.view (g.call_count new))
  safe_then first since old new acks s earlier time safe =
      let inside : (c : Image) → IsOldOrNew (left_now g old) s.tree s.count c → IsAtPoint s.passed 0 c =
      λ c h. ⊎_elim
      (λ was. at_as s.passed 0 was.0 c (since_begun first since old acks s safe was.0 (earlier since (g.call_count old) was.0 (omega (arith, safe.early, safe.time.later)) was.1)) was.2)
      (λ stands. at_here s 0 c safe.here (omega arith) stands) h in
      record {
        time = goes_on (IsAtPoint s.passed 0) (IsOldOrNew (left_now g old) s.tree s.count) safe.time time inside;
        early = safe.early;
        begun = safe.begun;
        here = safe.here;
        acked = acked_more s (with_view s s.view (g.call_count new)) (g.call_count new) (g.left_since new) acks (λ p h. h) (omega arith)
            (acked_then s (g.call_count old) (g.call_count new) (g.left_since old) (g.left_since new) acks earlier safe.here time safe.acked);
        calls = refl;
        acks_are = safe.acks_are;
      }

  -- a state that has passed more points, its own among them, with the device's number of calls and the same acknowledgements
  pub safe_more : (first : D) (since : ℕ) (now : D) (acks : List Ack) (s t : State) → ((p : Point) → Contains s.passed p → Contains t.passed p)
      → s.count ≤ t.count → Contains t.passed (point_of t) → t.calls ≡ g.call_count now → t.acks ≡ s.acks → IsSafeSince g first since now acks s
      → IsSafeSince g first since now acks t
  safe_more first since now acks s t wider more here calls same safe = record {
    time = within (IsAtPoint s.passed 0) (IsAtPoint t.passed 0) safe.time (λ c p. at_more s.passed t.passed 0 c wider p);
    early = safe.early;
    begun = λ c left. at_more s.passed t.passed 0 c wider (safe.begun c left);
    here = here;
    acked = acked_more s t (g.call_count now) (g.left_since now) acks wider more safe.acked;
    calls = calls;
    acks_are = safe.acks_are ∙ sym same;
  }

  -- all was made durable, and that is acknowledged
  pub safe_acked : (first : D) (since : ℕ) (now : D) (acks : List Ack) (s : State) → AllStandFor s.tree s.count (left_now g now)
      → IsSafeSince g first since now acks s → IsSafeSince g first since now (acks ++ ack (g.call_count now) s.count ∷ []) (synced_state s (g.call_count now))
  safe_acked first since now acks s kept safe = record {
    time = safe.time;
    early = safe.early;
    begun = safe.begun;
    here = safe.here;
    acked = acked_more s (synced_state s (g.call_count now)) (g.call_count now) (g.left_since now) (acks ++ ack (g.call_count now) s.count ∷ []) (λ p h. h) (omega arith)
        (each_both (IsAcked s (g.call_count now) (g.left_since now)) acks (ack (g.call_count now) s.count ∷ []) safe.acked (
          record {
            past = omega arith;
            few = omega arith;
            kept = λ c left. at_here s s.count c safe.here (omega arith) (kept c left);
          },
          tt,
        ));
    calls = refl;
    acks_are = ap (λ l. l ++ ack (g.call_count now) s.count ∷ []) safe.acks_are;
  }
