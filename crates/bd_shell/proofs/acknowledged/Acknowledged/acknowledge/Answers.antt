-- A sync that is Ok is acknowledged, and one that fails leaves what the volume stands for.
use Rattle.std.proofs.Common.{◌≡◌, ℕ, List, [], ◌∷◌, ◌++◌, sym, ap, subst, ◌∙◌, arith}
use Rattle.bd_view.specs.Moves.{synced}
use Rattle.bd_volume.specs.Volume.{device_of}
use Rattle.bd_shell.specs.declared.outcome.Ack.{Ack}
use Rattle.bd_shell.specs.Transcript.{ack, synced_state, with_view}
use Rattle.bd_shell.specs.Crashes.{IsSafeSince}
use Rattle.bd_shell.proofs.Surviving.{safe_then, safe_acked, on_err_of, on_ok_of}
use Rattle.bd_shell.proofs.acknowledged.Acknowledged.acknowledge.Goals as goal

-- an acknowledgement more, by its numbers
pushed : (acks same new : List Ack) (calls count n m : ℕ) → same ≡ acks → new ≡ same ++ ack calls count ∷ [] → calls ≡ n → count ≡ m → new ≡ acks ++ ack n m ∷ []
pushed acks same new calls count n m is new_is calls_are count_is =
    new_is ∙ ap (λ (l : List Ack). l ++ ack calls count ∷ []) is ∙ ap (λ k. acks ++ ack calls k ∷ []) count_is ∙ ap (λ k. acks ++ ack k m ∷ []) calls_are

pub returns-then-is_err-clause-err : goal.returns-then-is_err-clause-err
returns-then-is_err-clause-err g c first since s at =
    let D = g.D.Device in
    let v = c.args.self.now in
    let time = c.sync.ensures.time s.tree s.count at.at.stands in
    let calls = D.call_count (device_of c.sync.new.self) in
    record {
      calls = calls;
      later = omega (arith, at.safe.calls, time.later);
      reached = record {
        at = record {
          stands = c.sync.ensures.stays s.tree s.count at.at.stands;
          view_is = on_err_of c.sync.result _ (sym c.is_err.ensures.value ∙ c.if-is_err.true) c.sync.ensures.unmoved ∙ at.at.view_is;
        };
        safe = subst (λ acks. IsSafeSince D first since (device_of c.sync.new.self) acks (with_view s s.view calls)) (sym {A = List Ack} c.reserve.ensures.items)
            (safe_then D first since (device_of v.volume) (device_of c.sync.new.self) v.acks.items s (g.met.D.Device.since_earlier _) time at.safe);
      };
    }

pub returns-clause-ok : goal.returns-clause-ok
returns-clause-ok g c first since s at =
    let D = g.D.Device in
    let v = c.args.self.now in
    let good = sym c.is_err.ensures.value ∙ c.if-is_err.false in
    let stands = c.sync.ensures.stays s.tree s.count at.at.stands in
    let time = c.sync.ensures.time s.tree s.count at.at.stands in
    let calls = D.call_count (device_of c.sync.new.self) in
    record {
      calls = calls;
      later = omega (arith, at.safe.calls, time.later);
      reached = record {
        at = record {
          stands = stands;
          view_is = on_ok_of c.sync.result _ good c.sync.ensures.moved ∙ ap synced at.at.view_is;
        };
        safe = subst (λ acks. IsSafeSince D first since (device_of c.sync.new.self) acks (synced_state s calls))
            (sym {A = List Ack} (pushed v.acks.items _ _ c.calls.result c.count.result calls s.count c.reserve.ensures.items c.in-Ok.ensures.items c.calls.ensures (c.count.ensures ∙ stands.count_is)))
            (safe_acked D first since (device_of c.sync.new.self) v.acks.items (with_view s s.view calls)
            (on_ok_of c.sync.result _ good c.sync.ensures.kept s.tree s.count at.at.stands)
            (safe_then D first since (device_of v.volume) (device_of c.sync.new.self) v.acks.items s (g.met.D.Device.since_earlier _) time at.safe));
      };
    }

pub returns-clause-acked : goal.returns-clause-acked
returns-clause-acked g c = pushed c.args.self.now.acks.items _ _ c.calls.result c.count.result _ _ c.reserve.ensures.items c.in-Ok.ensures.items c.calls.ensures c.count.ensures
