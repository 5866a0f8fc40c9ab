use Rattle.std.proofs.Common.{List, ℕ, sym, subst, ◌∙◌}
use Rattle.std.specs.Vec.Iter.{into_iter_items}
use Rattle.std.proofs.lemmas.List.{nil_from_length}
use Rattle.bd_message.proofs.Finds.{not_both}
use Rattle.bd_keys.specs.Keys.{IsKey, Begins}
use Rattle.bd_query.proofs.RunLemmas.{raised_more, raised_all, stopped_outside, stopped_past}
use Rattle.bd_query.proofs.turns.raised_run.Goals.{in-None, in-Some+then-not-starts, in-Some+else-not-starts+in_ok-entry+then-not-is_before}
use Rattle.bd_query.proofs.turns.raised_run.Goals as goal

pub loop-entry-preserved : goal.loop-entry-preserved
loop-entry-preserved c =
    raised_more c.args.end.now c.args.shared.now c.args.source.now c.args.entries c.loop-entry.run.items c.push.new.self.items (into_iter_items c.loop-entry.entry-iterator) (into_iter_items c.next.new.self)
    c.in-Some.entry c.in_ok-entry.entry c.loop-entry.invariant c.in-Some.ensures.steps.0
    (subst (λ (k : List ℕ). Begins k c.args.source.now) c.as_slice.ensures (c.starts.ensures.0 c.if-not-starts.false)) c.in_ok-entry.ensures
    (subst IsKey c.as_slice-in-loop-entry.ensures c.bytes_of-bytes.ensures.bytes) (sym c.is_before.ensures ∙ c.if-not-is_before.false) c.in_ok-push.ensures.items

pub returns-clause-run : goal.returns-clause-run
returns-clause-run c =
    c.from_vec.ensures ∙ elim c.match-next.branch [
      | in-None w ↦
          raised_all c.args.end.now c.args.shared.now c.args.source.now c.args.entries c.loop-entry.run.items (into_iter_items c.loop-entry.entry-iterator) c.loop-entry.invariant
          (nil_from_length (into_iter_items c.loop-entry.entry-iterator) (sym c.loop-entry.entry-iterator.rest.ok.0 ∙ w.in-None.ensures.steps.0))
      | in-Some+then-not-starts w ↦
          stopped_outside c.args.end.now c.args.shared.now c.args.source.now c.args.entries c.loop-entry.run.items (into_iter_items c.loop-entry.entry-iterator) (into_iter_items c.next.new.self) w.in-Some.entry
          c.loop-entry.invariant w.in-Some.ensures.steps.0
          (λ starts. not_both (w.starts.ensures.1 (subst (λ (k : List ℕ). Begins k c.args.source.now) (sym w.as_slice.ensures) starts)) w.if-not-starts.true)
      | in-Some+else-not-starts+in_ok-entry+then-not-is_before w ↦
          stopped_past c.args.end.now c.args.shared.now c.args.source.now c.args.entries c.loop-entry.run.items (into_iter_items c.loop-entry.entry-iterator) (into_iter_items c.next.new.self) w.in-Some.entry w.in_ok-entry.entry
          c.loop-entry.invariant w.in-Some.ensures.steps.0 w.in_ok-entry.ensures (sym w.is_before.ensures ∙ w.if-not-is_before.true)
    ]
