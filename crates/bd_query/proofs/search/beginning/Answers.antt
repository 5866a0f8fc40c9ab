use Rattle.std.proofs.Common.{arith, subst, List, ℕ, true≢false, sym, ◌∙◌}
use Rattle.std.specs.Vec.Iter.{into_iter_items}
use Rattle.bd_keys.specs.Keys.{Begins}
use Rattle.bd_query.proofs.ScanLemmas.{begun_more, begun_all, begun_full, begun_other}
use Rattle.bd_query.proofs.search.beginning.Goals as goal
use Rattle.bd_query.proofs.search.beginning.Goals.{in-None, in-Some+then-len-most, then-len-most-via-then-len-most, then-len-most-via-else-len-most+then-not-starts}

pub loop-key-preserved : goal.loop-key-preserved
loop-key-preserved c =
    begun_more c.args.most c.args.prefix.now c.args.entries (into_iter_items c.loop-key.key-iterator) (into_iter_items c.next.new.self) c.loop-key.found.items c.push.new.self.items c.in-Some.field-0 c.loop-key.invariant
    c.in-Some.ensures.steps.0 (omega (arith, c.loop-key.found.ok.0))
    (subst (λ (k : List ℕ). Begins k c.args.prefix.now) c.as_slice.ensures (c.starts.ensures.0 c.if-not-starts.false)) c.in_ok-push.ensures.items

pub returns : goal.returns
returns c =
    elim c.match-next.branch [
      | in-None w ↦ begun_all c.args.most c.args.prefix.now c.args.entries (into_iter_items c.loop-key.key-iterator) c.loop-key.found.items c.loop-key.invariant (omega (arith, w.in-None.ensures.steps.0, c.loop-key.key-iterator.rest.ok.0))
      | in-Some+then-len-most w ↦ elim w.then-len-most.branch [
        | then-len-most-via-then-len-most v ↦ begun_full c.args.most c.args.prefix.now c.args.entries (into_iter_items c.loop-key.key-iterator) c.loop-key.found.items c.loop-key.invariant (omega (arith, c.loop-key.found.ok.0))
        | then-len-most-via-else-len-most+then-not-starts v ↦
            begun_other c.args.most c.args.prefix.now c.args.entries (into_iter_items c.loop-key.key-iterator) (into_iter_items c.next.new.self) c.loop-key.found.items w.in-Some.field-0 c.loop-key.invariant
            w.in-Some.ensures.steps.0
            (λ same. true≢false (sym (v.starts.ensures.1 (subst (λ (k : List ℕ). Begins k c.args.prefix.now) (sym v.as_slice.ensures) same)) ∙ v.if-not-starts.true))
      ]
    ]
