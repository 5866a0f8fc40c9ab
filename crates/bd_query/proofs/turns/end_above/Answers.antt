use Rattle.std.proofs.Common.{ℕ, ◌++◌, sym, ap, subst, ◌∙◌, Some, None, List, Option, take, drop, length}
use Rattle.bd_keys.specs.Keys.{Begins}
use Rattle.bd_message.proofs.Finds.{not_both}
use Rattle.bd_query.proofs.EndLemmas.{IsRaised, past_all, no_end, raised_here, end_above_end, end_above_inside}
use Rattle.bd_query.proofs.turns.end_above.Goals as goal

pub returns-in_default-clause-inside : goal.returns-in_default-clause-inside
returns-in_default-clause-inside c most h k begins within =
    end_above_inside c.args.key.now c.args.source.now c.args.lift most c.args.end None k c.requires
    (subst (λ (e : Option (List ℕ)). IsRaised (take c.args.lift c.args.key.now) c.args.source.now e None) (sym c.in_default.is) no_end) h begins within

pub returns-then-starts-clause-end : goal.returns-then-starts-clause-end
returns-then-starts-clause-end c most h =
    end_above_end c.args.key.now c.args.source.now c.args.lift most c.args.end (Some c.in_ok-raised.raised) c.requires
    (subst (λ (e : Option (List ℕ)). IsRaised (take c.args.lift c.args.key.now) c.args.source.now e (Some c.in_ok-raised.raised)) (sym c.in-Some.is)
    (raised_here (take c.args.lift c.args.key.now) c.args.source.now c.in-Some.end c.in_ok-raised.raised
    (subst (λ (k : List ℕ). Begins k c.args.source.now) c.as_slice.ensures (c.starts.ensures.0 c.if-starts.true))
    (c.in_ok-raised.ensures ∙ ap (λ (l : List ℕ). l ++ c.tail-rest.result.now) c.front.ensures
    ∙ ap (λ (l : List ℕ). take c.args.lift c.args.key.now ++ l) (c.tail-rest.ensures ∙ ap (λ (l : List ℕ). drop (length c.args.source.now) l) c.as_slice-then-starts.ensures)))) h

pub returns-then-starts-clause-inside : goal.returns-then-starts-clause-inside
returns-then-starts-clause-inside c most h k begins within =
    end_above_inside c.args.key.now c.args.source.now c.args.lift most c.args.end (Some c.in_ok-raised.raised) k c.requires
    (subst (λ (e : Option (List ℕ)). IsRaised (take c.args.lift c.args.key.now) c.args.source.now e (Some c.in_ok-raised.raised)) (sym c.in-Some.is)
    (raised_here (take c.args.lift c.args.key.now) c.args.source.now c.in-Some.end c.in_ok-raised.raised
    (subst (λ (l : List ℕ). Begins l c.args.source.now) c.as_slice.ensures (c.starts.ensures.0 c.if-starts.true))
    (c.in_ok-raised.ensures ∙ ap (λ (l : List ℕ). l ++ c.tail-rest.result.now) c.front.ensures
    ∙ ap (λ (l : List ℕ). take c.args.lift c.args.key.now ++ l) (c.tail-rest.ensures ∙ ap (λ (l : List ℕ). drop (length c.args.source.now) l) c.as_slice-then-starts.ensures)))) h begins within

pub returns-clause-inside : goal.returns-clause-inside
returns-clause-inside c most h k begins within =
    end_above_inside c.args.key.now c.args.source.now c.args.lift most c.args.end None k c.requires
    (subst (λ (e : Option (List ℕ)). IsRaised (take c.args.lift c.args.key.now) c.args.source.now e None) (sym c.in-Some.is)
    (past_all c.in-Some.end (λ starts. not_both (c.starts.ensures.1 (subst (λ (l : List ℕ). Begins l c.args.source.now) (sym c.as_slice.ensures) starts)) c.if-starts.false))) h begins within
