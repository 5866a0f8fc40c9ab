-- What a plan that is carried out makes of a map and of the tree that it represents.
use Rattle.std.proofs.Common.{rules, ◌≡◌, ℕ, List, Bool, false, refl, sym, ap, subst, ◌∙◌}
use Rattle.std.specs.Prelude.{Option, Some, None, IsNone, Result, Err, OnErr, IsTrue}
use Rattle.bd_command.specs.Command.{writes}
use Rattle.bd_command.specs.declared.Command.{Command}
use Rattle.bd_command.specs.declared.Command.TheVariants.{Mkdir, Create, Write, Truncate, Remove, Rename, Clone, Chmod, Read, Stat, List as Ls}
use Rattle.bd_command.specs.declared.refusal.Refusal.{Refusal}
use Rattle.bd_command.specs.declared.reply.Reply.{Reply}
use Rattle.bd_command.specs.declared.reply.Reply.TheVariants as reply
use Rattle.bd_model.specs.Tree.{Tree}
use Rattle.bd_model.specs.Step.{step, stepped, refusal_of, changed, answer}
use Rattle.bd_model.proofs.TreeLaws.{after-reading}
use Rattle.bd_message.specs.declared.message.Message.{Message}
use Rattle.bd_message.specs.KeyMaps.{At, SameAt, IsApplied, IsGrafted}
use Rattle.bd_represent.specs.Represents.{Represents}
use Rattle.bd_represent.proofs.TreeLemmas.{Represents-along}
use Rattle.bd_dirs.specs.Plans.{IsPlan}
use Rattle.bd_dirs.specs.declared.plan.Plan.{Plan}
use Rattle.bd_dirs.specs.declared.plan.Plan.TheVariants.{Refused, Apply, Graft}
use Rattle.bd_effects.specs.Carrying.{accepts, TakesStep}

-- ---- the step

done_answer : (t : Tree) (c : Command) → IsTrue (writes c) → answer t c ≡ reply.Done
done_answer t (Mkdir path) h = refl
done_answer t (Create path) h = refl
done_answer t (Write path off bytes) h = refl
done_answer t (Truncate path len) h = refl
done_answer t (Remove path) h = refl
done_answer t (Rename a b) h = refl
done_answer t (Clone a b) h = refl
done_answer t (Chmod path mode) h = refl
done_answer t (Read path off len) h = cc
done_answer t (Stat path) h = cc
done_answer t (Ls path after) h = cc

-- a refused command leaves the tree
refused_step : (t : Tree) (c : Command) (refusal : Refusal) (new : At) → Represents new t → refusal_of t c ≡ Some refusal → TakesStep t c new (reply.Refused refusal)
refused_step t c refusal new r e = record {
  reply_is = sym (ap (λ (o : Option Refusal). (stepped t c o).1) e);
  represents = subst (λ (o : Option Refusal). Represents new (stepped t c o).0) (sym e) r;
}

-- an accepted one is done
done_step : (t : Tree) (c : Command) (new : At) → IsTrue (writes c) → Represents new (changed t c) → refusal_of t c ≡ None → TakesStep t c new reply.Done
done_step t c new w r e = record {
  reply_is = sym (done_answer t c w) ∙ sym (ap (λ (o : Option Refusal). (stepped t c o).1) e);
  represents = subst (λ (o : Option Refusal). Represents new (stepped t c o).0) (sym e) r;
}

-- a plan of a refusal is answered so
pub refused_plan : (at : At) (t : Tree) (c : Command) (plan : Plan) (refusal : Refusal) → Represents at t → plan ≡ Refused refusal → IsPlan at t c plan → TakesStep t c at (reply.Refused refusal)
refused_plan at t c plan refusal r is h = refused_step t c refusal at r (subst (IsPlan at t c) is h)

-- messages that are planned make the tree after the command
pub applied_plan : (at new : At) (t : Tree) (c : Command) (plan : Plan) (list : List Message) → IsTrue (writes c) → plan ≡ Apply list → IsPlan at t c plan → IsApplied at list new → TakesStep t c new reply.Done
applied_plan at new t c plan list w is h done =
    let p : IsPlan at t c (Apply list) = subst (IsPlan at t c) is h in
    done_step t c new w (p.1 new done) p.0

-- a graft that is planned makes it
pub grafted_plan : (at new : At) (t : Tree) (c : Command) (plan : Plan) (s d : List ℕ) (keep : Bool) → IsTrue (writes c) → plan ≡ Graft s d keep → IsPlan at t c plan → IsGrafted at s d keep new → TakesStep t c new reply.Done
grafted_plan at new t c plan s d keep w is h done =
    let p : IsPlan at t c (Graft s d keep) = subst (IsPlan at t c) is h in
    done_step t c new w (p.1 new done) p.0

-- a command that reads leaves the tree, and is answered
pub read_step : (old new : At) (t : Tree) (c : Command) (said : Reply) → writes c ≡ false → SameAt old new → Represents old t → said ≡ (step t c).1 → TakesStep t c new said
read_step old new t c said w same r e = record {
  reply_is = e;
  represents = subst (Represents new) (sym (after-reading t c w)) (Represents-along old new t (λ k key. same k) r);
}

-- a plan that is done is of a command that is accepted
pub done_accepted : (at : At) (t : Tree) (c : Command) (plan : Plan) → IsTrue (accepts plan) → IsPlan at t c plan → refusal_of t c ≡ None
done_accepted at t c (Refused refusal) does h = cc
done_accepted at t c (Apply list) does h = h.0
done_accepted at t c (Graft s d keep) does h = h.0

-- so where it is begun and fails
pub accepted_plan : {T E : Type 0} (at : At) (t : Tree) (c : Command) (plan : Plan) (r : Result T E) (e : E) → r ≡ Err e → OnErr r (IsTrue (accepts plan)) → IsPlan at t c plan → IsNone (refusal_of t c)
accepted_plan {T} {E} at t c plan r e is does h =
    let begun : IsTrue (accepts plan) = subst (λ (s : Result T E). OnErr s (IsTrue (accepts plan))) is does in
    let none : refusal_of t c ≡ None = done_accepted at t c plan begun h in
    subst (λ (o : Option Refusal). IsNone o) (sym none) (search rules)
