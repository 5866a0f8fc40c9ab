-- What an accepted command sends.
use Rattle.std.proofs.Common.{◌≡◌, ◌⊎◌, ℕ, List, Bool, Some, sym, subst, ap, ◌∙◌}
use Rattle.bd_limits.specs.Limits.{flush_limit}
use Rattle.bd_command.specs.declared.Command.{Command}
use Rattle.bd_model.specs.Tree.{Tree}
use Rattle.bd_message.specs.declared.message.Message.{Message}
use Rattle.bd_message.specs.Effect.{acts, no_nodes}
use Rattle.bd_message.specs.KeyMaps.{At, SameAt, IsApplied, IsGrafted}
use Rattle.bd_dirs.specs.declared.plan.Plan.{Plan}
use Rattle.bd_dirs.specs.declared.plan.Plan.TheVariants.{Apply, Graft}
use Rattle.bd_dirs.specs.Kinds.{Kind, Reads, Sends, SendsLate, Grafts, kind_of}
use Rattle.bd_dirs.specs.Plans.{IsPlan, IsPlanOf, IsPlanKind}
use Rattle.bd_dirs.specs.Sendings.{Sending, Batch, Move, sending}
use Rattle.bd_dirs.proofs.Along.{grafted_along}
use Rattle.bd_view.specs.Trees.{source_of, sent_from, HasSent, IsSourceFor, IsSettledFor}
use Rattle.bd_view.specs.Views.{View, keys_of}
use Rattle.bd_view.specs.Moves.{IsExecuted, IsAccepted}
use Rattle.bd_volume.specs.Steps.{SendsIn, LogsIn}

-- ---- over steps, which leave what stands at the keys

pub applied_over : (old mid new : At) (list : List Message) → SameAt old mid → IsApplied mid list new → IsApplied old list new
applied_over old mid new list same applied = λ k key. applied k key ∙ ap (acts no_nodes list k) (same k)

pub grafted_over : (old mid new : At) (s d : List ℕ) (keep : Bool) → SameAt old mid → IsGrafted mid s d keep new → IsGrafted old s d keep new
grafted_over old mid new s d keep same moved = λ k key. moved k key ∙ grafted_along old mid s d keep k same

-- ---- the source of a graft

one_source : (kind : Kind) (s d : List ℕ) (keep : Bool) → IsPlanOf kind (Graft s d keep) → Some s ≡ source_of kind
one_source Reads s d keep plan = absurd plan
one_source Sends s d keep plan = absurd plan
one_source SendsLate s d keep plan = absurd plan
one_source (Grafts s2 d2 keep2) s d keep plan = ap Some plan.0

-- it is the command's
pub graft_source : (c : Command) (s d : List ℕ) (keep : Bool) → IsPlanKind c (Graft s d keep) → IsSourceFor c (Some s)
graft_source c s d keep plan = λ x is. sym (one_source (kind_of c) s d keep plan) ∙ is

-- ---- what was planned is what the command comes to

executed : (t : Tree) (c : Command) (what : Sending) (old new : View) → SendsIn c what old new → sending (keys_of old) t c ≡ what → IsExecuted t c old new
executed t c what old new h is = record {
  mid = h.mid;
  stepped = h.stepped;
  enough = h.enough;
  settled = subst (λ (x : Sending). (h.stepped.made ≡ flush_limit) ⊎ IsSettledFor (sent_from x) h.mid.tree) (sym is) h.settled;
  room = h.room;
  sent = subst (λ (x : Sending). HasSent x h.mid.tree new.tree) (sym is) h.sent;
  rest = h.rest;
}

accepted : (t : Tree) (c : Command) (what : Sending) (old new : View) → LogsIn c what old new → sending (keys_of old) t c ≡ what → IsAccepted t c old new
accepted t c what old new h is = record { last = h.last; executed = executed t c what old h.last h.sends is; log = h.log; after = h.after }

pub messages_accepted : (t : Tree) (c : Command) (plan : Plan) (list sent : List Message) (old new : View) → plan ≡ Apply list → sent ≡ list → IsPlan (keys_of old) t c plan → LogsIn c (Batch sent) old new → IsAccepted t c old new
messages_accepted t c plan list sent old new is same h sends =
    let p : IsPlan (keys_of old) t c (Apply list) = subst (IsPlan (keys_of old) t c) is h in
    accepted t c (Batch sent) old new sends (p.2 ∙ ap Batch (sym same))

pub graft_accepted : (t : Tree) (c : Command) (plan : Plan) (s d s2 d2 : List ℕ) (keep : Bool) (old new : View) → plan ≡ Graft s d keep → s2 ≡ s → d2 ≡ d → IsPlan (keys_of old) t c plan → LogsIn c (Move s2 d2 keep) old new → IsAccepted t c old new
graft_accepted t c plan s d s2 d2 keep old new is es ed h sends =
    let p : IsPlan (keys_of old) t c (Graft s d keep) = subst (IsPlan (keys_of old) t c) is h in
    accepted t c (Move s2 d2 keep) old new sends (p.2 ∙ ap (λ (x : List ℕ). Move x d keep) (sym es) ∙ ap (λ (x : List ℕ). Move s2 x keep) (sym ed))
