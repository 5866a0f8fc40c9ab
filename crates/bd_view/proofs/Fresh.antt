-- The view of a new image.
use Rattle.std.proofs.Common.{◌≡◌, ℕ, zero, suc, ◌-◌, ◌≤◌, List, [], drop, Some, None, refl, ap, ◌∙◌, lit≤, arith, inl, inr}
use Rattle.std.specs.Prelude.{length}
use Rattle.std.specs.List.{sum_by}
use Rattle.std.proofs.lemmas.Bool.{cases_Bool, cond-true, cond-false}
use Rattle.std.proofs.lemmas.List.Sums.{sum_by-take-drop, sum_by-le-sum_by}
use Rattle.std.proofs.lemmas.Option.{same_Some, none-some}
use Rattle.bd_limits.specs.Limits.{slot_minimum, abundant_limit}
use Rattle.bd_command.specs.Log.{IsLogged, log_record, record_limit}
use Rattle.bd_command.specs.declared.Command.{Command}
use Rattle.bd_dirs.specs.Kinds.{Kind, Reads, Sends, SendsLate, Grafts, kind_of}
use Rattle.bd_files.specs.Roots.{root_messages}
use Rattle.bd_message.specs.declared.message.Message.{Message}
use Rattle.bd_message.specs.Effect.{begins}
use Rattle.bd_message.specs.Freeing.{stem}
use Rattle.bd_message.specs.Messages.{size}
use Rattle.bd_node.specs.declared.node.Edge.{Edge}
use Rattle.bd_node.specs.declared.node.Node.{Node}
use Rattle.bd_node.specs.New.{new_root}
use Rattle.bd_node.specs.Nodes.{appended}
use Rattle.bd_node.specs.Parts.{IsEdgeAt}
use Rattle.bd_node.specs.Tables.{sum_below, kept_count}
use Rattle.bd_step.specs.Settling.{size_under, IsDueAt, LeadsDown, IsSettled}
use Rattle.bd_step.specs.Settling.IsPassedTo.{at_root}
use Rattle.bd_view.specs.Trees.{fresh_tree, limit_of}
use Rattle.bd_view.specs.Views.{fresh_view, free_slots, save_slots, step_slots, need_slots, record_room}
use Rattle.bd_view.specs.Moves.{IsQuietFor}

pub fresh_free : (slots : ℕ) → free_slots (fresh_view slots) ≡ slots - 2
fresh_free slots = refl

-- a checkpoint would take the slot of a table
fresh_save : (slots : ℕ) → save_slots (fresh_view slots) ≡ 1
unfolding sum_below kept_count
fresh_save slots = refl

fresh_step : (kind : Kind) → step_slots kind fresh_tree.table ≤ 12
fresh_step Reads = lit≤ tt
fresh_step Sends = lit≤ tt
fresh_step SendsLate = lit≤ tt
fresh_step (Grafts s d keep) = lit≤ tt

pub fresh_need : (c : Command) (slots : ℕ) → need_slots c (fresh_view slots) ≤ 13
fresh_need c slots = omega (arith, fresh_save slots, fresh_step (kind_of c))

fresh_waits : (kind : Kind) → fresh_tree.table.size ≤ limit_of kind
fresh_waits Reads = lit≤ tt
fresh_waits Sends = lit≤ tt
fresh_waits SendsLate = lit≤ tt
fresh_waits (Grafts s d keep) = lit≤ tt

-- ---- nothing is due for a graft's source

abbrev fresh_root : Node
fresh_root = appended new_root root_messages

abbrev fresh_edge : Edge
fresh_edge = record { pivot = []; lift = 0; source = []; child = None; seen = 0 }

-- a message counts no more for a prefix than at all
under_most : (s : List ℕ) (m : Message) → size_under s m ≤ size m
under_most s m =
    elim (cases_Bool (begins (stem m) s)) [
      | inl in_it ↦ omega (arith, cond-true (begins (stem m) s) (size m) 0 in_it)
      | inr apart ↦ omega (arith, cond-false (begins (stem m) s) (size m) 0 apart)
    ]

waits_most : (s : List ℕ) (seen : ℕ) (list : List Message) → sum_by (size_under s) (drop seen list) ≤ sum_by size list
waits_most s seen list = omega (arith, sum_by-take-drop (size_under s) list seen, sum_by-le-sum_by (size_under s) size list (under_most s))

root_small : sum_by size root_messages ≤ 1023
root_small = lit≤ tt

not_due : (s : List ℕ) (place : ℕ) → IsDueAt fresh_root s place → ⊥
not_due s place due =
    let most : sum_by (size_under s) (drop due.edge.seen root_messages) ≤ sum_by size root_messages = waits_most s due.edge.seen root_messages in
    let much : abundant_limit ≤ sum_by (size_under s) (drop due.edge.seen root_messages) = due.much in
    omega (arith, most, much, root_small)

-- its one edge has no child
childless : (place child : ℕ) (e : Edge) → IsEdgeAt fresh_root place e → e.child ≡ Some child → ⊥
childless zero child e here is = none-some child (ap (λ (x : Edge). x.child) (same_Some fresh_edge e here) ∙ is)
childless (suc place) child e here is = none-some e here

not_led : (s : List ℕ) (place child : ℕ) (e : Edge) → LeadsDown fresh_tree.table fresh_root s place child e → ⊥
not_led s place child e leads = childless place child e leads.way.here leads.way.child_is

fresh_settled : (s : List ℕ) → IsSettled fresh_tree.nodes fresh_tree.table s
fresh_settled s = record {
  id = fresh_tree.table.root;
  node = fresh_root;
  there = refl;
  left = s;
  way = at_root;
  stops = (not_due s, not_led s);
}

-- ---- what each command has

-- the log has room for each record
fresh_room : (c : Command) (slots : ℕ) → record_limit ≤ record_room c (fresh_view slots)
fresh_room c slots = lit≤ tt

pub fresh_quiet : ((command : Command) → IsLogged command → length (log_record command) ≤ record_limit) → (c : Command) (slots : ℕ) → IsLogged c → slot_minimum ≤ slots → IsQuietFor c (fresh_view slots)
fresh_quiet fit c slots logged many = record {
  enough = fresh_waits (kind_of c);
  settled = λ s is. fresh_settled s;
  room = omega (arith, fresh_need c slots, fresh_free slots, many);
  log = omega (arith, fit c logged, fresh_room c slots);
}
