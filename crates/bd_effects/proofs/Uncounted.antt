-- The counters that flush steps and grafts never wear.
use Rattle.std.proofs.Common.{◌≡◌, ℕ, List, Bool, inl, inr}
use Rattle.bd_command.specs.declared.Command.{Command}
use Rattle.bd_message.specs.declared.fault.Counter.{Counter}
use Rattle.bd_message.specs.declared.fault.Counter.TheVariants.{Level}
use Rattle.bd_node.specs.declared.node.Node.{Node}
use Rattle.bd_node.specs.declared.node.Step.{Step}
use Rattle.bd_node.specs.Meaning.{Nodes}
use Rattle.bd_node.specs.Tables.{Table}
use Rattle.bd_node.specs.Steps.{IsWornBy, extend_step}
use Rattle.bd_resolve.specs.declared.following.Target.{Target}
use Rattle.bd_step.specs.declared.ways.FlushStep.{FlushStep}
use Rattle.bd_step.specs.Steps.{IsWornStep}
use Rattle.bd_graft.specs.Grafting.{IsWornOver, IsWornByGraft, step_over, graft_messages}
use Rattle.bd_graft.specs.Grafting.IsWornOver.{root_kept, root_raised, level_raised}
use Rattle.bd_view.specs.Trees.{TreeView, IsWornToStep}
use Rattle.bd_view.specs.Trees.IsWornToStep.{worn_at_root, worn_at_source}

never_over : (t : Table) (root : Node) (s d : List ℕ) (keep : Bool) (made : List Node) (target : Target) (top : ℕ) (which : Counter) → ((step : Step) → IsWornBy t step which → ⊥) → (which ≡ Level → ⊥) → IsWornOver t root s d keep made target top which → ⊥
never_over t root s d keep made target top which unworn other (root_kept low w) = unworn (extend_step t root made (graft_messages s d keep target)) w
never_over t root s d keep made target top which unworn other (root_raised low w) = unworn (step_over t made (graft_messages s d keep target)) w
never_over t root s d keep made target top which unworn other (level_raised low is high) = other is

-- a graft wears no count of commands, of epochs or of flushes
pub never_by_graft : (nodes : Nodes) (t : Table) (s d : List ℕ) (keep : Bool) (which : Counter) → ((step : Step) → IsWornBy t step which → ⊥) → (which ≡ Level → ⊥) → IsWornByGraft nodes t s d keep which → ⊥
never_by_graft nodes t s d keep which unworn other h = never_over t h.root s d keep h.made h.target h.top which unworn other h.worn

unworn_step : (K : Type 0) (nodes : Nodes) (t : Table) (flush : FlushStep) (which : Counter) → ((step : Step) → IsWornBy t step which → ⊥) → (which ≡ Level → ⊥) → IsWornStep K nodes t flush which → ⊥
unworn_step K nodes t flush which unworn other h =
    elim h [
      | inl w ↦ unworn w.step w.worn
      | inr high ↦ other high.0
    ]

-- a flush step of a command wears no count of commands, of epochs or of flushes
pub never_counted : (K : Type 0) (v : TreeView) (c : Command) (which : Counter) → ((step : Step) → IsWornBy v.table step which → ⊥) → (which ≡ Level → ⊥) → IsWornToStep K v.nodes v.table c which → ⊥
never_counted K v c which unworn other (worn_at_root many h) = unworn_step K v.nodes v.table h.step which unworn other h.worn
never_counted K v c which unworn other (worn_at_source s few is h) = unworn_step K v.nodes v.table h.worn.step which unworn other h.worn.worn
