-- What is seen of a tree of nodes, and how commands change it.
use Rattle.std.specs.Prelude.{◌≡◌, ℕ, ◌+◌, ◌*◌, ◌<◌, ◌≤◌, ◌==◌, Bool, if◌then◌else◌, List, Option, None, Some, IsTrue}
use Rattle.bd_limits.specs.Limits.{soft_limit, late_limit, flush_limit}
use Rattle.bd_command.specs.Command.{writes}
use Rattle.bd_command.specs.declared.Command.{Command}
use Rattle.bd_message.specs.declared.fault.Counter.{Counter}
use Rattle.bd_message.specs.declared.message.Message.{Message}
use Rattle.bd_dirs.specs.Kinds.{Kind, Reads, Sends, SendsLate, Grafts, kind_of}
use Rattle.bd_dirs.specs.Sendings.{Sending, Nothing, Batch, Move}
use Rattle.bd_files.specs.Roots.{root_messages}
use Rattle.bd_node.specs.declared.node.Node.{Node}
use Rattle.bd_node.specs.Nodes.{appended}
use Rattle.bd_node.specs.Meaning.{Nodes}
use Rattle.bd_node.specs.New.{new_root, new_table}
use Rattle.bd_node.specs.Tables.{Table}
use Rattle.bd_node.specs.Steps.{IsCommitted, HasGrown, append_step, grown}
use Rattle.bd_graft.specs.declared.grafting.Walk.{Walk}
use Rattle.bd_graft.specs.Grafting.{IsGrown, IsGraftStep, IsWalkOf, AreOthersSame}
use Rattle.bd_step.specs.Settling.{IsSettled, IsSettleStep, IsSettleFound, IsWornToSettle}
use Rattle.bd_step.specs.Steps.{IsFlushStep, IsFound, IsWornToFlush}

-- the nodes of a tree, their table, and how the last graft in it went
pub record TreeView : Type 0 where
  pub nodes : Nodes
  pub table : Table
  pub walk : Walk

-- the first one: node 1 alone, the root, in which the record of `/` waits; nothing was grafted
abbrev pub fresh_tree : TreeView
fresh_tree = record {
  nodes = λ id. if id == 1 then Some (appended new_root root_messages) else None;
  table = grown new_table root_messages;
  walk = record { visits = 0; height = 0 };
}

-- ---- flushes

-- up to this many bytes that wait in the root, a command makes no flush step from there
abbrev pub limit_of : Kind → ℕ
limit_of Reads = soft_limit
limit_of Sends = soft_limit
limit_of SendsLate = late_limit
limit_of (Grafts s d keep) = soft_limit

abbrev pub waiting_limit : Command → ℕ
waiting_limit c = limit_of (kind_of c)

-- the prefix of the keys that a command grafts, if it grafts some
abbrev pub source_of : Kind → Option (List ℕ)
source_of Reads = None
source_of Sends = None
source_of SendsLate = None
source_of (Grafts s d keep) = Some s

-- one flush step of a command: where more bytes wait in the root than its limit, one from the root;
-- else, before a graft, one where 1,024 bytes or more wait for its source, on the way of that
pub data IsStepIn (c : Command) (nodes : Nodes) (t : Table) (new : Nodes) (u : Table) : Type 0 where
  from_root : waiting_limit c < t.size → IsFlushStep nodes t new u → IsStepIn c nodes t new u
  of_source : (s : List ℕ) → t.size ≤ waiting_limit c → source_of (kind_of c) ≡ Some s
      → IsSettleStep nodes t s new u → IsStepIn c nodes t new u

-- such a step, as far as the tables tell
pub data IsStepFound (c : Command) (t u : Table) : Type 0 where
  found_at_root : waiting_limit c < t.size → IsFound t u → IsStepFound c t u
  found_at_source : (s : List ℕ) → t.size ≤ waiting_limit c → source_of (kind_of c) ≡ Some s
      → IsSettleFound t u → IsStepFound c t u

-- why none is made: a counter has to pass its last value for all that such a step adds, where the
-- nodes may be known or not
pub data IsWornToStep (known : Type 0) (nodes : Nodes) (t : Table) (c : Command)
    (counter : Counter) : Type 0 where
  worn_at_root : waiting_limit c < t.size → IsWornToFlush known nodes t counter
      → IsWornToStep known nodes t c counter
  worn_at_source : (s : List ℕ) → t.size ≤ waiting_limit c → source_of (kind_of c) ≡ Some s
      → IsWornToSettle known nodes t s counter → IsWornToStep known nodes t c counter

-- a source for which a command may make steps: its own, or none
abbrev pub IsSourceFor : Command → Option (List ℕ) → Type 0
IsSourceFor c source = (s : List ℕ) → source ≡ Some s → source_of (kind_of c) ≡ Some s

-- no step is due on the way of a source, where there is one
abbrev pub IsSettledIn : Option (List ℕ) → Nodes → Table → Type 0
IsSettledIn source nodes t = (s : List ℕ) → source ≡ Some s → IsSettled nodes t s

-- one flush step of a command leads from a tree to another
abbrev pub IsStepFor : Command → TreeView → TreeView → Type 0
IsStepFor c old new = IsStepIn c old.nodes old.table new.nodes new.table

-- none is due in a tree on the way of a source
abbrev pub IsSettledFor : Option (List ℕ) → TreeView → Type 0
IsSettledFor source v = IsSettledIn source v.nodes v.table

-- a writing command made one flush step
pub record FlushesFor (c : Command) (old new : TreeView) : Type 0 where
  pub writing : IsTrue (writes c)
  pub step : IsStepFor c old new
  pub walk_is : new.walk ≡ old.walk

-- so many flush steps of a command lead from the first view to the second
pub data AreFlushes (c : Command) : ℕ → TreeView → TreeView → Type 0 where
  none : (v : TreeView) → AreFlushes c 0 v v
  more : (n : ℕ) (v w x : TreeView) → AreFlushes c n v w → FlushesFor c w x
      → AreFlushes c (n + 1) v x

-- a command made flush steps, at most 65,536
pub record HasFlushed (c : Command) (old new : TreeView) : Type 0 where
  pub made : ℕ
  pub flushes : AreFlushes c made old new
  pub few : made ≤ flush_limit

-- ---- messages and grafts

-- these messages were put after those of the root, and no more
pub record IsAppended (nodes : Nodes) (t : Table) (list : List Message) (new : Nodes) (u : Table)
    : Type 0 where
  pub root : Node
  pub there : nodes t.root ≡ Some root
  pub node_is : IsCommitted nodes t (append_step t root list) new u

pub record HasAppended (list : List Message) (old new : TreeView) : Type 0 where
  pub made : IsAppended old.nodes old.table list new.nodes new.table
  pub grows : HasGrown old.table list new.table
  pub walk_is : new.walk ≡ old.walk

-- this graft was made, and each other kept node is what it was and has what it had: it visited the
-- nodes of its way and those that it made
pub record IsGraftMade (nodes : Nodes) (t : Table) (s d : List ℕ) (keep : Bool) (new : Nodes)
    (u : Table) (walk : Walk) : Type 0 where
  pub step : IsGraftStep nodes t s d keep new u
  pub others : AreOthersSame nodes t new u
  pub visits_are : IsWalkOf nodes t s u walk.visits

-- a table has grown by a graft, which in a tree of height h had at most 5h + 2 visits
pub record IsWalked (t u : Table) (walk : Walk) : Type 0 where
  pub table_is : IsGrown t u
  pub height_is : walk.height ≡ t.level t.root + 1
  pub few_visits : walk.visits ≤ 5 * walk.height + 2

pub record HasGrafted (s d : List ℕ) (keep : Bool) (old new : TreeView) : Type 0 where
  pub made : IsGraftMade old.nodes old.table s d keep new.nodes new.table new.walk
  pub walked : IsWalked old.table new.table new.walk

-- the prefix of the keys that are grafted, where a graft is sent
abbrev pub sent_from : Sending → Option (List ℕ)
sent_from Nothing = None
sent_from (Batch list) = None
sent_from (Move s d keep) = Some s

-- what a command sends was sent
abbrev pub HasSent : Sending → TreeView → TreeView → Type 0
HasSent Nothing old new = ⊥
HasSent (Batch list) old new = HasAppended list old new
HasSent (Move s d keep) old new = HasGrafted s d keep old new
