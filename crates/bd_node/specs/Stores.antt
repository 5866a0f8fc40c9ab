-- What stores of nodes are asked, and count, and what their calls leave.
use Rattle.std.specs.Prelude.{◌≡◌, ℕ, ◌+◌, ◌-◌, ◌^◌, ◌≤◌, min, List}
use Rattle.bd_message.specs.declared.message.Message.{Message}
use Rattle.bd_message.specs.KeyMaps.{IsBatch}
use Rattle.bd_limits.specs.Limits.{buffer_limit}
use Rattle.bd_node.specs.Meaning.{Nodes}
use Rattle.bd_node.specs.Tables.{Table}

-- the count of visits after so many more, which stops at a u64's last value
abbrev pub visited : ℕ → ℕ → ℕ
visited count more = min (count + more) (2 ^ 64 - 1)

-- so many visits, at least `least` and at most `most`, lead from one count to the other
pub record AreVisits (least most before after : ℕ) : Type 0 where
  pub number : ℕ
  pub some : least ≤ number
  pub few : number ≤ most
  pub counted : after ≡ visited before number

-- messages for which there is room in the root
abbrev pub FitsRoot : Table → List Message → Type 0
FitsRoot t list = IsBatch list (buffer_limit - t.size)

-- what reads leave: the table, and the nodes, which stay known where they were; nothing beside
-- them but what reads may change; the loans
pub record OnlyReadsBy {S : Type 0} (is_known : S → Type 0) (nodes_of : S → Nodes)
    (table_of : S → Table) (reads : S → S → Type 0) (loans : S → List ℕ) (old new : S) : Type 0
  where
    pub table : table_of new ≡ table_of old
    pub known : is_known old → is_known new
    pub kept : is_known old → nodes_of new ≡ nodes_of old
    pub read : reads old new
    pub same_loans : loans new ≡ loans old

-- what each call leaves: nodes that were known stay known; what is beside the nodes; the loans
pub record StaysBy {S : Type 0} (is_known : S → Type 0) (keeps : S → S → Type 0)
    (loans : S → List ℕ) (old new : S) : Type 0 where
  pub known : is_known old → is_known new
  pub beside : keeps old new
  pub same_loans : loans new ≡ loans old
