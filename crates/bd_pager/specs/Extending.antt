-- What an extension leaves of what is known of nodes.
use Rattle.std.specs.Prelude.{◌≡◌, ◌+◌, ◌^◌, ◌<◌, ℕ, Bool, List, length, map, nat_eq}
use Rattle.std.specs.HashMap.{get}
use Rattle.bd_message.specs.declared.message.Message.{Message}
use Rattle.bd_node.specs.declared.node.Node.{Node}
use Rattle.bd_node.specs.Tables.{Table}
use Rattle.bd_node.specs.Steps.{added_times}
use Rattle.bd_counts.specs.Counting.{overlaid}
use Rattle.bd_pager.specs.declared.extending.Addition.{Addition}
use Rattle.bd_pager.specs.Changing.{IsChangedAt}
use Rattle.bd_pager.specs.Places.{Spots}
use Rattle.bd_pager.specs.Stepping.{change_of, put_at, with_put, with_count, made_changes}

-- the root was changed to this node, nodes were put, and counts set
pub record IsExtended (spare : List Bool) (root : ℕ) (n : Node) (addition : Addition)
    (old new : Spots) : Type 0 where
  pub mid : Spots
  pub changed : IsChangedAt spare root n old mid
  pub each : (id : ℕ) → new id ≡ with_count (get nat_eq addition.counts id)
      (with_put spare (put_at addition.puts.items id) (mid id))

-- new nodes under the next ids, and the counts with the names in them and in messages
pub record IsAdditionOf (t : Table) (made : List Node) (list : List Message) (addition : Addition)
    : Type 0 where
  pub puts : map change_of addition.puts.items ≡ made_changes t.next made
  pub counts : (c : ℕ) → overlaid t.count addition.counts c ≡ t.count c + added_times made list c
  pub fits : t.next + length made < 2 ^ 64
