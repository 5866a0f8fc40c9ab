-- What an engine finds to reclaim, and what a change leaves.
use Rattle.std.proofs.Common.{[], Option, None, Some, sym, subst}
use Rattle.std.specs.Prelude.{Result, Ok, Err, IfOk, IfSome, OnOk, OnErr}
use Rattle.bd_device.specs.declared.device.Device.{Ghosts}
use Rattle.bd_node.specs.Meaning.{Nodes}
use Rattle.bd_node.specs.Stores.{OnlyReadsBy}
use Rattle.bd_node.specs.Tables.{Table, IsSound}
use Rattle.bd_pager.specs.Calling.{read_table, read_known}
use Rattle.bd_pager.specs.Pagers.{Paged, nodes_of, table_of, is_known, IsReadOf}
use Rattle.bd_cover.specs.declared.walking.Reclaim.{Reclaim}
use Rattle.bd_cover.specs.Walking.{IsToDo, IsToDoAt}
use Rattle.bd_cover.specs.Reclaimed.{IsReclaimed}
use Rattle.bd_engine.specs.Reclaiming.{MayMake}
use Rattle.bd_engine.proofs.Left.{read_nodes}

-- the change may be made after reads too
pub may_after : {D : Type 0} (g : Ghosts D) (p q : Paged D) (change : Reclaim) → IsReadOf g p q → IsToDo (table_of p) change → (is_known g p → IsSound (nodes_of g p) (table_of p) → IsToDoAt (nodes_of g p) (table_of p) change) → MayMake g q change
may_after g p q change r to_do at = record {
  to_do = subst (λ (t : Table). IsToDo t change) (sym (read_table g p q r)) to_do;
  at = λ s.
      let sound : IsSound (nodes_of g p) (table_of p) =
      subst (λ (n : Nodes). IsSound n (table_of p)) (read_nodes g p q r) (subst (λ (t : Table). IsSound (nodes_of g q) t) (read_table g p q r) s.sound) in
      subst (λ (t : Table). IsToDoAt (nodes_of g q) t change) (sym (read_table g p q r))
      (subst (λ (n : Nodes). IsToDoAt n (table_of p) change) (sym (read_nodes g p q r)) (at (read_known g p q r s.known) sound));
}

pub may_make : {D E : Type 0} (g : Ghosts D) (p q : Paged D) (r : Result (Option Reclaim) E) → IsReadOf g p q → IfOk r (λ found. IfSome found (IsToDo (table_of p)))
    → (is_known g p → IsSound (nodes_of g p) (table_of p) → IfOk r (λ found. IfSome found (IsToDoAt (nodes_of g p) (table_of p)))) → IfOk r (λ found. IfSome found (MayMake g q))
may_make g p q (Ok None) read to_do at = tt
may_make g p q (Ok (Some change)) read to_do at = may_after g p q change read to_do at
may_make g p q (Err e) read to_do at = tt

-- a change leaves sound nodes
pub reclaimed_sound : {T E : Type 0} (nodes new : Nodes) (t u : Table) (r : Result T E) → OnOk r (IsReclaimed nodes t new u) → OnOk r (IsSound new u)
reclaimed_sound nodes new t u (Ok x) made = made.sound
reclaimed_sound nodes new t u (Err e) made = tt

-- what holds anyway holds at an error
pub on_any : {P T E : Type 0} (r : Result T E) → P → OnErr r P
on_any (Ok x) h = tt
on_any (Err e) h = h

-- a call that failed only read
pub on_read : {D T E : Type 0} (g : Ghosts D) (p q : Paged D) (r : Result T E) → OnErr r (OnlyReadsBy (is_known g) (nodes_of g) table_of (IsReadOf g) (λ _. []) p q) → OnErr r (IsReadOf g p q)
on_read g p q (Ok x) left = tt
on_read g p q (Err e) left = left.read
