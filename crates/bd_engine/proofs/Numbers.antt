-- The numbers of a view.
use Rattle.std.proofs.Common.{◌≤◌, Bool, true, false, cond, arith}
use Rattle.std.specs.Prelude.{◌&&◌}
use Rattle.bd_node.specs.Tables.{kept_count}
use Rattle.bd_pager.proofs.KeptLemmas.{sum_le}
use Rattle.bd_view.specs.Views.{View, is_kept, changed_count}

few : (a b : Bool) → cond (a && b) 1 0 ≤ cond a 1 0
few true true = omega arith
few true false = omega arith
few false b = omega arith

-- only kept nodes are changed
pub few_changed : (v : View) → changed_count v ≤ kept_count v.tree.table
unfolding kept_count
few_changed v = sum_le v.tree.table.next _ _ (λ id. few (is_kept v.tree.table id) _)
